-- The declarations of a procedure fit.
use Rattle.std.proofs.Common.{◌≡◌, ◌<◌, inl, ℕ, ◌+◌, nat_le, nat_lt, ◌++◌, length, Bool, true, false, ◌&&◌, cond, List, [], ◌∷◌, refl, sym, ap, ◌∙◌, subst, arith}
use Rattle.std.proofs.lemmas.Bool.Decides.{nat_tests}
use Rattle.ob_check_scope.specs.declared.rule.RuleCode.TheVariants as code
use Rattle.ob_tree.specs.declared.tree.Declarations.{Declarations, out-Declarations}
use Rattle.ob_tree.specs.declared.tree.ConstDeclaration.{ConstDeclaration}
use Rattle.ob_tree.specs.declared.tree.TypeDeclaration.{TypeDeclaration}
use Rattle.ob_tree.specs.declared.tree.TypedNames.{TypedNames, out-TypedNames}
use Rattle.ob_tree.specs.declared.tree.IdentDef.{IdentDef}
use Rattle.ob_types.specs.declared.structure.ObType.{ObType}
use Rattle.ob_mean.specs.declared.module.Parameter.{Parameter}
use Rattle.ob_mean.specs.declared.shape.Shape.{Shape}
use Rattle.ob_mean.specs.WellFormed.{Names, ShapesFit, shape_object}
use Rattle.ob_check_scope.specs.declared.block.Declared.{Declared}
use Rattle.ob_check_scope.specs.declared.block.Entry.{Entry}
use Rattle.ob_check_scope.specs.declared.block.Entry.TheVariants as entry
use Rattle.ob_check_scope.specs.declared.block.Standing.TheVariants as standing
use Rattle.ob_check_scope.specs.declared.scope.Scope.{Scope}
use Rattle.ob_check_decl.specs.Declarations.{one_more, max_count, has_mark, constant_rule, new_constant, type_rule, new_type, variable_in, local_variable, variable_rule, typed_variables, variables_rule, declarations_rule}
use Rattle.ob_check_scope.specs.Exports.{Modules}
use Rattle.ob_check_scope.specs.Rule.{gives}
use Rattle.ob_check_scope.specs.Scope.{with_entry}
use Rattle.ob_check_scope.specs.Stack.{is_empty}
use Rattle.ob_check_module.specs.Procedures.{own_shape, own_shapes}
use Rattle.ob_check_kinds.specs.Shapes.{shape_of}
use Rattle.ob_check_laws.specs.Fitting.{StartsWith}
use Rattle.ob_types.specs.Solid.{IsSolid}
use Rattle.ob_types.specs.Types.{cells}
use Rattle.ob_check_laws.specs.Solid.{EachSolid}
use Rattle.ob_check_laws.proofs.Grows.{same}
use Rattle.ob_check_laws.proofs.Solid.{SolidEntry, SeenSolid, type_solid}
use Rattle.ob_check_laws.proofs.Blocks.{EachBlock, each_map, outer_of, outer_solid, seen_solid, EntryOf, EachEntry, within, each_more, own_more, own_behind, length_more}
use Rattle.ob_check_laws.proofs.Rules.{if_some, joined_none, starts_before, starts_reads, there_is, through_keeps}
use Rattle.ob_check_laws.proofs.Sizes.{shapes_join, few_of, declared_few}

at_most : (k i j : ℕ) → i ≡ k + j → nat_le k i ≡ true
at_most k i j h = grind (arith, nat_tests)

-- in a procedure with these parameters, and these blocks round it
module _ (ms : Modules) (names : Names) (base : ℕ) (ps : List Parameter) (enclosing : List (List ℕ)) (outer : List Declared) (others : List (List Declared)) (loaded : EachSolid ms) (round : EachBlock SolidEntry (outer ∷ others)) where
  abbrev pub LocalPart : ℕ → List Declared → Type 0
  LocalPart n ds =
      (n ≡ length ps + length (own_shapes (length ps) ds))
      × ((own : List Shape) → StartsWith own (own_shapes (length ps) ds) → EachEntry (EntryOf ms (within names ps own) base) ds)
      × ShapesFit (own_shapes (length ps) ds)

  abbrev pub InProcedure : Scope → Type 0
  InProcedure s = (s.around ≡ outer ∷ others) × (s.enclosing ≡ enclosing) × (s.exported_count ≡ base) × LocalPart s.local_count s.block

  solid_here : (s : Scope) → InProcedure s → SeenSolid s
  solid_here s g =
      seen_solid s (each_map (EntryOf ms (within names ps (own_shapes (length ps) s.block)) base) SolidEntry (λ e h. outer_solid ms names base e (outer_of ms names ps (own_shapes (length ps) s.block) base e h)) s.block
      ((g.3).1 (own_shapes (length ps) s.block) (same (own_shapes (length ps) s.block))))
      (subst (EachBlock SolidEntry) (sym g.0) round)

  plain : (s : Scope) (name : List ℕ) (mark : Bool) (e : Entry) → own_shape (length ps) e ≡ [] → ((own : List Shape) → EntryOf ms (within names ps own) base e) → InProcedure s → InProcedure (with_entry s name mark e)
  plain s name mark e o f g = (
    g.0,
    g.1,
    g.2,
    (
      (g.3).0 ∙ ap (λ l. length ps + length l) (sym q),
      λ own st. each_more (EntryOf ms (within names ps own) base) s.block d ((g.3).1 own (subst (StartsWith own) q st)) (f own),
      subst ShapesFit (sym q) ((g.3).2),
    ),
  )
    where
      d : Declared
      d = record { name = name; exported = is_empty s.around && mark; entry = e }

      q : own_shapes (length ps) (s.block ++ d ∷ []) ≡ own_shapes (length ps) s.block
      q = own_more (length ps) s.block d ∙ ap (λ l. own_shapes (length ps) s.block ++ l) o ∙ joined_none (own_shapes (length ps) s.block)

  constant_fits : (n : ℕ) (s : Scope) (x : ConstDeclaration) (t : Scope) → gives (constant_rule ms n s x) t → InProcedure s → InProcedure t
  unfolding constant_rule new_constant
  constant_fits n s x t h g = subst InProcedure ((h.1).2) (plain s x.name.name.name (has_mark x.name) (entry.Constant (h.1).0) refl (λ own. tt) g)

  type_fits : (n : ℕ) (s : Scope) (x : TypeDeclaration) (t : Scope) → gives (type_rule ms n s x) t → InProcedure s → InProcedure t
  unfolding type_rule new_type
  type_fits n s x t h g = subst InProcedure ((h.1).2) (plain s x.name.name.name (has_mark x.name) (entry.TypeName (h.1).0.of) refl (λ own. type_solid ms loaded s (solid_here s g) _ n 0 x.of (h.1).0 (h.1).1) g)

  local_fits : (s : Scope) (name : List ℕ) (t : ObType) (u : Scope) → IsSolid t → cells t < 2147483648 → gives (local_variable s name t) u → InProcedure s → InProcedure u
  unfolding local_variable
  local_fits s name t u sound few h g = subst InProcedure h.2 (g.0, g.1, g.2, (counted, facts, subst ShapesFit (sym q) (shapes_join xs (shape_of t ∷ []) ((g.3).2) (few_of t few, tt))))
    where
      xs : List Shape
      xs = own_shapes (length ps) s.block

      d : Declared
      d = record { name = name; exported = is_empty s.around && false; entry = entry.Variable t (standing.Local s.local_count) }

      q : own_shapes (length ps) (s.block ++ d ∷ []) ≡ own_shapes (length ps) s.block ++ shape_of t ∷ []
      q = own_more (length ps) s.block d ∙ ap (λ b. own_shapes (length ps) s.block ++ cond b (shape_of t ∷ []) []) (at_most (length ps) s.local_count (length (own_shapes (length ps) s.block)) ((g.3).0))

      counted : h.0 ≡ length ps + length (own_shapes (length ps) (s.block ++ d ∷ []))
      counted =
          let a = (if_some (nat_lt s.local_count max_count) (s.local_count + 1) h.0 (there_is (one_more max_count s.local_count) code.Size h.0 h.1)).1 in
          let b : s.local_count ≡ length ps + length (own_shapes (length ps) s.block) = (g.3).0 in
          let c = length_more (own_shapes (length ps) s.block) (shape_of t) in
          let e : length (own_shapes (length ps) (s.block ++ d ∷ [])) ≡ length (own_shapes (length ps) s.block ++ shape_of t ∷ []) = ap length q in
          omega arith

      facts : (own : List Shape) → StartsWith own (own_shapes (length ps) (s.block ++ d ∷ [])) → EachEntry (EntryOf ms (within names ps own) base) (s.block ++ d ∷ [])
      facts own st =
          let st1 = subst (StartsWith own) q st in
          each_more (EntryOf ms (within names ps own) base) s.block d ((g.3).1 own (starts_before own (own_shapes (length ps) s.block) (shape_of t) st1)) (
            inl (own_behind ps own (length (own_shapes (length ps) s.block)) s.local_count ((g.3).0)
                ∙ ap shape_object (starts_reads own (own_shapes (length ps) s.block) (shape_of t) st1)),
            sound,
            λ r. refl,
          )

  variable_fits : (t : ObType) → IsSolid t → (s : Scope) (name : IdentDef) (u : Scope) → gives (variable_rule t s name) u → InProcedure s → InProcedure u
  unfolding variable_rule variable_in
  variable_fits t sound s name u h g =
      local_fits (record s { cells_taken = (h.1).0 }) name.name.name t u sound (declared_few (is_empty s.around) s.cells_taken t (h.1).0 (h.1).1)
      (subst (λ b. gives (variable_in b (has_mark name) (record s { cells_taken = (h.1).0 }) name.name.name t) u) (ap is_empty g.0) (h.1).2) g

  variables_fit : (n : ℕ) (s : Scope) (x : TypedNames) (t : Scope) → gives (variables_rule ms n s x) t → InProcedure s → InProcedure t
  unfolding variables_rule typed_variables
  variables_fit n s x t h g =
      let w = h.2 in
      through_keeps InProcedure (variable_rule w.0.of) (λ a e b k c. variable_fits w.0.of (type_solid ms loaded s (solid_here s g) _ n 0 (out-TypedNames x).of w.0 w.1) a e b k c) s (out-TypedNames x).names t w.2 g

  pub declarations_fit : (n : ℕ) (s : Scope) (x : Declarations) (t : Scope) → gives (declarations_rule ms n s x) t → InProcedure s → InProcedure t
  unfolding declarations_rule
  declarations_fit n s x t h g =
      through_keeps InProcedure (variables_rule ms n) (λ a e b k c. variables_fit n a e b k c) (h.2).0 (out-Declarations x).variables t (h.2).2
      (through_keeps InProcedure (type_rule ms n) (λ a e b k c. type_fits n a e b k c) h.0 (out-Declarations x).types (h.2).0 (h.2).1
      (through_keeps InProcedure (constant_rule ms n) (λ a e b k c. constant_fits n a e b k c) s (out-Declarations x).constants h.0 h.1 g))
