-- What is declared in blocks fits: look-ups, headings, and the declarations of a procedure.
use Rattle.std.proofs.Common.{◌≡◌, inl, inr, ◌≤◌, ◌<◌, ℕ, zero, suc, ◌+◌, nat_le, ◌++◌, length, Bool, true, false, cond, List, [], ◌∷◌, Option, Some, None, is_some, slice_get, refl, sym, ap, ◌∙◌, subst, arith}
use Rattle.std.proofs.lemmas.Bool.Decides.{nat_tests}
use Rattle.std.specs.Str.{bytes_eq}
use Rattle.ob_tree.specs.declared.tree.Formals.{Formals}
use Rattle.ob_tree.specs.declared.tree.FormalSection.{FormalSection}
use Rattle.ob_tree.specs.declared.tree.Ident.{Ident}
use Rattle.ob_types.specs.declared.exports.Formal.{Formal}
use Rattle.ob_types.specs.declared.structure.ObType.{ObType, end_of-ObType, more_of-ObType}
use Rattle.ob_types.specs.declared.structure.ObType.TheVariants.{Basic as OfBasic, Array', Open', Record}
use Rattle.ob_types.specs.declared.structure.ObType.TheBlock as block
use Rattle.ob_mean.specs.declared.expression.Variable.{Variable}
use Rattle.ob_mean.specs.declared.expression.Variable.TheVariants as variable
use Rattle.ob_mean.specs.declared.module.Parameter.{Parameter}
use Rattle.ob_mean.specs.declared.module.Parameter.TheVariants as parameter
use Rattle.ob_mean.specs.declared.shape.Shape.{Shape}
use Rattle.ob_mean.specs.declared.shape.Shape.TheVariants as shape
use Rattle.ob_mean.specs.WellFormed.{Names, Of, is_extended, is_told_variable, variable_object, module_object, own_object, value_object, named_object, shape_object, own_heading}
use Rattle.ob_check_scope.specs.declared.block.Declared.{Declared}
use Rattle.ob_check_scope.specs.declared.block.Entry.{Entry}
use Rattle.ob_check_scope.specs.declared.block.Entry.TheVariants as entry
use Rattle.ob_check_scope.specs.declared.block.Standing.{Standing}
use Rattle.ob_check_scope.specs.declared.block.Standing.TheVariants as standing
use Rattle.ob_check_decl.specs.declared.heading.Heading.{Heading}
use Rattle.ob_check_decl.specs.declared.heading.Parameters.{Parameters}
use Rattle.ob_check_scope.specs.declared.scope.Scope.{Scope}
use Rattle.ob_check_scope.specs.Block.{find}
use Rattle.ob_check_scope.specs.Exports.{Modules}
use Rattle.ob_check_decl.specs.Headings.{kind_of, standing_of, no_parameters, parameter_rule, typed_parameters, section_rule, formals_rule, heading_rule}
use Rattle.ob_check_scope.specs.Rule.{gives}
use Rattle.ob_check_scope.specs.Scope.{seen, nearer, seen_inside, nearest, is_seen_inside, in_heading}
use Rattle.ob_check_module.specs.Procedures.{own_shape, own_shapes}
use Rattle.ob_check_kinds.specs.Shapes.{shape_of, parameter_of, parameters_of}
use Rattle.ob_check_operand.specs.Names.{tells}
use Rattle.ob_check_laws.specs.Fitting.{Suits, EntryFits, ScopeFits, StartsWith, heading_of, loaded_face, TellsRight}
use Rattle.ob_check_laws.proofs.Grows.{part, same}
use Rattle.ob_check_laws.proofs.Rules.{if_some, joined_none, joined_thrice, starts_reads, through_keeps}
use Rattle.ob_types.specs.Solid.{IsSolid}
use Rattle.ob_check_laws.specs.Solid.{EachSolid}
use Rattle.ob_check_laws.proofs.Solid.{SolidEntry, SeenSolid, loaded_solid, formal_solid}
use Rattle.ob_check_laws.proofs.Suiting.{never, nothing, some_same}

-- ---- entries

abbrev pub placed : ℕ → Standing → Variable
placed base (standing.Exported i) = variable.OfModule i
placed base (standing.Own i) = variable.OfModule (base + i)
placed base (standing.Local i) = variable.OfProcedure i
placed base (standing.ByParameter i) = variable.ByParameter i
placed base (standing.ReadOnly i) = variable.ByParameter i

-- an entry where so many variables of the module are exported
abbrev pub EntryOf : Modules → Names → ℕ → Entry → Type 0
EntryOf ms names base (entry.Constant c) = Unit {0}
EntryOf ms names base (entry.TypeName t) = IsSolid t
EntryOf ms names base (entry.Variable t place) =
    Suits t (variable_object names (placed base place)) × IsSolid t × TellsRight t (tells place) (is_told_variable names (placed base place))
EntryOf ms names base (entry.Procedure p n) = own_heading (slice_get names.procedures n) ≡ Some (heading_of p)
EntryOf ms names base entry.In = Unit {0}
EntryOf ms names base entry.Out = Unit {0}
EntryOf ms names base (entry.Module i place) = slice_get names.faces i ≡ loaded_face (slice_get ms place)

-- an entry of a block round it: variables of a procedure are not seen
abbrev pub OuterOf : Modules → Names → ℕ → Entry → Type 0
OuterOf ms names base (entry.Constant c) = Unit {0}
OuterOf ms names base (entry.TypeName t) = IsSolid t
OuterOf ms names base (entry.Variable t (standing.Exported i)) = Suits t (module_object (slice_get names.variables i)) × IsSolid t
OuterOf ms names base (entry.Variable t (standing.Own i)) = Suits t (module_object (slice_get names.variables (base + i))) × IsSolid t
OuterOf ms names base (entry.Variable t (standing.Local i)) = IsSolid t
OuterOf ms names base (entry.Variable t (standing.ByParameter i)) = IsSolid t
OuterOf ms names base (entry.Variable t (standing.ReadOnly i)) = IsSolid t
OuterOf ms names base (entry.Procedure p n) = own_heading (slice_get names.procedures n) ≡ Some (heading_of p)
OuterOf ms names base entry.In = Unit {0}
OuterOf ms names base entry.Out = Unit {0}
OuterOf ms names base (entry.Module i place) = slice_get names.faces i ≡ loaded_face (slice_get ms place)

-- the names in a procedure with these parameters and variables
abbrev pub within : Names → List Parameter → List Shape → Names
within names ps own = record { faces = names.faces; variables = names.variables; procedures = names.procedures; parameters = ps; own = own }

pub outer_of : (ms : Modules) (names : Names) (ps : List Parameter) (own : List Shape) (base : ℕ) (e : Entry) → EntryOf ms (within names ps own) base e → OuterOf ms names base e
outer_of ms names ps own base (entry.Constant c) h = tt
outer_of ms names ps own base (entry.TypeName t) h = h
outer_of ms names ps own base (entry.Variable t (standing.Exported i)) h = (h.0, h.1)
outer_of ms names ps own base (entry.Variable t (standing.Own i)) h = (h.0, h.1)
outer_of ms names ps own base (entry.Variable t (standing.Local i)) h = h.1
outer_of ms names ps own base (entry.Variable t (standing.ByParameter i)) h = h.1
outer_of ms names ps own base (entry.Variable t (standing.ReadOnly i)) h = h.1
outer_of ms names ps own base (entry.Procedure p n) h = h
outer_of ms names ps own base entry.In h = tt
outer_of ms names ps own base entry.Out h = tt
outer_of ms names ps own base (entry.Module i place) h = h

of_outer : (ms : Modules) (names : Names) (ps : List Parameter) (own : List Shape) (base : ℕ) (e : Entry) → is_seen_inside e ≡ true → OuterOf ms names base e → EntryOf ms (within names ps own) base e
of_outer ms names ps own base (entry.Constant c) k h = tt
of_outer ms names ps own base (entry.TypeName t) k h = h
of_outer ms names ps own base (entry.Variable t (standing.Exported i)) k h = (h.0, h.1, λ r. refl)
of_outer ms names ps own base (entry.Variable t (standing.Own i)) k h = (h.0, h.1, λ r. refl)
of_outer ms names ps own base (entry.Variable t (standing.Local i)) k h = never k
of_outer ms names ps own base (entry.Variable t (standing.ByParameter i)) k h = never k
of_outer ms names ps own base (entry.Variable t (standing.ReadOnly i)) k h = never k
of_outer ms names ps own base (entry.Procedure p n) k h = h
of_outer ms names ps own base entry.In k h = tt
of_outer ms names ps own base entry.Out k h = tt
of_outer ms names ps own base (entry.Module i place) k h = h

entry_fits : (ms : Modules) (names : Names) (s : Scope) (e : Entry) → EachSolid ms → EntryOf ms names s.exported_count e → EntryFits ms names s e
entry_fits ms names s (entry.Constant c) l h = tt
entry_fits ms names s (entry.TypeName t) l h = tt
entry_fits ms names s (entry.Variable t (standing.Exported i)) l h = h
entry_fits ms names s (entry.Variable t (standing.Own i)) l h = h
entry_fits ms names s (entry.Variable t (standing.Local i)) l h = h
entry_fits ms names s (entry.Variable t (standing.ByParameter i)) l h = h
entry_fits ms names s (entry.Variable t (standing.ReadOnly i)) l h = h
entry_fits ms names s (entry.Procedure p n) l h = h
entry_fits ms names s entry.In l h = tt
entry_fits ms names s entry.Out l h = tt
entry_fits ms names s (entry.Module i place) l h = (h, loaded_solid ms place l)

-- ---- blocks

abbrev pub EachEntry : (Entry → Type 0) → List Declared → Type 0
EachEntry Q [] = Unit {0}
EachEntry Q (d ∷ ds) = Q d.entry × EachEntry Q ds

abbrev pub EachBlock : (Entry → Type 0) → List (List Declared) → Type 0
EachBlock Q [] = Unit {0}
EachBlock Q (b ∷ bs) = EachEntry Q b × EachBlock Q bs

pub each_more : (Q : Entry → Type 0) (ds : List Declared) (d : Declared) → EachEntry Q ds → Q d.entry → EachEntry Q (ds ++ d ∷ [])
each_more Q [] d h g = (g, tt)
each_more Q (x ∷ ds) d h g = (h.0, each_more Q ds d h.1 g)

pub each_map : (Q R : Entry → Type 0) → ((e : Entry) → Q e → R e) → (ds : List Declared) → EachEntry Q ds → EachEntry R ds
each_map Q R f [] h = tt
each_map Q R f (d ∷ ds) h = (f d.entry h.0, each_map Q R f ds h.1)

found_by : (Q : Entry → Type 0) (d : Declared) (ds : List Declared) (name : List ℕ) (e : Entry) (b : Bool) → Q d.entry → (find ds name ≡ Some e → Q e) → cond b (Some d.entry) (find ds name) ≡ Some e → Q e
found_by Q d ds name e true h g k = subst Q (some_same d.entry e k) h
found_by Q d ds name e false h g k = g k

found : (Q : Entry → Type 0) (ds : List Declared) (name : List ℕ) (e : Entry) → EachEntry Q ds → find ds name ≡ Some e → Q e
found Q [] name e h k = nothing e k
found Q (d ∷ ds) name e h k = found_by Q d ds name e (bytes_eq d.name name) h.0 (found Q ds name e h.1) k

nearer_by : (Q : Entry → Type 0) (o p : Option Entry) (e : Entry) → (o ≡ Some e → Q e) → (p ≡ Some e → Q e) → nearer o p ≡ Some e → Q e
nearer_by Q None p e g h k = h k
nearer_by Q (Some x) p e g h k = g k

nearest_is : (Q : Entry → Type 0) (bs : List (List Declared)) (name : List ℕ) (e : Entry) → EachBlock Q bs → nearest bs name ≡ Some e → Q e
nearest_is Q [] name e h k = nothing e k
nearest_is Q (b ∷ bs) name e h k = nearer_by Q (find b name) (nearest bs name) e (found Q b name e h.0) (nearest_is Q bs name e h.1) k

inside_is : (o : Option Entry) (e : Entry) → seen_inside o ≡ Some e → (is_seen_inside e ≡ true) × (o ≡ Some e)
inside_is None e k = nothing e k
inside_is (Some x) e k =
    let h = if_some (is_seen_inside x) x e k in
    (subst (λ y. is_seen_inside y ≡ true) h.1 h.0, ap Some h.1)

-- where the innermost block and those round it fit, the scope does
pub scope_fits : (ms : Modules) (names : Names) (ps : List Parameter) (own : List Shape) (s : Scope) → EachSolid ms → EachEntry (EntryOf ms (within names ps own) s.exported_count) s.block → EachBlock (OuterOf ms names s.exported_count) s.around → ScopeFits ms (within names ps own) s
unfolding seen
scope_fits ms names ps own s l h g name e k =
    entry_fits ms (within names ps own) s e l
    (nearer_by (EntryOf ms (within names ps own) s.exported_count) (find s.block name) (seen_inside (nearest s.around name)) e
    (found (EntryOf ms (within names ps own) s.exported_count) s.block name e h)
    (λ j. let i = inside_is (nearest s.around name) e j in of_outer ms names ps own s.exported_count e i.0 (nearest_is (OuterOf ms names s.exported_count) s.around name e g i.1)) k)

-- the types of what is declared have cells
pub outer_solid : (ms : Modules) (names : Names) (base : ℕ) (e : Entry) → OuterOf ms names base e → SolidEntry e
outer_solid ms names base (entry.Constant c) h = tt
outer_solid ms names base (entry.TypeName t) h = h
outer_solid ms names base (entry.Variable t (standing.Exported i)) h = h.1
outer_solid ms names base (entry.Variable t (standing.Own i)) h = h.1
outer_solid ms names base (entry.Variable t (standing.Local i)) h = h
outer_solid ms names base (entry.Variable t (standing.ByParameter i)) h = h
outer_solid ms names base (entry.Variable t (standing.ReadOnly i)) h = h
outer_solid ms names base (entry.Procedure p n) h = tt
outer_solid ms names base entry.In h = tt
outer_solid ms names base entry.Out h = tt
outer_solid ms names base (entry.Module i place) h = tt

pub blocks_solid : (ms : Modules) (names : Names) (base : ℕ) (bs : List (List Declared)) → EachBlock (OuterOf ms names base) bs → EachBlock SolidEntry bs
blocks_solid ms names base [] h = tt
blocks_solid ms names base (b ∷ bs) h = (each_map (OuterOf ms names base) SolidEntry (outer_solid ms names base) b h.0, blocks_solid ms names base bs h.1)

pub seen_solid : (s : Scope) → EachEntry SolidEntry s.block → EachBlock SolidEntry s.around → SeenSolid s
unfolding seen
seen_solid s h g name e k =
    nearer_by SolidEntry (find s.block name) (seen_inside (nearest s.around name)) e (found SolidEntry s.block name e h)
    (λ j. nearest_is SolidEntry s.around name e g (inside_is (nearest s.around name) e j).1) k

-- ---- parameters

own_value : (ps : List Parameter) (own : List Shape) (i : ℕ) → slice_get ps i ≡ Some parameter.Value → own_object ps own i ≡ Some (Of shape.Basic)
own_value [] own i h = nothing _ h
own_value (p ∷ ps) own zero h = ap value_object (some_same p parameter.Value h)
own_value (p ∷ ps) own (suc i) h = own_value ps own i h

pub own_behind : (ps : List Parameter) (own : List Shape) (j : ℕ) (i : ℕ) → i ≡ length ps + j → own_object ps own i ≡ shape_object (slice_get own j)
own_behind [] own j i h = let k : i ≡ j = omega arith in ap (λ x. shape_object (slice_get own x)) k
own_behind (p ∷ ps) own j zero h = absurd (omega arith)
own_behind (p ∷ ps) own j (suc i) h = own_behind ps own j i (omega arith)

parameter_entry : (ms : Modules) (names : Names) (base : ℕ) (var : Bool) (t : ObType) (i : ℕ) (ps : List Parameter) (own : List Shape) → IsSolid t → slice_get ps i ≡ Some (parameter_of (kind_of var) t) → EntryOf ms (within names ps own) base (entry.Variable t (standing_of var t i))
unfolding block.hidden-the_row-ObType-0 denote.Hole.Carrier.hidden
parameter_entry ms names base true (OfBasic b) i ps own s h = (inl (ap named_object h), s, λ r. never r)
parameter_entry ms names base true (Array' n p (more_of-ObType x end_of-ObType)) i ps own s h = (inl (ap named_object h), s, λ r. never r)
parameter_entry ms names base true (Open' p (more_of-ObType x end_of-ObType)) i ps own s h = (inr (x, refl, ap named_object h), s, λ r. never r)
parameter_entry ms names base true (Record r) i ps own s h = (inl (ap named_object h), s, λ k. sym (ap is_extended h))
parameter_entry ms names base false (OfBasic b) i ps own s h = (inl (own_value ps own i h), s, λ r. never r)
parameter_entry ms names base false (Array' n p (more_of-ObType x end_of-ObType)) i ps own s h = (inl (ap named_object h), s, λ r. never r)
parameter_entry ms names base false (Open' p (more_of-ObType x end_of-ObType)) i ps own s h = (inr (x, refl, ap named_object h), s, λ r. never r)
parameter_entry ms names base false (Record r) i ps own s h = (inl (ap named_object h), s, λ k. sym (ap is_extended h))

parameters_more : (fs : List Formal) (f : Formal) → parameters_of (fs ++ f ∷ []) ≡ parameters_of fs ++ parameter_of f.kind f.of ∷ []
parameters_more [] f = refl
parameters_more (x ∷ fs) f = ap (λ l. parameter_of x.kind x.of ∷ l) (parameters_more fs f)

pub count_of : (fs : List Formal) → length (parameters_of fs) ≡ length fs
count_of [] = refl
count_of (f ∷ fs) = ap suc (count_of fs)

pub length_more : {A : Type 0} (xs : List A) (x : A) → length (xs ++ x ∷ []) ≡ length xs + 1
length_more [] x = refl
length_more (y ∷ xs) x = let k : length (xs ++ x ∷ []) ≡ length xs + 1 = length_more xs x in omega arith

pub own_more : (k : ℕ) (ds : List Declared) (d : Declared) → own_shapes k (ds ++ d ∷ []) ≡ own_shapes k ds ++ own_shape k d.entry
own_more k [] d = joined_none (own_shape k d.entry)
own_more k (x ∷ ds) d = ap (λ l. own_shape k x.entry ++ l) (own_more k ds d) ∙ sym (joined_thrice (own_shape k x.entry) (own_shapes k ds) (own_shape k d.entry))

above : (k i : ℕ) → i < k → nat_le k i ≡ false
above k i h = grind (arith, nat_tests)

parameter_not_own : (k : ℕ) (var : Bool) (t : ObType) (i : ℕ) → i < k → own_shape k (entry.Variable t (standing_of var t i)) ≡ []
parameter_not_own k true t i h = refl
parameter_not_own k false (OfBasic b) i h = ap (λ x. cond x (shape_of (OfBasic b) ∷ []) []) (above k i h)
parameter_not_own k false (Array' n p (more_of-ObType x end_of-ObType)) i h = refl
parameter_not_own k false (Open' p (more_of-ObType x end_of-ObType)) i h = refl
parameter_not_own k false (Record r) i h = refl

-- the block of parameters so far
abbrev pub ParametersFit : Modules → Names → ℕ → Parameters → Type 0
ParametersFit ms names base p =
    (length p.block ≡ length p.formals)
    × ((k : ℕ) → length p.formals ≤ k → own_shapes k p.block ≡ [])
    × ((ps : List Parameter) (own : List Shape) → StartsWith ps (parameters_of p.formals) → EachEntry (EntryOf ms (within names ps own) base) p.block)

module _ (ms : Modules) (names : Names) (base : ℕ) where
  parameter_fits : (var : Bool) (t : ObType) (p : Parameters) (name : Ident) (q : Parameters) → IsSolid t → gives (parameter_rule var t p name) q → ParametersFit ms names base p → ParametersFit ms names base q
  unfolding parameter_rule
  parameter_fits var t p name q sound h g = subst (ParametersFit ms names base) h.1 (
    (let a = length_more p.block d in let b = length_more p.formals f in let c = g.0 in omega arith),
    (λ k l. own_more k p.block d ∙ joined_with (own_shapes k p.block) (own_shape k d.entry) (g.1 k (shorter k l)) (parameter_not_own k var t (length p.block) (lower k l))),
    (λ ps own s. let s1 = subst (StartsWith ps) (parameters_more p.formals f) s in
        each_more (EntryOf ms (within names ps own) base) p.block d (g.2 ps own (part ps (parameters_of p.formals) _ s1))
        (parameter_entry ms names base var t (length p.block) ps own sound
        (ap (slice_get ps) (g.0 ∙ sym (count_of p.formals)) ∙ starts_reads ps (parameters_of p.formals) (parameter_of (kind_of var) t) s1))),
  )
    where
      f : Formal
      f = record { kind = kind_of var; of = t }

      d : Declared
      d = record { name = name.name; exported = false; entry = entry.Variable t (standing_of var t (length p.block)) }

      joined_with : (xs ys : List Shape) → xs ≡ [] → ys ≡ [] → xs ++ ys ≡ []
      joined_with xs ys a b = ap (λ l. l ++ ys) a ∙ b

      shorter : (k : ℕ) → length (p.formals ++ f ∷ []) ≤ k → length p.formals ≤ k
      shorter k l = let b = length_more p.formals f in omega arith

      lower : (k : ℕ) → length (p.formals ++ f ∷ []) ≤ k → length p.block < k
      lower k l = let b = length_more p.formals f in let c = g.0 in omega arith

  -- what is seen in a heading after these parameters
  heading_solid : (s : Scope) (p : Parameters) → EachEntry SolidEntry s.block → EachBlock SolidEntry s.around → ParametersFit ms names base p → SeenSolid (in_heading s p.block)
  unfolding in_heading
  heading_solid s p here round g =
      seen_solid (in_heading s p.block)
      (each_map (EntryOf ms (within names (parameters_of p.formals) []) base) SolidEntry (λ e h. outer_solid ms names base e (outer_of ms names (parameters_of p.formals) [] base e h)) p.block
      (g.2 (parameters_of p.formals) [] (same (parameters_of p.formals))))
      (here, round)

  section_fits : (n : ℕ) (s : Scope) (p : Parameters) (x : FormalSection) (q : Parameters) → EachSolid ms → EachEntry SolidEntry s.block → EachBlock SolidEntry s.around → gives (section_rule ms n s p x) q → ParametersFit ms names base p → ParametersFit ms names base q
  unfolding section_rule typed_parameters
  section_fits n s p x q l here round h g =
      let t = h.2 in
      through_keeps (ParametersFit ms names base) (parameter_rule (is_some x.by_reference) t.0) (λ a e b k c. parameter_fits (is_some x.by_reference) t.0 a e b (formal_solid ms l (in_heading s p.block) (heading_solid s p here round g) n x.of t.0 t.1) k c) p x.names q t.2 g

  -- the parameters of a heading
  abbrev pub of_heading : Heading → Parameters
  of_heading h = record { formals = h.signature.formals; block = h.block }

  none_fit : ParametersFit ms names base no_parameters
  none_fit = (refl, λ k l. refl, λ ps own s. tt)

  pub heading_fits : (n : ℕ) (s : Scope) (o : Option Formals) (h : Heading) → EachSolid ms → EachEntry SolidEntry s.block → EachBlock SolidEntry s.around → gives (heading_rule ms n s o) h → ParametersFit ms names base (of_heading h)
  unfolding heading_rule formals_rule
  heading_fits n s None h l here round k = subst (λ x. ParametersFit ms names base (of_heading x)) k none_fit
  heading_fits n s (Some f) h l here round k =
      subst (λ x. ParametersFit ms names base (of_heading x)) (k.2).2
      (through_keeps (ParametersFit ms names base) (section_rule ms n s) (λ a e b u c. section_fits n s a e b l here round u c) no_parameters f.sections k.0 k.1 none_fit)
