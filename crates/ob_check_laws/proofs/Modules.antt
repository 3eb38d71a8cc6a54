-- The typed tree of a module is well formed.
use Rattle.std.proofs.Common.{◌≡◌, inl, ◌<◌, ℕ, zero, suc, ◌+◌, nat_eq, nat_lt, eq-eqb, ◌++◌, length, Bool, true, false, ◌&&◌, cond, List, [], ◌∷◌, reverse, Option, Some, None, option_map, slice_get, refl, sym, ap, ◌∙◌, subst, arith}
use mathlib.Core.List.{reverse_aux}
use Rattle.std.proofs.lemmas.Bool.{eqb-true}
use Rattle.std.proofs.lemmas.Bool.Decides.{nat_tests}
use Rattle.std.proofs.lemmas.Option.{slice_get_within}
use Rattle.std.proofs.lemmas.Slice.Eq.{bytes_eq-Decides}
use Rattle.std.specs.Str.{bytes_eq}
use Rattle.ob_check_scope.specs.declared.rule.RuleCode.TheVariants as code
use Rattle.ob_tree.specs.declared.tree.Declarations.{Declarations, out-Declarations}
use Rattle.ob_tree.specs.declared.tree.ConstDeclaration.{ConstDeclaration}
use Rattle.ob_tree.specs.declared.tree.TypeDeclaration.{TypeDeclaration}
use Rattle.ob_tree.specs.declared.tree.TypedNames.{TypedNames, out-TypedNames}
use Rattle.ob_tree.specs.declared.tree.IdentDef.{IdentDef}
use Rattle.ob_tree.specs.declared.tree.Import.{Import}
use Rattle.ob_tree.specs.declared.tree.Module.{Module}
use Rattle.ob_types.specs.declared.structure.ObType.{ObType}
use Rattle.ob_mean.specs.declared.face.Face.{Face}
use Rattle.ob_mean.specs.declared.module.ModuleVariable.{ModuleVariable}
use Rattle.ob_mean.specs.declared.module.ModuleVariable.TheVariants as module_variable
use Rattle.ob_mean.specs.declared.module.TypedModule.{TypedModule}
use Rattle.ob_mean.specs.declared.module.TypedProcedure.{TypedProcedure}
use Rattle.ob_mean.specs.WellFormed.{Names, VariablesFit, AllBelow, module_object, own_heading, StartWith, AreHeadings, IsFaceOf}
use Rattle.ob_check_scope.specs.declared.block.Declared.{Declared}
use Rattle.ob_check_scope.specs.declared.block.Entry.{Entry}
use Rattle.ob_check_scope.specs.declared.block.Entry.TheVariants as entry
use Rattle.ob_check_scope.specs.declared.block.Standing.TheVariants as standing
use Rattle.ob_check_scope.specs.declared.imports.StandardName.{StandardName}
use Rattle.ob_check_scope.specs.declared.imports.StandardName.TheVariants as standard
use Rattle.ob_check_scope.specs.declared.scope.Scope.{Scope}
use Rattle.ob_check_decl.specs.Declarations as declarations
use Rattle.ob_check_decl.specs.Declarations.{one_more, max_count, max_variables, has_mark, own_name, loaded_place, number_by, or_other, number_among, number_of_module, module_numbered, with_module, other_module, imported_as, import_named, import_rule, constant_rule, new_constant, type_rule, new_type, variable_in, variable_rule, typed_variables, variables_rule, declarations_rule}
use Rattle.ob_check_scope.specs.Exports.{Modules, module_names}
use Rattle.ob_check_scope.specs.Imports.{module_place, standard_named}
use Rattle.ob_check_decl.specs.Interfaces.{exported_procedures, number_of, exported_of, object_of, exports_of}
use Rattle.ob_types.specs.declared.exports.Exported.{Exported}
use Rattle.ob_check_scope.specs.LoadedTree.{LoadedTree}
use Rattle.ob_check_scope.specs.Names.{place_in}
use Rattle.ob_check_scope.specs.Rule.{gives, there, through}
use Rattle.ob_check_scope.specs.Scope.{opening, with_entry}
use Rattle.ob_check_scope.specs.Stack.{is_empty}
use Rattle.ob_check_module.specs.declared.checked.Imported.{Imported}
use Rattle.ob_check_module.specs.CheckedTree.{CheckedTree}
use Rattle.ob_check_module.specs.Modules.{exported_variable, exported_variables, own_variable, own_variables, declared_variables, with_key, imported_by, with_imports, all_imported, checked_of, body_rule, procedures_rule, checked_rule, module_at}
use Rattle.ob_check_module.specs.Procedures.{Checking, counted, procedure_at}
use Rattle.ob_check_kinds.specs.Shapes.{shape_of}
use Rattle.ob_check_stmt.specs.Statements.{statements_at}
use Rattle.ob_mean.specs.declared.shape.Shape.{Shape}
use Rattle.ob_mean.specs.declared.face.Heading.{Heading}
use Rattle.ob_check_laws.specs.Fitting.{face_of_interface, variable_shape, variable_shapes, procedure_heading, procedure_headings, StartsWith, ScopeFits, heading_of, face_of_loaded, loaded_face, with_face, face_named, faces_of, EachCheckedFits}
use Rattle.ob_types.specs.Solid.{IsSolid, ExportsSolid}
use Rattle.ob_types.specs.InterfaceText.{interface_text}
use Rattle.ob_types.specs.Types.{cells}
use Rattle.ob_check_laws.specs.Solid.{EachSolid}
use Rattle.ob_check_laws.proofs.Solid.{SolidEntry, SeenSolid, type_solid}
use Rattle.ob_check_laws.proofs.Blocks.{seen_solid, outer_solid, EntryOf, OuterOf, EachEntry, EachBlock, within, outer_of, each_more, each_map, scope_fits, length_more}
use Rattle.ob_check_laws.proofs.Grows.{part, same, Extends, begins_with, further, optional_grows, statements_grow}
use Rattle.ob_check_laws.proofs.Procedures.{EachMeets, At, all_grow, all_fit, procedure_grows, procedure_fits}
use Rattle.ob_check_laws.proofs.Rules.{if_some, joined_none, joined_thrice, starts_reads, there_is, through_keeps}
use Rattle.ob_check_laws.proofs.Sizes.{few_of, declared_few, variables_join, faces_few}
use Rattle.ob_check_laws.proofs.Statements.{statements_fit, optional_fits}
use Rattle.ob_check_laws.proofs.Suiting.{never, nothing, some_same}
use Rattle.ob_check_laws.specs.Formed.{ProcedureFits, ProceduresFit, IsFormed}
use Rattle.ob_check_laws.specs.Agreeing.{EachTreeAgrees}
use Rattle.ob_check_laws.proofs.WellFormed.{well_formed}
use Rattle.ob_check_laws.proofs.Agreeing.{types_agree}

-- ---- imported modules

own_text : (x : List ℕ) → bytes_eq x x ≡ true
own_text x = (bytes_eq-Decides x x).1 refl

abbrev IsLoaded : Modules → List ℕ → ℕ → Type 0
IsLoaded ms own place = (m : LoadedTree) × (slice_get ms place ≡ Some m) × (face_named ms m.interface.name ≡ Some (face_of_loaded m)) × (m.interface.name ≡ own)

loaded_by : (n : LoadedTree) (ms : Modules) (own : List ℕ) (place : ℕ) (b : Bool) → bytes_eq n.interface.name own ≡ b → ((p : ℕ) → place_in (module_names ms) own ≡ Some p → IsLoaded ms own p) → cond b (Some 0) (option_map suc (place_in (module_names ms) own)) ≡ Some place → IsLoaded (n ∷ ms) own place
loaded_by n ms own place true e g h =
    (n, ap (slice_get (n ∷ ms)) (sym (some_same 0 place h)), ap (λ b. cond b (Some (face_of_loaded n)) (face_named ms n.interface.name)) (own_text n.interface.name), (bytes_eq-Decides n.interface.name own).0 e)
loaded_by n ms own place false e g h = behind (place_in (module_names ms) own) refl h
  where
    behind : (o : Option ℕ) → place_in (module_names ms) own ≡ o → option_map suc o ≡ Some place → IsLoaded (n ∷ ms) own place
    behind None q k = nothing place k
    behind (Some p) q k =
        let m = g p q in (
          m.0,
          ap (slice_get (n ∷ ms)) (sym (some_same (suc p) place k)) ∙ m.1,
          ap (λ b. cond b (Some (face_of_loaded n)) (face_named ms m.0.interface.name)) (ap (bytes_eq n.interface.name) m.3 ∙ e) ∙ m.2,
          m.3,
        )

is_loaded : (ms : Modules) (own : List ℕ) (place : ℕ) → place_in (module_names ms) own ≡ Some place → IsLoaded ms own place
is_loaded [] own place h = nothing place h
is_loaded (n ∷ ms) own place h = loaded_by n ms own place (bytes_eq n.interface.name own) refl (is_loaded ms own) h

faces_append : (ms : Modules) (is js : List Imported) → faces_of ms (is ++ js) ≡ faces_of ms is ++ faces_of ms js
faces_append ms [] js = refl
faces_append ms (i ∷ is) js = ap (λ l. with_face (face_named ms i.name) ++ l) (faces_append ms is js) ∙ sym (joined_thrice (with_face (face_named ms i.name)) (faces_of ms is) (faces_of ms js))

-- ---- what one declaration more adds

exported_more : (ds : List Declared) (d : Declared) → exported_variables (ds ++ d ∷ []) ≡ exported_variables ds ++ exported_variable d.entry
exported_more [] d = joined_none (exported_variable d.entry)
exported_more (x ∷ ds) d = ap (λ l. exported_variable x.entry ++ l) (exported_more ds d) ∙ sym (joined_thrice (exported_variable x.entry) (exported_variables ds) (exported_variable d.entry))

own_more : (ds : List Declared) (d : Declared) → own_variables (ds ++ d ∷ []) ≡ own_variables ds ++ own_variable d.entry
own_more [] d = joined_none (own_variable d.entry)
own_more (x ∷ ds) d = ap (λ l. own_variable x.entry ++ l) (own_more ds d) ∙ sym (joined_thrice (own_variable x.entry) (own_variables ds) (own_variable d.entry))

imports_behind : (ms : Modules) (is : List Imported) (ds : List Declared) (d : Declared) → with_imports ms is (ds ++ d ∷ []) ≡ with_imports ms is ds ++ imported_by ms (length (with_imports ms is ds)) d.entry
imports_behind ms is [] d = refl
imports_behind ms is (x ∷ ds) d = imports_behind ms (is ++ imported_by ms (length is) x.entry) ds d

imports_more : (ms : Modules) (ds : List Declared) (d : Declared) → all_imported ms (ds ++ d ∷ []) ≡ all_imported ms ds ++ imported_by ms (length (all_imported ms ds)) d.entry
imports_more ms ds d = imports_behind ms [] ds d

faces_more : (ms : Modules) (ds : List Declared) (d : Declared) → faces_of ms (all_imported ms (ds ++ d ∷ [])) ≡ faces_of ms (all_imported ms ds) ++ faces_of ms (imported_by ms (length (all_imported ms ds)) d.entry)
faces_more ms ds d = ap (faces_of ms) (imports_more ms ds d) ∙ faces_append ms (all_imported ms ds) (imported_by ms (length (all_imported ms ds)) d.entry)

-- ---- the declarations of a module

abbrev ModuleEntry : Modules → List ModuleVariable → List ModuleVariable → List Face → Entry → Type 0
ModuleEntry ms exported own faces (entry.Constant c) = Unit {0}
ModuleEntry ms exported own faces (entry.TypeName t) = IsSolid t
ModuleEntry ms exported own faces (entry.Variable t (standing.Exported i)) = (slice_get exported i ≡ Some (module_variable.Declared (shape_of t))) × IsSolid t
ModuleEntry ms exported own faces (entry.Variable t (standing.Own i)) = (slice_get own i ≡ Some (module_variable.Declared (shape_of t))) × IsSolid t
ModuleEntry ms exported own faces (entry.Variable t (standing.Local i)) = ⊥
ModuleEntry ms exported own faces (entry.Variable t (standing.ByParameter i)) = ⊥
ModuleEntry ms exported own faces (entry.Variable t (standing.ReadOnly i)) = ⊥
ModuleEntry ms exported own faces (entry.Procedure p n) = ⊥
ModuleEntry ms exported own faces entry.In = Unit {0}
ModuleEntry ms exported own faces entry.Out = Unit {0}
ModuleEntry ms exported own faces (entry.Module i place) = slice_get faces i ≡ loaded_face (slice_get ms place)

-- a variable has a mark exactly where it is exported, and few cells
abbrev Aligned : Bool → Entry → Type 0
Aligned mark (entry.Constant c) = Unit {0}
Aligned mark (entry.TypeName t) = Unit {0}
Aligned mark (entry.Variable t (standing.Exported i)) = (mark ≡ true) × (cells t < 2147483648)
Aligned mark (entry.Variable t (standing.Own i)) = (mark ≡ false) × (cells t < 2147483648)
Aligned mark (entry.Variable t (standing.Local i)) = ⊥
Aligned mark (entry.Variable t (standing.ByParameter i)) = ⊥
Aligned mark (entry.Variable t (standing.ReadOnly i)) = ⊥
Aligned mark (entry.Procedure p n) = Unit {0}
Aligned mark entry.In = Unit {0}
Aligned mark entry.Out = Unit {0}
Aligned mark (entry.Module i place) = Unit {0}

abbrev EachAligned : List Declared → Type 0
EachAligned [] = Unit {0}
EachAligned (d ∷ ds) = Aligned d.exported d.entry × EachAligned ds

aligned_more : (ds : List Declared) (d : Declared) → EachAligned ds → Aligned d.exported d.entry → EachAligned (ds ++ d ∷ [])
aligned_more [] d h g = (g, tt)
aligned_more (x ∷ ds) d h g = (h.0, aligned_more ds d h.1 g)

entry_solid : (ms : Modules) (exported own : List ModuleVariable) (faces : List Face) (e : Entry) → ModuleEntry ms exported own faces e → SolidEntry e
entry_solid ms exported own faces (entry.Constant c) h = tt
entry_solid ms exported own faces (entry.TypeName t) h = h
entry_solid ms exported own faces (entry.Variable t (standing.Exported i)) h = h.1
entry_solid ms exported own faces (entry.Variable t (standing.Own i)) h = h.1
entry_solid ms exported own faces (entry.Variable t (standing.Local i)) h = absurd h
entry_solid ms exported own faces (entry.Variable t (standing.ByParameter i)) h = absurd h
entry_solid ms exported own faces (entry.Variable t (standing.ReadOnly i)) h = absurd h
entry_solid ms exported own faces (entry.Procedure p n) h = absurd h
entry_solid ms exported own faces entry.In h = tt
entry_solid ms exported own faces entry.Out h = tt
entry_solid ms exported own faces (entry.Module i place) h = tt

-- ---- numbers of imports

abbrev import_of : LoadedTree → Imported
import_of m = record { name = m.interface.name; key = interface_text m.interface }

next_import : (ms : Modules) (n m place : ℕ) → n ≡ m → imported_by ms m (entry.Module n place) ≡ with_key (slice_get ms place)
next_import ms n m place e = ap (λ b. cond b (with_key (slice_get ms place)) []) (eq-eqb n m e)

earlier_import : (ms : Modules) (n m place : ℕ) → n < m → imported_by ms m (entry.Module n place) ≡ []
earlier_import ms n m place h = ap (λ b. cond b (with_key (slice_get ms place)) []) (let other : nat_eq n m ≡ false = grind (arith, nat_tests) in other)

entry_read : (ms : Modules) (exported own : List ModuleVariable) (faces : List Face) (e : Entry) (place import : ℕ) → ModuleEntry ms exported own faces e → number_by e place ≡ Some import → slice_get faces import ≡ loaded_face (slice_get ms place)
entry_read ms exported own faces (entry.Constant c) place import h e = nothing import e
entry_read ms exported own faces (entry.TypeName t) place import h e = nothing import e
entry_read ms exported own faces (entry.Variable t s) place import h e = nothing import e
entry_read ms exported own faces (entry.Procedure p n) place import h e = nothing import e
entry_read ms exported own faces entry.In place import h e = nothing import e
entry_read ms exported own faces entry.Out place import h e = nothing import e
entry_read ms exported own faces (entry.Module n other) place import h e = by (nat_eq other place) refl e
  where
    by : (b : Bool) → nat_eq other place ≡ b → cond b (Some n) None ≡ Some import → slice_get faces import ≡ loaded_face (slice_get ms place)
    by true f k = ap (slice_get faces) (sym (some_same n import k)) ∙ h ∙ ap (λ p. loaded_face (slice_get ms p)) (eqb-true other place f)
    by false f k = nothing import k

among_read : (ms : Modules) (exported own : List ModuleVariable) (faces : List Face) (ds : List Declared) (place import : ℕ) → EachEntry (ModuleEntry ms exported own faces) ds → number_among ds place ≡ Some import → slice_get faces import ≡ loaded_face (slice_get ms place)
among_read ms exported own faces [] place import h e = nothing import e
among_read ms exported own faces (d ∷ ds) place import h e = by (number_by d.entry place) refl (among_read ms exported own faces ds place import h.1) e
  where
    by : (o : Option ℕ) → number_by d.entry place ≡ o → (number_among ds place ≡ Some import → slice_get faces import ≡ loaded_face (slice_get ms place)) → or_other o (number_among ds place) ≡ Some import → slice_get faces import ≡ loaded_face (slice_get ms place)
    by (Some n) f rest k = entry_read ms exported own faces d.entry place import h.0 (f ∙ k)
    by None f rest k = rest k

each_reversed : (Q : Entry → Type 0) (xs ys : List Declared) → EachEntry Q xs → EachEntry Q ys → EachEntry Q (reverse_aux xs ys)
each_reversed Q [] ys h g = g
each_reversed Q (x ∷ xs) ys h g = each_reversed Q xs (x ∷ ys) h.1 (h.0, g)

number_read : (ms : Modules) (exported own : List ModuleVariable) (faces : List Face) (ds : List Declared) (place import : ℕ) → EachEntry (ModuleEntry ms exported own faces) ds → number_of_module ds place ≡ Some import → slice_get faces import ≡ loaded_face (slice_get ms place)
number_read ms exported own faces ds place import h e = among_read ms exported own faces (reverse ds) place import (each_reversed (ModuleEntry ms exported own faces) ds [] h tt) e

module _ (ms : Modules) (loaded : EachSolid ms) where
  -- so many are imported, and each has a face
  abbrev Counted : ℕ → List Imported → Type 0
  Counted n is = (n ≡ length is) × (n ≡ length (faces_of ms is))

  abbrev ModulePart : ℕ → ℕ → ℕ → List Declared → Type 0
  ModulePart ec oc ic ds =
      (ec ≡ length (exported_variables ds)) × (oc ≡ length (own_variables ds)) × Counted ic (all_imported ms ds)
      × ((exported own : List ModuleVariable) (faces : List Face) → StartsWith exported (exported_variables ds) → StartsWith own (own_variables ds) → StartsWith faces (faces_of ms (all_imported ms ds)) → EachEntry (ModuleEntry ms exported own faces) ds)
      × EachAligned ds

  abbrev InModule : Scope → Type 0
  InModule s = (s.around ≡ []) × (s.enclosing ≡ []) × ModulePart s.exported_count s.own_count s.import_count s.block

  more : (ec oc ic : ℕ) (ds : List Declared) (d : Declared) (ec1 oc1 ic1 : ℕ) → ModulePart ec oc ic ds → ec1 ≡ length (exported_variables ds ++ exported_variable d.entry) → oc1 ≡ length (own_variables ds ++ own_variable d.entry) → Counted ic1 (all_imported ms ds ++ imported_by ms (length (all_imported ms ds)) d.entry)
      → ((exported own : List ModuleVariable) (faces : List Face) → StartsWith exported (exported_variables ds ++ exported_variable d.entry) → StartsWith own (own_variables ds ++ own_variable d.entry) → StartsWith faces (faces_of ms (all_imported ms ds) ++ faces_of ms (imported_by ms (length (all_imported ms ds)) d.entry)) → ModuleEntry ms exported own faces d.entry)
      → Aligned d.exported d.entry → ModulePart ec1 oc1 ic1 (ds ++ d ∷ [])
  more ec oc ic ds d ec1 oc1 ic1 g e o i new aligned = (
    e ∙ ap length (sym (exported_more ds d)),
    o ∙ ap length (sym (own_more ds d)),
    subst (Counted ic1) (sym (imports_more ms ds d)) i,
    λ exported own faces a b c.
        let a1 = subst (StartsWith exported) (exported_more ds d) a in
        let b1 = subst (StartsWith own) (own_more ds d) b in
        let c1 = subst (StartsWith faces) (faces_more ms ds d) c in
        each_more (ModuleEntry ms exported own faces) ds d
        (g.3 exported own faces (part exported (exported_variables ds) _ a1) (part own (own_variables ds) _ b1) (part faces (faces_of ms (all_imported ms ds)) _ c1))
        (new exported own faces a1 b1 c1),
    aligned_more ds d g.4 aligned,
  )

  solid_here : (s : Scope) → InModule s → SeenSolid s
  solid_here s g =
      seen_solid s
      (each_map (ModuleEntry ms (exported_variables s.block) (own_variables s.block) (faces_of ms (all_imported ms s.block))) SolidEntry (entry_solid ms (exported_variables s.block) (own_variables s.block) (faces_of ms (all_imported ms s.block))) s.block
      ((g.2).3 (exported_variables s.block) (own_variables s.block) (faces_of ms (all_imported ms s.block)) (same (exported_variables s.block)) (same (own_variables s.block)) (same (faces_of ms (all_imported ms s.block)))))
      (subst (EachBlock SolidEntry) (sym g.0) tt)

  none_more : {A : Type 0} (n : ℕ) (xs : List A) → n ≡ length xs → n ≡ length (xs ++ [])
  none_more n xs e = e ∙ ap length (sym (joined_none xs))

  no_import : (s : Scope) → InModule s → Counted s.import_count (all_imported ms s.block ++ [])
  no_import s g = subst (Counted s.import_count) (sym (joined_none (all_imported ms s.block))) (g.2).2

  one_counted : {A : Type 0} (n m : ℕ) (xs : List A) (x : A) → n ≡ length xs → n + 1 ≡ m → m ≡ length (xs ++ x ∷ [])
  one_counted n m xs x e f = let k : length (xs ++ x ∷ []) ≡ length xs + 1 = length_more xs x in omega arith

  counted_by : (most n m : ℕ) → gives (there (one_more most n) code.Size) m → n + 1 ≡ m
  counted_by most n m h = (if_some (nat_lt n most) (n + 1) m (there_is (one_more most n) code.Size m h)).1

  constant_fits : (n : ℕ) (s : Scope) (x : ConstDeclaration) (t : Scope) → gives (constant_rule ms n s x) t → InModule s → InModule t
  unfolding constant_rule new_constant
  constant_fits n s x t h g = subst InModule (h.1).2 (
    g.0,
    g.1,
    more s.exported_count s.own_count s.import_count s.block (record { name = x.name.name.name; exported = is_empty s.around && has_mark x.name; entry = entry.Constant (h.1).0 }) s.exported_count s.own_count s.import_count g.2
        (none_more s.exported_count (exported_variables s.block) (g.2).0) (none_more s.own_count (own_variables s.block) (g.2).1) (no_import s g) (λ a b c d e f. tt) tt,
  )

  type_fits : (n : ℕ) (s : Scope) (x : TypeDeclaration) (t : Scope) → gives (type_rule ms n s x) t → InModule s → InModule t
  unfolding type_rule new_type
  type_fits n s x t h g = subst InModule (h.1).2 (
    g.0,
    g.1,
    more s.exported_count s.own_count s.import_count s.block (record { name = x.name.name.name; exported = is_empty s.around && has_mark x.name; entry = entry.TypeName (h.1).0.of }) s.exported_count s.own_count s.import_count g.2
        (none_more s.exported_count (exported_variables s.block) (g.2).0) (none_more s.own_count (own_variables s.block) (g.2).1) (no_import s g) (λ a b c d e f. type_solid ms loaded s (solid_here s g) _ n 0 x.of (h.1).0 (h.1).1) tt,
  )

  variable_in_fits : (mark : Bool) (s : Scope) (name : List ℕ) (t : ObType) (u : Scope) → IsSolid t → cells t < 2147483648 → gives (variable_in true mark s name t) u → InModule s → InModule u
  unfolding variable_in declarations.exported_variable declarations.own_variable
  variable_in_fits true s name t u sound few h g = subst InModule h.2 (
    g.0,
    g.1,
    more s.exported_count s.own_count s.import_count s.block (record { name = name; exported = is_empty s.around && true; entry = entry.Variable t (standing.Exported s.exported_count) }) h.0 s.own_count s.import_count g.2
        (one_counted s.exported_count h.0 (exported_variables s.block) (module_variable.Declared (shape_of t)) (g.2).0 (counted_by max_variables s.exported_count h.0 h.1))
        (none_more s.own_count (own_variables s.block) (g.2).1) (no_import s g)
        (λ a b c d e f. (ap (slice_get a) (g.2).0 ∙ starts_reads a (exported_variables s.block) (module_variable.Declared (shape_of t)) d, sound)) (ap (λ x. is_empty x && true) g.0, few),
  )
  variable_in_fits false s name t u sound few h g = subst InModule h.2 (
    g.0,
    g.1,
    more s.exported_count s.own_count s.import_count s.block (record { name = name; exported = is_empty s.around && false; entry = entry.Variable t (standing.Own s.own_count) }) s.exported_count h.0 s.import_count g.2
        (none_more s.exported_count (exported_variables s.block) (g.2).0)
        (one_counted s.own_count h.0 (own_variables s.block) (module_variable.Declared (shape_of t)) (g.2).1 (counted_by max_variables s.own_count h.0 h.1))
        (no_import s g)
        (λ a b c d e f. (ap (slice_get b) (g.2).1 ∙ starts_reads b (own_variables s.block) (module_variable.Declared (shape_of t)) e, sound)) (ap (λ x. is_empty x && false) g.0, few),
  )

  variable_fits : (t : ObType) → IsSolid t → (s : Scope) (name : IdentDef) (u : Scope) → gives (variable_rule t s name) u → InModule s → InModule u
  unfolding variable_rule
  variable_fits t sound s name u h g =
      variable_in_fits (has_mark name) (record s { cells_taken = (h.1).0 }) name.name.name t u sound (declared_few (is_empty s.around) s.cells_taken t (h.1).0 (h.1).1)
      (subst (λ b. gives (variable_in b (has_mark name) (record s { cells_taken = (h.1).0 }) name.name.name t) u) (ap is_empty g.0) (h.1).2) g

  variables_fit : (n : ℕ) (s : Scope) (x : TypedNames) (t : Scope) → gives (variables_rule ms n s x) t → InModule s → InModule t
  unfolding variables_rule typed_variables
  variables_fit n s x t h g =
      let w = h.2 in
      through_keeps InModule (variable_rule w.0.of) (λ a e b k c. variable_fits w.0.of (type_solid ms loaded s (solid_here s g) _ n 0 (out-TypedNames x).of w.0 w.1) a e b k c) s (out-TypedNames x).names t w.2 g

  declarations_fit : (n : ℕ) (s : Scope) (x : Declarations) (t : Scope) → gives (declarations_rule ms n s x) t → InModule s → InModule t
  unfolding declarations_rule
  declarations_fit n s x t h g =
      through_keeps InModule (variables_rule ms n) (λ a e b k c. variables_fit n a e b k c) (h.2).0 (out-Declarations x).variables t (h.2).2
      (through_keeps InModule (type_rule ms n) (λ a e b k c. type_fits n a e b k c) h.0 (out-Declarations x).types (h.2).0 (h.2).1
      (through_keeps InModule (constant_rule ms n) (λ a e b k c. constant_fits n a e b k c) s (out-Declarations x).constants h.0 h.1 g))

  -- ---- imports

  found_place : (self own : List ℕ) (o : Option ℕ) (place : ℕ) → gives (loaded_place ms self o) place → o ≡ Some place
  unfolding loaded_place
  found_place self own None place h = absurd h
  found_place self own (Some p) place h = ap Some h.1

  -- a module that has no number yet
  first_more : (s : Scope) (name : List ℕ) (own : List ℕ) (place count : ℕ) → IsLoaded ms own place → s.import_count + 1 ≡ count → InModule s → InModule (with_entry (record s { import_count = count }) name false (entry.Module s.import_count place))
  first_more s name own place count l next g = (
    g.0,
    g.1,
    more s.exported_count s.own_count s.import_count s.block (record { name = name; exported = is_empty s.around && false; entry = entry.Module s.import_count place }) s.exported_count s.own_count count g.2
        (none_more s.exported_count (exported_variables s.block) (g.2).0) (none_more s.own_count (own_variables s.block) (g.2).1)
        (subst (λ (js : List Imported). Counted count (all_imported ms s.block ++ js)) (sym one_import) (
          one_counted s.import_count count (all_imported ms s.block) (import_of l.0) ((g.2).2).0 next,
          one_counted s.import_count count (faces_of ms (all_imported ms s.block)) (face_of_loaded l.0) ((g.2).2).1 next ∙ ap length (sym (faces_append ms (all_imported ms s.block) (import_of l.0 ∷ []) ∙ ap (λ x. faces_of ms (all_imported ms s.block) ++ x) one_face)),
        ))
        (λ a b c d e f. ap (slice_get c) ((g.2).2).1 ∙ starts_reads c (faces_of ms (all_imported ms s.block)) (face_of_loaded l.0) (subst (λ x. StartsWith c (faces_of ms (all_imported ms s.block) ++ x)) (ap (faces_of ms) one_import ∙ one_face) f) ∙ ap loaded_face (sym l.1)) tt,
  )
    where
      one_import : imported_by ms (length (all_imported ms s.block)) (entry.Module s.import_count place) ≡ import_of l.0 ∷ []
      one_import = next_import ms s.import_count (length (all_imported ms s.block)) place ((g.2).2).0 ∙ ap with_key l.1

      one_face : faces_of ms (import_of l.0 ∷ []) ≡ face_of_loaded l.0 ∷ []
      one_face = ap (λ o. with_face o ++ []) l.2

  -- and one that has one
  again_more : (s : Scope) (name : List ℕ) (own : List ℕ) (place import : ℕ) → IsLoaded ms own place → number_of_module s.block place ≡ Some import → InModule s → InModule (with_entry s name false (entry.Module import place))
  again_more s name own place import l e g = (
    g.0,
    g.1,
    more s.exported_count s.own_count s.import_count s.block (record { name = name; exported = is_empty s.around && false; entry = entry.Module import place }) s.exported_count s.own_count s.import_count g.2
        (none_more s.exported_count (exported_variables s.block) (g.2).0) (none_more s.own_count (own_variables s.block) (g.2).1)
        (subst (λ (js : List Imported). Counted s.import_count (all_imported ms s.block ++ js)) (sym no_more) (no_import s g))
        (λ a b c x y z. read a b c (part a (exported_variables s.block) [] x) (part b (own_variables s.block) [] y) (part c (faces_of ms (all_imported ms s.block)) _ z)) tt,
  )
    where
      read : (exported own : List ModuleVariable) (faces : List Face) → StartsWith exported (exported_variables s.block) → StartsWith own (own_variables s.block) → StartsWith faces (faces_of ms (all_imported ms s.block)) → slice_get faces import ≡ loaded_face (slice_get ms place)
      read exported own faces x y z = number_read ms exported own faces s.block place import ((g.2).3 exported own faces x y z) e

      inside : import < length (faces_of ms (all_imported ms s.block))
      inside = slice_get_within (faces_of ms (all_imported ms s.block)) import (face_of_loaded l.0) (
          read (exported_variables s.block) (own_variables s.block) (faces_of ms (all_imported ms s.block)) (same (exported_variables s.block)) (same (own_variables s.block)) (same (faces_of ms (all_imported ms s.block)))
          ∙ ap loaded_face l.1)

      before : (n faces imports : ℕ) → n ≡ imports → n ≡ faces → import < faces → import < imports
      before n faces imports a b c = omega arith

      no_more : imported_by ms (length (all_imported ms s.block)) (entry.Module import place) ≡ []
      no_more = earlier_import ms import (length (all_imported ms s.block)) place (before s.import_count (length (faces_of ms (all_imported ms s.block))) (length (all_imported ms s.block)) ((g.2).2).0 ((g.2).2).1 inside)

  numbered_fits : (s : Scope) (name own : List ℕ) (place : ℕ) (o : Option ℕ) (t : Scope) → IsLoaded ms own place → number_of_module s.block place ≡ o → gives (module_numbered s name place o) t → InModule s → InModule t
  unfolding module_numbered
  numbered_fits s name own place None t l e h g = subst InModule h.2 (first_more s name own place h.0 l (counted_by max_count s.import_count h.0 h.1) g)
  numbered_fits s name own place (Some import) t l e h g = subst InModule h (again_more s name own place import l e g)

  module_fits : (s : Scope) (name : List ℕ) (own : List ℕ) (place : ℕ) (t : Scope) → IsLoaded ms own place → gives (with_module s name place) t → InModule s → InModule t
  module_fits s name own place t l h g = numbered_fits s name own place (number_of_module s.block place) t l refl h g

  import_as_fits : (s : Scope) (name own : List ℕ) (n : StandardName) (t : Scope) → gives (imported_as ms s name own n) t → InModule s → InModule t
  unfolding imported_as other_module module_place
  import_as_fits s name own standard.In t h g = subst InModule h (
    g.0,
    g.1,
    more s.exported_count s.own_count s.import_count s.block (record { name = name; exported = is_empty s.around && false; entry = entry.In }) s.exported_count s.own_count s.import_count g.2
        (none_more s.exported_count (exported_variables s.block) (g.2).0) (none_more s.own_count (own_variables s.block) (g.2).1) (no_import s g) (λ a b c d e f. tt) tt,
  )
  import_as_fits s name own standard.Out t h g = subst InModule h (
    g.0,
    g.1,
    more s.exported_count s.own_count s.import_count s.block (record { name = name; exported = is_empty s.around && false; entry = entry.Out }) s.exported_count s.own_count s.import_count g.2
        (none_more s.exported_count (exported_variables s.block) (g.2).0) (none_more s.own_count (own_variables s.block) (g.2).1) (no_import s g) (λ a b c d e f. tt) tt,
  )
  import_as_fits s name own standard.System t h g = absurd h
  import_as_fits s name own standard.Other t h g =
      module_fits s name own h.0 t (is_loaded ms own h.0 (found_place s.module_name own (place_in (module_names ms) own) h.0 h.1)) h.2 g

  import_fits : (s : Scope) (i : Import) (t : Scope) → gives (import_rule ms s i) t → InModule s → InModule t
  unfolding import_rule import_named
  import_fits s i t h g = import_as_fits s i.name.name (own_name i.name i.module_name) (standard_named (own_name i.name i.module_name)) t (h.1).1 g

  opening_fits : (name : List ℕ) → InModule (opening name)
  opening_fits name = (refl, refl, (refl, refl, (refl, refl), (λ a b c d e f. tt), tt))

  declared_fits : (m : Module) (s : Scope) → gives (declarations.module_rule ms m) s → InModule s
  unfolding declarations.module_rule
  declared_fits m s h =
      let k = h.1 in
      declarations_fit declarations.max_nesting k.0 m.declarations s k.2
      (through_keeps InModule (import_rule ms) (λ a e b u c. import_fits a e b u c) (opening m.name.name) m.imports k.0 k.1 (opening_fits m.name.name))

-- ---- variables of few cells

exported_one : (mark : Bool) (e : Entry) → Aligned mark e → VariablesFit (exported_variable e)
exported_one mark (entry.Constant c) h = tt
exported_one mark (entry.TypeName t) h = tt
exported_one mark (entry.Variable t (standing.Exported i)) h = (few_of t h.1, tt)
exported_one mark (entry.Variable t (standing.Own i)) h = tt
exported_one mark (entry.Variable t (standing.Local i)) h = tt
exported_one mark (entry.Variable t (standing.ByParameter i)) h = tt
exported_one mark (entry.Variable t (standing.ReadOnly i)) h = tt
exported_one mark (entry.Procedure p n) h = tt
exported_one mark entry.In h = tt
exported_one mark entry.Out h = tt
exported_one mark (entry.Module i place) h = tt

exported_few : (ds : List Declared) → EachAligned ds → VariablesFit (exported_variables ds)
exported_few [] h = tt
exported_few (d ∷ ds) h = variables_join (exported_variable d.entry) (exported_variables ds) (exported_one d.exported d.entry h.0) (exported_few ds h.1)

own_one : (mark : Bool) (e : Entry) → Aligned mark e → VariablesFit (own_variable e)
own_one mark (entry.Constant c) h = tt
own_one mark (entry.TypeName t) h = tt
own_one mark (entry.Variable t (standing.Exported i)) h = tt
own_one mark (entry.Variable t (standing.Own i)) h = (few_of t h.1, tt)
own_one mark (entry.Variable t (standing.Local i)) h = tt
own_one mark (entry.Variable t (standing.ByParameter i)) h = tt
own_one mark (entry.Variable t (standing.ReadOnly i)) h = tt
own_one mark (entry.Procedure p n) h = tt
own_one mark entry.In h = tt
own_one mark entry.Out h = tt
own_one mark (entry.Module i place) h = tt

own_few : (ds : List Declared) → EachAligned ds → VariablesFit (own_variables ds)
own_few [] h = tt
own_few (d ∷ ds) h = variables_join (own_variable d.entry) (own_variables ds) (own_one d.exported d.entry h.0) (own_few ds h.1)

-- ---- what is exported

exports_append : (es fs : List Exported) → ExportsSolid es → ExportsSolid fs → ExportsSolid (es ++ fs)
exports_append [] fs h g = g
exports_append (e ∷ es) fs h g = (h.0, exports_append es fs h.1 g)

one_exported : (name : List ℕ) (mark : Bool) (e : Entry) → SolidEntry e → Aligned mark e → ExportsSolid (exported_of name mark (object_of e))
one_exported name true (entry.Constant c) h g = (tt, tt)
one_exported name true (entry.TypeName t) h g = (h, tt)
one_exported name true (entry.Variable t (standing.Exported i)) h g = ((h, g.1), tt)
one_exported name true (entry.Variable t (standing.Own i)) h g = ((h, g.1), tt)
one_exported name true (entry.Variable t (standing.Local i)) h g = absurd g
one_exported name true (entry.Variable t (standing.ByParameter i)) h g = absurd g
one_exported name true (entry.Variable t (standing.ReadOnly i)) h g = absurd g
one_exported name true (entry.Procedure p n) h g = (tt, tt)
one_exported name true entry.In h g = tt
one_exported name true entry.Out h g = tt
one_exported name true (entry.Module i place) h g = tt
one_exported name false (entry.Constant c) h g = tt
one_exported name false (entry.TypeName t) h g = tt
one_exported name false (entry.Variable t s) h g = tt
one_exported name false (entry.Procedure p n) h g = tt
one_exported name false entry.In h g = tt
one_exported name false entry.Out h g = tt
one_exported name false (entry.Module i place) h g = tt

exports_solid : (ds : List Declared) → EachEntry SolidEntry ds → EachAligned ds → ExportsSolid (exports_of ds)
exports_solid [] h g = tt
exports_solid (d ∷ ds) h g = exports_append (exported_of d.name d.exported (object_of d.entry)) (exports_of ds) (one_exported d.name d.exported d.entry h.0 g.0) (exports_solid ds h.1 g.1)

-- ---- what the interface says

declared_all : List Shape → List ModuleVariable
declared_all [] = []
declared_all (s ∷ ss) = module_variable.Declared s ∷ declared_all ss

declared_append : (ss ts : List Shape) → declared_all (ss ++ ts) ≡ declared_all ss ++ declared_all ts
unfolding declared_all
declared_append [] ts = refl
declared_append (s ∷ ss) ts = ap (λ l. module_variable.Declared s ∷ l) (declared_append ss ts)

shapes_append : (es fs : List Exported) → variable_shapes (es ++ fs) ≡ variable_shapes es ++ variable_shapes fs
shapes_append [] fs = refl
shapes_append (e ∷ es) fs = ap (λ l. variable_shape e.object ++ l) (shapes_append es fs) ∙ sym (joined_thrice (variable_shape e.object) (variable_shapes es) (variable_shapes fs))

headings_append : (es fs : List Exported) → procedure_headings (es ++ fs) ≡ procedure_headings es ++ procedure_headings fs
headings_append [] fs = refl
headings_append (e ∷ es) fs = ap (λ l. procedure_heading e.object ++ l) (headings_append es fs) ∙ sym (joined_thrice (procedure_heading e.object) (procedure_headings es) (procedure_headings fs))

one_shown : (name : List ℕ) (mark : Bool) (e : Entry) → Aligned mark e → exported_variable e ≡ declared_all (variable_shapes (exported_of name mark (object_of e)))
unfolding declared_all
one_shown name true (entry.Constant c) h = refl
one_shown name true (entry.TypeName t) h = refl
one_shown name true (entry.Variable t (standing.Exported i)) h = refl
one_shown name true (entry.Variable t (standing.Own i)) h = never (sym h.0)
one_shown name true (entry.Variable t (standing.Local i)) h = absurd h
one_shown name true (entry.Variable t (standing.ByParameter i)) h = absurd h
one_shown name true (entry.Variable t (standing.ReadOnly i)) h = absurd h
one_shown name true (entry.Procedure p n) h = refl
one_shown name true entry.In h = refl
one_shown name true entry.Out h = refl
one_shown name true (entry.Module i place) h = refl
one_shown name false (entry.Constant c) h = refl
one_shown name false (entry.TypeName t) h = refl
one_shown name false (entry.Variable t (standing.Exported i)) h = never h.0
one_shown name false (entry.Variable t (standing.Own i)) h = refl
one_shown name false (entry.Variable t (standing.Local i)) h = absurd h
one_shown name false (entry.Variable t (standing.ByParameter i)) h = absurd h
one_shown name false (entry.Variable t (standing.ReadOnly i)) h = absurd h
one_shown name false (entry.Procedure p n) h = refl
one_shown name false entry.In h = refl
one_shown name false entry.Out h = refl
one_shown name false (entry.Module i place) h = refl

variables_shown : (ds : List Declared) → EachAligned ds → exported_variables ds ≡ declared_all (variable_shapes (exports_of ds))
unfolding declared_all
variables_shown [] h = refl
variables_shown (d ∷ ds) h =
    ap (λ l. l ++ exported_variables ds) (one_shown d.name d.exported d.entry h.0)
    ∙ ap (λ l. declared_all (variable_shapes (exported_of d.name d.exported (object_of d.entry))) ++ l) (variables_shown ds h.1)
    ∙ sym (declared_append (variable_shapes (exported_of d.name d.exported (object_of d.entry))) (variable_shapes (exports_of ds)))
    ∙ ap declared_all (sym (shapes_append (exported_of d.name d.exported (object_of d.entry)) (exports_of ds)))

begins : (ss : List Shape) (vs : List ModuleVariable) → StartWith ss (declared_all ss ++ vs)
unfolding declared_all
begins [] vs = tt
begins (s ∷ ss) vs = (refl, begins ss vs)

headings_join : (procedures : List TypedProcedure) (hs : List Heading) (ns : List ℕ) (gs : List Heading) (is : List ℕ) → AreHeadings hs procedures ns → AreHeadings gs procedures is → AreHeadings (hs ++ gs) procedures (ns ++ is)
headings_join procedures [] [] gs is h g = g
headings_join procedures [] (n ∷ ns) gs is h g = absurd h
headings_join procedures (x ∷ hs) [] gs is h g = absurd h
headings_join procedures (x ∷ hs) (n ∷ ns) gs is h g = (h.0, headings_join procedures hs ns gs is h.1 g)

-- ---- the whole

left_read : {A : Type 0} (xs ys : List A) (i : ℕ) (x : A) → slice_get xs i ≡ Some x → slice_get (xs ++ ys) i ≡ Some x
left_read [] ys i x h = nothing x h
left_read (y ∷ xs) ys zero x h = h
left_read (y ∷ xs) ys (suc i) x h = left_read xs ys i x h

right_read : {A : Type 0} (xs ys : List A) (i j : ℕ) → j ≡ length xs + i → slice_get (xs ++ ys) j ≡ slice_get ys i
right_read [] ys i j h = ap (slice_get ys) (let k : j ≡ i = omega arith in k)
right_read (x ∷ xs) ys i zero h = absurd (omega arith)
right_read (x ∷ xs) ys i (suc j) h = right_read xs ys i j (omega arith)

below_more : (n : ℕ) (xs ys : List ℕ) → AllBelow n xs → AllBelow n ys → AllBelow n (xs ++ ys)
below_more n [] ys h g = g
below_more n (x ∷ xs) ys h g = (h.0, below_more n xs ys h.1 g)

module _ (ms : Modules) (names : Names) (base : ℕ) where
  abbrev Kept : Entry → Type 0
  Kept e = EntryOf ms (within names [] []) base e

  number_below : (mark : Bool) (e : Entry) → EntryOf ms (within names [] []) base e → AllBelow (length names.procedures) (number_of mark e)
  number_below true (entry.Procedure p n) h = (there_at (slice_get names.procedures n) refl h, tt)
    where
      there_at : (o : Option TypedProcedure) → slice_get names.procedures n ≡ o → own_heading o ≡ Some (heading_of p) → n < length names.procedures
      there_at None k e = nothing _ e
      there_at (Some f) k e = slice_get_within names.procedures n f k
  number_below true (entry.Constant c) h = tt
  number_below true (entry.TypeName t) h = tt
  number_below true (entry.Variable t s) h = tt
  number_below true entry.In h = tt
  number_below true entry.Out h = tt
  number_below true (entry.Module i place) h = tt
  number_below false e h = tt

  numbers_below : (ds : List Declared) → EachEntry (EntryOf ms (within names [] []) base) ds → AllBelow (length names.procedures) (exported_procedures ds)
  numbers_below [] h = tt
  numbers_below (d ∷ ds) h = below_more (length names.procedures) (number_of d.exported d.entry) (exported_procedures ds) (number_below d.exported d.entry h.0) (numbers_below ds h.1)
      -- the headings of what is exported

  heading_shown : (name : List ℕ) (mark : Bool) (e : Entry) → EntryOf ms (within names [] []) base e → AreHeadings (procedure_headings (exported_of name mark (object_of e))) names.procedures (number_of mark e)
  heading_shown name true (entry.Constant c) h = tt
  heading_shown name true (entry.TypeName t) h = tt
  heading_shown name true (entry.Variable t s) h = tt
  heading_shown name true (entry.Procedure p n) h = (h, tt)
  heading_shown name true entry.In h = tt
  heading_shown name true entry.Out h = tt
  heading_shown name true (entry.Module i place) h = tt
  heading_shown name false e h = tt

  headings_shown : (ds : List Declared) → EachEntry (EntryOf ms (within names [] []) base) ds → AreHeadings (procedure_headings (exports_of ds)) names.procedures (exported_procedures ds)
  headings_shown [] h = tt
  headings_shown (d ∷ ds) h =
      subst (λ l. AreHeadings l names.procedures (exported_procedures (d ∷ ds))) (sym (headings_append (exported_of d.name d.exported (object_of d.entry)) (exports_of ds)))
      (headings_join names.procedures (procedure_headings (exported_of d.name d.exported (object_of d.entry))) (number_of d.exported d.entry) (procedure_headings (exports_of ds)) (exported_procedures ds)
      (heading_shown d.name d.exported d.entry h.0) (headings_shown ds h.1))

  -- a declaration of the module, where its variables and imports are these
  entry_kept : (ds : List Declared) (e : Entry) → base ≡ length (exported_variables ds) → StartsWith names.variables (declared_variables ds) → ModuleEntry ms (exported_variables ds) (own_variables ds) names.faces e → EntryOf ms (within names [] []) base e
  entry_kept ds (entry.Constant c) b s h = tt
  entry_kept ds (entry.TypeName t) b s h = h
  entry_kept ds (entry.Variable t (standing.Exported i)) b s h =
      (inl (ap module_object (ap (λ l. slice_get l i) s.1 ∙ left_read (declared_variables ds) s.0 i _ (left_read (exported_variables ds) (own_variables ds) i _ h.0))), h.1, λ r. refl)
  entry_kept ds (entry.Variable t (standing.Own i)) b s h =
      (inl (ap module_object (ap (λ l. slice_get l (base + i)) s.1 ∙ left_read (declared_variables ds) s.0 (base + i) _ (right_read (exported_variables ds) (own_variables ds) i (base + i) (ap (λ x. x + i) b) ∙ h.0))), h.1, λ r. refl)
  entry_kept ds (entry.Variable t (standing.Local i)) b s h = absurd h
  entry_kept ds (entry.Variable t (standing.ByParameter i)) b s h = absurd h
  entry_kept ds (entry.Variable t (standing.ReadOnly i)) b s h = absurd h
  entry_kept ds (entry.Procedure p n) b s h = absurd h
  entry_kept ds entry.In b s h = tt
  entry_kept ds entry.Out b s h = tt
  entry_kept ds (entry.Module i place) b s h = h

bodies_fit : (names : Names) (m : TypedModule) (fs : List TypedProcedure) → m.variables ≡ names.variables → m.procedures ≡ names.procedures → EachMeets names fs → ProceduresFit names.faces m fs
bodies_fit names m [] e f h = tt
bodies_fit names m (p ∷ fs) e f h = (subst (λ x. Body x) (λ i. record { faces = names.faces; variables = sym e i; procedures = sym f i; parameters = p.parameters; own = p.variables }) h.0, bodies_fit names m fs e f h.1)
  where
    Body : Names → Type 0
    Body x = ProcedureFits x p

checked_fits : (ms : Modules) (loaded : EachSolid ms) (s : Scope) (m : Module) (c : Checking) (k : CheckedTree) → InModule ms loaded s → gives (through (procedure_at ms declarations.max_nesting) (s, [], declared_variables s.block) (out-Declarations m.declarations).procedures) c → gives (body_rule ms c m) k → IsFormed (faces_of ms k.imports) k.tree × IsFaceOf (face_of_interface k.interface) k.tree × ExportsSolid k.interface.exports
unfolding body_rule
checked_fits ms loaded s m c k g h b =
    subst (λ x. IsFormed (faces_of ms x.imports) x.tree × IsFaceOf (face_of_interface x.interface) x.tree × ExportsSolid x.interface.exports) b.2 (
      record {
        known = faces_few ms (all_imported ms c.0.block) loaded;
        variables = few;
        exported = numbers_below ms names base c.0.block (fit.0).3;
        procedures = bodies_fit (names1) (checked_of ms c.0 c.1 b.0.0 b.0.1).tree c.1 refl refl (subst (λ f. EachMeets (record names { faces = f }) c.1) same_faces fit.1);
        body = (optional_fits ms (within names1 [] []) c.0 scope declarations.max_nesting (statements_at ms c.0 declarations.max_nesting) (statements_fit ms (within names1 [] []) c.0 scope declarations.max_nesting) c.2 m.body b.0 b.1 (same b.0.1)).0;
      },
      record { variables = shown; procedures = headings_shown ms names base c.0.block (fit.0).3 },
      exports_solid c.0.block (each_map (EntryOf ms (within names [] []) base) SolidEntry (λ e x. outer_solid ms names base e (outer_of ms names [] [] base e x)) c.0.block (fit.0).3) ((fit.0).4).1,
    )
  where
    base : ℕ
    base = s.exported_count

    names : Names
    names = record { faces = faces_of ms (all_imported ms s.block); variables = b.0.1; procedures = c.1; parameters = []; own = [] }

    names1 : Names
    names1 = record { faces = faces_of ms (all_imported ms c.0.block); variables = b.0.1; procedures = c.1; parameters = []; own = [] }

    grown : Extends b.0.1 c.2
    grown = optional_grows ms c.0 declarations.max_nesting (statements_at ms c.0 declarations.max_nesting) (statements_grow ms c.0 declarations.max_nesting) c.2 m.body b.0 b.1

    extended : Extends b.0.1 (declared_variables s.block)
    extended = further b.0.1 c.2 (declared_variables s.block) grown
        (all_grow (procedure_at ms declarations.max_nesting) (counted declarations.max_nesting) (procedure_grows ms declarations.max_nesting) (s, [], declared_variables s.block) (out-Declarations m.declarations).procedures c h).0.1

    declared : StartsWith b.0.1 (declared_variables s.block)
    declared = begins_with b.0.1 (declared_variables s.block) extended

    few : VariablesFit b.0.1
    few = subst VariablesFit (sym extended.1)
        (variables_join (declared_variables s.block) extended.0
        (variables_join (exported_variables s.block) (own_variables s.block) (exported_few s.block (g.2).4) (own_few s.block (g.2).4)) extended.2)

    begun : EachEntry (EntryOf ms (within names [] []) base) s.block
    begun = each_map (ModuleEntry ms (exported_variables s.block) (own_variables s.block) (faces_of ms (all_imported ms s.block))) (EntryOf ms (within names [] []) base)
        (λ e x. entry_kept ms names base s.block e ((g.2).0) declared x) s.block
        ((g.2).3 (exported_variables s.block) (own_variables s.block) (faces_of ms (all_imported ms s.block)) (same (exported_variables s.block)) (same (own_variables s.block)) (same (faces_of ms (all_imported ms s.block))))

    fit : At ms loaded names base (λ e. EntryOf ms (within names [] []) base e) (λ ds. (all_imported ms ds ≡ all_imported ms s.block) × EachAligned ds × (exported_variables ds ≡ exported_variables s.block)) [] [] c × EachMeets names c.1
    fit = all_fit ms loaded names base (procedure_at ms declarations.max_nesting) (counted declarations.max_nesting) (procedure_grows ms declarations.max_nesting) (procedure_fits ms loaded names base declarations.max_nesting)
        (λ e. EntryOf ms (within names [] []) base e) (λ p n e. e) (λ e x. outer_of ms names [] [] base e x)
        (λ ds. (all_imported ms ds ≡ all_imported ms s.block) × EachAligned ds × (exported_variables ds ≡ exported_variables s.block))
        (λ ds nm mk p n r. (
          imports_more ms ds (record { name = nm; exported = mk; entry = entry.Procedure p n }) ∙ joined_none (all_imported ms ds) ∙ r.0,
          aligned_more ds (record { name = nm; exported = mk; entry = entry.Procedure p n }) r.1 tt,
          exported_more ds (record { name = nm; exported = mk; entry = entry.Procedure p n }) ∙ joined_none (exported_variables ds) ∙ r.2,
        ))
        [] [] tt (s, [], declared_variables s.block) (out-Declarations m.declarations).procedures c h (same c.1) (begins_with b.0.1 c.2 grown) (g.0, g.1, refl, begun, (refl, (g.2).4, refl)) tt

    same_faces : faces_of ms (all_imported ms s.block) ≡ faces_of ms (all_imported ms c.0.block)
    same_faces = ap (faces_of ms) (sym ((fit.0).4).0)

    shown : StartWith (variable_shapes (exports_of c.0.block)) b.0.1
    shown = subst (StartWith (variable_shapes (exports_of c.0.block)))
        (sym (declared.1 ∙ joined_thrice (exported_variables s.block) (own_variables s.block) declared.0
        ∙ ap (λ l. l ++ (own_variables s.block ++ declared.0)) (sym ((fit.0).4).2 ∙ variables_shown c.0.block ((fit.0).4).1)))
        (begins (variable_shapes (exports_of c.0.block)) (own_variables s.block ++ declared.0))

    scope0 : ScopeFits ms (within names [] []) c.0
    scope0 = scope_fits ms names [] [] c.0 loaded
        (subst (λ x. EachEntry (EntryOf ms (within names [] []) x) c.0.block) (sym (fit.0).2) (fit.0).3)
        (subst (EachBlock (OuterOf ms names c.0.exported_count)) (sym (fit.0).0) tt)

    scope : ScopeFits ms (within names1 [] []) c.0
    scope = subst (λ f. ScopeFits ms (record { faces = f; variables = b.0.1; procedures = c.1; parameters = []; own = [] }) c.0) same_faces scope0

-- the tree that the static rules give, its interface and what it exports
each_formed : (ms : Modules) (m : Module) (c : CheckedTree) → EachSolid ms → gives (module_at ms m) c → IsFormed (faces_of ms c.imports) c.tree × IsFaceOf (face_of_interface c.interface) c.tree × ExportsSolid c.interface.exports
unfolding module_at checked_rule procedures_rule
each_formed ms m c loaded h = checked_fits ms loaded h.0 m (h.2).0 c (declared_fits ms loaded m h.0 h.1) (h.2).1 (h.2).2

pub each_checked : EachCheckedFits
each_checked ms m c loaded h =
    let k = each_formed ms m c loaded h in
    (well_formed (faces_of ms c.imports) c.tree k.0, k.1, k.2)

pub each_tree_agrees : EachTreeAgrees
each_tree_agrees shapes says ms m c loaded h = types_agree shapes says (faces_of ms c.imports) c.tree (each_formed ms m c loaded h).0
