-- What names stand for fits, where the scope does.
use Rattle.std.proofs.Common.{◌≡◌, inl, ℕ, suc, Bool, true, false, cond, List, [], ◌∷◌, Option, Some, None, slice_get, option_map, refl, ap, ◌∙◌, subst}
use Rattle.std.specs.Str.{bytes_eq}
use Rattle.ob_check_scope.specs.declared.rule.RuleCode.TheVariants as code
use Rattle.ob_tree.specs.declared.tree.Designator.{Designator as Written, out-Designator}
use Rattle.ob_tree.specs.declared.tree.Selector.{Selector, out-Selector}
use Rattle.ob_tree.specs.declared.tree.Factor.TheOpen.{Selector-F}
use Rattle.ob_types.specs.declared.exports.Exported.{Exported}
use Rattle.ob_types.specs.declared.exports.Object.{Object}
use Rattle.ob_types.specs.declared.exports.Object.TheVariants as object
use Rattle.ob_types.specs.declared.exports.Signature.{Signature}
use Rattle.ob_types.specs.declared.structure.ObType.{ObType}
use Rattle.ob_mean.specs.declared.expression.Callee.TheVariants as callee
use Rattle.ob_mean.specs.WellFormed.{Names, Of, called, variable_object, is_told_variable, face_object, face_heading, shape_object}
use Rattle.ob_check_scope.specs.declared.block.Entry.{Entry}
use Rattle.ob_check_scope.specs.declared.block.Entry.TheVariants as entry
use Rattle.ob_check_scope.specs.declared.predeclared.InputName.{InputName}
use Rattle.ob_check_scope.specs.declared.predeclared.InputName.TheVariants as input
use Rattle.ob_check_scope.specs.declared.predeclared.OutputName.{OutputName}
use Rattle.ob_check_scope.specs.declared.predeclared.OutputName.TheVariants as output
use Rattle.ob_check_scope.specs.declared.predeclared.Predeclared.{Predeclared}
use Rattle.ob_check_scope.specs.declared.predeclared.Predeclared.TheVariants as predeclared
use Rattle.ob_check_scope.specs.declared.scope.Scope.{Scope}
use Rattle.ob_check_const.specs.Constants.{SelectorLayer}
use Rattle.ob_check_scope.specs.Exports.{Modules, exported_in, variables_in, procedures_in}
use Rattle.ob_check_scope.specs.Imports.{exported_at, exported_by, variable_number, procedure_number, or_zero}
use Rattle.ob_check_scope.specs.LoadedTree.{LoadedTree}
use Rattle.ob_check_scope.specs.Names.{place_in}
use Rattle.ob_check_scope.specs.Predeclared.{absent, input_named, output_named}
use Rattle.ob_check_scope.specs.Rule.{gives}
use Rattle.ob_check_scope.specs.Scope.{seen, outer}
use Rattle.ob_check_operand.specs.Named.{Meant, Callable, Writable}
use Rattle.ob_check_operand.specs.Named as meaning
use Rattle.ob_check_operand.specs.Names.{input_read, output_read, object_read, member_read_layer, member_read, input_member_layer, output_member_layer, input_member, output_member, entry_read, read_at, no_variable, entry_written, written_at, predeclared_called, whole, input_called, output_called, object_called, member_called_layer, member_called, input_call_layer, output_call_layer, input_call, output_call, entry_called, name_called, called_at}
use Rattle.ob_check_kinds.specs.Shapes.{shape_of}
use Rattle.ob_check_laws.specs.Fitting.{Suits, TellsRight, EntryFits, ScopeFits, loaded_face, heading_of, variable_shapes, procedure_headings}
use Rattle.ob_types.specs.Solid.{IsSolid, ObjectSolid}
use Rattle.ob_check_laws.specs.Solid.{LoadedSolid}
use Rattle.ob_check_laws.proofs.Rules.{there_is}
use Rattle.ob_check_laws.proofs.Solid.{object_solid}
use Rattle.ob_check_laws.proofs.Suiting.{nothing, some_same}

-- ---- what is imported

abbrev VariableAt : List Exported → List ℕ → ObType → Type 0
VariableAt es name t = (k : ℕ) × (place_in (variables_in es) name ≡ Some k) × (slice_get (variable_shapes es) k ≡ Some (shape_of t))

abbrev ProcedureAt : List Exported → List ℕ → Signature → Type 0
ProcedureAt es name s = (k : ℕ) × (place_in (procedures_in es) name ≡ Some k) × (slice_get (procedure_headings es) k ≡ Some (heading_of s))

variable_here : (name own : List ℕ) (o : Object) (es : List Exported) (t : ObType) (b : Bool) → bytes_eq own name ≡ b → cond b (Some o) (exported_in es name) ≡ Some (object.Variable t) → (exported_in es name ≡ Some (object.Variable t) → VariableAt es name t) → VariableAt (record { name = own; object = o } ∷ es) name t
variable_here name own (object.Variable u) es t true e h g =
    (0, ap (λ b. cond b (Some 0) (option_map suc (place_in (variables_in es) name))) e, ap (λ x. Some (shape_of x)) (type_in (some_same _ _ h)))
  where
    type_in : object.Variable u ≡ object.Variable t → u ≡ t
    type_in k = cc
variable_here name own (object.Constant c) es t true e h g = absurd (let k : object.Constant c ≡ object.Variable t = some_same _ _ h in cc)
variable_here name own (object.TypeName c) es t true e h g = absurd (let k : object.TypeName c ≡ object.Variable t = some_same _ _ h in cc)
variable_here name own (object.Procedure c) es t true e h g = absurd (let k : object.Procedure c ≡ object.Variable t = some_same _ _ h in cc)
variable_here name own (object.Variable u) es t false e h g =
    let k = g h in (suc k.0, ap (λ b. cond b (Some 0) (option_map suc (place_in (variables_in es) name))) e ∙ ap (option_map suc) k.1, k.2)
variable_here name own (object.Constant c) es t false e h g = g h
variable_here name own (object.TypeName c) es t false e h g = g h
variable_here name own (object.Procedure c) es t false e h g = g h

variable_at : (es : List Exported) (name : List ℕ) (t : ObType) → exported_in es name ≡ Some (object.Variable t) → VariableAt es name t
variable_at [] name t h = nothing _ h
variable_at (e ∷ es) name t h = variable_here name e.name e.object es t (bytes_eq e.name name) refl h (variable_at es name t)

procedure_here : (name own : List ℕ) (o : Object) (es : List Exported) (t : Signature) (b : Bool) → bytes_eq own name ≡ b → cond b (Some o) (exported_in es name) ≡ Some (object.Procedure t) → (exported_in es name ≡ Some (object.Procedure t) → ProcedureAt es name t) → ProcedureAt (record { name = own; object = o } ∷ es) name t
procedure_here name own (object.Procedure u) es t true e h g =
    (0, ap (λ b. cond b (Some 0) (option_map suc (place_in (procedures_in es) name))) e, ap (λ x. Some (heading_of x)) (type_in (some_same _ _ h)))
  where
    type_in : object.Procedure u ≡ object.Procedure t → u ≡ t
    type_in k = cc
procedure_here name own (object.Constant c) es t true e h g = absurd (let k : object.Constant c ≡ object.Procedure t = some_same _ _ h in cc)
procedure_here name own (object.TypeName c) es t true e h g = absurd (let k : object.TypeName c ≡ object.Procedure t = some_same _ _ h in cc)
procedure_here name own (object.Variable c) es t true e h g = absurd (let k : object.Variable c ≡ object.Procedure t = some_same _ _ h in cc)
procedure_here name own (object.Procedure u) es t false e h g =
    let k = g h in (suc k.0, ap (λ b. cond b (Some 0) (option_map suc (place_in (procedures_in es) name))) e ∙ ap (option_map suc) k.1, k.2)
procedure_here name own (object.Constant c) es t false e h g = g h
procedure_here name own (object.TypeName c) es t false e h g = g h
procedure_here name own (object.Variable c) es t false e h g = g h

procedure_at : (es : List Exported) (name : List ℕ) (t : Signature) → exported_in es name ≡ Some (object.Procedure t) → ProcedureAt es name t
procedure_at [] name t h = nothing _ h
procedure_at (e ∷ es) name t h = procedure_here name e.name e.object es t (bytes_eq e.name name) refl h (procedure_at es name t)

imported_variable : (ms : Modules) (place : ℕ) (name : List ℕ) (t : ObType) → exported_at ms place name ≡ Some (object.Variable t) → face_object (loaded_face (slice_get ms place)) (variable_number ms place name) ≡ Some (Of (shape_of t))
unfolding exported_at variable_number
imported_variable ms place name t h = by (slice_get ms place) h
  where
    by : (m : Option LoadedTree) → exported_by m name ≡ Some (object.Variable t) → face_object (loaded_face m) (Rattle.ob_check_scope.specs.Imports.variable_by m name) ≡ Some (Of (shape_of t))
    by None e = nothing _ e
    by (Some m) e =
        let k = variable_at m.interface.exports name t e in
        ap (λ o. shape_object (slice_get (variable_shapes m.interface.exports) (or_zero o))) k.1 ∙ ap shape_object k.2

imported_procedure : (ms : Modules) (place : ℕ) (name : List ℕ) (t : Signature) → exported_at ms place name ≡ Some (object.Procedure t) → face_heading (loaded_face (slice_get ms place)) (procedure_number ms place name) ≡ Some (heading_of t)
unfolding exported_at procedure_number
imported_procedure ms place name t h = by (slice_get ms place) h
  where
    by : (m : Option LoadedTree) → exported_by m name ≡ Some (object.Procedure t) → face_heading (loaded_face m) (Rattle.ob_check_scope.specs.Imports.procedure_by m name) ≡ Some (heading_of t)
    by None e = nothing _ e
    by (Some m) e =
        let k = procedure_at m.interface.exports name t e in
        ap (λ o. slice_get (procedure_headings m.interface.exports) (or_zero o)) k.1 ∙ k.2

-- ---- names that are read

abbrev pub MeantFits : Names → Meant → Type 0
MeantFits names (meaning.Constant c) = Unit {0}
MeantFits names meaning.InputDone = Unit {0}
MeantFits names (meaning.Variable t v told xs) = Suits t (variable_object names v) × IsSolid t × TellsRight t told (is_told_variable names v)

input_read_fits : (names : Names) (i : InputName) (xs : List Selector) (m : Meant) → gives (input_read i xs) m → MeantFits names m
unfolding input_read
input_read_fits names input.Done [] m h = subst (MeantFits names) h tt
input_read_fits names i xs m h = absurd h

output_read_fits : (names : Names) (o : OutputName) (m : Meant) → gives (output_read o) m → MeantFits names m
unfolding output_read
output_read_fits names output.Unknown m h = absurd h
output_read_fits names o m h = absurd h

object_read_fits : (names : Names) (i number : ℕ) (o : Object) (xs : List Selector) (m : Meant) → ((t : ObType) → o ≡ object.Variable t → face_object (slice_get names.faces i) number ≡ Some (Of (shape_of t))) → ObjectSolid o → gives (object_read i number o xs) m → MeantFits names m
unfolding object_read
object_read_fits names i number (object.Constant c) [] m g k h = subst (MeantFits names) h tt
object_read_fits names i number (object.Constant c) (x ∷ xs) m g k h = absurd h
object_read_fits names i number (object.Variable t) xs m g k h = subst (MeantFits names) h (inl (g t refl), k.0, λ r. refl)
object_read_fits names i number (object.TypeName t) xs m g k h = absurd h
object_read_fits names i number (object.Procedure p) xs m g k h = absurd h

member_layer_fits : (ms : Modules) (names : Names) (i place : ℕ) (l : SelectorLayer) (xs : List Selector) (m : Meant) → slice_get names.faces i ≡ loaded_face (slice_get ms place) → LoadedSolid (slice_get ms place) → gives (member_read_layer ms i place l xs) m → MeantFits names m
member_layer_fits ms names i place (Selector-F.Field f) xs m e s h =
    object_read_fits names i (variable_number ms place f.name) h.0 xs m
    (λ t k. ap (λ o. face_object o (variable_number ms place f.name)) e ∙ imported_variable ms place f.name t (there_is (exported_at ms place f.name) code.NotExported h.0 h.1 ∙ ap Some k))
    (object_solid ms place f.name h.0 s (there_is (exported_at ms place f.name) code.NotExported h.0 h.1)) h.2
member_layer_fits ms names i place (Selector-F.Index es) xs m e s h = absurd h
member_layer_fits ms names i place (Selector-F.Guard q) xs m e s h = absurd h

input_layer_fits : (names : Names) (l : SelectorLayer) (xs : List Selector) (m : Meant) → gives (input_member_layer l xs) m → MeantFits names m
input_layer_fits names (Selector-F.Field f) xs m h = input_read_fits names (input_named f.name) xs m h
input_layer_fits names (Selector-F.Index es) xs m h = absurd h
input_layer_fits names (Selector-F.Guard q) xs m h = absurd h

output_layer_fits : (names : Names) (l : SelectorLayer) (m : Meant) → gives (output_member_layer l) m → MeantFits names m
output_layer_fits names (Selector-F.Field f) m h = output_read_fits names (output_named f.name) m h
output_layer_fits names (Selector-F.Index es) m h = absurd h
output_layer_fits names (Selector-F.Guard q) m h = absurd h

entry_read_fits : (ms : Modules) (names : Names) (s : Scope) (e : Entry) (xs : List Selector) (m : Meant) → EntryFits ms names s e → gives (entry_read ms s e xs) m → MeantFits names m
unfolding entry_read member_read input_member output_member
entry_read_fits ms names s (entry.Constant c) [] m g h = subst (MeantFits names) h tt
entry_read_fits ms names s (entry.Constant c) (x ∷ xs) m g h = absurd h
entry_read_fits ms names s (entry.Variable t v) xs m g h = subst (MeantFits names) h g
entry_read_fits ms names s (entry.TypeName t) xs m g h = absurd h
entry_read_fits ms names s (entry.Procedure p n) xs m g h = absurd h
entry_read_fits ms names s entry.In [] m g h = absurd h
entry_read_fits ms names s entry.In (x ∷ xs) m g h = input_layer_fits names (out-Selector x) xs m h
entry_read_fits ms names s entry.Out [] m g h = absurd h
entry_read_fits ms names s entry.Out (x ∷ xs) m g h = output_layer_fits names (out-Selector x) m h
entry_read_fits ms names s (entry.Module i place) [] m g h = absurd h
entry_read_fits ms names s (entry.Module i place) (x ∷ xs) m g h = member_layer_fits ms names i place (out-Selector x) xs m g.0 g.1 h

pub read_fits : (ms : Modules) (names : Names) (s : Scope) (d : Written) (m : Meant) → ScopeFits ms names s → gives (read_at ms s d) m → MeantFits names m
unfolding read_at
read_fits ms names s d m f h =
    entry_read_fits ms names s h.0 (out-Designator d).selectors m
    (f (out-Designator d).name.name h.0 (there_is (seen s (out-Designator d).name.name) (absent (outer s (out-Designator d).name.name)) h.0 h.1)) h.2

-- ---- names that are written

abbrev pub WritableFits : Names → Writable → Type 0
WritableFits names w = Suits w.0 (variable_object names w.1) × IsSolid w.0 × TellsRight w.0 w.2 (is_told_variable names w.1)

entry_written_fits : (ms : Modules) (names : Names) (s : Scope) (e : Entry) (xs : List Selector) (w : Writable) → EntryFits ms names s e → gives (entry_written ms s e xs) w → WritableFits names w
unfolding entry_written
entry_written_fits ms names s (entry.Variable t v) xs w g h = subst (WritableFits names) h.1 g
entry_written_fits ms names s (entry.Constant c) xs w g h = absurd h
entry_written_fits ms names s (entry.TypeName t) xs w g h = absurd h
entry_written_fits ms names s (entry.Procedure p n) xs w g h = absurd h
entry_written_fits ms names s entry.In [] w g h = absurd h
entry_written_fits ms names s entry.In (x ∷ xs) w g h = absurd h
entry_written_fits ms names s entry.Out [] w g h = absurd h
entry_written_fits ms names s entry.Out (x ∷ xs) w g h = absurd h
entry_written_fits ms names s (entry.Module i place) [] w g h = absurd h
entry_written_fits ms names s (entry.Module i place) (x ∷ xs) w g h = absurd h

pub written_fits : (ms : Modules) (names : Names) (s : Scope) (d : Written) (w : Writable) → ScopeFits ms names s → gives (written_at ms s d) w → WritableFits names w
unfolding written_at
written_fits ms names s d w f h =
    entry_written_fits ms names s h.0 (out-Designator d).selectors w
    (f (out-Designator d).name.name h.0 (there_is (seen s (out-Designator d).name.name) (no_variable (outer s (out-Designator d).name.name)) h.0 h.1)) h.2

-- ---- names that are called

abbrev pub CallableFits : Names → Callable → Type 0
CallableFits names (meaning.Procedure p f) = called names f ≡ Some (heading_of p)
CallableFits names (meaning.Function f) = Unit {0}
CallableFits names (meaning.Proper p) = Unit {0}
CallableFits names (meaning.Input i) = Unit {0}
CallableFits names (meaning.Output o) = Unit {0}

predeclared_fits : (names : Names) (p : Predeclared) (xs : List Selector) (c : Callable) → gives (predeclared_called p xs) c → CallableFits names c
unfolding predeclared_called
predeclared_fits names (predeclared.Function f) [] c h = subst (CallableFits names) h tt
predeclared_fits names (predeclared.Procedure f) [] c h = subst (CallableFits names) h tt
predeclared_fits names p xs c h = absurd h

whole_fits : (names : Names) (c : Callable) (xs : List Selector) (d : Callable) → gives (whole c xs) d → CallableFits names c → CallableFits names d
whole_fits names c [] d h g = subst (CallableFits names) h g
whole_fits names c (x ∷ xs) d h g = absurd h

input_called_fits : (names : Names) (i : InputName) (xs : List Selector) (c : Callable) → gives (input_called i xs) c → CallableFits names c
unfolding input_called
input_called_fits names input.Unknown xs c h = absurd h
input_called_fits names input.Done xs c h = absurd h
input_called_fits names i xs c h = whole_fits names (meaning.Input i) xs c h tt

output_called_fits : (names : Names) (o : OutputName) (xs : List Selector) (c : Callable) → gives (output_called o xs) c → CallableFits names c
unfolding output_called
output_called_fits names output.Unknown xs c h = absurd h
output_called_fits names o xs c h = whole_fits names (meaning.Output o) xs c h tt

object_called_fits : (names : Names) (i number : ℕ) (o : Object) (xs : List Selector) (c : Callable) → ((p : Signature) → o ≡ object.Procedure p → face_heading (slice_get names.faces i) number ≡ Some (heading_of p)) → gives (object_called i number o xs) c → CallableFits names c
unfolding object_called
object_called_fits names i number (object.Procedure p) xs c g h = whole_fits names (meaning.Procedure p (callee.OfImport i number)) xs c h (g p refl)
object_called_fits names i number (object.Constant k) xs c g h = absurd h
object_called_fits names i number (object.Variable t) xs c g h = absurd h
object_called_fits names i number (object.TypeName t) xs c g h = absurd h

member_called_fits : (ms : Modules) (names : Names) (i place : ℕ) (l : SelectorLayer) (xs : List Selector) (c : Callable) → slice_get names.faces i ≡ loaded_face (slice_get ms place) → gives (member_called_layer ms i place l xs) c → CallableFits names c
member_called_fits ms names i place (Selector-F.Field f) xs c e h =
    object_called_fits names i (procedure_number ms place f.name) h.0 xs c
    (λ p k. ap (λ o. face_heading o (procedure_number ms place f.name)) e ∙ imported_procedure ms place f.name p (there_is (exported_at ms place f.name) code.NotExported h.0 h.1 ∙ ap Some k)) h.2
member_called_fits ms names i place (Selector-F.Index es) xs c e h = absurd h
member_called_fits ms names i place (Selector-F.Guard q) xs c e h = absurd h

input_call_fits : (names : Names) (l : SelectorLayer) (xs : List Selector) (c : Callable) → gives (input_call_layer l xs) c → CallableFits names c
input_call_fits names (Selector-F.Field f) xs c h = input_called_fits names (input_named f.name) xs c h
input_call_fits names (Selector-F.Index es) xs c h = absurd h
input_call_fits names (Selector-F.Guard q) xs c h = absurd h

output_call_fits : (names : Names) (l : SelectorLayer) (xs : List Selector) (c : Callable) → gives (output_call_layer l xs) c → CallableFits names c
output_call_fits names (Selector-F.Field f) xs c h = output_called_fits names (output_named f.name) xs c h
output_call_fits names (Selector-F.Index es) xs c h = absurd h
output_call_fits names (Selector-F.Guard q) xs c h = absurd h

entry_called_fits : (ms : Modules) (names : Names) (s : Scope) (e : Entry) (xs : List Selector) (c : Callable) → EntryFits ms names s e → gives (entry_called ms e xs) c → CallableFits names c
unfolding entry_called member_called input_call output_call
entry_called_fits ms names s (entry.Procedure p n) [] c g h = subst (CallableFits names) h g
entry_called_fits ms names s (entry.Module i place) (x ∷ xs) c g h = member_called_fits ms names i place (out-Selector x) xs c g.0 h
entry_called_fits ms names s entry.In (x ∷ xs) c g h = input_call_fits names (out-Selector x) xs c h
entry_called_fits ms names s entry.Out (x ∷ xs) c g h = output_call_fits names (out-Selector x) xs c h
entry_called_fits ms names s e xs c g h = absurd h

name_called_fits : (ms : Modules) (names : Names) (s : Scope) (o : Option Entry) (p : Predeclared) (xs : List Selector) (c : Callable) → ((e : Entry) → o ≡ Some e → EntryFits ms names s e) → gives (name_called ms o p xs) c → CallableFits names c
unfolding name_called
name_called_fits ms names s None p xs c g h = predeclared_fits names p xs c h
name_called_fits ms names s (Some e) p xs c g h = entry_called_fits ms names s e xs c (g e refl) h

pub called_fits : (ms : Modules) (names : Names) (s : Scope) (d : Written) (c : Callable) → ScopeFits ms names s → gives (called_at ms s d) c → CallableFits names c
unfolding called_at
called_fits ms names s d c f h =
    name_called_fits ms names s (seen s (out-Designator d).name.name) (outer s (out-Designator d).name.name) (out-Designator d).selectors c (f (out-Designator d).name.name) h
