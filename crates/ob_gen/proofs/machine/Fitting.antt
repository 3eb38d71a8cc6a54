-- The code of a well-formed tree is valid.
use Rattle.std.proofs.Common.{◌≡◌, ℕ, zero, suc, ◌+◌, ◌-◌, ◌<◌, ◌≤◌, pos, List, [], ◌∷◌, ◌++◌, length, Option, Some, None, true, refl, sym, ap, ◌∙◌, subst, arith, append-nil}
use Rattle.std.specs.Prelude.{slice_get, option_map}
use Rattle.std.proofs.lemmas.Option.{slice_get-map}
use Rattle.ob_mean.specs.declared.expression.Variable.{Variable}
use Rattle.ob_mean.specs.declared.expression.Variable.TheVariants as variable
use Rattle.ob_mean.specs.declared.expression.Callee.{Callee}
use Rattle.ob_mean.specs.declared.expression.Callee.TheVariants as callee
use Rattle.ob_mean.specs.declared.expression.TypedExpr.{TypedExpr, Row_of-TypedExpr, end_of-TypedExpr, more_of-TypedExpr}
use Rattle.ob_mean.specs.declared.expression.TypedExpr.TheVariants as expr
use Rattle.ob_mean.specs.declared.expression.Designator.{Designator, end_of-Designator, more_of-Designator}
use Rattle.ob_mean.specs.declared.expression.Designator.TheVariants as designator
use Rattle.ob_mean.specs.declared.expression.Argument.{Argument}
use Rattle.ob_mean.specs.declared.expression.Argument.TheVariants as argument
use Rattle.ob_mean.specs.declared.expression.Argument.TheBlock.{Row_of-Argument, end_of-Argument, more_of-Argument, Row_of-Operation, end_of-Operation, more_of-Operation}
use Rattle.ob_mean.specs.declared.operator.Operator.TheVariants.{Plus, Compare}
use Rattle.ob_mean.specs.declared.shape.Shape.{Shape}
use Rattle.ob_mean.specs.declared.shape.Shape.TheVariants.{Basic}
use Rattle.ob_mean.specs.declared.face.Face.{Face}
use Rattle.ob_mean.specs.declared.face.Heading.{Heading}
use Rattle.ob_mean.specs.declared.module.Parameter.{Parameter}
use Rattle.ob_mean.specs.declared.module.Parameter.TheVariants as parameter
use Rattle.ob_mean.specs.declared.module.TypedProcedure.{TypedProcedure}
use Rattle.ob_mean.specs.declared.module.TypedModule.{TypedModule}
use Rattle.ob_mean.specs.declared.statement.Action.{Action}
use Rattle.ob_mean.specs.declared.statement.Action.TheVariants as action
use Rattle.ob_mean.specs.declared.statement.Reader.{Reader}
use Rattle.ob_mean.specs.declared.statement.Reader.TheVariants as reader
use Rattle.ob_mean.specs.declared.statement.InputCall.{InputCall}
use Rattle.ob_mean.specs.declared.statement.InputCall.TheVariants as incoming
use Rattle.ob_mean.specs.declared.statement.OutputCall.{OutputCall}
use Rattle.ob_mean.specs.declared.statement.OutputCall.TheVariants as outgoing
use Rattle.ob_mean.specs.declared.statement.ForHead.{ForHead}
use Rattle.ob_mean.specs.declared.statement.TypedStatement.{TypedStatement, Row_of-TypedStatement, end_of-TypedStatement, more_of-TypedStatement}
use Rattle.ob_mean.specs.declared.statement.TypedStatement.TheBlock.{Row_of-Branch, end_of-Branch, more_of-Branch, Row_of-CaseArm, end_of-CaseArm, more_of-CaseArm}
use Rattle.ob_mean.specs.declared.statement.TypedStatement.TheVariants.{Simple, If', Case', While', Repeat', For'}
use Rattle.ob_mean.specs.declared.outcome.TrapKind.TheVariants as trap
use Rattle.ob_mean.specs.Values.{before, size}
use Rattle.ob_mean.specs.Shapes.{zeros, opening_row}
use Rattle.ob_mean.specs.WellFormed.{face_object, Object, Of, OpenOf, Names, is_there, object_of, variable_object, named_object, is_told, elements_in, called, heading_of, face_heading, IsBasic, IsText, ExprFits, ExprsFit, OperationsFit, IndexesFit, IsPassed, RowPassed, ListPassed, IsRead, InputFits, OutputFits, ActionFits, HeadFits, StatFits, StatsFit, BranchesFit, ArmsFit, ListFits, ResultFits, names_in, names_of, ProceduresFit, AllBelow, IsWellFormed}
use Rattle.ob_code.specs.declared.instr.Instr.{Instr}
use Rattle.ob_code.specs.declared.instr.Instr.TheVariants as instr
use Rattle.ob_code.specs.declared.instr.Line.{Line}
use Rattle.ob_code.specs.declared.instr.Height.{Height}
use Rattle.ob_code.specs.declared.instr.Entries.{Entries}
use Rattle.ob_code.specs.declared.instr.Procedure.{Procedure}
use Rattle.ob_code.specs.declared.instr.CodeModule.{CodeModule}
use Rattle.ob_code.specs.Valid.{height, results, asks, RootFits, LengthFits, SpanFits, TargetFits, own_entry, known_entry, entry_of, Calls, Fits, ProcedureFits, IsBody, IsValid}
use Rattle.ob_code.proofs.machine.Laid.{entry_same}
use Rattle.ob_gen.specs.Code.{line, name_in, zero_in, parameter_row, own_row, face_row, named_one, named_before, root_of, root_in, name_number, length_in, length_of, span_of, element_cells, and_code, or_code, value_one, name_one, row_values, row_names, read_code, added_code, field_code, expr_code, offset_code, operations_code, every_code, either_code, argument_code, arguments_code, list_values, list_names, passed_code, target_of, input_code, output_code, assign_code, action_code, Guarded, loop_code, for_relation, for_guard, for_step, for_code, stat_code, stats_code, branches, arms_code, list_code, result_code, procedure_code}
use Rattle.ob_gen.specs.Correct.{named_count, name_kinds, parameter_count, IsCodeOf, AreCompiled}
use Rattle.ob_gen.specs.Generated.{valued_count, heading_entry, IsOfFace, AreOfFaces, most_operands, most_names, HasRoom, AllHaveRoom, IsGenerated}
use Rattle.ob_gen.proofs.machine.Store.{IsRow, size-append, before-within}
use Rattle.ob_gen.proofs.machine.Places.{shape_some, elements_some, open_named, told_object, told_root}
use Rattle.ob_gen.proofs.machine.Records.{some_same, field_some}
use Rattle.ob_gen.proofs.machine.Linked.{heading_found, compiled_at, body_compiled}
use Rattle.ob_gen.proofs.machine.Flows.{none, one, at, height_here, Flows, flows_none, flows_join, flows_to, flows_one, flows_then, becomes, flows_choice, AllFlow, first_flows, loop_flows, repeat_flows, arm_flows, whole_fits}

-- ---- what is passed

-- one that names something is counted
named_below : (ps : List Parameter) (x : ℕ) (o : Object) → named_object (slice_get ps x) ≡ Some o → named_before ps x < named_count ps
named_below [] x o e = absurd (let n : None ≡ Some o = e in cc)
named_below (parameter.Value ∷ ps) zero o e = absurd (let n : None ≡ Some o = e in cc)
named_below (parameter.Place t ∷ ps) zero o e = omega arith
named_below (parameter.Open t ∷ ps) zero o e = omega arith
named_below (parameter.Extended t ∷ ps) zero o e = omega arith
named_below (p ∷ ps) (suc x) o e = let h = named_below ps x o e in omega (arith, h)

one_of_each : (names : Names) (a : Argument) (p : Parameter) → IsPassed names a p → (value_one a + name_one a ≡ 1) × (name_one a ≡ named_one p)
one_of_each names (argument.Value e) parameter.Value h = (refl, refl)
one_of_each names (argument.Place d) (parameter.Place t) h = (refl, refl)
one_of_each names (argument.Open d) (parameter.Open t) h = (refl, refl)
one_of_each names (argument.Value e) (parameter.Place t) h = absurd h
one_of_each names (argument.Value e) (parameter.Open t) h = absurd h
one_of_each names (argument.Place d) parameter.Value h = absurd h
one_of_each names (argument.Place d) (parameter.Open t) h = absurd h
one_of_each names (argument.Open d) parameter.Value h = absurd h
one_of_each names (argument.Open d) (parameter.Place t) h = absurd h
one_of_each names (argument.Typed d kind levels) (parameter.Extended t) h = (refl, refl)
one_of_each names (argument.Again d levels) (parameter.Extended t) h = (refl, refl)
one_of_each names (argument.Value e) (parameter.Extended t) h = absurd h
one_of_each names (argument.Place d) (parameter.Extended t) h = absurd h
one_of_each names (argument.Open d) (parameter.Extended t) h = absurd h
one_of_each names (argument.Typed d kind levels) parameter.Value h = absurd h
one_of_each names (argument.Typed d kind levels) (parameter.Place t) h = absurd h
one_of_each names (argument.Typed d kind levels) (parameter.Open t) h = absurd h
one_of_each names (argument.Again d levels) parameter.Value h = absurd h
one_of_each names (argument.Again d levels) (parameter.Place t) h = absurd h
one_of_each names (argument.Again d levels) (parameter.Open t) h = absurd h

-- so many values and names are passed
pub row_counts : (names : Names) {k : _} (row : Row_of-Argument k) (ps : List Parameter) → RowPassed names row ps → (row_names row ≡ named_count ps) × (row_values row + row_names row ≡ parameter_count ps)
row_counts names end_of-Argument [] h = (refl, refl)
row_counts names end_of-Argument (p ∷ ps) h = absurd h
row_counts names (more_of-Argument a rest) [] h = absurd h
row_counts names (more_of-Argument a rest) (p ∷ ps) h =
    let i = one_of_each names a p h.0 in
    let r = row_counts names rest ps h.1 in
    (omega (arith, i.1, r.0), omega (arith, i.0, r.1))

pub list_counts : (names : Names) (args : List Argument) (ps : List Parameter) → ListPassed names args ps → (list_names args ≡ named_count ps) × (list_values args + list_names args ≡ parameter_count ps)
list_counts names [] [] h = (refl, refl)
list_counts names [] (p ∷ ps) h = absurd h
list_counts names (a ∷ rest) [] h = absurd h
list_counts names (a ∷ rest) (p ∷ ps) h =
    let i = one_of_each names a p h.0 in
    let r = list_counts names rest ps h.1 in
    (omega (arith, i.1, r.0), omega (arith, i.0, r.1))

pub valued : (ps : List Parameter) → valued_count ps + named_count ps ≡ parameter_count ps
valued [] = refl
valued (parameter.Value ∷ ps) = let h = valued ps in omega (arith, h)
valued (parameter.Place t ∷ ps) = let h = valued ps in omega (arith, h)
valued (parameter.Open t ∷ ps) = let h = valued ps in omega (arith, h)
valued (parameter.Extended t ∷ ps) = let h = valued ps in omega (arith, h)

-- the values have cells
pub parameters_row : (ps : List Parameter) → IsRow (parameter_row ps)
parameters_row [] = tt
parameters_row (p ∷ ps) = parameters_row ps

pub parameters_size : (ps : List Parameter) → size (parameter_row ps) + named_count ps ≡ parameter_count ps
parameters_size [] = refl
parameters_size (parameter.Value ∷ ps) = let h = parameters_size ps in omega (arith, h)
parameters_size (parameter.Place t ∷ ps) = let h = parameters_size ps in omega (arith, h)
parameters_size (parameter.Open t ∷ ps) = let h = parameters_size ps in omega (arith, h)
parameters_size (parameter.Extended t ∷ ps) = let h = parameters_size ps in omega (arith, h)

-- ---- room

-- there is more room than any line has operands or names before it
abbrev pub IsRoomy : Procedure → Type 0
IsRoomy g = (place : ℕ) (l : Line) → slice_get g.lines.items place ≡ Some l → (l.operands < g.operand_room) × (l.names < g.name_room)

below_most : (ls : List Line) (k : ℕ) (l : Line) → slice_get ls k ≡ Some l → (l.operands ≤ most_operands ls) × (l.names ≤ most_names ls)
below_most [] k l e = absurd (let n : None ≡ Some l = e in cc)
below_most (x ∷ ls) zero l e =
    let same = some_same x l e in
    let a = ap (λ (y : Line). y.operands) same in
    let b = ap (λ (y : Line). y.names) same in
    (grind (arith, a), grind (arith, b))
below_most (x ∷ ls) (suc k) l e =
    let h = below_most ls k l e in
    (grind (arith, h.0), grind (arith, h.1))

room_is : (g : Procedure) → HasRoom g → IsRoomy g
room_is g h place l e = let b = below_most g.lines.items place l e in (omega (arith, b.0, h.operands), omega (arith, b.1, h.names))

pub room_at : (gs : List Procedure) (p : ℕ) (g : Procedure) → AllHaveRoom gs → slice_get gs p ≡ Some g → IsRoomy g
room_at [] p g h e = absurd (let n : None ≡ Some g = e in cc)
room_at (x ∷ gs) zero g h e = room_is g (subst HasRoom (some_same x g e) h.0)
room_at (x ∷ gs) (suc p) g h e = room_at gs p g h.1 e

-- ---- what a procedure can name is in its module's code

pub record IsNamed (names : Names) (m : CodeModule) (f : Procedure) : Type 0 where
  pub variables : size (opening_row names.variables) ≤ m.cells
  pub own : size (own_row names) ≤ f.cells
  pub parameters : f.entry.names ≡ named_count names.parameters
  pub kinds : f.entry.kinds ≡ name_kinds names.parameters
  pub imports : (i : ℕ) (face : Face) → slice_get names.faces i ≡ Some face → (known : Entries) × (slice_get m.imports.items i ≡ Some known) × IsOfFace face known
  pub procedures : (p : ℕ) (g : TypedProcedure) → slice_get names.procedures p ≡ Some g → own_entry (slice_get m.procedures.items p) ≡ Some (heading_entry (heading_of g))
  pub rooms : IsRoomy f

-- a number that is pushed is above so many
low_operands : (f : Procedure) (pc : ℕ) (l : Line) → IsRoomy f → slice_get f.lines.items pc ≡ Some l → l.operands < f.operand_room
low_operands f pc l r e = (r pc l e).0

low_names : (f : Procedure) (pc : ℕ) (l : Line) → IsRoomy f → slice_get f.lines.items pc ≡ Some l → l.names < f.name_room
low_names f pc l r e = (r pc l e).1

module _ (names : Names) (m : CodeModule) (f : Procedure) (known : IsNamed names m f) where
  abbrev lines : List Line
  lines = f.lines.items

  abbrev Leads : List Line → Height → Height → Type 0
  Leads c x y = Flows m f lines c x y

  pub face_there : (o : Option Face) (x : ℕ) (b : Object) → face_object o x ≡ Some b → (face : Face) × (o ≡ Some face)
  face_there None x b e = absurd (let n : None ≡ Some b = e in cc)
  face_there (Some face) x b e = (face, refl)

  root_there : (v : Variable) (o : Object) → variable_object names v ≡ Some o → RootFits m f (root_of names v)
  root_there (variable.OfModule x) o e = let w = before-within (opening_row names.variables) x in omega (arith, w, known.variables)
  root_there (variable.OfImport i x) o e =
      let face = face_there (slice_get names.faces i) x o e in
      let import = known.imports i face.0 face.1 in
      let w = before-within (face_row (slice_get names.faces i)) x in
      let same : size (face_row (slice_get names.faces i)) ≡ size (zeros face.0.variables) = ap (λ o. size (face_row o)) face.1 in
      (import.0, import.1, omega (arith, w, same, import.2.cells))
  root_there (variable.OfProcedure x) o e = let w = before-within (own_row names) x in omega (arith, w, known.own)
  root_there (variable.ByParameter x) o e = let h = named_below names.parameters x o e in omega (arith, h, known.parameters)

  root_fits : (d : Designator) (o : Object) → IndexesFit names d → object_of names d ≡ Some o → RootFits m f (root_in names d)
  root_fits (designator.Whole v) o ty e = root_there v o e
  root_fits (designator.Element' g (more_of-Designator d end_of-Designator) l h (more_of-TypedExpr i end_of-TypedExpr)) o ty e =
      let t = shape_some (elements_in (object_of names d)) o e in
      let u = elements_some (object_of names d) t.0 t.1 in
      root_fits d u.0 ty.0 u.1
  root_fits (designator.Field' h (more_of-Designator d end_of-Designator) i) o ty e =
      let t = field_some (object_of names d) i o e in
      root_fits d (Of t.0) ty t.1
  root_fits (designator.Guarded' h (more_of-Designator d end_of-Designator) l kind levels) o ty e =
      let t = told_object names d ty.1 in
      root_fits d (Of t.0) ty.0 t.1

  -- the name that tells a type is one of a parameter
  name_there : (d : Designator) → IndexesFit names d → is_told names d ≡ true → name_in names d < f.entry.names
  name_there d ty t =
      let o = told_object names d t in
      subst (RootFits m f) (told_root names d t) (root_fits d (Of o.0) ty o.1)

  length_fits : (d : Designator) (o : Object) → IndexesFit names d → object_of names d ≡ Some o → LengthFits f (length_of names d)
  length_fits d (Of t) ty e = subst (λ o. LengthFits f (length_in o (root_in names d))) (sym e) tt
  length_fits d (OpenOf t) ty e =
      let x = open_named names d t e in
      subst (λ o. LengthFits f (length_in o (root_in names d))) (sym e)
      (subst (λ r. name_number r < f.entry.names) (sym x.1) (subst (RootFits m f) x.1 (root_fits d (OpenOf t) ty e)))

  span_fits : (d : Designator) (o : Object) → IndexesFit names d → object_of names d ≡ Some o → SpanFits m f (span_of names d)
  span_fits d o ty e = (root_fits d o ty e, length_fits d o ty e)

  text_object : (d : Designator) → IsText (object_of names d) → (o : Object) × (object_of names d ≡ Some o)
  text_object d e = elements_some (object_of names d) Basic e

  -- ---- calls

  heading_there : (o : Option Face) (x : ℕ) (h : Heading) → face_heading o x ≡ Some h → (face : Face) × (o ≡ Some face) × (slice_get face.procedures x ≡ Some h)
  heading_there None x h e = absurd (let n : None ≡ Some h = e in cc)
  heading_there (Some face) x h e = (face, refl, e)

  pub callee_entry : (g : Callee) (h : Heading) → called names g ≡ Some h → entry_of m g ≡ Some (heading_entry h)
  callee_entry (callee.OfModule p) h e =
      let t = heading_found (slice_get names.procedures p) h e in
      known.procedures p t.0 t.1 ∙ ap (λ x. Some (heading_entry x)) t.2
  callee_entry (callee.OfImport i place) h e =
      let face = heading_there (slice_get names.faces i) place h e in
      let import = known.imports i face.0 face.1 in
      ap (λ o. known_entry o place) import.1 ∙ ap (λ l. slice_get l place) import.2.exported ∙ slice_get-map heading_entry face.0.procedures place ∙ ap (option_map heading_entry) face.2

  -- a call with what it takes before it
  call_fits : (g : Callee) (h : Heading) (a b i j pc : ℕ) → called names g ≡ Some h → j ≡ named_count h.parameters → i + j ≡ parameter_count h.parameters → at m f lines (pc + 1) ≡ Some (height (a + results h.is_function) b) → Calls (entry_of m g) (a + i) (b + j) (at m f lines (pc + 1))
  call_fits g h a b i j pc e namings all behind =
      let values = valued h.parameters in
      let x : a + results h.is_function ≡ a + i - valued_count h.parameters + results h.is_function = omega (arith, namings, all, values) in
      let y : b ≡ b + j - named_count h.parameters = omega (arith, namings) in
      subst (λ o. Calls o (a + i) (b + j) (at m f lines (pc + 1))) (sym (callee_entry g h e))
      (omega (arith, namings, all, values), omega (arith, namings), behind ∙ ap (λ n. Some (height n b)) x ∙ ap (λ n. Some (height (a + i - valued_count h.parameters + results h.is_function) n)) y)

  -- ---- expressions

  push_leads : (i : Instr) (h k : ℕ) → ((pc : ℕ) → h < f.operand_room → at m f lines (pc + 1) ≡ Some (height (h + 1) k) → Fits m f lines pc h k i) → Leads (line h k i ∷ []) (height h k) (height (h + 1) k)
  push_leads i h k fit = flows_one m f lines (line h k i) (height h k) (height (h + 1) k) refl (λ pc e behind. fit pc (low_operands f pc (line h k i) known.rooms e) behind)

  value_leads : (n h k : ℕ) → Leads (line h k (instr.Push (pos n)) ∷ []) (height h k) (height (h + 1) k)
  value_leads n h k = push_leads (instr.Push (pos n)) h k (λ pc low behind. (low, behind))

  and_leads : (h k : ℕ) (a b : List Line) → Leads a (height h k) (height (h + 1) k) → Leads b (height h k) (height (h + 1) k) → Leads (and_code h k a b) (height h k) (height (h + 1) k)
  and_leads h k a b fa fb = flows_join m f lines a _ (height h k) (height (h + 1) k) (height (h + 1) k) fa (flows_choice m f lines h k (height (h + 1) k) b (line h k (instr.Push (pos 0)) ∷ []) fb (value_leads 0 h k))

  or_leads : (h k : ℕ) (a b : List Line) → Leads a (height h k) (height (h + 1) k) → Leads b (height h k) (height (h + 1) k) → Leads (or_code h k a b) (height h k) (height (h + 1) k)
  or_leads h k a b fa fb = flows_join m f lines a _ (height h k) (height (h + 1) k) (height (h + 1) k) fa (flows_choice m f lines h k (height (h + 1) k) (line h k (instr.Push (pos 1)) ∷ []) b (value_leads 1 h k) fb)

  -- an instruction that leaves as many operands
  same_leads : (c : List Line) (i : Instr) (h k : ℕ) → Leads c (height h k) (height (h + 1) k) → ((pc : ℕ) → 1 ≤ h + 1 → at m f lines (pc + 1) ≡ Some (height (h + 1) k) → Fits m f lines pc (h + 1) k i) → Leads (c ++ line (h + 1) k i ∷ []) (height h k) (height (h + 1) k)
  same_leads c i h k fc fit = flows_join m f lines c (line (h + 1) k i ∷ []) (height h k) (height (h + 1) k) (height (h + 1) k) fc
      (flows_one m f lines (line (h + 1) k i) (height (h + 1) k) (height (h + 1) k) refl (λ pc e behind. fit pc (omega arith) behind))

  -- so many cells on
  added_leads : (c : List Line) (n h k : ℕ) → Leads c (height h k) (height (h + 1) k) → Leads (c ++ added_code (h + 1) k n) (height h k) (height (h + 1) k)
  added_leads c zero h k fc = subst (λ l. Leads l (height h k) (height (h + 1) k)) (sym (append-nil c)) fc
  added_leads c (suc n) h k fc = same_leads c (instr.AddOffset (suc n)) h k fc (λ pc le behind. (le, behind))

  field_leads : (c : List Line) (d : Designator) (n h k : ℕ) → Leads c (height h k) (height (h + 1) k) → Leads (c ++ field_code (h + 1) k d n) (height h k) (height (h + 1) k)
  field_leads c (designator.Whole v) n h k fc = same_leads c (instr.AddOffset n) h k fc (λ pc le behind. (le, behind))
  field_leads c (designator.Element' g d l i row) n h k fc = added_leads c n h k fc
  field_leads c (designator.Field' g d i) n h k fc = added_leads c n h k fc
  field_leads c (designator.Guarded' g d l kind levels) n h k fc = added_leads c n h k fc

  -- an instruction that leaves one of two operands
  two_leads : (a b : List Line) (i : Instr) (h k : ℕ) → Leads a (height h k) (height (h + 1) k) → Leads b (height (h + 1) k) (height (h + 1 + 1) k) → ((pc : ℕ) → 2 ≤ h + 2 → at m f lines (pc + 1) ≡ Some (height (h + 2 - 1) k) → Fits m f lines pc (h + 2) k i) → Leads (a ++ (b ++ line (h + 2) k i ∷ [])) (height h k) (height (h + 1) k)
  two_leads a b i h k fa fb fit =
      let up : h + 2 ≡ h + 1 + 1 = omega arith in
      let down : h + 1 ≡ h + 2 - 1 = omega arith in
      flows_join m f lines a (b ++ line (h + 2) k i ∷ []) (height h k) (height (h + 1) k) (height (h + 1) k) fa
      (flows_join m f lines b (line (h + 2) k i ∷ []) (height (h + 1) k) (height (h + 1 + 1) k) (height (h + 1) k) fb
      (flows_one m f lines (line (h + 2) k i) (height (h + 1 + 1) k) (height (h + 1) k) (ap (λ n. height n k) up) (λ pc e behind. fit pc (omega arith) (becomes m f lines (pc + 1) (h + 1) (h + 2 - 1) k down behind))))

  -- the place that a name is for
  name_leads : (c : List Line) (i : Instr) (h k : ℕ) → Leads c (height h k) (height (h + 1) k) → ((pc : ℕ) → 1 ≤ h + 1 → k < f.name_room → at m f lines (pc + 1) ≡ Some (height (h + 1 - 1) (k + 1)) → Fits m f lines pc (h + 1) k i) → Leads (c ++ line (h + 1) k i ∷ []) (height h k) (height (h + 0) (k + 1))
  name_leads c i h k fc fit =
      let down : h + 0 ≡ h + 1 - 1 = omega arith in
      flows_join m f lines c (line (h + 1) k i ∷ []) (height h k) (height (h + 1) k) (height (h + 0) (k + 1)) fc
      (flows_one m f lines (line (h + 1) k i) (height (h + 1) k) (height (h + 0) (k + 1)) refl (λ pc e behind. fit pc (omega arith) (low_names f pc (line (h + 1) k i) known.rooms e) (becomes m f lines (pc + 1) (h + 0) (h + 1 - 1) (k + 1) down behind)))

  read_leads : (h k : ℕ) (d : Designator) (offset : List Line) → IndexesFit names d → IsBasic (object_of names d) → Leads offset (height h k) (height (h + 1) k) → Leads (read_code names h k d offset) (height h k) (height (h + 1) k)
  read_leads h k (designator.Whole v) offset ty basic fo = push_leads (instr.Load (root_of names v)) h k (λ pc low behind. (root_there v (Of Basic) basic, low, behind))
  read_leads h k (designator.Element' g (more_of-Designator d end_of-Designator) l i row) offset ty basic fo =
      same_leads offset (instr.LoadAt (root_in names d)) h k fo (λ pc le behind. (root_fits (designator.Element' g (more_of-Designator d end_of-Designator) l i row) (Of Basic) ty basic, le, behind))
  read_leads h k (designator.Field' g (more_of-Designator d end_of-Designator) i) offset ty basic fo =
      same_leads offset (instr.LoadAt (root_in names d)) h k fo (λ pc le behind. (root_fits (designator.Field' g (more_of-Designator d end_of-Designator) i) (Of Basic) ty basic, le, behind))
  read_leads h k (designator.Guarded' g (more_of-Designator d end_of-Designator) l kind levels) offset ty basic fo =
      same_leads offset (instr.LoadAt (root_in names d)) h k fo (λ pc le behind. (root_fits (designator.Guarded' g (more_of-Designator d end_of-Designator) l kind levels) (Of Basic) ty basic, le, behind))

  mutual
    expr_leads : (e : TypedExpr) (h k : ℕ) → ExprFits names e → Leads (expr_code names h k e) (height h k) (height (h + 1) k)
    expr_leads (expr.Constant v) h k fit = push_leads (instr.Push v) h k (λ pc low behind. (low, behind))
    expr_leads (expr.Read d) h k fit = read_leads h k d (offset_code names h k d) fit.0 fit.1 (offset_leads d h k fit.0 (Of Basic) fit.1)
    expr_leads expr.InputDone h k fit = push_leads instr.PushDone h k (λ pc low behind. (low, behind))
    expr_leads (expr.Unary' op l g (more_of-TypedExpr a end_of-TypedExpr)) h k fit = same_leads (expr_code names h k a) (instr.Unary op l) h k (expr_leads a h k fit) (λ pc le behind. (le, behind))
    expr_leads (expr.Chain' g (more_of-TypedExpr a end_of-TypedExpr) n steps) h k fit =
        flows_join m f lines (expr_code names h k a) (operations_code names h k steps) (height h k) (height (h + 1) k) (height (h + 1) k) (expr_leads a h k fit.0) (operations_leads steps h k fit.1)
    expr_leads (expr.Every' n es) h k fit = every_leads es h k fit
    expr_leads (expr.Either' n es) h k fit = either_leads es h k fit
    expr_leads (expr.Texts relation a b) h k fit =
        let x = text_object a fit.2 in
        let y = text_object b fit.3 in
        two_leads (offset_code names h k a) (offset_code names (h + 1) k b) (instr.RelateTexts relation (span_of names a) (span_of names b)) h k
        (offset_leads a h k fit.0 x.0 x.1) (offset_leads b (h + 1) k fit.1 y.0 y.1) (λ pc le behind. (span_fits a x.0 fit.0 x.1, span_fits b y.0 fit.1 y.1, le, behind))
    expr_leads (expr.Length d) h k fit =
        let x = elements_some (object_of names d) fit.1.0 fit.1.1 in
        same_leads (offset_code names h k d) (instr.TakeLength (length_of names d)) h k (offset_leads d h k fit.0 x.0 x.1) (λ pc le behind. (length_fits d x.0 fit.0 x.1, le, behind))
    expr_leads (expr.Function' g l n args) h k fit =
        let counts = row_counts names args fit.0.parameters fit.3 in
        let one_more : results fit.0.is_function ≡ 1 = ap results fit.2 in
        let all : row_values args + row_names args ≡ parameter_count fit.0.parameters = counts.1 in
        flows_join m f lines (arguments_code names h k args) _ (height h k) (height (h + row_values args) (k + row_names args)) (height (h + 1) k) (arguments_leads args fit.0.parameters h k fit.3)
        (flows_one m f lines (line (h + row_values args) (k + row_names args) (instr.Invoke g l)) (height (h + row_values args) (k + row_names args)) (height (h + 1) k) refl (λ pc e behind.
        call_fits g fit.0 h k (row_values args) (row_names args) pc fit.1 counts.0 all (behind ∙ ap (λ n. Some (height (h + n) k)) (sym one_more))))
    expr_leads (expr.Test d type) h k fit =
        let o = told_object names d fit.1 in
        same_leads (offset_code names h k d) (instr.Test (name_in names d) type) h k (offset_leads d h k fit.0 (Of o.0) o.1) (λ pc le behind. (name_there d fit.0 fit.1, le, behind))

    offset_leads : (d : Designator) (h k : ℕ) → IndexesFit names d → (o : Object) → object_of names d ≡ Some o → Leads (offset_code names h k d) (height h k) (height (h + 1) k)
    offset_leads (designator.Whole v) h k fit o e = value_leads 0 h k
    offset_leads (designator.Element' g (more_of-Designator d end_of-Designator) l i (more_of-TypedExpr index end_of-TypedExpr)) h k fit o e =
        let t = shape_some (elements_in (object_of names d)) o e in
        let u = elements_some (object_of names d) t.0 t.1 in
        two_leads (offset_code names h k d) (expr_code names (h + 1) k index) (instr.Index (length_of names d) (element_cells names d) l) h k
        (offset_leads d h k fit.0 u.0 u.1) (expr_leads index (h + 1) k fit.1) (λ pc le behind. (length_fits d u.0 fit.0 u.1, le, behind))
    offset_leads (designator.Field' g (more_of-Designator d end_of-Designator) i) h k fit o e =
        let t = field_some (object_of names d) i o e in
        field_leads (offset_code names h k d) d (before (zero_in (object_of names d)) i) h k (offset_leads d h k fit (Of t.0) t.1)
    offset_leads (designator.Guarded' g (more_of-Designator d end_of-Designator) l kind levels) h k fit o e =
        let t = told_object names d fit.1 in
        same_leads (offset_code names h k d) (instr.Guard (name_in names d) kind.names trap.Guard l) h k (offset_leads d h k fit.0 (Of t.0) t.1) (λ pc le behind. (name_there d fit.0 fit.1, le, behind))

    operations_leads : {n : _} (steps : Row_of-Operation n) (h k : ℕ) → OperationsFit names steps → Leads (operations_code names h k steps) (height (h + 1) k) (height (h + 1) k)
    operations_leads end_of-Operation h k fit = flows_none m f lines (height (h + 1) k)
    operations_leads (more_of-Operation op l e rest) h k fit =
        let up : h + 2 ≡ h + 1 + 1 = omega arith in
        let down : h + 1 ≡ h + 2 - 1 = omega arith in
        flows_join m f lines (expr_code names (h + 1) k e) _ (height (h + 1) k) (height (h + 1 + 1) k) (height (h + 1) k) (expr_leads e (h + 1) k fit.0)
        (flows_then m f lines (line (h + 2) k (instr.Operate op l)) (operations_code names h k rest) (height (h + 1 + 1) k) (height (h + 1) k) (height (h + 1) k) (ap (λ n. height n k) up) (λ pc at behind.
        (omega arith, becomes m f lines (pc + 1) (h + 1) (h + 2 - 1) k down behind)) (operations_leads rest h k fit.1))

    every_leads : {n : _} (es : Row_of-TypedExpr n) (h k : ℕ) → ExprsFit names es → Leads (every_code names h k es) (height h k) (height (h + 1) k)
    every_leads end_of-TypedExpr h k fit = value_leads 1 h k
    every_leads (more_of-TypedExpr e rest) h k fit = and_leads h k (expr_code names h k e) (every_code names h k rest) (expr_leads e h k fit.0) (every_leads rest h k fit.1)

    either_leads : {n : _} (es : Row_of-TypedExpr n) (h k : ℕ) → ExprsFit names es → Leads (either_code names h k es) (height h k) (height (h + 1) k)
    either_leads end_of-TypedExpr h k fit = value_leads 0 h k
    either_leads (more_of-TypedExpr e rest) h k fit = or_leads h k (expr_code names h k e) (either_code names h k rest) (expr_leads e h k fit.0) (either_leads rest h k fit.1)

    argument_leads : (a : Argument) (p : Parameter) (h k : ℕ) → IsPassed names a p → Leads (argument_code names h k a) (height h k) (height (h + value_one a) (k + name_one a))
    argument_leads (argument.Value e) parameter.Value h k fit =
        let none_more : k ≡ k + 0 = omega arith in
        flows_to m f lines (expr_code names h k e) (height h k) (height (h + 1) k) (height (h + 1) (k + 0)) (ap (λ n. height (h + 1) n) none_more) (expr_leads e h k fit)
    argument_leads (argument.Place d) (parameter.Place t) h k fit =
        name_leads (offset_code names h k d) _ h k (offset_leads d h k fit.0 (Of t) fit.1) (λ pc le low behind. (root_fits d (Of t) fit.0 fit.1, le, low, behind))
    argument_leads (argument.Open d) (parameter.Open t) h k fit =
        let x = elements_some (object_of names d) t fit.1 in
        name_leads (offset_code names h k d) _ h k (offset_leads d h k fit.0 x.0 x.1) (λ pc le low behind. (root_fits d x.0 fit.0 x.1, length_fits d x.0 fit.0 x.1, le, low, behind))
    argument_leads (argument.Value e) (parameter.Place t) h k fit = absurd fit
    argument_leads (argument.Value e) (parameter.Open t) h k fit = absurd fit
    argument_leads (argument.Place d) parameter.Value h k fit = absurd fit
    argument_leads (argument.Place d) (parameter.Open t) h k fit = absurd fit
    argument_leads (argument.Open d) parameter.Value h k fit = absurd fit
    argument_leads (argument.Open d) (parameter.Place t) h k fit = absurd fit
    argument_leads (argument.Typed d kind levels) (parameter.Extended t) h k fit =
        name_leads (offset_code names h k d) _ h k (offset_leads d h k fit.0 (Of kind.shape) fit.3) (λ pc le low behind. (root_fits d (Of kind.shape) fit.0 fit.3, le, low, behind))
    argument_leads (argument.Again d levels) (parameter.Extended t) h k fit =
        let o = told_object names d fit.1 in
        name_leads (offset_code names h k d) _ h k (offset_leads d h k fit.0 (Of o.0) o.1) (λ pc le low behind. (name_there d fit.0 fit.1, le, low, behind))
    argument_leads (argument.Value e) (parameter.Extended t) h k fit = absurd fit
    argument_leads (argument.Place d) (parameter.Extended t) h k fit = absurd fit
    argument_leads (argument.Open d) (parameter.Extended t) h k fit = absurd fit
    argument_leads (argument.Typed d kind levels) parameter.Value h k fit = absurd fit
    argument_leads (argument.Typed d kind levels) (parameter.Place t) h k fit = absurd fit
    argument_leads (argument.Typed d kind levels) (parameter.Open t) h k fit = absurd fit
    argument_leads (argument.Again d levels) parameter.Value h k fit = absurd fit
    argument_leads (argument.Again d levels) (parameter.Place t) h k fit = absurd fit
    argument_leads (argument.Again d levels) (parameter.Open t) h k fit = absurd fit

    arguments_leads : {n : _} (row : Row_of-Argument n) (ps : List Parameter) (h k : ℕ) → RowPassed names row ps → Leads (arguments_code names h k row) (height h k) (height (h + row_values row) (k + row_names row))
    arguments_leads end_of-Argument [] h k fit =
        let a : h ≡ h + 0 = omega arith in
        let b : k ≡ k + 0 = omega arith in
        flows_to m f lines [] (height h k) (height h k) (height (h + 0) (k + 0)) (ap (λ n. height n k) a ∙ ap (λ n. height (h + 0) n) b) (flows_none m f lines (height h k))
    arguments_leads end_of-Argument (p ∷ ps) h k fit = absurd fit
    arguments_leads (more_of-Argument a rest) [] h k fit = absurd fit
    arguments_leads (more_of-Argument a rest) (p ∷ ps) h k fit =
        let x : h + value_one a + row_values rest ≡ h + (value_one a + row_values rest) = omega arith in
        let y : k + name_one a + row_names rest ≡ k + (name_one a + row_names rest) = omega arith in
        flows_to m f lines (arguments_code names h k (more_of-Argument a rest)) (height h k) (height (h + value_one a + row_values rest) (k + name_one a + row_names rest)) (height (h + (value_one a + row_values rest)) (k + (name_one a + row_names rest)))
        (ap (λ n. height n (k + name_one a + row_names rest)) x ∙ ap (λ n. height (h + (value_one a + row_values rest)) n) y)
        (flows_join m f lines (argument_code names h k a) _ (height h k) (height (h + value_one a) (k + name_one a)) (height (h + value_one a + row_values rest) (k + name_one a + row_names rest))
        (argument_leads a p h k fit.0) (arguments_leads rest ps (h + value_one a) (k + name_one a) fit.1))

  passed_leads : (args : List Argument) (ps : List Parameter) (h k : ℕ) → ListPassed names args ps → Leads (passed_code names h k args) (height h k) (height (h + list_values args) (k + list_names args))
  passed_leads [] [] h k fit =
      let a : h ≡ h + 0 = omega arith in
      let b : k ≡ k + 0 = omega arith in
      flows_to m f lines [] (height h k) (height h k) (height (h + 0) (k + 0)) (ap (λ n. height n k) a ∙ ap (λ n. height (h + 0) n) b) (flows_none m f lines (height h k))
  passed_leads [] (p ∷ ps) h k fit = absurd fit
  passed_leads (a ∷ rest) [] h k fit = absurd fit
  passed_leads (a ∷ rest) (p ∷ ps) h k fit =
      let x : h + value_one a + list_values rest ≡ h + (value_one a + list_values rest) = omega arith in
      let y : k + name_one a + list_names rest ≡ k + (name_one a + list_names rest) = omega arith in
      flows_to m f lines (passed_code names h k (a ∷ rest)) (height h k) (height (h + value_one a + list_values rest) (k + name_one a + list_names rest)) (height (h + (value_one a + list_values rest)) (k + (name_one a + list_names rest)))
      (ap (λ n. height n (k + name_one a + list_names rest)) x ∙ ap (λ n. height (h + (value_one a + list_values rest)) n) y)
      (flows_join m f lines (argument_code names h k a) _ (height h k) (height (h + value_one a) (k + name_one a)) (height (h + value_one a + list_values rest) (k + name_one a + list_names rest))
      (argument_leads a p h k fit.0) (passed_leads rest ps (h + value_one a) (k + name_one a) fit.1))

  -- ---- statements

  -- an instruction that uses up an operand, and one that uses up two
  uses_one : (c : List Line) (i : Instr) → Leads c none one → ((pc : ℕ) → 1 ≤ 1 → at m f lines (pc + 1) ≡ Some none → Fits m f lines pc 1 0 i) → Leads (c ++ line 1 0 i ∷ []) none none
  uses_one c i fc fit = flows_join m f lines c (line 1 0 i ∷ []) none one none fc (flows_one m f lines (line 1 0 i) one none refl (λ pc e behind. fit pc (omega arith) behind))

  uses_two : (a b : List Line) (i : Instr) → Leads a none one → Leads b one (height 2 0) → ((pc : ℕ) → 2 ≤ 2 → at m f lines (pc + 1) ≡ Some none → Fits m f lines pc 2 0 i) → Leads (a ++ (b ++ line 2 0 i ∷ [])) none none
  uses_two a b i fa fb fit =
      flows_join m f lines a (b ++ line 2 0 i ∷ []) none one none fa
      (flows_join m f lines b (line 2 0 i ∷ []) one (height 2 0) none fb
      (flows_one m f lines (line 2 0 i) (height 2 0) none refl (λ pc e behind. fit pc (omega arith) behind)))

  step_leads : (i : Instr) → ((pc : ℕ) → at m f lines (pc + 1) ≡ Some none → Fits m f lines pc 0 0 i) → Leads (line 0 0 i ∷ []) none none
  step_leads i fit = flows_one m f lines (line 0 0 i) none none refl (λ pc e behind. fit pc behind)

  assign_leads : (d : Designator) (e : TypedExpr) → IndexesFit names d → IsBasic (object_of names d) → ExprFits names e → Leads (assign_code names d e) none none
  assign_leads (designator.Whole v) e indexes basic fit = uses_one (expr_code names 0 0 e) (instr.Store (root_of names v)) (expr_leads e 0 0 fit) (λ pc le behind. (root_there v (Of Basic) basic, le, behind))
  assign_leads (designator.Element' g d l i row) e indexes basic fit =
      uses_two (offset_code names 0 0 (designator.Element' g d l i row)) (expr_code names 1 0 e) _ (offset_leads (designator.Element' g d l i row) 0 0 indexes (Of Basic) basic) (expr_leads e 1 0 fit)
      (λ pc le behind. (root_fits (designator.Element' g d l i row) (Of Basic) indexes basic, le, behind))
  assign_leads (designator.Field' g d i) e indexes basic fit =
      uses_two (offset_code names 0 0 (designator.Field' g d i)) (expr_code names 1 0 e) _ (offset_leads (designator.Field' g d i) 0 0 indexes (Of Basic) basic) (expr_leads e 1 0 fit)
      (λ pc le behind. (root_fits (designator.Field' g d i) (Of Basic) indexes basic, le, behind))
  assign_leads (designator.Guarded' g d l kind levels) e indexes basic fit =
      uses_two (offset_code names 0 0 (designator.Guarded' g d l kind levels)) (expr_code names 1 0 e) _ (offset_leads (designator.Guarded' g d l kind levels) 0 0 indexes (Of Basic) basic) (expr_leads e 1 0 fit)
      (λ pc le behind. (root_fits (designator.Guarded' g d l kind levels) (Of Basic) indexes basic, le, behind))

  target_fits : (r : Reader) (d : Designator) → IndexesFit names d → IsRead r (object_of names d) → (o : Object) × (object_of names d ≡ Some o) × TargetFits m f (target_of names r d)
  target_fits reader.Char d ty e = (Of Basic, e, root_fits d (Of Basic) ty e)
  target_fits reader.Int d ty e = (Of Basic, e, root_fits d (Of Basic) ty e)
  target_fits reader.String d ty e = let x = text_object d e in (x.0, x.1, span_fits d x.0 ty x.1)
  target_fits reader.Name d ty e = let x = text_object d e in (x.0, x.1, span_fits d x.0 ty x.1)

  -- a reader, and where it asks for a line
  reading_leads : (r : Reader) (d : Designator) → TargetFits m f (target_of names r d) → Leads (line 1 0 instr.CallInput ∷ (line 1 0 (instr.Read (target_of names r d)) ∷ (line 1 0 instr.AskLine ∷ (line 1 0 instr.TakeLine ∷ [])))) one none
  reading_leads r d fit pc has e =
      let at_read = height_here m f lines (pc + 1) _ has.1.0 in
      let at_ask = height_here m f lines (pc + 1 + 1) _ has.1.1.0 in
      let at_take = height_here m f lines (pc + 1 + 1 + 1) _ has.1.1.1.0 in
      let end : pc + 4 ≡ pc + 1 + 3 = omega arith in
      let asked : pc + 1 + 1 ≡ pc + 1 + 1 + 1 - 1 = omega arith in
      let again : pc + 1 ≡ pc + 1 + 1 + 1 - 2 = omega arith in
      let ask = subst (λ q. slice_get lines q ≡ Some (line 1 0 instr.AskLine)) asked has.1.1.0 in (
        height_here m f lines pc _ has.0,
        (at_read, ((fit, omega arith, at_ask, subst (λ q. at m f lines q ≡ Some none) end e), (at_take, ((omega arith, ap asks ask, subst (λ q. at m f lines q ≡ Some one) again at_read), tt)))),
      )

  input_leads : (call : InputCall) → InputFits names call → Leads (input_code names call) none none
  input_leads incoming.Open fit = step_leads instr.OpenInput (λ pc behind. behind)
  input_leads (incoming.Read r d) fit =
      let t = target_fits r d fit.0 fit.1 in
      flows_join m f lines (offset_code names 0 0 d) _ none one none (offset_leads d 0 0 fit.0 t.0 t.1) (reading_leads r d t.2)

  output_leads : (call : OutputCall) → OutputFits names call → Leads (output_code names call) none none
  output_leads outgoing.Open fit = step_leads instr.OpenOutput (λ pc behind. behind)
  output_leads (outgoing.Char e) fit = uses_one (expr_code names 0 0 e) instr.PutChar (expr_leads e 0 0 fit) (λ pc le behind. (le, behind))
  output_leads (outgoing.String d) fit =
      let x = text_object d fit.1 in
      uses_one (offset_code names 0 0 d) (instr.PutText (span_of names d)) (offset_leads d 0 0 fit.0 x.0 x.1) (λ pc le behind. (span_fits d x.0 fit.0 x.1, le, behind))
  output_leads (outgoing.Int e width) fit = uses_two (expr_code names 0 0 e) (expr_code names 1 0 width) instr.PutInt (expr_leads e 0 0 fit.0) (expr_leads width 1 0 fit.1) (λ pc le behind. (le, behind))
  output_leads outgoing.Ln fit = step_leads instr.PutLine (λ pc behind. behind)

  action_leads : (a : Action) → ActionFits names a → Leads (action_code names a) none none
  action_leads (action.Assign d e) fit = assign_leads d e fit.0 fit.1 fit.2
  action_leads (action.Copy d e) fit =
      uses_two (offset_code names 0 0 d) (offset_code names 1 0 e) _ (offset_leads d 0 0 fit.0 (Of fit.2.0) fit.2.1) (offset_leads e 1 0 fit.1 (Of fit.2.0) fit.2.2)
      (λ pc le behind. (root_fits d (Of fit.2.0) fit.0 fit.2.1, root_fits e (Of fit.2.0) fit.1 fit.2.2, le, behind))
  action_leads (action.AssignText d l text) fit =
      let x = text_object d fit.1 in
      uses_one (offset_code names 0 0 d) (instr.StoreText (span_of names d) text l) (offset_leads d 0 0 fit.0 x.0 x.1) (λ pc le behind. (span_fits d x.0 fit.0 x.1, le, behind))
  action_leads (action.Adjust a d e) fit =
      uses_two (offset_code names 0 0 d) (expr_code names 1 0 e) _ (offset_leads d 0 0 fit.0 (Of Basic) fit.1) (expr_leads e 1 0 fit.2) (λ pc le behind. (root_fits d (Of Basic) fit.0 fit.1, le, behind))
  action_leads (action.Assert l e) fit = uses_one (expr_code names 0 0 e) (instr.Assert l) (expr_leads e 0 0 fit) (λ pc le behind. (le, behind))
  action_leads (action.Call g l args) fit =
      let counts = list_counts names args fit.0.parameters fit.3 in
      let none_more : results fit.0.is_function ≡ 0 = ap results fit.2 in
      let a : 0 + list_values args ≡ list_values args = omega arith in
      let b : 0 + list_names args ≡ list_names args = omega arith in
      let start : height (list_values args) (list_names args) ≡ height (0 + list_values args) (0 + list_names args) = sym (ap (λ n. height n (0 + list_names args)) a ∙ ap (λ n. height (list_values args) n) b) in
      flows_join m f lines (passed_code names 0 0 args) _ none (height (0 + list_values args) (0 + list_names args)) none (passed_leads args fit.0.parameters 0 0 fit.3)
      (flows_one m f lines (line (list_values args) (list_names args) (instr.Invoke g l)) (height (0 + list_values args) (0 + list_names args)) none start (λ pc e behind.
      let zero_on : 0 ≡ 0 + results fit.0.is_function = omega (arith, none_more) in
      subst (λ n. Calls (entry_of m g) n (list_names args) (at m f lines (pc + 1))) a (subst (λ n. Calls (entry_of m g) (0 + list_values args) n (at m f lines (pc + 1))) b
      (call_fits g fit.0 0 0 (list_values args) (list_names args) pc fit.1 counts.0 counts.1 (behind ∙ ap (λ n. Some (height n 0)) zero_on)))))
  action_leads (action.Input call) fit = input_leads call fit
  action_leads (action.Output call) fit = output_leads call fit

  -- ---- FOR

  guard_leads : (head : ForHead) → HeadFits names head → Leads (for_guard names head) none one
  guard_leads head fit =
      flows_then m f lines (line 0 0 (instr.Load (root_of names head.variable))) _ none one one refl (λ pc e behind. (root_there head.variable (Of Basic) fit.0, low_operands f pc _ known.rooms e, behind))
      (flows_join m f lines (expr_code names 1 0 head.last) _ one (height 2 0) one (expr_leads head.last 1 0 fit.2)
      (flows_one m f lines (line 2 0 (instr.Operate (Compare (for_relation head.step)) 0)) (height 2 0) one refl (λ pc e behind. (omega arith, behind))))

  advance_leads : (head : ForHead) → HeadFits names head → Leads (for_step names head) none none
  advance_leads head fit =
      let put = line 1 0 (instr.Store (root_of names head.variable)) in
      let add = line 2 0 (instr.Operate Plus 0) in
      flows_then m f lines (line 0 0 (instr.Load (root_of names head.variable))) (line 1 0 (instr.Push head.step) ∷ (add ∷ (put ∷ []))) none one none refl (λ pc e behind. (root_there head.variable (Of Basic) fit.0, low_operands f pc _ known.rooms e, behind))
      (flows_then m f lines (line 1 0 (instr.Push head.step)) (add ∷ (put ∷ [])) one (height 2 0) none refl (λ pc e behind. (low_operands f pc _ known.rooms e, behind))
      (flows_then m f lines add (put ∷ []) (height 2 0) one none refl (λ pc e behind. (omega arith, behind))
      (flows_one m f lines put one none refl (λ pc e behind. (root_there head.variable (Of Basic) fit.0, omega arith, behind)))))

  for_leads : (head : ForHead) (body : List Line) → HeadFits names head → Leads body none none → Leads (for_code names head body) none none
  for_leads head body fit fb =
      let put = line 1 0 (instr.Store (root_of names head.variable)) in
      let bs : List Guarded = record { guard = for_guard names head; body = body ++ for_step names head } ∷ [] in
      flows_join m f lines (expr_code names 0 0 head.first) (put ∷ loop_code bs) none one none (expr_leads head.first 0 0 fit.1)
      (flows_then m f lines put (loop_code bs) one none none refl (λ pc e behind. (root_there head.variable (Of Basic) fit.0, omega arith, behind))
      (loop_flows m f lines bs (guard_leads head fit, flows_join m f lines body (for_step names head) none none none fb (advance_leads head fit), tt)))

  mutual
    stat_leads : (s : TypedStatement) → StatFits names s → Leads (stat_code names s) none none
    stat_leads (Simple a) fit = action_leads a fit
    stat_leads (If' k bs n rest) fit = first_flows m f lines (branches names bs) (stats_code names rest) (branches_lead bs fit.0) (stats_lead rest fit.1)
    stat_leads (Case' l e k arms) fit = flows_join m f lines (expr_code names 0 0 e) (arms_code names l arms) none one none (expr_leads e 0 0 fit.0) (arms_lead l arms fit.1)
    stat_leads (While' k bs) fit = loop_flows m f lines (branches names bs) (branches_lead bs fit)
    stat_leads (Repeat' k body e) fit = repeat_flows m f lines (stats_code names body) (expr_code names 0 0 e) (stats_lead body fit.0) (expr_leads e 0 0 fit.1)
    stat_leads (For' head k body) fit = for_leads head (stats_code names body) fit.0 (stats_lead body fit.1)

    stats_lead : {k : _} (row : Row_of-TypedStatement k) → StatsFit names row → Leads (stats_code names row) none none
    stats_lead end_of-TypedStatement fit = flows_none m f lines none
    stats_lead (more_of-TypedStatement s rest) fit = flows_join m f lines (stat_code names s) (stats_code names rest) none none none (stat_leads s fit.0) (stats_lead rest fit.1)

    branches_lead : {k : _} (row : Row_of-Branch k) → BranchesFit names row → AllFlow m f lines (branches names row)
    branches_lead end_of-Branch fit = tt
    branches_lead (more_of-Branch e k body rest) fit = (expr_leads e 0 0 fit.0, stats_lead body fit.1, branches_lead rest fit.2)

    arms_lead : (l : ℕ) {k : _} (row : Row_of-CaseArm k) → ArmsFit names row → Leads (arms_code names l row) one none
    arms_lead l end_of-CaseArm fit = flows_one m f lines _ one none refl (λ pc e behind. tt)
    arms_lead l (more_of-CaseArm labels k body rest) fit = arm_flows m f lines _ (stats_code names body) (arms_code names l rest) (stats_lead body fit.0) (arms_lead l rest fit.1)

  list_leads : (ss : List TypedStatement) → ListFits names ss → Leads (list_code names ss) none none
  list_leads [] fit = flows_none m f lines none
  list_leads (s ∷ rest) fit = flows_join m f lines (stat_code names s) (list_code names rest) none none none (stat_leads s fit.0) (list_leads rest fit.1)

  result_leads : (result : Option TypedExpr) → ResultFits names result → Leads (result_code names result) none (height (results (is_there result)) 0)
  result_leads None fit = flows_none m f lines none
  result_leads (Some e) fit = expr_leads e 0 0 fit

  -- ---- a procedure

  pub procedure_fits : (body : List TypedStatement) (result : Option TypedExpr) → IsCodeOf names body result f → ListFits names body → ResultFits names result → ProcedureFits m f
  procedure_fits body result code fit gives =
      let row = parameters_size names.parameters in
      let sum = size-append (parameter_row names.parameters) (zeros names.own) (parameters_row names.parameters) in
      let all = flows_join m f lines (list_code names body) (result_code names result) none none (height (results (is_there result)) 0) (list_leads body fit) (result_leads result gives) in
      record {
        passed = omega (arith, row, sum, code.cells, code.all_taken, code.names_taken);
        lines = whole_fits m f lines (subst (λ c. Leads c none (height (results f.entry.is_function) 0)) (sym code.lines)
            (subst (λ b. Leads (procedure_code names body result) none (height (results b) 0)) (sym code.gives) all));
      }

-- ---- a module

known_at : (faces : List Face) (all : List Entries) (i : ℕ) (face : Face) → AreOfFaces faces all → slice_get faces i ≡ Some face → (known : Entries) × (slice_get all i ≡ Some known) × IsOfFace face known
known_at [] all i face h e = absurd (let n : None ≡ Some face = e in cc)
known_at (g ∷ faces) [] i face h e = absurd h
known_at (g ∷ faces) (known ∷ rest) zero face h e = (known, refl, subst (λ x. IsOfFace x known) (some_same g face e) h.0)
known_at (g ∷ faces) (known ∷ rest) (suc i) face h e = known_at faces rest i face h.1 e

below_at : (n : ℕ) (xs : List ℕ) (k x : ℕ) → AllBelow n xs → slice_get xs k ≡ Some x → x < n
below_at n [] k x h e = absurd (let y : None ≡ Some x = e in cc)
below_at n (y ∷ ys) zero x h e = let same = some_same y x e in omega (arith, same, h.0)
below_at n (y ∷ ys) (suc k) x h e = below_at n ys k x h.1 e

compiled_length : (faces : List Face) (m : TypedModule) (fs : List TypedProcedure) (gs : List Procedure) → AreCompiled faces m fs gs → length gs ≡ length fs + 1
compiled_length faces m [] [] h = absurd h
compiled_length faces m [] (g ∷ []) h = omega arith
compiled_length faces m [] (g ∷ (k ∷ gs)) h = absurd h
compiled_length faces m (f ∷ fs) [] h = absurd h
compiled_length faces m (f ∷ fs) (g ∷ gs) h = let e = compiled_length faces m fs gs h.1 in omega (arith, e)

-- what a procedure of the code takes and leaves is what its heading says
entry_is : (names : Names) (tree : TypedProcedure) (g : Procedure) → names.parameters ≡ tree.parameters → IsCodeOf names tree.body tree.result g → g.entry ≡ heading_entry (heading_of tree)
entry_is names tree g same code =
    let counted : named_count names.parameters ≡ named_count tree.parameters = ap named_count same in
    let all : parameter_count names.parameters ≡ parameter_count tree.parameters = ap parameter_count same in
    entry_same g.entry (heading_entry (heading_of tree)) (omega (arith, counted, all, code.all_taken, code.names_taken, valued tree.parameters)) (code.names_taken ∙ counted) (code.stand_for ∙ ap name_kinds same) code.gives

module _ (faces : List Face) (m : TypedModule) (code : CodeModule) (formed : IsWellFormed faces m) (made : IsGenerated faces m code) where
  abbrev names_with : List Parameter → List Shape → Names
  names_with ps ts = record { faces = faces; variables = m.variables; procedures = m.procedures; parameters = ps; own = ts }

  pub named_in : (ps : List Parameter) (ts : List Shape) (g : Procedure) → g.cells ≡ size (own_row (names_with ps ts)) → g.entry.names ≡ named_count ps → g.entry.kinds ≡ name_kinds ps → IsRoomy g → IsNamed (names_with ps ts) code g
  named_in ps ts g cells counted kinds room = record {
    variables = omega (arith, made.cells);
    own = omega (arith, cells);
    parameters = counted;
    kinds = kinds;
    imports = λ i face e. known_at faces code.imports.items i face made.imports e;
    procedures = λ p tree e.
        let c = compiled_at faces m m.procedures code.procedures.items p tree made.procedures e in
        ap own_entry c.1 ∙ ap Some (entry_is (names_of faces m tree) tree c.0 refl c.2);
    rooms = room;
  }

  one_fits : (ps : List Parameter) (ts : List Shape) (body : List TypedStatement) (result : Option TypedExpr) (g : Procedure) → IsCodeOf (names_with ps ts) body result g → ListFits (names_with ps ts) body → ResultFits (names_with ps ts) result → IsRoomy g → ProcedureFits code g
  one_fits ps ts body result g is fit gives room = procedure_fits (names_with ps ts) code g (named_in ps ts g is.cells is.names_taken is.stand_for room) body result is fit gives

  each_fits : (fs : List TypedProcedure) (gs : List Procedure) → AreCompiled faces m fs gs → ProceduresFit faces m fs → (p : ℕ) (g : Procedure) → slice_get gs p ≡ Some g → IsRoomy g → ProcedureFits code g
  each_fits [] [] h fit p g e room = absurd h
  each_fits [] (x ∷ []) h fit zero g e room =
      one_fits [] [] m.body None g (subst (IsCodeOf (names_in faces m) m.body None) (some_same x g e) h) formed.body tt room
  each_fits [] (x ∷ []) h fit (suc p) g e room = absurd (let n : None ≡ Some g = e in cc)
  each_fits [] (x ∷ (y ∷ gs)) h fit p g e room = absurd h
  each_fits (f ∷ fs) [] h fit p g e room = absurd h
  each_fits (f ∷ fs) (x ∷ gs) h fit zero g e room =
      one_fits f.parameters f.variables f.body f.result g (subst (IsCodeOf (names_of faces m f) f.body f.result) (some_same x g e) h.0) fit.0.0 fit.0.1 room
  each_fits (f ∷ fs) (x ∷ gs) h fit (suc p) g e room = each_fits fs gs h.1 fit.1 p g e room

  -- the code of a well-formed module is valid
  pub generated_valid : IsValid code
  generated_valid =
      let body = body_compiled faces m m.procedures code.procedures.items made.procedures in
      let count = compiled_length faces m m.procedures code.procedures.items made.procedures in
      record {
        body = subst IsBody (sym body.1) (omega (arith, body.2.all_taken), body.2.names_taken, body.2.gives, body.2.cells);
        exported = λ place p e.
            let below = below_at (length m.procedures) m.exported place p formed.exported (ap (λ l. slice_get l place) (sym made.exported) ∙ e) in
            omega (arith, below, count);
        each = λ p g e. each_fits m.procedures code.procedures.items made.procedures formed.procedures p g e (room_at code.procedures.items p g made.rooms e);
      }
