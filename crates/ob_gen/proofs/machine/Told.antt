-- The code of a tree says enough of its operands: no number of a cell leaves the object that it is used in.
use Rattle.std.proofs.Common.{◌≡◌, ℕ, zero, suc, ◌+◌, ◌-◌, ◌*◌, ◌<◌, ◌≤◌, pos, List, [], ◌∷◌, ◌++◌, length, take, drop, Option, Some, None, Bool, true, false, refl, sym, ap, ◌∙◌, subst, arith, append_assoc, append-nil}
use Rattle.std.specs.Prelude.{slice_get, nat_lt, nat_le, if◌then◌else◌}
use Rattle.std.proofs.lemmas.Bool.Decides.{nat_tests}
use Rattle.std.proofs.lemmas.List.{length-append}
use Rattle.std.proofs.Math.Seq.{take-append_seam, drop-append_seam}
use Rattle.ob_mean.specs.declared.expression.Variable.{Variable}
use Rattle.ob_mean.specs.declared.expression.Variable.TheVariants as variable
use Rattle.ob_mean.specs.declared.expression.Callee.{Callee}
use Rattle.ob_mean.specs.declared.expression.TypedExpr.{TypedExpr, Row_of-TypedExpr, end_of-TypedExpr, more_of-TypedExpr}
use Rattle.ob_mean.specs.declared.expression.TypedExpr.TheVariants as expr
use Rattle.ob_mean.specs.declared.expression.Designator.{Designator, end_of-Designator, more_of-Designator}
use Rattle.ob_mean.specs.declared.expression.Designator.TheVariants as designator
use Rattle.ob_mean.specs.declared.expression.Argument.{Argument}
use Rattle.ob_mean.specs.declared.expression.Argument.TheVariants as argument
use Rattle.ob_mean.specs.declared.expression.Argument.TheBlock.{Row_of-Argument, end_of-Argument, more_of-Argument, Row_of-Operation, end_of-Operation, more_of-Operation}
use Rattle.ob_mean.specs.declared.operator.Operator.TheVariants.{Plus, Compare}
use Rattle.ob_mean.specs.declared.outcome.TrapKind.TheVariants as trap
use Rattle.ob_mean.specs.declared.shape.Shape.{Shape, end_of-Shape, more_of-Shape}
use Rattle.ob_mean.specs.declared.shape.Shape.TheVariants.{Basic, Array', Record'}
use Rattle.ob_mean.specs.declared.face.Face.{Face}
use Rattle.ob_mean.specs.declared.face.Heading.{Heading}
use Rattle.ob_mean.specs.declared.module.Parameter.{Parameter}
use Rattle.ob_mean.specs.declared.module.Parameter.TheVariants as parameter
use Rattle.ob_mean.specs.declared.module.TypedProcedure.{TypedProcedure}
use Rattle.ob_mean.specs.declared.module.TypedModule.{TypedModule}
use Rattle.ob_mean.specs.declared.statement.Action.{Action}
use Rattle.ob_mean.specs.declared.statement.Action.TheVariants as action
use Rattle.ob_mean.specs.declared.statement.Reader.{Reader}
use Rattle.ob_mean.specs.declared.statement.Reader.TheVariants as reader
use Rattle.ob_mean.specs.declared.statement.InputCall.{InputCall}
use Rattle.ob_mean.specs.declared.statement.InputCall.TheVariants as incoming
use Rattle.ob_mean.specs.declared.statement.OutputCall.{OutputCall}
use Rattle.ob_mean.specs.declared.statement.OutputCall.TheVariants as outgoing
use Rattle.ob_mean.specs.declared.statement.ForHead.{ForHead}
use Rattle.ob_mean.specs.declared.statement.TypedStatement.{TypedStatement, Row_of-TypedStatement, end_of-TypedStatement, more_of-TypedStatement}
use Rattle.ob_mean.specs.declared.statement.TypedStatement.TheBlock.{Row_of-Branch, end_of-Branch, more_of-Branch, Row_of-CaseArm, end_of-CaseArm, more_of-CaseArm}
use Rattle.ob_mean.specs.declared.statement.TypedStatement.TheVariants.{Simple, If', Case', While', Repeat', For'}
use Rattle.ob_mean.specs.declared.kind.RecordKind.{RecordKind}
use Rattle.ob_mean.specs.RecordTypes.{cells_of as record_cells}
use Rattle.ob_mean.specs.Values.{Value, append, count, size, item, before, row}
use Rattle.ob_mean.specs.Shapes.{zero_of, zeros, opening_row}
use Rattle.ob_mean.specs.WellFormed.{face_object, own_object, Object, Of, OpenOf, Names, is_there, object_of, variable_object, elements_in, called, named_object, is_extended, is_told_variable, is_told, KindFits, base_object, IsBasic, IsText, ExprFits, ExprsFit, OperationsFit, IndexesFit, IsPassed, RowPassed, ListPassed, IsRead, InputFits, OutputFits, ActionFits, HeadFits, StatFits, StatsFit, BranchesFit, ArmsFit, ListFits, ResultFits, ShapesFit, VariablesFit, FacesFit, names_in, names_of, ProceduresFit, IsWellFormed}
use Rattle.ob_code.specs.declared.kinds.Kind.{Kind}
use Rattle.ob_code.specs.declared.kinds.Kind.TheVariants.{Number, UpTo, Inside, Guarded as InRecord, Absent}
use Rattle.ob_code.specs.declared.kinds.Known.{Known}
use Rattle.ob_code.specs.declared.instr.NameKind.{NameKind}
use Rattle.ob_code.specs.declared.instr.NameKind.TheVariants.{Cells, ArrayOf, RecordOf}
use Rattle.ob_code.specs.declared.instr.Extent.{Extent}
use Rattle.ob_code.specs.declared.instr.Root.{Root}
use Rattle.ob_code.specs.declared.instr.Root.TheVariants as root
use Rattle.ob_code.specs.declared.instr.Length.{Length}
use Rattle.ob_code.specs.declared.instr.Length.TheVariants.{Elements, OfName}
use Rattle.ob_code.specs.declared.instr.Instr.{Instr}
use Rattle.ob_code.specs.declared.instr.Instr.TheVariants as instr
use Rattle.ob_code.specs.declared.instr.Line.{Line}
use Rattle.ob_code.specs.declared.instr.Entry.{Entry}
use Rattle.ob_code.specs.declared.instr.Procedure.{Procedure}
use Rattle.ob_code.specs.declared.instr.CodeModule.{CodeModule}
use Rattle.ob_code.specs.Valid.{entry_of}
use Rattle.ob_code.specs.Kinds.{Kinds, NameKinds, Rows, Covers, LieAmong, LieInElement, LieInRecord, LieInName, Lie, IsLong, ArrayLies, TextLies, TargetLies, LengthIs, IsFew as FewCells, ArePassed, literal, low, inside, in_record, moved, guarded, TellsType, element, operands_of, names_of as passed_names, entry_results, results_kinds, nothing, Arrives, known_at, Keeps, HasKinds, IsMeasured}
use Rattle.ob_gen.specs.Code.{line, name_in, base_cells, extent_at, parameter_row, face_row, root_of, root_in, zero_in, zero_element, cells_of, length_in, length_of, span_of, element_cells, and_code, or_code, value_one, name_one, row_values, row_names, list_values, list_names, read_code, added_code, field_code, expr_code, offset_code, operations_code, every_code, either_code, argument_code, arguments_code, passed_code, target_of, input_code, output_code, assign_code, action_code, Guarded, loop_code, for_relation, for_guard, for_step, for_code, stat_code, stats_code, branches, arms_code, list_code, result_code, procedure_code, named_before, name_number}
use Rattle.ob_gen.specs.Correct.{named_count, name_kind, name_kinds, IsCodeOf, AreCompiled}
use Rattle.ob_gen.specs.Generated.{valued_count, heading_entry, IsGenerated}
use Rattle.ob_gen.proofs.machine.Store.{before-within, count-row, size-row}
use Rattle.ob_gen.proofs.machine.Places.{not_open, closed_module, closed_shape, closed_face, closed_own, shape_some, elements_some, told_object, told_root}
use Rattle.ob_gen.proofs.machine.Records.{some_same, of_same, field_some, field_is, base_size, record_size, types_at_most}
use Rattle.ob_gen.proofs.machine.Few.{variables_few, own_few, faces_few}
use Rattle.ob_gen.proofs.machine.Frames.{HeldAt, held_module, held_zeros}
use Rattle.ob_gen.proofs.machine.Fitting.{row_counts, list_counts, valued, face_there, IsNamed, callee_entry, room_at, IsRoomy, named_in, generated_valid}
use Rattle.ob_gen.proofs.machine.Telling.{push, number, with_results, cover_self, arrives_at, result, here, Tells, tells_none, tells_join, tells_more, tells_one, tells_choice, AllTell, first_tells, loop_tells, repeat_tells, arm_tells, whole_tells}

-- ---- numbers of cells

-- what is known of the number of a place's first cell
abbrev pub offset_kind : Names → Designator → Kind
offset_kind names (designator.Whole v) = UpTo 0
offset_kind names (designator.Element' g (more_of-Designator d end_of-Designator) l i row) = element (length_of names d) (element_cells names d) (offset_kind names d)
offset_kind names (designator.Field' h (more_of-Designator d end_of-Designator) i) = moved (before (zero_in (object_of names d)) i) (offset_kind names d)
offset_kind names (designator.Guarded' h (more_of-Designator d end_of-Designator) l kind levels) = guarded (name_in names d) (record_cells kind.names) (offset_kind names d)

covers_low : (b : Bool) (most k : ℕ) → k ≤ most → Covers (if b then UpTo most else Number) (UpTo k)
covers_low true most k le = le
covers_low false most k le = tt

covers_inside : (b : Bool) (x size most k : ℕ) → k ≤ most → Covers (if b then Inside x size most else Number) (Inside x size k)
covers_inside true x size most k le = (refl, refl, le)
covers_inside false x size most k le = tt

covers_in_record : (b : Bool) (x cells most k : ℕ) → k ≤ most → Covers (if b then InRecord x cells most else Number) (InRecord x cells k)
covers_in_record true x cells most k le = (refl, omega arith, le)
covers_in_record false x cells most k le = tt

-- no cells on
covers_moved : (k : Kind) → Covers (moved 0 k) k
covers_moved Number = tt
covers_moved (UpTo most) = covers_low (nat_lt (most + 0) 2147483648) (most + 0) most (omega arith)
covers_moved (Inside x size most) = covers_inside (nat_le (most + 0) size) x size (most + 0) most (omega arith)
covers_moved (InRecord x cells most) = covers_in_record (nat_le (most + 0) cells) x cells (most + 0) most (omega arith)
covers_moved Absent = tt

low_lies : (cells most size : ℕ) → most + size ≤ cells → cells < 2147483648 → LieAmong cells (low most) size
low_lies cells most size le few = subst (λ b. LieAmong cells (if b then UpTo most else Number) size) (sym fits) le
  where
    fits : nat_lt most 2147483648 ≡ true
    fits = grind (arith, nat_tests, le, few)

inside_lies : (x size most n : ℕ) → most + n ≤ size → LieInElement x size (inside x size most) n
inside_lies x size most n le = subst (λ b. LieInElement x size (if b then Inside x size most else Number) n) (sym fits) (refl, refl, le)
  where
    fits : nat_le most size ≡ true
    fits = grind (arith, nat_tests, le)

moved_among : (cells : ℕ) (k : Kind) (n by size : ℕ) → by + size ≤ n → cells < 2147483648 → LieAmong cells k n → LieAmong cells (moved by k) size
moved_among cells Number n by size le few h = absurd h
moved_among cells (UpTo most) n by size le few h = low_lies cells (most + by) size (omega (arith, le, h)) few
moved_among cells (Inside y whole most) n by size le few h = absurd h
moved_among cells (InRecord y more most) n by size le few h = absurd h
moved_among cells Absent n by size le few h = tt

moved_inside : (x whole : ℕ) (k : Kind) (n by size : ℕ) → by + size ≤ n → LieInElement x whole k n → LieInElement x whole (moved by k) size
moved_inside x whole Number n by size le h = absurd h
moved_inside x whole (UpTo most) n by size le h = absurd h
moved_inside x whole (Inside y part most) n by size le h =
    subst (λ z. LieInElement x whole (inside z part (most + by)) size) (sym h.0)
    (subst (λ z. LieInElement x whole (inside x z (most + by)) size) (sym h.1) (inside_lies x whole (most + by) size (omega (arith, le, h.2))))
moved_inside x whole (InRecord y more most) n by size le h = absurd h
moved_inside x whole Absent n by size le h = tt

low_in_record : (x cells most size : ℕ) → most + size ≤ cells → cells < 2147483648 → LieInRecord x cells (low most) size
low_in_record x cells most size le few = subst (λ b. LieInRecord x cells (if b then UpTo most else Number) size) (sym fits) le
  where
    fits : nat_lt most 2147483648 ≡ true
    fits = grind (arith, nat_tests, le, few)

-- more cells where a guard found more
more_in_record : (x cells more most n : ℕ) → most + n ≤ more → LieInRecord x cells (in_record x more most) n
more_in_record x cells more most n le = subst (λ b. LieInRecord x cells (if b then InRecord x more most else Number) n) (sym fits) (refl, le)
  where
    fits : nat_le most more ≡ true
    fits = grind (arith, nat_tests, le)

moved_in_record : (x cells : ℕ) (k : Kind) (n by size : ℕ) → by + size ≤ n → cells < 2147483648 → LieInRecord x cells k n → LieInRecord x cells (moved by k) size
moved_in_record x cells Number n by size le few h = absurd h
moved_in_record x cells (UpTo most) n by size le few h = low_in_record x cells (most + by) size (omega (arith, le, h)) few
moved_in_record x cells (Inside y whole most) n by size le few h = absurd h
moved_in_record x cells (InRecord y more most) n by size le few h =
    subst (λ z. LieInRecord x cells (in_record z more (most + by)) size) (sym h.0) (more_in_record x cells more (most + by) size (omega (arith, le, h.1)))
moved_in_record x cells Absent n by size le few h = tt

-- fewer cells
fewer_in_record : (x cells : ℕ) (k : Kind) (n size : ℕ) → size ≤ n → LieInRecord x cells k n → LieInRecord x cells k size
fewer_in_record x cells Number n size le h = absurd h
fewer_in_record x cells (UpTo most) n size le h = omega (arith, le, h)
fewer_in_record x cells (Inside y whole most) n size le h = absurd h
fewer_in_record x cells (InRecord y more most) n size le h = (h.0, omega (arith, le, h.1))
fewer_in_record x cells Absent n size le h = tt

moved_in_name : (o : Option NameKind) (x : ℕ) (k : Kind) (n by size : ℕ) → by + size ≤ n → LieInName o x k n → LieInName o x (moved by k) size
moved_in_name None x k n by size le h = absurd h
moved_in_name (Some (Cells cells)) x k n by size le h = λ few. moved_among cells k n by size le few (h few)
moved_in_name (Some (ArrayOf whole)) x k n by size le h = moved_inside x whole k n by size le h
moved_in_name (Some (RecordOf cells)) x k n by size le h = λ few. moved_in_record x cells k n by size le few (h few)

moved_lies : (ns : NameKinds) (r : Root) (k : Kind) (n by size : ℕ) → by + size ≤ n → FewCells r → Lie ns r k n → Lie ns r (moved by k) size
moved_lies ns (root.OfModule e) k n by size le few h = moved_among e.cells k n by size le few h
moved_lies ns (root.OfImport i e) k n by size le few h = moved_among e.cells k n by size le few h
moved_lies ns (root.OfCall e) k n by size le few h = moved_among e.cells k n by size le few h
moved_lies ns (root.Named x) k n by size le few h = moved_in_name (slice_get ns x) x k n by size le h

element_among : (cells : ℕ) (k : Kind) (n size : ℕ) → cells < 2147483648 → LieAmong cells k (n * size) → LieAmong cells (element (Elements n) size k) size
element_among cells Number n size few h = absurd h
element_among cells Absent n size few h = tt
element_among cells (Inside y whole most) n size few h = absurd h
element_among cells (InRecord y more most) n size few h = absurd h
element_among cells (UpTo most) zero size few h = tt
element_among cells (UpTo most) (suc n) size few h =
    let sum : suc n * size ≡ size + n * size = grind arith in
    low_lies cells (most + n * size) size (omega (arith, h, sum)) few

element_inside : (x whole : ℕ) (k : Kind) (n size : ℕ) → LieInElement x whole k (n * size) → LieInElement x whole (element (Elements n) size k) size
element_inside x whole Number n size h = absurd h
element_inside x whole Absent n size h = tt
element_inside x whole (UpTo most) n size h = absurd h
element_inside x whole (InRecord y more most) n size h = absurd h
element_inside x whole (Inside y part most) zero size h = tt
element_inside x whole (Inside y part most) (suc n) size h =
    let sum : suc n * size ≡ size + n * size = grind arith in
    subst (λ z. LieInElement x whole (inside z part (most + n * size)) size) (sym h.0)
    (subst (λ z. LieInElement x whole (inside x z (most + n * size)) size) (sym h.1) (inside_lies x whole (most + n * size) size (omega (arith, h.2, sum))))

element_in_record : (x cells : ℕ) (k : Kind) (n size : ℕ) → cells < 2147483648 → LieInRecord x cells k (n * size) → LieInRecord x cells (element (Elements n) size k) size
element_in_record x cells Number n size few h = absurd h
element_in_record x cells Absent n size few h = tt
element_in_record x cells (Inside y whole most) n size few h = absurd h
element_in_record x cells (UpTo most) zero size few h = tt
element_in_record x cells (UpTo most) (suc n) size few h =
    let sum : suc n * size ≡ size + n * size = grind arith in
    low_in_record x cells (most + n * size) size (omega (arith, h, sum)) few
element_in_record x cells (InRecord y more most) zero size few h = tt
element_in_record x cells (InRecord y more most) (suc n) size few h =
    let sum : suc n * size ≡ size + n * size = grind arith in
    subst (λ z. LieInRecord x cells (in_record z more (most + n * size)) size) (sym h.0) (more_in_record x cells more (most + n * size) size (omega (arith, h.1, sum)))

element_in_name : (o : Option NameKind) (x : ℕ) (k : Kind) (n size : ℕ) → LieInName o x k (n * size) → LieInName o x (element (Elements n) size k) size
element_in_name None x k n size h = absurd h
element_in_name (Some (Cells cells)) x k n size h = λ few. element_among cells k n size few (h few)
element_in_name (Some (ArrayOf whole)) x k n size h = element_inside x whole k n size h
element_in_name (Some (RecordOf cells)) x k n size h = λ few. element_in_record x cells k n size few (h few)

-- an element of a name's array, which begins with the name's first cell
first_lies : (x size : ℕ) (k : Kind) → Covers (UpTo 0) k → LieInElement x size (element (OfName x) size k) size
first_lies x size Number c = absurd c
first_lies x size Absent c = tt
first_lies x size (Inside y whole most) c = absurd c
first_lies x size (InRecord y more most) c = absurd c
first_lies x size (UpTo most) c = inside_lies x size most size (omega (arith, c))

element_lies : (ns : NameKinds) (r : Root) (n : Length) (size : ℕ) (k : Kind) → FewCells r → ArrayLies ns r n size k → Lie ns r (element n size k) size
element_lies ns (root.OfModule e) (Elements n) size k few h = element_among e.cells k n size few h
element_lies ns (root.OfImport i e) (Elements n) size k few h = element_among e.cells k n size few h
element_lies ns (root.OfCall e) (Elements n) size k few h = element_among e.cells k n size few h
element_lies ns (root.Named x) (Elements n) size k few h = element_in_name (slice_get ns x) x k n size h
element_lies ns (root.OfModule e) (OfName y) size k few h = absurd h.0
element_lies ns (root.OfImport i e) (OfName y) size k few h = absurd h.0
element_lies ns (root.OfCall e) (OfName y) size k few h = absurd h.0
element_lies ns (root.Named x) (OfName y) size k few h =
    subst (λ o. LieInName o x (element (OfName y) size k) size) (sym h.0.1)
    (subst (λ z. LieInElement x size (element (OfName z) size k) size) h.0.0 (first_lies x size k h.1))

-- ---- names

first_of : {A : Type 0} (x : A) (xs : List A) (y : ℕ) → slice_get (x ∷ xs) (1 + y) ≡ slice_get xs y
first_of x xs y = let e : 1 + y ≡ suc y = omega arith in ap (slice_get (x ∷ xs)) e

-- what a parameter names lies in what its name stands for
place_lies : (ps : List Parameter) (x y : ℕ) (t : Shape) → named_object (slice_get ps x) ≡ Some (Of t) → LieInName (slice_get (name_kinds ps) (named_before ps x)) y (UpTo 0) (size (zero_of t))
place_lies [] x y t e = absurd (let n : None ≡ Some (Of t) = e in cc)
place_lies (parameter.Value ∷ ps) zero y t e = absurd (let n : None ≡ Some (Of t) = e in cc)
place_lies (parameter.Place u ∷ ps) zero y t e = let same = ap (λ z. size (zero_of z)) (of_same u t (some_same (Of u) (Of t) e)) in λ few. omega (arith, same)
place_lies (parameter.Extended u ∷ ps) zero y t e = let same = ap (λ z. size (zero_of z)) (of_same u t (some_same (Of u) (Of t) e)) in λ few. omega (arith, same)
place_lies (parameter.Open u ∷ ps) zero y t e = absurd (let n : OpenOf u ≡ Of t = some_same (OpenOf u) (Of t) e in cc)
place_lies (parameter.Value ∷ ps) (suc x) y t e =
    let same : 0 + named_before ps x ≡ named_before ps x = omega arith in
    subst (λ i. LieInName (slice_get (name_kinds ps) i) y (UpTo 0) (size (zero_of t))) (sym same) (place_lies ps x y t e)
place_lies (parameter.Place u ∷ ps) (suc x) y t e =
    subst (λ o. LieInName o y (UpTo 0) (size (zero_of t))) (sym (first_of (Cells (size (zero_of u))) (name_kinds ps) (named_before ps x))) (place_lies ps x y t e)
place_lies (parameter.Open u ∷ ps) (suc x) y t e =
    subst (λ o. LieInName o y (UpTo 0) (size (zero_of t))) (sym (first_of (ArrayOf (size (zero_of u))) (name_kinds ps) (named_before ps x))) (place_lies ps x y t e)
place_lies (parameter.Extended u ∷ ps) (suc x) y t e =
    subst (λ o. LieInName o y (UpTo 0) (size (zero_of t))) (sym (first_of (RecordOf (size (zero_of u))) (name_kinds ps) (named_before ps x))) (place_lies ps x y t e)

-- the name of one of which a type is told tells it
told_kind : (ps : List Parameter) (x : ℕ) → is_extended (slice_get ps x) ≡ true → (n : ℕ) × (slice_get (name_kinds ps) (named_before ps x) ≡ Some (RecordOf n))
told_kind [] x e = absurd (let n : false ≡ true = e in cc)
told_kind (parameter.Value ∷ ps) zero e = absurd (let n : false ≡ true = e in cc)
told_kind (parameter.Place u ∷ ps) zero e = absurd (let n : false ≡ true = e in cc)
told_kind (parameter.Open u ∷ ps) zero e = absurd (let n : false ≡ true = e in cc)
told_kind (parameter.Extended u ∷ ps) zero e = (size (zero_of u), refl)
told_kind (parameter.Value ∷ ps) (suc x) e =
    let same : 0 + named_before ps x ≡ named_before ps x = omega arith in
    let k = told_kind ps x e in
    (k.0, ap (slice_get (name_kinds ps)) same ∙ k.1)
told_kind (parameter.Place u ∷ ps) (suc x) e = let k = told_kind ps x e in (k.0, first_of (Cells (size (zero_of u))) (name_kinds ps) (named_before ps x) ∙ k.1)
told_kind (parameter.Open u ∷ ps) (suc x) e = let k = told_kind ps x e in (k.0, first_of (ArrayOf (size (zero_of u))) (name_kinds ps) (named_before ps x) ∙ k.1)
told_kind (parameter.Extended u ∷ ps) (suc x) e = let k = told_kind ps x e in (k.0, first_of (RecordOf (size (zero_of u))) (name_kinds ps) (named_before ps x) ∙ k.1)

open_kind : (ps : List Parameter) (x : ℕ) (t : Shape) → named_object (slice_get ps x) ≡ Some (OpenOf t) → slice_get (name_kinds ps) (named_before ps x) ≡ Some (ArrayOf (size (zero_of t)))
open_kind [] x t e = absurd (let n : None ≡ Some (OpenOf t) = e in cc)
open_kind (parameter.Value ∷ ps) zero t e = absurd (let n : None ≡ Some (OpenOf t) = e in cc)
open_kind (parameter.Place u ∷ ps) zero t e = absurd (let n : Of u ≡ OpenOf t = some_same (Of u) (OpenOf t) e in cc)
open_kind (parameter.Open u ∷ ps) zero t e = let same : u ≡ t = (let n : OpenOf u ≡ OpenOf t = some_same (OpenOf u) (OpenOf t) e in cc) in ap (λ y. Some (ArrayOf (size (zero_of y)))) same
open_kind (parameter.Extended u ∷ ps) zero t e = absurd (let n : Of u ≡ OpenOf t = some_same (Of u) (OpenOf t) e in cc)
open_kind (parameter.Value ∷ ps) (suc x) t e = let same : 0 + named_before ps x ≡ named_before ps x = omega arith in ap (slice_get (name_kinds ps)) same ∙ open_kind ps x t e
open_kind (parameter.Place u ∷ ps) (suc x) t e = first_of (Cells (size (zero_of u))) (name_kinds ps) (named_before ps x) ∙ open_kind ps x t e
open_kind (parameter.Open u ∷ ps) (suc x) t e = first_of (ArrayOf (size (zero_of u))) (name_kinds ps) (named_before ps x) ∙ open_kind ps x t e
open_kind (parameter.Extended u ∷ ps) (suc x) t e = first_of (RecordOf (size (zero_of u))) (name_kinds ps) (named_before ps x) ∙ open_kind ps x t e

kinds_counted : (ps : List Parameter) → length (name_kinds ps) ≡ named_count ps
kinds_counted [] = refl
kinds_counted (parameter.Value ∷ ps) = let e = kinds_counted ps in omega (arith, e)
kinds_counted (parameter.Place u ∷ ps) = let e = kinds_counted ps in omega (arith, e)
kinds_counted (parameter.Open u ∷ ps) = let e = kinds_counted ps in omega (arith, e)
kinds_counted (parameter.Extended u ∷ ps) = let e = kinds_counted ps in omega (arith, e)

-- ---- variables

held_cells : (u : Value) (x : ℕ) (t v : Shape) (e : Extent) → Of t ≡ Of v → HeldAt u x v e → size (zero_of t) ≡ e.cells
held_cells u x t v e same h = ap (λ y. size (zero_of y)) (of_same t v same) ∙ ap size (sym h.is) ∙ h.cells

-- one of a call has the cells of its shape
own_cells : (ps : List Parameter) (ts : List Shape) (x : ℕ) (t : Shape) → own_object ps ts x ≡ Some (Of t) → size (zero_of t) ≡ (extent_at (append (parameter_row ps) (zeros ts)) x).cells
own_cells [] ts x t e = let h = held_zeros ts x (Of t) e in held_cells (zeros ts) x t h.0 (extent_at (zeros ts) x) h.1 h.2
own_cells (parameter.Value ∷ ps) ts zero t e = let same : Basic ≡ t = of_same Basic t (some_same (Of Basic) (Of t) e) in ap (λ y. size (zero_of y)) (sym same)
own_cells (parameter.Place u ∷ ps) ts zero t e = absurd (let n : None ≡ Some (Of t) = e in cc)
own_cells (parameter.Open u ∷ ps) ts zero t e = absurd (let n : None ≡ Some (Of t) = e in cc)
own_cells (parameter.Extended u ∷ ps) ts zero t e = absurd (let n : None ≡ Some (Of t) = e in cc)
own_cells (p ∷ ps) ts (suc x) t e = own_cells ps ts x t e

-- each variable of modules and calls has so few cells
record IsFew (names : Names) : Type 0 where
  faces : FacesFit names.faces
  variables : VariablesFit names.variables
  own : ShapesFit names.own

-- ---- numbers on the stack

abbrev over : ℕ → Kinds → Kinds
over zero ks = ks
over (suc n) ks = Number ∷ over n ks

over_sum : (m n : ℕ) (ks : Kinds) → over n (over m ks) ≡ over (m + n) ks
over_sum m zero ks = let e : m ≡ m + 0 = omega arith in ap (λ n. over n ks) e
over_sum m (suc n) ks = let e : suc (m + n) ≡ m + suc n = omega arith in ap (λ l. Number ∷ l) (over_sum m n ks) ∙ ap (λ n. over n ks) e

over_length : (n : ℕ) (ks : Kinds) → n ≤ length (over n ks)
over_length zero ks = omega arith
over_length (suc n) ks = let h = over_length n ks in omega (arith, h)

over_drop : (n : ℕ) (ks : Kinds) → drop n (over n ks) ≡ ks
over_drop zero ks = refl
over_drop (suc n) ks = over_drop n ks

-- after what is passed: so many numbers, and these names
abbrev given : ℕ → NameKinds → Known → Known
given n ns x = record { operands = over n x.operands; names = x.names ++ ns }

given_more : (m n : ℕ) (js ks : NameKinds) (x : Known) → given n ks (given m js x) ≡ given (m + n) (js ++ ks) x
given_more m n js ks x =
    ap (λ l. record { operands = l; names = (x.names ++ js) ++ ks }) (over_sum m n x.operands)
    ∙ ap (λ l. record { operands = over (m + n) x.operands; names = l }) (append_assoc x.names js ks)

given_none : (n : ℕ) (x : Known) → record { operands = over n x.operands; names = x.names } ≡ given n [] x
given_none n x = ap (λ l. record { operands = over n x.operands; names = l }) (sym (append-nil x.names))

module _ (names : Names) (m : CodeModule) (f : Procedure) (known : IsNamed names m f) (few : IsFew names) where
  abbrev own : NameKinds
  own = f.entry.kinds

  variable_lies : (v : Variable) (t : Shape) → variable_object names v ≡ Some (Of t) → Lie own (root_of names v) (UpTo 0) (size (zero_of t))
  variable_lies (variable.OfModule x) t e =
      let h = held_module names.variables x (Of t) e in
      let s = held_cells _ x t h.0 (extent_at (opening_row names.variables) x) h.1 h.2 in
      omega (arith, s)
  variable_lies (variable.OfImport i x) t e =
      let face = face_there names m f known (slice_get names.faces i) x (Of t) e in
      let found : face_object (Some face.0) x ≡ Some (Of t) = ap (λ o. face_object o x) (sym face.1) ∙ e in
      let h = held_zeros face.0.variables x (Of t) found in
      let s = held_cells _ x t h.0 (extent_at (zeros face.0.variables) x) h.1 h.2 in
      subst (λ o. LieAmong (extent_at (face_row o) x).cells (UpTo 0) (size (zero_of t))) (sym face.1) (omega (arith, s))
  variable_lies (variable.OfProcedure x) t e = let s = own_cells names.parameters names.own x t e in omega (arith, s)
  variable_lies (variable.ByParameter x) t e =
      let y = named_before names.parameters x in
      subst (λ ks. LieInName (slice_get ks y) y (UpTo 0) (size (zero_of t))) (sym known.kinds) (place_lies names.parameters x y t e)

  -- an open array stands at the first cell of a name
  open_stands : (d : Designator) (t : Shape) → object_of names d ≡ Some (OpenOf t) → (x : ℕ) × (root_in names d ≡ root.Named x) × (slice_get own x ≡ Some (ArrayOf (size (zero_of t)))) × (offset_kind names d ≡ UpTo 0)
  open_stands (designator.Whole (variable.OfModule x)) t e = absurd (closed_module (slice_get names.variables x) t e)
  open_stands (designator.Whole (variable.OfImport i x)) t e = absurd (closed_face (slice_get names.faces i) x t e)
  open_stands (designator.Whole (variable.OfProcedure x)) t e = absurd (closed_own names.parameters names.own x t e)
  open_stands (designator.Whole (variable.ByParameter x)) t e =
      (named_before names.parameters x, refl, ap (λ ks. slice_get ks (named_before names.parameters x)) known.kinds ∙ open_kind names.parameters x t e, refl)
  open_stands (designator.Element' g (more_of-Designator d end_of-Designator) l h row) t e = absurd (closed_shape (elements_in (object_of names d)) t e)
  open_stands (designator.Field' h (more_of-Designator d end_of-Designator) i) t e =
      let p = field_some (object_of names d) i (OpenOf t) e in
      let k = field_is p.0 i (OpenOf t) p.2 in
      absurd (not_open k.kind t (sym k.object))
  open_stands (designator.Guarded' h (more_of-Designator d end_of-Designator) l kind levels) t e = absurd (not_open kind.shape t (some_same _ _ e))

  -- ---- what is told

  told_name_of : (v : Variable) → is_told_variable names v ≡ true → (n : ℕ) × (slice_get own (name_number (root_of names v)) ≡ Some (RecordOf n))
  told_name_of (variable.OfModule x) t = absurd (let n : false ≡ true = t in cc)
  told_name_of (variable.OfImport i x) t = absurd (let n : false ≡ true = t in cc)
  told_name_of (variable.OfProcedure x) t = absurd (let n : false ≡ true = t in cc)
  told_name_of (variable.ByParameter x) t =
      let k = told_kind names.parameters x t in
      (k.0, ap (λ ks. slice_get ks (named_before names.parameters x)) known.kinds ∙ k.1)

  told_name : (d : Designator) → is_told names d ≡ true → (n : ℕ) × (slice_get own (name_in names d) ≡ Some (RecordOf n))
  told_name (designator.Whole v) t = told_name_of v t
  told_name (designator.Element' g d l h row) t = absurd (let n : false ≡ true = t in cc)
  told_name (designator.Field' h d i) t = absurd (let n : false ≡ true = t in cc)
  told_name (designator.Guarded' h (more_of-Designator d end_of-Designator) l kind levels) t = told_name d t

  tells_type : (d : Designator) → is_told names d ≡ true → TellsType (slice_get own (name_in names d))
  tells_type d t = subst TellsType (sym (told_name d t).1) tt

  -- a guard finds its record at the first cell of the name
  guarded_start : (d : Designator) (x cells : ℕ) → is_told names d ≡ true → guarded x cells (offset_kind names d) ≡ InRecord x cells 0
  guarded_start (designator.Whole v) x cells t = refl
  guarded_start (designator.Element' g d l h row) x cells t = absurd (let n : false ≡ true = t in cc)
  guarded_start (designator.Field' h d i) x cells t = absurd (let n : false ≡ true = t in cc)
  guarded_start (designator.Guarded' h (more_of-Designator d end_of-Designator) l kind levels) x cells t =
      ap (guarded x cells) (guarded_start d (name_in names d) (record_cells kind.names) t)

  guard_lies : (d : Designator) (kind : RecordKind) → is_told names d ≡ true → KindFits kind → Lie own (root_in names d) (guarded (name_in names d) (record_cells kind.names) (offset_kind names d)) (size (zero_of kind.shape))
  guard_lies d kind t fits =
      let x = name_in names d in
      let n = told_name d t in
      let cells = record_size kind fits in
      let lies : LieInName (Some (RecordOf n.0)) x (InRecord x (record_cells kind.names) 0) (size (zero_of kind.shape)) = λ few. (refl, omega (arith, cells)) in
      subst (λ r. Lie own r (guarded x (record_cells kind.names) (offset_kind names d)) (size (zero_of kind.shape))) (sym (told_root names d t))
      (subst (λ k. LieInName (slice_get own x) x k (size (zero_of kind.shape))) (sym (guarded_start d x (record_cells kind.names) t))
      (subst (λ o. LieInName o x (InRecord x (record_cells kind.names) 0) (size (zero_of kind.shape))) (sym n.1) lies))

  variable_low : (v : Variable) → FewCells (root_of names v)
  variable_low (variable.OfModule x) = let c = variables_few names.variables x few.variables in omega (arith, c)
  variable_low (variable.OfImport i x) = let c = faces_few names.faces i x few.faces in omega (arith, c)
  variable_low (variable.OfProcedure x) = let c = own_few names.parameters names.own x few.own in omega (arith, c)
  variable_low (variable.ByParameter x) = tt

  root_low : (d : Designator) → FewCells (root_in names d)
  root_low (designator.Whole v) = variable_low v
  root_low (designator.Element' g (more_of-Designator d end_of-Designator) l h row) = root_low d
  root_low (designator.Field' h (more_of-Designator d end_of-Designator) i) = root_low d
  root_low (designator.Guarded' h (more_of-Designator d end_of-Designator) l kind levels) = root_low d

  -- ---- designators

  -- an array of which all cells are there as an object
  array_of : (d : Designator) (o : Object) (u : Shape) → object_of names d ≡ Some o → elements_in (Some o) ≡ Some u → ((t : Shape) → o ≡ Of t → Lie own (root_in names d) (offset_kind names d) (size (zero_of t))) → ArrayLies own (root_in names d) (length_of names d) (size (zero_of u)) (offset_kind names d)
  array_of d (Of Basic) u e same lies = absurd (let n : None ≡ Some u = same in cc)
  array_of d (Of (Record' k fields)) u e same lies = absurd (let n : None ≡ Some u = same in cc)
  array_of d (Of (Array' n q (more_of-Shape v end_of-Shape))) u e same lies =
      let alike : v ≡ u = some_same v u same in
      let total : size (row n (zero_of v)) ≡ count (row n (zero_of v)) * size (zero_of u) = size-row n (zero_of v) ∙ ap (λ w. w * size (zero_of v)) (sym (count-row n (zero_of v))) ∙ ap (λ w. count (row n (zero_of v)) * size (zero_of w)) alike in
      subst (λ o. ArrayLies own (root_in names d) (length_in o (root_in names d)) (size (zero_of u)) (offset_kind names d)) (sym e)
      (subst (Lie own (root_in names d) (offset_kind names d)) total (lies (Array' n q (more_of-Shape v end_of-Shape)) refl))
  array_of d (OpenOf w) u e same lies =
      let x = open_stands d w e in
      let alike : w ≡ u = some_same w u same in
      let long : IsLong own (root.Named x.0) x.0 (size (zero_of u)) = (refl, x.2 ∙ ap (λ y. Some (ArrayOf (size (zero_of y)))) alike) in
      subst (λ o. ArrayLies own (root_in names d) (length_in o (root_in names d)) (size (zero_of u)) (offset_kind names d)) (sym e) (
        subst (λ r. IsLong own r (name_number r) (size (zero_of u))) (sym x.1) long,
        subst (Covers (UpTo 0)) (sym x.3) (omega arith),
      )

  offset_lies : (d : Designator) (t : Shape) → IndexesFit names d → object_of names d ≡ Some (Of t) → Lie own (root_in names d) (offset_kind names d) (size (zero_of t))
  offset_lies (designator.Whole v) t ty e = variable_lies v t e
  offset_lies (designator.Element' g (more_of-Designator d end_of-Designator) l i (more_of-TypedExpr index end_of-TypedExpr)) t ty e =
      let u = shape_some (elements_in (object_of names d)) (Of t) e in
      let o = elements_some (object_of names d) u.0 u.1 in
      let inside : elements_in (Some o.0) ≡ Some u.0 = ap elements_in (sym o.1) ∙ u.1 in
      let lies = array_of d o.0 u.0 o.1 inside (λ w same. offset_lies d w ty.0 (o.1 ∙ ap Some same)) in
      let cells : size (zero_of u.0) ≡ element_cells names d = ap (λ x. size (zero_element x)) (sym u.1) in
      let same : size (zero_of u.0) ≡ size (zero_of t) = ap (λ y. size (zero_of y)) (sym (of_same t u.0 u.2)) in
      subst (Lie own (root_in names d) (element (length_of names d) (element_cells names d) (offset_kind names d))) (sym cells ∙ same)
      (element_lies own (root_in names d) (length_of names d) (element_cells names d) (offset_kind names d) (root_low d)
      (subst (λ s. ArrayLies own (root_in names d) (length_of names d) s (offset_kind names d)) cells lies))
  offset_lies (designator.Field' g (more_of-Designator d end_of-Designator) i) t ty e =
      let w = field_some (object_of names d) i (Of t) e in
      let k = field_is w.0 i (Of t) w.2 in
      let by : before (zero_in (object_of names d)) i ≡ before (zero_of w.0) i = ap (λ o. before (zero_in o) i) w.1 in
      let cells : size (zero_of t) ≡ size (item (zero_of w.0) i) = ap (λ y. size (zero_of y)) (of_same t k.kind k.object) ∙ ap size (sym k.is) in
      let within = before-within (zero_of w.0) i in
      moved_lies own (root_in names d) (offset_kind names d) (size (zero_of w.0)) (before (zero_in (object_of names d)) i) (size (zero_of t)) (omega (arith, by, cells, within)) (root_low d) (offset_lies d w.0 ty w.1)
  offset_lies (designator.Guarded' g (more_of-Designator d end_of-Designator) l kind levels) t ty e =
      subst (λ u. Lie own (root_in names d) (guarded (name_in names d) (record_cells kind.names) (offset_kind names d)) (size (zero_of u))) (of_same kind.shape t (some_same _ _ e))
      (guard_lies d kind ty.1 ty.2)

  -- a part of what a name stands for, which begins with it
  again_lies : (d : Designator) (t : Shape) (n : ℕ) → is_told names d ≡ true → n ≤ size (zero_of t) → Lie own (root_in names d) (offset_kind names d) (size (zero_of t)) → Lie own (root.Named (name_in names d)) (offset_kind names d) n
  again_lies d t n is le h =
      let x = name_in names d in
      let k = told_name d is in
      let whole : LieInName (slice_get own x) x (offset_kind names d) (size (zero_of t)) = subst (λ r. Lie own r (offset_kind names d) (size (zero_of t))) (told_root names d is) h in
      let lies = subst (λ o. LieInName o x (offset_kind names d) (size (zero_of t))) k.1 whole in
      subst (λ o. LieInName o x (offset_kind names d) n) (sym k.1) (λ few. fewer_in_record x k.0 (offset_kind names d) (size (zero_of t)) n le (lies few))

  -- the elements of an array that is indexed
  length_holds : (d : Designator) (o : Object) → object_of names d ≡ Some o → LengthIs own (length_of names d) (element_cells names d)
  length_holds d (Of t) e = subst (λ o. LengthIs own (length_in o (root_in names d)) (element_cells names d)) (sym e) tt
  length_holds d (OpenOf t) e =
      let x = open_stands d t e in
      let cells : size (zero_of t) ≡ element_cells names d = ap (λ o. size (zero_element (elements_in o))) (sym e) in
      subst (λ o. LengthIs own (length_in o (root_in names d)) (element_cells names d)) (sym e)
      (subst (λ r. slice_get own (name_number r) ≡ Some (ArrayOf (element_cells names d))) (sym x.1) (x.2 ∙ ap (λ n. Some (ArrayOf n)) cells))

  array_lies : (d : Designator) (u : Shape) → IndexesFit names d → elements_in (object_of names d) ≡ Some u → ArrayLies own (root_in names d) (length_of names d) (size (zero_of u)) (offset_kind names d)
  array_lies d u ty e =
      let o = elements_some (object_of names d) u e in
      array_of d o.0 u o.1 (ap elements_in (sym o.1) ∙ e) (λ w same. offset_lies d w ty (o.1 ∙ ap Some same))

  named_lies : (d : Designator) (u : Shape) → IndexesFit names d → elements_in (object_of names d) ≡ Some u → ArrayLies own (root_in names d) (length_of names d) (element_cells names d) (offset_kind names d)
  named_lies d u ty e =
      let cells : size (zero_of u) ≡ element_cells names d = ap (λ x. size (zero_element x)) (sym e) in
      subst (λ s. ArrayLies own (root_in names d) (length_of names d) s (offset_kind names d)) cells (array_lies d u ty e)

  cells_lie : (d : Designator) (t : Shape) → IndexesFit names d → object_of names d ≡ Some (Of t) → Lie own (root_in names d) (offset_kind names d) (cells_of names d)
  cells_lie d t ty e =
      let cells : size (zero_of t) ≡ cells_of names d = ap (λ o. size (zero_in o)) (sym e) in
      subst (Lie own (root_in names d) (offset_kind names d)) cells (offset_lies d t ty e)

  text_lies : (d : Designator) → IndexesFit names d → IsText (object_of names d) → TextLies own (span_of names d) (offset_kind names d)
  text_lies d ty e = array_lies d Basic ty e

  target_lies : (r : Reader) (d : Designator) → IndexesFit names d → IsRead r (object_of names d) → (o : Object) × (object_of names d ≡ Some o) × TargetLies own (target_of names r d) (offset_kind names d)
  target_lies reader.Char d ty e = (Of Basic, e, offset_lies d Basic ty e)
  target_lies reader.Int d ty e = (Of Basic, e, offset_lies d Basic ty e)
  target_lies reader.String d ty e = let x = elements_some (object_of names d) Basic e in (x.0, x.1, text_lies d ty e)
  target_lies reader.Name d ty e = let x = elements_some (object_of names d) Basic e in (x.0, x.1, text_lies d ty e)

  -- ---- code

  abbrev Leads : List Line → Known → Known → Type 0
  Leads c x y = Tells m f c x y

  -- a line, and the same after code
  abbrev LineKeeps : Instr → Known → Known → Type 0
  LineKeeps i x y = (rows : Rows) (pc : ℕ) → Arrives (known_at f rows (pc + 1)) y → Keeps m f rows pc x i

  one_tells : (h k : ℕ) (i : Instr) (x y : Known) → LineKeeps i x y → Leads (line h k i ∷ []) x y
  one_tells h k i x y keeps = tells_one m f (line h k i) x y (λ rows pc e behind. keeps rows pc behind)

  then_tells : (c : List Line) (h k : ℕ) (i : Instr) (x y z : Known) → Leads c x y → LineKeeps i y z → Leads (c ++ line h k i ∷ []) x z
  then_tells c h k i x y z tc keeps = tells_join m f c (line h k i ∷ []) x y z tc (one_tells h k i y z keeps)

  -- so many cells on
  added_tells : (c : List Line) (n h k : ℕ) (kind : Kind) (x ks : Known) → Leads c x (push kind ks) → Leads (c ++ added_code h k n) x (push (moved n kind) ks)
  added_tells c zero h k kind x ks tc =
      tells_more m f (c ++ []) x (push kind ks) (push (moved 0 kind) ks) ((covers_moved kind, cover_self ks.operands), refl)
      (subst (λ l. Leads l x (push kind ks)) (sym (append-nil c)) tc)
  added_tells c (suc n) h k kind x ks tc = then_tells c h k (instr.AddOffset (suc n)) x (push kind ks) (push (moved (suc n) kind) ks) tc (λ rows pc behind. (omega arith, tt, behind))

  field_tells : (c : List Line) (d : Designator) (n h k : ℕ) (kind : Kind) (x ks : Known) → Leads c x (push kind ks) → Leads (c ++ field_code h k d n) x (push (moved n kind) ks)
  field_tells c (designator.Whole v) n h k kind x ks tc = then_tells c h k (instr.AddOffset n) x (push kind ks) (push (moved n kind) ks) tc (λ rows pc behind. (omega arith, tt, behind))
  field_tells c (designator.Element' g d l i row) n h k kind x ks tc = added_tells c n h k kind x ks tc
  field_tells c (designator.Field' g d i) n h k kind x ks tc = added_tells c n h k kind x ks tc
  field_tells c (designator.Guarded' g d l same levels) n h k kind x ks tc = added_tells c n h k kind x ks tc

  two_tells : (a b : List Line) (h k : ℕ) (i : Instr) (x y z w : Known) → Leads a x y → Leads b y z → LineKeeps i z w → Leads (a ++ (b ++ line h k i ∷ [])) x w
  two_tells a b h k i x y z w ta tb keeps = tells_join m f a (b ++ line h k i ∷ []) x y w ta (then_tells b h k i y z w tb keeps)

  -- a number, of which nothing is to be known
  any_tells : (c : List Line) (ks : Known) (kind : Kind) → Leads c ks (push kind ks) → Leads c ks (push Number ks)
  any_tells c ks kind t = tells_more m f c ks (push kind ks) (push Number ks) ((tt, cover_self ks.operands), refl) t

  value_tells : (n h k : ℕ) (ks : Known) → Leads (line h k (instr.Push (pos n)) ∷ []) ks (push (UpTo n) ks)
  value_tells n h k ks = one_tells h k (instr.Push (pos n)) ks (push (UpTo n) ks) (λ rows pc behind. (omega arith, tt, behind))

  truth_tells : (n h k : ℕ) (ks : Known) → Leads (line h k (instr.Push (pos n)) ∷ []) ks (push Number ks)
  truth_tells n h k ks = any_tells (line h k (instr.Push (pos n)) ∷ []) ks (UpTo n) (value_tells n h k ks)

  and_tells : (h k : ℕ) (ks : Known) (a b : List Line) → Leads a ks (push Number ks) → Leads b ks (push Number ks) → Leads (and_code h k a b) ks (push Number ks)
  and_tells h k ks a b ta tb =
      tells_join m f a _ ks (push Number ks) (push Number ks) ta (tells_choice m f (h + 1) k (h + 1) k ks (push Number ks) b (line h k (instr.Push (pos 0)) ∷ []) tb (truth_tells 0 h k ks))

  or_tells : (h k : ℕ) (ks : Known) (a b : List Line) → Leads a ks (push Number ks) → Leads b ks (push Number ks) → Leads (or_code h k a b) ks (push Number ks)
  or_tells h k ks a b ta tb =
      tells_join m f a _ ks (push Number ks) (push Number ks) ta (tells_choice m f (h + 1) k (h + 1) k ks (push Number ks) (line h k (instr.Push (pos 1)) ∷ []) b (truth_tells 1 h k ks) tb)

  -- ---- calls

  call_keeps : (rows : Rows) (pc n l : ℕ) (g : Callee) (e : Entry) (ks : Known) → entry_of m g ≡ Some e → e.operands ≡ n → e.names ≡ length e.kinds → Arrives (known_at f rows (pc + 1)) (with_results e.is_function ks) → Keeps m f rows pc (given n e.kinds ks) (instr.Invoke g l)
  call_keeps rows pc n l g e ks found same counted behind =
      subst (λ o. (operands_of o ≤ length (over n ks.operands)) × ArePassed o (ks.names ++ e.kinds) × Arrives (known_at f rows (pc + 1)) (record { operands = entry_results o ++ drop (operands_of o) (over n ks.operands); names = take (length (ks.names ++ e.kinds) - passed_names o) (ks.names ++ e.kinds) })) (sym found) (
        enough,
        (omega (arith, all, counted), ap (λ d. drop d (ks.names ++ e.kinds)) below ∙ drop-append_seam ks.names e.kinds),
        subst (λ l. Arrives (known_at f rows (pc + 1)) (record { operands = results_kinds e.is_function ++ l; names = take (length (ks.names ++ e.kinds) - e.names) (ks.names ++ e.kinds) })) (sym rest)
            (subst (λ l. Arrives (known_at f rows (pc + 1)) (record { operands = results_kinds e.is_function ++ ks.operands; names = l })) (sym kept) behind),
      )
    where
      all : length (ks.names ++ e.kinds) ≡ length ks.names + length e.kinds
      all = length-append ks.names e.kinds

      below : length (ks.names ++ e.kinds) - e.names ≡ length ks.names
      below = omega (arith, all, counted)

      enough : e.operands ≤ length (over n ks.operands)
      enough = let h = over_length n ks.operands in omega (arith, h, same)

      rest : drop e.operands (over n ks.operands) ≡ ks.operands
      rest = ap (λ k. drop k (over n ks.operands)) same ∙ over_drop n ks.operands

      kept : take (length (ks.names ++ e.kinds) - e.names) (ks.names ++ e.kinds) ≡ ks.names
      kept = ap (λ d. take d (ks.names ++ e.kinds)) below ∙ take-append_seam ks.names e.kinds

  invoke_tells : (h k n l : ℕ) (g : Callee) (heading : Heading) (gives : Bool) (ks : Known) → called names g ≡ Some heading → heading.is_function ≡ gives → valued_count heading.parameters ≡ n → Leads (line h k (instr.Invoke g l) ∷ []) (given n (name_kinds heading.parameters) ks) (with_results gives ks)
  invoke_tells h k n l g heading gives ks is gives_so counted =
      one_tells h k (instr.Invoke g l) (given n (name_kinds heading.parameters) ks) (with_results gives ks) (λ rows pc behind.
      call_keeps rows pc n l g (heading_entry heading) ks (callee_entry names m f known g heading is) counted (sym (kinds_counted heading.parameters))
      (subst (λ b. Arrives (known_at f rows (pc + 1)) (with_results b ks)) (sym gives_so) behind))

  -- ---- expressions

  read_tells : (h k : ℕ) (ks : Known) (d : Designator) (offset : List Line) → IndexesFit names d → IsBasic (object_of names d) → Leads offset ks (push (offset_kind names d) ks) → Leads (read_code names h k d offset) ks (push Number ks)
  read_tells h k ks (designator.Whole v) offset ty basic t =
      one_tells h k (instr.Load (root_of names v)) ks (push Number ks) (λ rows pc behind. (omega arith, variable_lies v Basic basic, behind))
  read_tells h k ks (designator.Element' g (more_of-Designator d end_of-Designator) l i row) offset ty basic t =
      let whole = designator.Element' g (more_of-Designator d end_of-Designator) l i row in
      then_tells offset (h + 1) k (instr.LoadAt (root_in names d)) ks (push (offset_kind names whole) ks) (push Number ks) t (λ rows pc behind. (omega arith, offset_lies whole Basic ty basic, behind))
  read_tells h k ks (designator.Field' g (more_of-Designator d end_of-Designator) i) offset ty basic t =
      let whole = designator.Field' g (more_of-Designator d end_of-Designator) i in
      then_tells offset (h + 1) k (instr.LoadAt (root_in names d)) ks (push (offset_kind names whole) ks) (push Number ks) t (λ rows pc behind. (omega arith, offset_lies whole Basic ty basic, behind))
  read_tells h k ks (designator.Guarded' g (more_of-Designator d end_of-Designator) l kind levels) offset ty basic t =
      let whole = designator.Guarded' g (more_of-Designator d end_of-Designator) l kind levels in
      then_tells offset (h + 1) k (instr.LoadAt (root_in names d)) ks (push (offset_kind names whole) ks) (push Number ks) t (λ rows pc behind. (omega arith, offset_lies whole Basic ty basic, behind))

  mutual
    expr_tells : (e : TypedExpr) (h k : ℕ) (ks : Known) → ExprFits names e → Leads (expr_code names h k e) ks (push Number ks)
    expr_tells (expr.Constant v) h k ks fit = one_tells h k (instr.Push v) ks (push Number ks) (λ rows pc behind. (omega arith, tt, arrives_at (known_at f rows (pc + 1)) (push Number ks) (push (literal v) ks) ((tt, cover_self ks.operands), refl) behind))
    expr_tells (expr.Read d) h k ks fit = read_tells h k ks d (offset_code names h k d) fit.0 fit.1 (offset_tells d h k ks fit.0 (Of Basic) fit.1)
    expr_tells expr.InputDone h k ks fit = one_tells h k instr.PushDone ks (push Number ks) (λ rows pc behind. (omega arith, tt, behind))
    expr_tells (expr.Unary' op l g (more_of-TypedExpr a end_of-TypedExpr)) h k ks fit =
        then_tells (expr_code names h k a) (h + 1) k (instr.Unary op l) ks (push Number ks) (push Number ks) (expr_tells a h k ks fit) (λ rows pc behind. (omega arith, tt, behind))
    expr_tells (expr.Chain' g (more_of-TypedExpr a end_of-TypedExpr) n steps) h k ks fit =
        tells_join m f (expr_code names h k a) (operations_code names h k steps) ks (push Number ks) (push Number ks) (expr_tells a h k ks fit.0) (operations_tell steps h k ks fit.1)
    expr_tells (expr.Every' n es) h k ks fit = every_tells es h k ks fit
    expr_tells (expr.Either' n es) h k ks fit = either_tells es h k ks fit
    expr_tells (expr.Texts relation a b) h k ks fit =
        let x = elements_some (object_of names a) Basic fit.2 in
        let y = elements_some (object_of names b) Basic fit.3 in
        let one = push (offset_kind names a) ks in
        two_tells (offset_code names h k a) (offset_code names (h + 1) k b) (h + 2) k (instr.RelateTexts relation (span_of names a) (span_of names b)) ks one (push (offset_kind names b) one) (push Number ks)
        (offset_tells a h k ks fit.0 x.0 x.1) (offset_tells b (h + 1) k one fit.1 y.0 y.1) (λ rows pc behind. (omega arith, (text_lies a fit.0 fit.2, text_lies b fit.1 fit.3), behind))
    expr_tells (expr.Length d) h k ks fit =
        let x = elements_some (object_of names d) fit.1.0 fit.1.1 in
        then_tells (offset_code names h k d) (h + 1) k (instr.TakeLength (length_of names d)) ks (push (offset_kind names d) ks) (push Number ks) (offset_tells d h k ks fit.0 x.0 x.1) (λ rows pc behind. (omega arith, tt, behind))
    expr_tells (expr.Function' g l n args) h k ks fit =
        let counts = row_counts names args fit.0.parameters fit.3 in
        let values = valued fit.0.parameters in
        let counted : valued_count fit.0.parameters ≡ row_values args = omega (arith, counts.0, counts.1, values) in
        tells_join m f (arguments_code names h k args) _ ks (given (row_values args) (name_kinds fit.0.parameters) ks) (push Number ks) (arguments_tell args fit.0.parameters h k ks fit.3)
        (invoke_tells (h + row_values args) (k + row_names args) (row_values args) l g fit.0 true ks fit.1 fit.2 counted)
    expr_tells (expr.Test d type) h k ks fit =
        let o = told_object names d fit.1 in
        then_tells (offset_code names h k d) (h + 1) k (instr.Test (name_in names d) type) ks (push (offset_kind names d) ks) (push Number ks) (offset_tells d h k ks fit.0 (Of o.0) o.1) (λ rows pc behind. (omega arith, tells_type d fit.1, behind))

    offset_tells : (d : Designator) (h k : ℕ) (ks : Known) → IndexesFit names d → (o : Object) → object_of names d ≡ Some o → Leads (offset_code names h k d) ks (push (offset_kind names d) ks)
    offset_tells (designator.Whole v) h k ks fit o e = value_tells 0 h k ks
    offset_tells (designator.Element' g (more_of-Designator d end_of-Designator) l i (more_of-TypedExpr index end_of-TypedExpr)) h k ks fit o e =
        let t = shape_some (elements_in (object_of names d)) o e in
        let u = elements_some (object_of names d) t.0 t.1 in
        let one = push (offset_kind names d) ks in
        two_tells (offset_code names h k d) (expr_code names (h + 1) k index) (h + 2) k (instr.Index (length_of names d) (element_cells names d) l) ks one (push Number one) (push (element (length_of names d) (element_cells names d) (offset_kind names d)) ks)
        (offset_tells d h k ks fit.0 u.0 u.1) (expr_tells index (h + 1) k one fit.1) (λ rows pc behind. (omega arith, length_holds d u.0 u.1, behind))
    offset_tells (designator.Field' g (more_of-Designator d end_of-Designator) i) h k ks fit o e =
        let t = field_some (object_of names d) i o e in
        let by = before (zero_in (object_of names d)) i in
        field_tells (offset_code names h k d) d by (h + 1) k (offset_kind names d) ks ks (offset_tells d h k ks fit (Of t.0) t.1)
    offset_tells (designator.Guarded' g (more_of-Designator d end_of-Designator) l kind levels) h k ks fit o e =
        let t = told_object names d fit.1 in
        then_tells (offset_code names h k d) (h + 1) k (instr.Guard (name_in names d) kind.names trap.Guard l) ks (push (offset_kind names d) ks) (push (guarded (name_in names d) (record_cells kind.names) (offset_kind names d)) ks) (offset_tells d h k ks fit.0 (Of t.0) t.1) (λ rows pc behind. (omega arith, tells_type d fit.1, behind))

    operations_tell : {n : _} (steps : Row_of-Operation n) (h k : ℕ) (ks : Known) → OperationsFit names steps → Leads (operations_code names h k steps) (push Number ks) (push Number ks)
    operations_tell end_of-Operation h k ks fit = tells_none m f (push Number ks)
    operations_tell (more_of-Operation op l e rest) h k ks fit =
        let operate = line (h + 2) k (instr.Operate op l) in
        tells_join m f (expr_code names (h + 1) k e) (operate ∷ operations_code names h k rest) (push Number ks) (push Number (push Number ks)) (push Number ks) (expr_tells e (h + 1) k (push Number ks) fit.0)
        (tells_join m f (operate ∷ []) (operations_code names h k rest) (push Number (push Number ks)) (push Number ks) (push Number ks)
        (one_tells (h + 2) k (instr.Operate op l) (push Number (push Number ks)) (push Number ks) (λ rows pc behind. (omega arith, tt, behind))) (operations_tell rest h k ks fit.1))

    every_tells : {n : _} (es : Row_of-TypedExpr n) (h k : ℕ) (ks : Known) → ExprsFit names es → Leads (every_code names h k es) ks (push Number ks)
    every_tells end_of-TypedExpr h k ks fit = truth_tells 1 h k ks
    every_tells (more_of-TypedExpr e rest) h k ks fit = and_tells h k ks (expr_code names h k e) (every_code names h k rest) (expr_tells e h k ks fit.0) (every_tells rest h k ks fit.1)

    either_tells : {n : _} (es : Row_of-TypedExpr n) (h k : ℕ) (ks : Known) → ExprsFit names es → Leads (either_code names h k es) ks (push Number ks)
    either_tells end_of-TypedExpr h k ks fit = truth_tells 0 h k ks
    either_tells (more_of-TypedExpr e rest) h k ks fit = or_tells h k ks (expr_code names h k e) (either_code names h k rest) (expr_tells e h k ks fit.0) (either_tells rest h k ks fit.1)

    argument_tells : (a : Argument) (p : Parameter) (h k : ℕ) (ks : Known) → IsPassed names a p → Leads (argument_code names h k a) ks (given (value_one a) (name_kind p) ks)
    argument_tells (argument.Value e) parameter.Value h k ks fit = subst (Leads (expr_code names h k e) ks) (given_none 1 ks) (expr_tells e h k ks fit)
    argument_tells (argument.Place d) (parameter.Place t) h k ks fit =
        let cells : cells_of names d ≡ size (zero_of t) = ap (λ o. size (zero_in o)) fit.1 in
        then_tells (offset_code names h k d) (h + 1) k (instr.NamePlace (root_in names d) (cells_of names d)) ks (push (offset_kind names d) ks) (given 0 (name_kind (parameter.Place t)) ks) (offset_tells d h k ks fit.0 (Of t) fit.1)
        (λ rows pc behind. (omega arith, (cells_lie d t fit.0 fit.1, root_low d), subst (λ n. Arrives (known_at f rows (pc + 1)) (given 0 (Cells n ∷ []) ks)) (sym cells) behind))
    argument_tells (argument.Open d) (parameter.Open t) h k ks fit =
        let x = elements_some (object_of names d) t fit.1 in
        let cells : element_cells names d ≡ size (zero_of t) = ap (λ y. size (zero_element y)) fit.1 in
        then_tells (offset_code names h k d) (h + 1) k (instr.NameArray (root_in names d) (length_of names d) (element_cells names d)) ks (push (offset_kind names d) ks) (given 0 (name_kind (parameter.Open t)) ks) (offset_tells d h k ks fit.0 x.0 x.1)
        (λ rows pc behind. (omega arith, (named_lies d t fit.0 fit.1, root_low d), subst (λ n. Arrives (known_at f rows (pc + 1)) (given 0 (ArrayOf n ∷ []) ks)) (sym cells) behind))
    argument_tells (argument.Value e) (parameter.Place t) h k ks fit = absurd fit
    argument_tells (argument.Value e) (parameter.Open t) h k ks fit = absurd fit
    argument_tells (argument.Place d) parameter.Value h k ks fit = absurd fit
    argument_tells (argument.Place d) (parameter.Open t) h k ks fit = absurd fit
    argument_tells (argument.Open d) parameter.Value h k ks fit = absurd fit
    argument_tells (argument.Open d) (parameter.Place t) h k ks fit = absurd fit
    argument_tells (argument.Typed d kind levels) (parameter.Extended t) h k ks fit =
        let many = base_cells names d levels in
        let cells : many ≡ size (zero_of t) = ap (λ o. size (zero_in o)) fit.4 in
        let whole = record_size kind fit.2 in
        let less = base_size levels kind.shape t (ap (base_object levels) (sym fit.3) ∙ fit.4) in
        then_tells (offset_code names h k d) (h + 1) k (instr.NameRecord (root_in names d) kind.names many) ks (push (offset_kind names d) ks) (given 0 (name_kind (parameter.Extended t)) ks) (offset_tells d h k ks fit.0 (Of kind.shape) fit.3)
        (λ rows pc behind. (
          omega arith,
          (subst (Lie own (root_in names d) (offset_kind names d)) (sym whole) (offset_lies d kind.shape fit.0 fit.3), root_low d, omega (arith, cells, whole, less), types_at_most kind fit.2),
          subst (λ n. Arrives (known_at f rows (pc + 1)) (given 0 (RecordOf n ∷ []) ks)) (sym cells) behind,
        ))
    argument_tells (argument.Again d levels) (parameter.Extended t) h k ks fit =
        let many = base_cells names d levels in
        let o = told_object names d fit.1 in
        let cells : many ≡ size (zero_of t) = ap (λ o. size (zero_in o)) fit.2 in
        let less = base_size levels o.0 t (ap (base_object levels) (sym o.1) ∙ fit.2) in
        then_tells (offset_code names h k d) (h + 1) k (instr.NameAgain (name_in names d) many) ks (push (offset_kind names d) ks) (given 0 (name_kind (parameter.Extended t)) ks) (offset_tells d h k ks fit.0 (Of o.0) o.1)
        (λ rows pc behind. (
          omega arith,
          (tells_type d fit.1, again_lies d o.0 many fit.1 (omega (arith, cells, less)) (offset_lies d o.0 fit.0 o.1)),
          subst (λ n. Arrives (known_at f rows (pc + 1)) (given 0 (RecordOf n ∷ []) ks)) (sym cells) behind,
        ))
    argument_tells (argument.Value e) (parameter.Extended t) h k ks fit = absurd fit
    argument_tells (argument.Place d) (parameter.Extended t) h k ks fit = absurd fit
    argument_tells (argument.Open d) (parameter.Extended t) h k ks fit = absurd fit
    argument_tells (argument.Typed d kind levels) parameter.Value h k ks fit = absurd fit
    argument_tells (argument.Typed d kind levels) (parameter.Place t) h k ks fit = absurd fit
    argument_tells (argument.Typed d kind levels) (parameter.Open t) h k ks fit = absurd fit
    argument_tells (argument.Again d levels) parameter.Value h k ks fit = absurd fit
    argument_tells (argument.Again d levels) (parameter.Place t) h k ks fit = absurd fit
    argument_tells (argument.Again d levels) (parameter.Open t) h k ks fit = absurd fit

    arguments_tell : {n : _} (row : Row_of-Argument n) (ps : List Parameter) (h k : ℕ) (ks : Known) → RowPassed names row ps → Leads (arguments_code names h k row) ks (given (row_values row) (name_kinds ps) ks)
    arguments_tell end_of-Argument [] h k ks fit = subst (Leads [] ks) (given_none 0 ks) (tells_none m f ks)
    arguments_tell end_of-Argument (p ∷ ps) h k ks fit = absurd fit
    arguments_tell (more_of-Argument a rest) [] h k ks fit = absurd fit
    arguments_tell (more_of-Argument a rest) (p ∷ ps) h k ks fit =
        let one = given (value_one a) (name_kind p) ks in
        subst (Leads (arguments_code names h k (more_of-Argument a rest)) ks) (given_more (value_one a) (row_values rest) (name_kind p) (name_kinds ps) ks)
        (tells_join m f (argument_code names h k a) _ ks one (given (row_values rest) (name_kinds ps) one) (argument_tells a p h k ks fit.0) (arguments_tell rest ps (h + value_one a) (k + name_one a) one fit.1))

  passed_tell : (args : List Argument) (ps : List Parameter) (h k : ℕ) (ks : Known) → ListPassed names args ps → Leads (passed_code names h k args) ks (given (list_values args) (name_kinds ps) ks)
  passed_tell [] [] h k ks fit = subst (Leads [] ks) (given_none 0 ks) (tells_none m f ks)
  passed_tell [] (p ∷ ps) h k ks fit = absurd fit
  passed_tell (a ∷ rest) [] h k ks fit = absurd fit
  passed_tell (a ∷ rest) (p ∷ ps) h k ks fit =
      let one = given (value_one a) (name_kind p) ks in
      subst (Leads (passed_code names h k (a ∷ rest)) ks) (given_more (value_one a) (list_values rest) (name_kind p) (name_kinds ps) ks)
      (tells_join m f (argument_code names h k a) _ ks one (given (list_values rest) (name_kinds ps) one) (argument_tells a p h k ks fit.0) (passed_tell rest ps (h + value_one a) (k + name_one a) one fit.1))

  -- ---- statements: each begins and ends with nothing on the stack

  -- an instruction that uses up a number, and one that uses up the number of a cell and a number
  uses_number : (c : List Line) (i : Instr) → Leads c nothing number → LineKeeps i number nothing → Leads (c ++ line 1 0 i ∷ []) nothing nothing
  uses_number c i tc keeps = then_tells c 1 0 i nothing number nothing tc keeps

  uses_place : (c : List Line) (i : Instr) (kind : Kind) → Leads c nothing (push kind nothing) → LineKeeps i (push kind nothing) nothing → Leads (c ++ line 1 0 i ∷ []) nothing nothing
  uses_place c i kind tc keeps = then_tells c 1 0 i nothing (push kind nothing) nothing tc keeps

  uses_two : (a b : List Line) (i : Instr) (kind other : Kind) → Leads a nothing (push kind nothing) → Leads b (push kind nothing) (push other (push kind nothing)) → LineKeeps i (push other (push kind nothing)) nothing → Leads (a ++ (b ++ line 2 0 i ∷ [])) nothing nothing
  uses_two a b i kind other ta tb keeps = two_tells a b 2 0 i nothing (push kind nothing) (push other (push kind nothing)) nothing ta tb keeps

  step_tells : (i : Instr) → LineKeeps i nothing nothing → Leads (line 0 0 i ∷ []) nothing nothing
  step_tells i keeps = one_tells 0 0 i nothing nothing keeps

  assign_tells : (d : Designator) (e : TypedExpr) → IndexesFit names d → IsBasic (object_of names d) → ExprFits names e → Leads (assign_code names d e) nothing nothing
  assign_tells (designator.Whole v) e indexes basic fit = uses_number (expr_code names 0 0 e) (instr.Store (root_of names v)) (expr_tells e 0 0 nothing fit) (λ rows pc behind. (omega arith, variable_lies v Basic basic, behind))
  assign_tells (designator.Element' g d l i row) e indexes basic fit =
      let whole = designator.Element' g d l i row in
      uses_two (offset_code names 0 0 whole) (expr_code names 1 0 e) (instr.StoreAt (root_in names whole)) (offset_kind names whole) Number (offset_tells whole 0 0 nothing indexes (Of Basic) basic) (expr_tells e 1 0 (push (offset_kind names whole) nothing) fit)
      (λ rows pc behind. (omega arith, offset_lies whole Basic indexes basic, behind))
  assign_tells (designator.Field' g d i) e indexes basic fit =
      let whole = designator.Field' g d i in
      uses_two (offset_code names 0 0 whole) (expr_code names 1 0 e) (instr.StoreAt (root_in names whole)) (offset_kind names whole) Number (offset_tells whole 0 0 nothing indexes (Of Basic) basic) (expr_tells e 1 0 (push (offset_kind names whole) nothing) fit)
      (λ rows pc behind. (omega arith, offset_lies whole Basic indexes basic, behind))
  assign_tells (designator.Guarded' g d l kind levels) e indexes basic fit =
      let whole = designator.Guarded' g d l kind levels in
      uses_two (offset_code names 0 0 whole) (expr_code names 1 0 e) (instr.StoreAt (root_in names whole)) (offset_kind names whole) Number (offset_tells whole 0 0 nothing indexes (Of Basic) basic) (expr_tells e 1 0 (push (offset_kind names whole) nothing) fit)
      (λ rows pc behind. (omega arith, offset_lies whole Basic indexes basic, behind))

  -- a reader, and where it asks for a line
  reading_tells : (r : Reader) (d : Designator) (kind : Kind) → TargetLies own (target_of names r d) kind → Leads (line 1 0 instr.CallInput ∷ (line 1 0 (instr.Read (target_of names r d)) ∷ (line 1 0 instr.AskLine ∷ (line 1 0 instr.TakeLine ∷ [])))) (push kind nothing) nothing
  reading_tells r d kind lies =
      let one : Known = push kind nothing in (
        one ∷ (one ∷ (one ∷ (one ∷ []))),
        refl,
        λ rows pc has at end.
            let at_read = here m f rows (pc + 1) (line 1 0 (instr.Read (target_of names r d))) one has.1.0 at.1.0 in
            let at_ask = here m f rows (pc + 1 + 1) (line 1 0 instr.AskLine) one has.1.1.0 at.1.1.0 in
            let at_take = here m f rows (pc + 1 + 1 + 1) (line 1 0 instr.TakeLine) one has.1.1.1.0 at.1.1.1.0 in
            let stop : pc + 4 ≡ pc + 1 + 3 = omega arith in
            let again : pc + 1 ≡ pc + 1 + 1 + 1 - 2 = omega arith in (
              here m f rows pc (line 1 0 instr.CallInput) one has.0 at.0,
              (
                subst (λ k. Keeps m f rows pc k instr.CallInput) (sym at.0) (omega arith, tt, at_read),
                (
                  subst (λ k. Keeps m f rows (pc + 1) k (instr.Read (target_of names r d))) (sym at.1.0) (omega arith, lies, (at_ask, subst (λ q. Arrives (known_at f rows q) nothing) stop end)),
                  (
                    subst (λ k. Keeps m f rows (pc + 1 + 1) k instr.AskLine) (sym at.1.1.0) (omega arith, tt, at_take),
                    (subst (λ k. Keeps m f rows (pc + 1 + 1 + 1) k instr.TakeLine) (sym at.1.1.1.0) (omega arith, tt, subst (λ q. Arrives (known_at f rows q) one) again at_read), tt),
                  ),
                ),
              ),
            ),
      )

  input_tells : (call : InputCall) → InputFits names call → Leads (input_code names call) nothing nothing
  input_tells incoming.Open fit = step_tells instr.OpenInput (λ rows pc behind. (omega arith, tt, behind))
  input_tells (incoming.Read r d) fit =
      let t = target_lies r d fit.0 fit.1 in
      tells_join m f (offset_code names 0 0 d) _ nothing (push (offset_kind names d) nothing) nothing (offset_tells d 0 0 nothing fit.0 t.0 t.1) (reading_tells r d (offset_kind names d) t.2)

  output_tells : (call : OutputCall) → OutputFits names call → Leads (output_code names call) nothing nothing
  output_tells outgoing.Open fit = step_tells instr.OpenOutput (λ rows pc behind. (omega arith, tt, behind))
  output_tells (outgoing.Char e) fit = uses_number (expr_code names 0 0 e) instr.PutChar (expr_tells e 0 0 nothing fit) (λ rows pc behind. (omega arith, tt, behind))
  output_tells (outgoing.String d) fit =
      let x = elements_some (object_of names d) Basic fit.1 in
      uses_place (offset_code names 0 0 d) (instr.PutText (span_of names d)) (offset_kind names d) (offset_tells d 0 0 nothing fit.0 x.0 x.1) (λ rows pc behind. (omega arith, text_lies d fit.0 fit.1, behind))
  output_tells (outgoing.Int e width) fit =
      uses_two (expr_code names 0 0 e) (expr_code names 1 0 width) instr.PutInt Number Number (expr_tells e 0 0 nothing fit.0) (expr_tells width 1 0 number fit.1) (λ rows pc behind. (omega arith, tt, behind))
  output_tells outgoing.Ln fit = step_tells instr.PutLine (λ rows pc behind. (omega arith, tt, behind))

  action_tells : (a : Action) → ActionFits names a → Leads (action_code names a) nothing nothing
  action_tells (action.Assign d e) fit = assign_tells d e fit.0 fit.1 fit.2
  action_tells (action.Copy d e) fit =
      let t = fit.2.0 in
      let same : cells_of names e ≡ cells_of names d = ap (λ o. size (zero_in o)) (fit.2.2 ∙ sym fit.2.1) in
      uses_two (offset_code names 0 0 d) (offset_code names 1 0 e) (instr.Copy (root_in names d) (root_in names e) (cells_of names d)) (offset_kind names d) (offset_kind names e) (offset_tells d 0 0 nothing fit.0 (Of t) fit.2.1) (offset_tells e 1 0 (push (offset_kind names d) nothing) fit.1 (Of t) fit.2.2)
      (λ rows pc behind. (omega arith, (cells_lie d t fit.0 fit.2.1, subst (Lie own (root_in names e) (offset_kind names e)) same (cells_lie e t fit.1 fit.2.2)), behind))
  action_tells (action.AssignText d l text) fit =
      let x = elements_some (object_of names d) Basic fit.1 in
      uses_place (offset_code names 0 0 d) (instr.StoreText (span_of names d) text l) (offset_kind names d) (offset_tells d 0 0 nothing fit.0 x.0 x.1) (λ rows pc behind. (omega arith, text_lies d fit.0 fit.1, behind))
  action_tells (action.Adjust a d e) fit =
      uses_two (offset_code names 0 0 d) (expr_code names 1 0 e) (instr.AdjustAt a (root_in names d)) (offset_kind names d) Number (offset_tells d 0 0 nothing fit.0 (Of Basic) fit.1) (expr_tells e 1 0 (push (offset_kind names d) nothing) fit.2)
      (λ rows pc behind. (omega arith, offset_lies d Basic fit.0 fit.1, behind))
  action_tells (action.Assert l e) fit = uses_number (expr_code names 0 0 e) (instr.Assert l) (expr_tells e 0 0 nothing fit) (λ rows pc behind. (omega arith, tt, behind))
  action_tells (action.Call g l args) fit =
      let counts = list_counts names args fit.0.parameters fit.3 in
      let values = valued fit.0.parameters in
      let counted : valued_count fit.0.parameters ≡ list_values args = omega (arith, counts.0, counts.1, values) in
      tells_join m f (passed_code names 0 0 args) _ nothing (given (list_values args) (name_kinds fit.0.parameters) nothing) nothing (passed_tell args fit.0.parameters 0 0 nothing fit.3)
      (invoke_tells (list_values args) (list_names args) (list_values args) l g fit.0 false nothing fit.1 fit.2 counted)
  action_tells (action.Input call) fit = input_tells call fit
  action_tells (action.Output call) fit = output_tells call fit

  -- ---- FOR

  load_tells : (v : Variable) (h k : ℕ) (ks : Known) → IsBasic (variable_object names v) → Leads (line h k (instr.Load (root_of names v)) ∷ []) ks (push Number ks)
  load_tells v h k ks basic = one_tells h k (instr.Load (root_of names v)) ks (push Number ks) (λ rows pc behind. (omega arith, variable_lies v Basic basic, behind))

  store_tells : (v : Variable) (h k : ℕ) (ks : Known) → IsBasic (variable_object names v) → Leads (line h k (instr.Store (root_of names v)) ∷ []) (push Number ks) ks
  store_tells v h k ks basic = one_tells h k (instr.Store (root_of names v)) (push Number ks) ks (λ rows pc behind. (omega arith, variable_lies v Basic basic, behind))

  guard_tells : (head : ForHead) → HeadFits names head → Leads (for_guard names head) nothing number
  guard_tells head fit =
      let load = line 0 0 (instr.Load (root_of names head.variable)) in
      tells_join m f (load ∷ []) _ nothing number number (load_tells head.variable 0 0 nothing fit.0)
      (then_tells (expr_code names 1 0 head.last) 2 0 (instr.Operate (Compare (for_relation head.step)) 0) number (push Number number) number (expr_tells head.last 1 0 number fit.2) (λ rows pc behind. (omega arith, tt, behind)))

  advance_tells : (head : ForHead) → HeadFits names head → Leads (for_step names head) nothing nothing
  advance_tells head fit =
      let load = line 0 0 (instr.Load (root_of names head.variable)) in
      let literal_line = line 1 0 (instr.Push head.step) in
      let add = line 2 0 (instr.Operate Plus 0) in
      let put = line 1 0 (instr.Store (root_of names head.variable)) in
      let two : Known = push (literal head.step) number in
      tells_join m f (load ∷ []) (literal_line ∷ (add ∷ (put ∷ []))) nothing number nothing (load_tells head.variable 0 0 nothing fit.0)
      (tells_join m f (literal_line ∷ []) (add ∷ (put ∷ [])) number two nothing (one_tells 1 0 (instr.Push head.step) number two (λ rows pc behind. (omega arith, tt, behind)))
      (tells_join m f (add ∷ []) (put ∷ []) two number nothing (one_tells 2 0 (instr.Operate Plus 0) two number (λ rows pc behind. (omega arith, tt, behind)))
      (store_tells head.variable 1 0 nothing fit.0)))

  for_tells : (head : ForHead) (body : List Line) → HeadFits names head → Leads body nothing nothing → Leads (for_code names head body) nothing nothing
  for_tells head body fit tb =
      let put = line 1 0 (instr.Store (root_of names head.variable)) in
      let bs : List Guarded = record { guard = for_guard names head; body = body ++ for_step names head } ∷ [] in
      tells_join m f (expr_code names 0 0 head.first) (put ∷ loop_code bs) nothing number nothing (expr_tells head.first 0 0 nothing fit.1)
      (tells_join m f (put ∷ []) (loop_code bs) number nothing nothing (store_tells head.variable 1 0 nothing fit.0)
      (loop_tells m f bs (guard_tells head fit, tells_join m f body (for_step names head) nothing nothing nothing tb (advance_tells head fit), tt)))

  mutual
    stat_tells : (s : TypedStatement) → StatFits names s → Leads (stat_code names s) nothing nothing
    stat_tells (Simple a) fit = action_tells a fit
    stat_tells (If' k bs n rest) fit = first_tells m f (branches names bs) (stats_code names rest) (branches_tell bs fit.0) (stats_tell rest fit.1)
    stat_tells (Case' l e k arms) fit = tells_join m f (expr_code names 0 0 e) (arms_code names l arms) nothing number nothing (expr_tells e 0 0 nothing fit.0) (arms_tell l arms fit.1)
    stat_tells (While' k bs) fit = loop_tells m f (branches names bs) (branches_tell bs fit)
    stat_tells (Repeat' k body e) fit = repeat_tells m f (stats_code names body) (expr_code names 0 0 e) (stats_tell body fit.0) (expr_tells e 0 0 nothing fit.1)
    stat_tells (For' head k body) fit = for_tells head (stats_code names body) fit.0 (stats_tell body fit.1)

    stats_tell : {k : _} (row : Row_of-TypedStatement k) → StatsFit names row → Leads (stats_code names row) nothing nothing
    stats_tell end_of-TypedStatement fit = tells_none m f nothing
    stats_tell (more_of-TypedStatement s rest) fit = tells_join m f (stat_code names s) (stats_code names rest) nothing nothing nothing (stat_tells s fit.0) (stats_tell rest fit.1)

    branches_tell : {k : _} (row : Row_of-Branch k) → BranchesFit names row → AllTell m f (branches names row)
    branches_tell end_of-Branch fit = tt
    branches_tell (more_of-Branch e k body rest) fit = (expr_tells e 0 0 nothing fit.0, stats_tell body fit.1, branches_tell rest fit.2)

    arms_tell : (l : ℕ) {k : _} (row : Row_of-CaseArm k) → ArmsFit names row → Leads (arms_code names l row) number nothing
    arms_tell l end_of-CaseArm fit = one_tells 1 0 (instr.Trap trap.Label l) number nothing (λ rows pc behind. (omega arith, tt, tt))
    arms_tell l (more_of-CaseArm labels k body rest) fit = arm_tells m f labels (stats_code names body) (arms_code names l rest) (stats_tell body fit.0) (arms_tell l rest fit.1)

  list_tells : (ss : List TypedStatement) → ListFits names ss → Leads (list_code names ss) nothing nothing
  list_tells [] fit = tells_none m f nothing
  list_tells (s ∷ rest) fit = tells_join m f (stat_code names s) (list_code names rest) nothing nothing nothing (stat_tells s fit.0) (list_tells rest fit.1)

  result_tells : (result : Option TypedExpr) → ResultFits names result → Leads (result_code names result) nothing (with_results (is_there result) nothing)
  result_tells None fit = tells_none m f nothing
  result_tells (Some e) fit = expr_tells e 0 0 nothing fit

  -- ---- a procedure

  procedure_measured : (body : List TypedStatement) (result : Option TypedExpr) → IsCodeOf names body result f → ListFits names body → ResultFits names result → HasKinds m f
  procedure_measured body result code fit gives =
      let all = tells_join m f (list_code names body) (result_code names result) nothing nothing (with_results (is_there result) nothing) (list_tells body fit) (result_tells result gives) in
      let kinds = ap length code.stand_for in
      let counted = kinds_counted names.parameters in
      whole_tells m f (omega (arith, kinds, counted, code.names_taken)) (subst (λ c. Leads c nothing (with_results f.entry.is_function nothing)) (sym code.lines)
      (subst (λ b. Leads (procedure_code names body result) nothing (with_results b nothing)) (sym code.gives) all))

-- ---- a module

module _ (faces : List Face) (m : TypedModule) (code : CodeModule) (formed : IsWellFormed faces m) (made : IsGenerated faces m code) where
  abbrev names_with : List Parameter → List Shape → Names
  names_with ps ts = record { faces = faces; variables = m.variables; procedures = m.procedures; parameters = ps; own = ts }

  few_in : (ps : List Parameter) (ts : List Shape) → ShapesFit ts → IsFew (names_with ps ts)
  few_in ps ts few = record { faces = formed.known; variables = formed.variables; own = few }

  one_measured : (ps : List Parameter) (ts : List Shape) (body : List TypedStatement) (result : Option TypedExpr) (g : Procedure) → IsCodeOf (names_with ps ts) body result g → ListFits (names_with ps ts) body → ResultFits (names_with ps ts) result → ShapesFit ts → IsRoomy g → HasKinds code g
  one_measured ps ts body result g is fit gives few room =
      procedure_measured (names_with ps ts) code g (named_in faces m code formed made ps ts g is.cells is.names_taken is.stand_for room) (few_in ps ts few) body result is fit gives

  each_measured : (fs : List TypedProcedure) (gs : List Procedure) → AreCompiled faces m fs gs → ProceduresFit faces m fs → (p : ℕ) (g : Procedure) → slice_get gs p ≡ Some g → IsRoomy g → HasKinds code g
  each_measured [] [] h fit p g e room = absurd h
  each_measured [] (x ∷ []) h fit zero g e room =
      one_measured [] [] m.body None g (subst (IsCodeOf (names_in faces m) m.body None) (some_same x g e) h) formed.body tt tt room
  each_measured [] (x ∷ []) h fit (suc p) g e room = absurd (let n : None ≡ Some g = e in cc)
  each_measured [] (x ∷ (y ∷ gs)) h fit p g e room = absurd h
  each_measured (f ∷ fs) [] h fit p g e room = absurd h
  each_measured (f ∷ fs) (x ∷ gs) h fit zero g e room =
      one_measured f.parameters f.variables f.body f.result g (subst (IsCodeOf (names_of faces m f) f.body f.result) (some_same x g e) h.0) fit.0.0 fit.0.1 fit.0.2 room
  each_measured (f ∷ fs) (x ∷ gs) h fit (suc p) g e room = each_measured fs gs h.1 fit.1 p g e room

  -- of the operands of a well-formed module's code enough is known
  pub generated_measured : IsMeasured code
  generated_measured = record {
    valid = generated_valid faces m code formed made;
    kinds = λ p g e. each_measured m.procedures code.procedures.items made.procedures formed.procedures p g e (room_at code.procedures.items p g made.rooms e);
  }
