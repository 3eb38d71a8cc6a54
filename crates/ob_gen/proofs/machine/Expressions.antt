-- The machine follows expressions, designators and arguments.
use Rattle.std.proofs.Common.{◌≡◌, ℕ, zero, suc, ◌+◌, ◌-◌, ◌*◌, ◌<◌, ◌≤◌, ℤ, pos, negsuc, ◌+ℤ◌, List, [], ◌∷◌, ◌++◌, length, map, Some, None, Bool, true, false, refl, sym, ap, ◌∙◌, subst, arith, append_assoc, length-append, append-nil}
use Rattle.std.specs.Prelude.{slice_get, nat_lt, cond, if◌then◌else◌}
use Rattle.ob_mean.specs.declared.expression.Variable.{Variable}
use Rattle.ob_mean.specs.declared.expression.TypedExpr.{TypedExpr, Row_of-TypedExpr, end_of-TypedExpr, more_of-TypedExpr}
use Rattle.ob_mean.specs.declared.expression.TypedExpr.TheVariants.{Constant, Read, InputDone, Unary', Chain', Every', Either', Texts, Length, Function', Test}
use Rattle.ob_mean.specs.declared.expression.Designator.{Designator, end_of-Designator, more_of-Designator}
use Rattle.ob_mean.specs.declared.expression.Designator.TheVariants as designator
use Rattle.ob_mean.specs.declared.expression.Argument.{Argument}
use Rattle.ob_mean.specs.declared.expression.Argument.TheVariants as argument
use Rattle.ob_mean.specs.declared.expression.Argument.TheBlock.{Row_of-Argument, end_of-Argument, more_of-Argument, Row_of-Operation, end_of-Operation, more_of-Operation}
use Rattle.ob_mean.specs.declared.module.Parameter.{Parameter}
use Rattle.ob_mean.specs.declared.module.Parameter.TheVariants as parameter
use Rattle.ob_mean.specs.declared.operator.Relation.{Relation}
use Rattle.ob_mean.specs.declared.outcome.Outcome.TheVariants.{Trapped}
use Rattle.ob_mean.specs.declared.outcome.TrapKind.{TrapKind}
use Rattle.ob_mean.specs.declared.outcome.TrapKind.TheVariants as trap
use Rattle.ob_mean.specs.declared.shape.Shape.{Shape}
use Rattle.ob_mean.specs.declared.shape.Shape.TheVariants.{Basic}
use Rattle.ob_mean.specs.declared.kind.RecordKind.{RecordKind}
use Rattle.ob_mean.specs.RecordTypes.{TypeNames, extends, cells_of as record_cells}
use Rattle.ob_mean.specs.Values.{Place, Part, Value, Cell, Named, Open, Nothing, Beside, count, size, item, before, get, number, offset, shape, image, row, up, down}
use Rattle.ob_mean.specs.Shapes.{zero_of}
use Rattle.ob_mean.specs.Texts.{character, characters, before_zero, text_of}
use Rattle.ob_mean.specs.Arithmetic.{Computed, Gives, Faults, truth, wrap, apply, apply_one, texts_relate}
use Rattle.ob_mean.specs.Runs.{World, Supply, Run, Goes, and_then}
use Rattle.ob_mean.specs.Expressions.{Scope, computed, chained, every, either, passed, index_in, element, told_of, extension, value_of, place_of, argument_of, values, arguments, operations}
use Rattle.ob_mean.specs.WellFormed.{Object, Of, Names, object_of, elements_in, variable_object, ExprFits, ExprsFit, OperationsFit, IndexesFit, IsPassed, RowPassed, KindFits, base_object, is_told, cell_limit}
use Rattle.ob_code.specs.declared.instr.Instr.TheVariants.{Push, PushDone, Unary, Operate, Load, LoadAt, AddOffset, Index, TakeLength, RelateTexts, NamePlace, NameArray, NameRecord, NameAgain, Test as TestRecord, Guard, Skip, SkipIfZero, Invoke}
use Rattle.ob_code.specs.declared.instr.Line.{Line}
use Rattle.ob_code.specs.declared.instr.Name.{Name}
use Rattle.ob_code.specs.declared.instr.Told.{Told}
use Rattle.ob_code.specs.Machine.{Code, Config, Effect, Moves, Fails, cell, perform, Point, Going, Standing, object, elements, picture, within, at_cells, operated, indexed, with_names, characters_at, take_effect, Comes, untold, told_in, type_of, name_at}
use Rattle.ob_gen.specs.TypesAgree.{Shapes, KindAgrees, ExprAgrees, ExprsAgree, OperationsAgree, PlaceAgrees, ArgumentAgrees, ArgumentsAgree}
use Rattle.ob_gen.specs.Code.{line, root_of, root_in, name_in, base_cells, zero_in, zero_element, cells_of, element_cells, length_of, span_of, and_code, or_code, row_values, row_names, value_one, name_one, added_code, field_code, expr_code, read_code, offset_code, operations_code, every_code, either_code, argument_code, arguments_code}
use Rattle.ob_code.proofs.machine.Runs.{stays, goes_on, performs}
use Rattle.ob_gen.proofs.machine.Reaches.{HasAt, has_front, has_back, Running, conf, here, lines_in, Halts, Good, Reaches, AnyNumber, SoMany, ties, then_comes, keeps_less, moved, skips, skip_runs, one_runs, two_runs, Same}
use Rattle.ob_gen.proofs.machine.Store.{inside-leads, count-shape, shape_at, reads, reads_part, item-row, before-row, size-row, before-within}
use Rattle.ob_gen.proofs.machine.Zeros.{characters-image, size-text}
use Rattle.ob_gen.proofs.machine.Places.{rooted, RootFits, PlaceFits, FrameFits, lt_true, wraps_low, shape_some, elements_some, array_at, part_fits, mark, finds_place, root_fits, finds_length, IsTold, told_object, tells_type, finds_name}
use Rattle.ob_gen.proofs.machine.Records.{some_same, field_some, IsField, field_is, offset-down, named_cells, some_cells, part_stands, told_cells, told_within, told_whole, told_down, kind_cells, guard_holds, guard_offset}
use Rattle.ob_gen.proofs.machine.Passing.{OneFits, PassedFit, one_name, names_passed, pile, pile-append, results, one_result, CallsRun}

as_many : (m k : ℕ) → 0 < k → m ≤ m * k
as_many m zero lt = absurd (omega arith)
as_many m (suc k) lt = let e : m * suc k ≡ m + m * k = grind arith in omega (arith, e)

module _ (code : Code) (shapes : Shapes) (r : Running) (s : Value) (names : Names) (scope : Scope) (frame : FrameFits code shapes r s names scope) where
  -- a place of this designator
  abbrev pub Fits : Designator → Object → Place → Type 0
  Fits d o p = PlaceFits s (rooted code r (root_in names d)) o p

  -- the number that stands for it
  abbrev pub at : Designator → Place → ℤ
  at d p = mark code r s (root_in names d) p

  -- ---- traps

  pub trap_stands : (kind : TrapKind) (l : ℕ) (c : Config) (n : Supply) (w : World) → c.at.home ≡ r.home → c.memory ≡ picture w → shape w.store ≡ s → Comes code (Going n c) (Standing (Trapped kind c.at.home l) n c) → Halts code s (Going n c) (Trapped kind scope.home l) n w
  trap_stands kind l c n w home same fits comes =
      record { there = c; comes = subst (λ x. Comes code (Going n c) (Standing (Trapped kind x l) n c)) (home ∙ sym frame.home) comes; same = same; kept = Same fits }

  -- a computed number
  computed_runs : (o : Computed) (l pc : ℕ) (before stack : List ℤ) (pending : List Name) (n : Supply) (most : ℕ) (w : World) → Good most s n w
      → Comes code (here r pc before pending n w) (take_effect (operated o l (λ v. conf r (pc + 1) (v ∷ stack) pending w)) n (conf r pc before pending w))
      → Reaches code most s AnyNumber (here r pc before pending n w) (λ v n' w'. here r (pc + 1) (v ∷ stack) pending n' w') (computed scope o l n w)
  computed_runs (Gives v) l pc before stack pending n most w g comes = (g, tt, comes)
  computed_runs (Faults kind) l pc before stack pending n most w g comes =
      trap_stands kind l (conf r pc before pending w) n w refl refl g.fits comes

  -- ---- places

  pub count_at : (w : World) (p : Place) → shape w.store ≡ s → count (get w.store p) ≡ count (get s p)
  count_at w p e = sym (count-shape (get w.store p)) ∙ ap count (shape_at s w.store p e)

  -- an index, which is below the length or not
  index_by : (b : Bool) (d : Designator) (o : Object) (t : Shape) (p : Place) (i l pc : ℕ) (stack : List ℤ) (pending : List Name) (n : Supply) (most : ℕ) (w : World) → Good most s n w → RootFits code r (root_in names d) → Fits d o p → elements_in (Some o) ≡ Some t → nat_lt i (count (get s p)) ≡ b
      → Comes code (here r pc (pos i ∷ (at d p ∷ stack)) pending n w) (take_effect (cond b (Moves (conf r (pc + 1) (wrap (at d p +ℤ pos (i * size (zero_of t))) ∷ stack) pending w)) (Fails trap.Index l)) n (conf r pc (pos i ∷ (at d p ∷ stack)) pending w))
      → Reaches code most s (Fits d (Of t)) (here r pc (pos i ∷ (at d p ∷ stack)) pending n w) (λ q n' w'. here r (pc + 1) (at d q ∷ stack) pending n' w') (element scope (if b then Some i else None) p l n w)
  index_by true d o t p i l pc stack pending n most w g low f a lt comes =
      let name = rooted code r (root_in names d) in
      let is_row = array_at s name.length o p t f.is a in
      let m = count (get s p) in
      let below : i < m = lt_true i m lt in
      let item_is : item (get s p) i ≡ zero_of t = ap (λ v. item v i) is_row ∙ item-row m (zero_of t) i below in
      let before_is : before (get s p) i ≡ i * size (zero_of t) = ap (λ v. before v i) is_row ∙ before-row m (zero_of t) i below in
      let part = part_fits s name o p i t f below item_is in
      let steps = i * size (zero_of t) in
      let sum : offset s p - name.address + steps ≡ offset s (Part p i) - name.address = omega (arith, f.from, before_is) in
      let cells_low : offset s p - name.address + steps < cell_limit =
      omega (arith, f.from, f.ends, before_is, before-within (get s p) i, low.low, part.ends, sum) in
      let from = here r pc (pos i ∷ (at d p ∷ stack)) pending n w in
      (g, part, subst (λ z. Comes code from (here r (pc + 1) (z ∷ stack) pending n w)) (wraps_low (offset s p - name.address + steps) cells_low ∙ ap pos sum) comes)
  index_by false d o t p i l pc stack pending n most w g low f a lt comes =
      trap_stands trap.Index l (conf r pc (pos i ∷ (at d p ∷ stack)) pending w) n w refl refl g.fits comes

  index_runs : (v : ℤ) (d : Designator) (o : Object) (t : Shape) (p : Place) (l h k pc : ℕ) (stack : List ℤ) (pending : List Name) (n : Supply) (most : ℕ) (w : World) → Good most s n w → IndexesFit names d → object_of names d ≡ Some o → elements_in (Some o) ≡ Some t → Fits d o p → slice_get (lines_in code r) pc ≡ Some (line h k (Index (length_of names d) (element_cells names d) l))
      → Reaches code most s (Fits d (Of t)) (here r pc (v ∷ (at d p ∷ stack)) pending n w) (λ q n' w'. here r (pc + 1) (at d q ∷ stack) pending n' w') (element scope (index_in v (count (get w.store p))) p l n w)
  index_runs (pos i) d o t p l h k pc stack pending n most w g ty e a f has =
      let c = conf r pc (pos i ∷ (at d p ∷ stack)) pending w in
      let go : ℤ → Config = λ v. conf r (pc + 1) (v ∷ stack) pending w in
      let many = finds_length code shapes r s names scope frame d o t p pc (pos i ∷ (at d p ∷ stack)) pending w ty e a f.is in
      let each : element_cells names d ≡ size (zero_of t) = ap (λ x. size (zero_element (elements_in x))) e ∙ ap (λ x. size (zero_element x)) a in
      let comes = performs code n c (line h k (Index (length_of names d) (element_cells names d) l)) _ has
      (ap (λ m. take_effect (indexed (at d p) (pos i) m (element_cells names d) l go) n c) many
      ∙ ap (λ m. take_effect (indexed (at d p) (pos i) (count (get s p)) m l go) n c) each) in
      let low = root_fits code shapes r s names scope frame d o ty e in
      subst (λ m. Reaches code most s (Fits d (Of t)) (Going n c) (λ q n' w'. here r (pc + 1) (at d q ∷ stack) pending n' w') (element scope (index_in (pos i) m) p l n w)) (sym (count_at w p g.fits))
      (index_by (nat_lt i (count (get s p))) d o t p i l pc stack pending n most w g low f a refl comes)
  index_runs (negsuc i) d o t p l h k pc stack pending n most w g ty e a f has =
      let c = conf r pc (negsuc i ∷ (at d p ∷ stack)) pending w in
      trap_stands trap.Index l c n w refl refl g.fits (performs code n c (line h k (Index (length_of names d) (element_cells names d) l)) _ has refl)

  -- so many cells on
  one_far : (m a h k pc : ℕ) (stack : List ℤ) (pending : List Name) (n : Supply) (w : World) → a + m < cell_limit → slice_get (lines_in code r) pc ≡ Some (line h k (AddOffset m)) → Comes code (here r pc (pos a ∷ stack) pending n w) (here r (pc + 1) (pos (a + m) ∷ stack) pending n w)
  one_far m a h k pc stack pending n w low has =
      performs code n (conf r pc (pos a ∷ stack) pending w) (line h k (AddOffset m)) _ has
      (ap (λ z. here r (pc + 1) (z ∷ stack) pending n w) (wraps_low (a + m) low))

  added_runs : (m a h k pc : ℕ) (stack : List ℤ) (pending : List Name) (n : Supply) (w : World) → a + m < cell_limit → HasAt (lines_in code r) pc (added_code h k m) → Comes code (here r pc (pos a ∷ stack) pending n w) (here r (pc + length (added_code h k m)) (pos (a + m) ∷ stack) pending n w)
  added_runs zero a h k pc stack pending n w low has =
      let place : pc ≡ pc + 0 = omega arith in
      let same : a ≡ a + 0 = omega arith in
      subst (λ x. Comes code (here r pc (pos a ∷ stack) pending n w) (here r x (pos (a + 0) ∷ stack) pending n w)) place
      (subst (λ x. Comes code (here r pc (pos a ∷ stack) pending n w) (here r pc (pos x ∷ stack) pending n w)) same (stays code (here r pc (pos a ∷ stack) pending n w)))
  added_runs (suc m) a h k pc stack pending n w low has = one_far (suc m) a h k pc stack pending n w low has.0

  far_runs : (d : Designator) (m a h k pc : ℕ) (stack : List ℤ) (pending : List Name) (n : Supply) (w : World) → a + m < cell_limit → HasAt (lines_in code r) pc (field_code h k d m) → Comes code (here r pc (pos a ∷ stack) pending n w) (here r (pc + length (field_code h k d m)) (pos (a + m) ∷ stack) pending n w)
  far_runs (designator.Whole v) m a h k pc stack pending n w low has = one_far m a h k pc stack pending n w low has.0
  far_runs (designator.Element' g d l i row) m a h k pc stack pending n w low has = added_runs m a h k pc stack pending n w low has
  far_runs (designator.Field' g d i) m a h k pc stack pending n w low has = added_runs m a h k pc stack pending n w low has
  far_runs (designator.Guarded' g d l kind levels) m a h k pc stack pending n w low has = added_runs m a h k pc stack pending n w low has

  -- a field, at a fixed number of cells
  field_runs : (d : Designator) (t : Shape) (o : Object) (p : Place) (i h k pc : ℕ) (stack : List ℤ) (pending : List Name) (n : Supply) (most : ℕ) (w : World) → Good most s n w → IndexesFit names d → object_of names d ≡ Some (Of t) → IsField (zero_of t) i o → Fits d (Of t) p → HasAt (lines_in code r) pc (field_code h k d (before (zero_in (object_of names d)) i))
      → Reaches code most s (Fits d o) (here r pc (at d p ∷ stack) pending n w) (λ q n' w'. here r (pc + length (field_code h k d (before (zero_in (object_of names d)) i))) (at d q ∷ stack) pending n' w') (Goes (Part p i) n w)
  field_runs d t o p i h k pc stack pending n most w g ty e field f has =
      let name = rooted code r (root_in names d) in
      let below : i < count (get s p) = omega (arith, field.there, ap count f.is) in
      let item_is : item (get s p) i ≡ zero_of field.kind = ap (λ v. item v i) f.is ∙ field.is in
      let part = part_fits s name (Of t) p i field.kind f below item_is in
      let low = root_fits code shapes r s names scope frame d (Of t) ty e in
      let far = before (zero_in (object_of names d)) i in
      let same : far ≡ before (get s p) i = ap (λ x. before (zero_in x) i) e ∙ ap (λ v. before v i) (sym f.is) in
      let sum : offset s p - name.address + far ≡ offset s (Part p i) - name.address = omega (arith, f.from, same) in
      let cells_low : offset s p - name.address + far < cell_limit =
      omega (arith, f.from, f.ends, same, before-within (get s p) i, low.low, part.ends, sum) in (
        g,
        subst (λ x. Fits d x (Part p i)) (sym field.object) part,
        subst (λ z. Comes code (here r pc (at d p ∷ stack) pending n w) (here r (pc + length (field_code h k d far)) (z ∷ stack) pending n w)) (ap pos sum)
            (far_runs d far (offset s p - name.address) h k pc stack pending n w cells_low has),
      )

  -- the number in a cell
  load_at_runs : (d : Designator) (p : Place) (h k pc : ℕ) (stack : List ℤ) (pending : List Name) (n : Supply) (most : ℕ) (w : World) → Good most s n w → IndexesFit names d → object_of names d ≡ Some (Of Basic) → Fits d (Of Basic) p → slice_get (lines_in code r) pc ≡ Some (line h k (LoadAt (root_in names d)))
      → Reaches code most s AnyNumber (here r pc (at d p ∷ stack) pending n w) (λ v n' w'. here r (pc + 1) (v ∷ stack) pending n' w') (Goes (number (get w.store p)) n w)
  load_at_runs d p h k pc stack pending n most w g ty e f has =
      let c = conf r pc (at d p ∷ stack) pending w in
      let found = finds_place code r s (root_in names d) (Of Basic) p 1 pc (at d p ∷ stack) pending w (root_fits code shapes r s names scope frame d (Of Basic) ty e) f (ap size f.is) in (
        g,
        tt,
        performs code n c (line h k (LoadAt (root_in names d))) _ has
            (ap (λ o. take_effect (at_cells o (λ a. Moves (conf r (pc + 1) (cell c.memory a ∷ stack) pending w))) n c) found
            ∙ ap (λ v. here r (pc + 1) (v ∷ stack) pending n w) (reads s w.store p g.fits (inside-leads s p f.leads) f.is)),
      )

  pub load_runs : (v : Variable) (h k pc : ℕ) (stack : List ℤ) (pending : List Name) (n : Supply) (w : World) (e : variable_object names v ≡ Some (Of Basic)) → shape w.store ≡ s → slice_get (lines_in code r) pc ≡ Some (line h k (Load (root_of names v))) → Comes code (here r pc stack pending n w) (here r (pc + 1) (number (get w.store (frame.variables v (Of Basic) e).place) ∷ stack) pending n w)
  load_runs v h k pc stack pending n w e fits has =
      let c = conf r pc stack pending w in
      let x = frame.variables v (Of Basic) e in
      let f = x.fits in
      let first : mark code r s (root_of names v) x.place ≡ pos 0 = ap pos (omega (arith, x.at)) in
      let found = finds_place code r s (root_of names v) (Of Basic) x.place 1 pc stack pending w x.root f (ap size f.is) in
      let found' : within (object code c (root_of names v)) (pos 0) 1 ≡ Some (offset s x.place) = ap (λ z. within (object code c (root_of names v)) z 1) (sym first) ∙ found in
      performs code n c (line h k (Load (root_of names v))) _ has
      (ap (λ o. take_effect (at_cells o (λ a. Moves (conf r (pc + 1) (cell c.memory a ∷ stack) pending w))) n c) found'
      ∙ ap (λ v. here r (pc + 1) (v ∷ stack) pending n w) (reads s w.store x.place fits (inside-leads s x.place f.leads) f.is))

  -- the value of a variable, or of what a designator's code leads to
  read_runs : (d : Designator) (h k pc : ℕ) (stack : List ℤ) (pending : List Name) (n : Supply) (most : ℕ) (w : World) → IndexesFit names d → object_of names d ≡ Some (Of Basic) → Good most s n w → HasAt (lines_in code r) pc (read_code names h k d (offset_code names h k d))
      → (HasAt (lines_in code r) pc (offset_code names h k d) → Reaches code most s (Fits d (Of Basic)) (here r pc stack pending n w) (λ p n' w'. here r (pc + length (offset_code names h k d)) (at d p ∷ stack) pending n' w') (place_of scope d n w))
      → Reaches code most s AnyNumber (here r pc stack pending n w) (λ v n' w'. here r (pc + length (read_code names h k d (offset_code names h k d))) (v ∷ stack) pending n' w') (and_then (place_of scope d n w) (λ p n1 w1. Goes (number (get w1.store p)) n1 w1))
  read_runs (designator.Whole v) h k pc stack pending n most w ty e g has place =
      let x = frame.variables v (Of Basic) e in
      (g, tt, subst (λ p. Comes code (here r pc stack pending n w) (here r (pc + 1) (number (get w.store p) ∷ stack) pending n w)) (sym (x.stands w g.fits)) (load_runs v h k pc stack pending n w e g.fits has.0))
  read_runs (designator.Element' q (more_of-Designator d end_of-Designator) l b (more_of-TypedExpr i end_of-TypedExpr)) h k pc stack pending n most w ty e g has place =
      let d' = designator.Element' q (more_of-Designator d end_of-Designator) l b (more_of-TypedExpr i end_of-TypedExpr) in
      one_runs code r s (Fits d' (Of Basic)) AnyNumber (λ p. at d' p ∷ stack) (λ p. pending) (offset_code names h k d') (line (h + 1) k (LoadAt (root_in names d))) (λ x v n' w'. here r x (v ∷ stack) pending n' w') (place_of scope d' n w) _ pc (here r pc stack pending n w) most has
      (place (has_front (lines_in code r) pc (offset_code names h k d') _ has))
      (λ p n1 w1 g1 k1 at_i. load_at_runs d' p (h + 1) k (pc + length (offset_code names h k d')) stack pending n1 most w1 g1 ty e k1 at_i)
  read_runs (designator.Field' q (more_of-Designator d end_of-Designator) i) h k pc stack pending n most w ty e g has place =
      let d' = designator.Field' q (more_of-Designator d end_of-Designator) i in
      one_runs code r s (Fits d' (Of Basic)) AnyNumber (λ p. at d' p ∷ stack) (λ p. pending) (offset_code names h k d') (line (h + 1) k (LoadAt (root_in names d))) (λ x v n' w'. here r x (v ∷ stack) pending n' w') (place_of scope d' n w) _ pc (here r pc stack pending n w) most has
      (place (has_front (lines_in code r) pc (offset_code names h k d') _ has))
      (λ p n1 w1 g1 k1 at_i. load_at_runs d' p (h + 1) k (pc + length (offset_code names h k d')) stack pending n1 most w1 g1 ty e k1 at_i)
  read_runs (designator.Guarded' q (more_of-Designator d end_of-Designator) l kind levels) h k pc stack pending n most w ty e g has place =
      let d' = designator.Guarded' q (more_of-Designator d end_of-Designator) l kind levels in
      one_runs code r s (Fits d' (Of Basic)) AnyNumber (λ p. at d' p ∷ stack) (λ p. pending) (offset_code names h k d') (line (h + 1) k (LoadAt (root_in names d))) (λ x v n' w'. here r x (v ∷ stack) pending n' w') (place_of scope d' n w) _ pc (here r pc stack pending n w) most has
      (place (has_front (lines_in code r) pc (offset_code names h k d') _ has))
      (λ p n1 w1 g1 k1 at_i. load_at_runs d' p (h + 1) k (pc + length (offset_code names h k d')) stack pending n1 most w1 g1 ty e k1 at_i)

  -- the length of an array, which has no more elements than cells
  length_runs : (d : Designator) (o : Object) (t : Shape) (p : Place) (h k pc : ℕ) (stack : List ℤ) (pending : List Name) (n : Supply) (most : ℕ) (w : World) → Good most s n w → IndexesFit names d → object_of names d ≡ Some o → elements_in (Some o) ≡ Some t → 0 < size (zero_of t) → Fits d o p → slice_get (lines_in code r) pc ≡ Some (line h k (TakeLength (length_of names d)))
      → Reaches code most s AnyNumber (here r pc (at d p ∷ stack) pending n w) (λ v n' w'. here r (pc + 1) (v ∷ stack) pending n' w') (Goes (pos (count (get w.store p))) n w)
  length_runs d o t p h k pc stack pending n most w g ty e a some f has =
      let c = conf r pc (at d p ∷ stack) pending w in
      let many = finds_length code shapes r s names scope frame d o t p pc (at d p ∷ stack) pending w ty e a f.is in
      let low = root_fits code shapes r s names scope frame d o ty e in
      let m = count (get s p) in
      let whole : size (get s p) ≡ m * size (zero_of t) = ap size (array_at s (rooted code r (root_in names d)).length o p t f.is a) ∙ size-row m (zero_of t) in
      let each : m ≤ m * size (zero_of t) = as_many m (size (zero_of t)) some in
      let few : m < cell_limit = let limit = low.low in omega (arith, f.ends, f.from, limit, whole, each) in (
        g,
        tt,
        performs code n c (line h k (TakeLength (length_of names d))) _ has
            (ap (λ x. here r (pc + 1) (wrap (pos x) ∷ stack) pending n w) many
            ∙ ap (λ z. here r (pc + 1) (z ∷ stack) pending n w) (wraps_low m few ∙ ap pos (sym (count_at w p g.fits)))),
      )

  -- ---- texts

  -- an array of characters: where it is, and what stands there
  pub record TextFits (d : Designator) (p : Place) : Type 0 where
    pub object : Object
    pub indexes : IndexesFit names d
    pub is : object_of names d ≡ Some object
    pub of_characters : elements_in (Some object) ≡ Some Basic
    pub fits : Fits d object p

  pub text_row_at : (d : Designator) (p : Place) → TextFits d p → get s p ≡ row (count (get s p)) (Cell (pos 0))
  text_row_at d p f = array_at s (rooted code r (root_in names d)).length f.object p Basic f.fits.is f.of_characters

  pub text_size : (d : Designator) (p : Place) → TextFits d p → size (get s p) ≡ count (get s p)
  text_size d p f = ap size (text_row_at d p f) ∙ size-text (count (get s p))

  pub text_length : (d : Designator) (p : Place) (pc : ℕ) (stack : List ℤ) (pending : List Name) (w : World) → TextFits d p → elements (conf r pc stack pending w) (length_of names d) ≡ count (get s p)
  text_length d p pc stack pending w f = finds_length code shapes r s names scope frame d f.object Basic p pc stack pending w f.indexes f.is f.of_characters f.fits.is

  pub text_found : (d : Designator) (p : Place) (pc : ℕ) (stack : List ℤ) (pending : List Name) (w : World) → TextFits d p → within (object code (conf r pc stack pending w) (root_in names d)) (at d p) (elements (conf r pc stack pending w) (length_of names d)) ≡ Some (offset s p)
  text_found d p pc stack pending w f =
      ap (within (object code (conf r pc stack pending w) (root_in names d)) (at d p)) (text_length d p pc stack pending w f)
      ∙ finds_place code r s (root_in names d) f.object p (count (get s p)) pc stack pending w (root_fits code shapes r s names scope frame d f.object f.indexes f.is) f.fits (text_size d p f)

  pub text_read : (d : Designator) (p : Place) (w : World) → TextFits d p → shape w.store ≡ s → characters_at (picture w) (offset s p) (count (get s p)) ≡ characters (get w.store p)
  text_read d p w f e =
      ap (map character) (reads_part s w.store p (count (get s p)) e (inside-leads s p f.fits.leads) (text_size d p f))
      ∙ characters-image (count (get s p)) (get w.store p) (shape_at s w.store p e ∙ text_row_at d p f)

  relate_runs : (relation : Relation) (a b : Designator) (p q : Place) (h k pc : ℕ) (stack : List ℤ) (pending : List Name) (n : Supply) (most : ℕ) (w : World) → Good most s n w → TextFits a p → TextFits b q → slice_get (lines_in code r) pc ≡ Some (line h k (RelateTexts relation (span_of names a) (span_of names b)))
      → Reaches code most s AnyNumber (here r pc (at b q ∷ (at a p ∷ stack)) pending n w) (λ v n' w'. here r (pc + 1) (v ∷ stack) pending n' w') (Goes (truth (texts_relate relation (text_of (get w.store p)) (text_of (get w.store q)))) n w)
  relate_runs relation a b p q h k pc stack pending n most w g fa fb has =
      let st = at b q ∷ (at a p ∷ stack) in
      let c = conf r pc st pending w in
      let la = elements c (length_of names a) in
      let lb = elements c (length_of names b) in
      let text : ℕ → ℕ → List ℕ = λ x m. before_zero (characters_at c.memory x m) in
      let end : List ℕ → List ℕ → Point = λ x y. here r (pc + 1) (truth (texts_relate relation x y) ∷ stack) pending n w in (
        g,
        tt,
        performs code n c (line h k (RelateTexts relation (span_of names a) (span_of names b))) _ has
            (ap (λ o. take_effect (at_cells o (λ x. at_cells (within (object code c (root_in names b)) (at b q) lb) (λ y. Moves (conf r (pc + 1) (truth (texts_relate relation (text x la) (text y lb)) ∷ stack) pending w)))) n c) (text_found a p pc st pending w fa)
            ∙ ap (λ o. take_effect (at_cells o (λ y. Moves (conf r (pc + 1) (truth (texts_relate relation (text (offset s p) la) (text y lb)) ∷ stack) pending w))) n c) (text_found b q pc st pending w fb)
            ∙ ap (λ m. end (text (offset s p) m) (text (offset s q) lb)) (text_length a p pc st pending w fa)
            ∙ ap (λ m. end (text (offset s p) (count (get s p))) (text (offset s q) m)) (text_length b q pc st pending w fb)
            ∙ ap (λ x. end (before_zero x) (text (offset s q) (count (get s q)))) (text_read a p w fa g.fits)
            ∙ ap (λ x. end (text_of (get w.store p)) (before_zero x)) (text_read b q w fb g.fits)),
      )

  -- ---- names

  name_place_runs : (d : Designator) (t : Shape) (p : Place) (h k pc : ℕ) (stack : List ℤ) (pending : List Name) (n : Supply) (most : ℕ) (w : World) → Good most s n w → IndexesFit names d → object_of names d ≡ Some (Of t) → Fits d (Of t) p → slice_get (lines_in code r) pc ≡ Some (line h k (NamePlace (root_in names d) (cells_of names d)))
      → Reaches code most s (OneFits code shapes s untold (parameter.Place t)) (here r pc (at d p ∷ stack) pending n w) (λ v n' w'. here r (pc + 1) (pile (image v) stack) (pending ++ one_name s untold v) n' w') (Goes (Named p []) n w)
  name_place_runs d t p h k pc stack pending n most w g ty e f has =
      let st = at d p ∷ stack in
      let c = conf r pc st pending w in
      let low = root_fits code shapes r s names scope frame d (Of t) ty e in
      let cells : cells_of names d ≡ size (get s p) = ap (λ x. size (zero_in x)) e ∙ ap size (sym f.is) in
      let end : List Name → Point = λ all. Going n (record { at = (conf r (pc + 1) stack pending w).at; stack = stack ++ r.under; names = all; frames = r.frames; memory = picture w }) in
      let name : ℕ → ℕ → Name = λ a m. record { address = a; cells = m; length = 0; told = untold } in
      let go : ℕ → ℕ → Effect = λ m a. Moves (with_names (conf r (pc + 1) stack pending w) ((r.below ++ pending) ++ name a m ∷ [])) in
      let small : size (get s p) < cell_limit = let b = low.low in omega (arith, f.ends, f.from, b) in (
        g,
        (p, refl, f.leads, f.is, small),
        performs code n c (line h k (NamePlace (root_in names d) (cells_of names d))) _ has
            (ap (λ m. take_effect (at_cells (within (object code c (root_in names d)) (at d p) m) (go m)) n c) cells
            ∙ ap (λ o. take_effect (at_cells o (go (size (get s p)))) n c) (finds_place code r s (root_in names d) (Of t) p (size (get s p)) pc st pending w low f refl)
            ∙ ap end (append_assoc r.below pending (name (offset s p) (size (get s p)) ∷ []))),
      )

  name_array_runs : (d : Designator) (o : Object) (t : Shape) (p : Place) (h k pc : ℕ) (stack : List ℤ) (pending : List Name) (n : Supply) (most : ℕ) (w : World) → Good most s n w → IndexesFit names d → object_of names d ≡ Some o → elements_in (Some o) ≡ Some t → Fits d o p → slice_get (lines_in code r) pc ≡ Some (line h k (NameArray (root_in names d) (length_of names d) (element_cells names d)))
      → Reaches code most s (OneFits code shapes s untold (parameter.Open t)) (here r pc (at d p ∷ stack) pending n w) (λ v n' w'. here r (pc + 1) (pile (image v) stack) (pending ++ one_name s untold v) n' w') (Goes (Open p (count (get w.store p))) n w)
  name_array_runs d o t p h k pc stack pending n most w g ty e a f has =
      let st = at d p ∷ stack in
      let c = conf r pc st pending w in
      let low = root_fits code shapes r s names scope frame d o ty e in
      let many = finds_length code shapes r s names scope frame d o t p pc st pending w ty e a f.is in
      let is_row = array_at s (rooted code r (root_in names d)).length o p t f.is a in
      let each : element_cells names d ≡ size (zero_of t) = ap (λ x. size (zero_element (elements_in x))) e ∙ ap (λ x. size (zero_element x)) a in
      let whole : count (get s p) * size (zero_of t) ≡ size (get s p) = sym (ap size is_row ∙ size-row (count (get s p)) (zero_of t)) in
      let end : List Name → Point = λ all. Going n (record { at = (conf r (pc + 1) stack pending w).at; stack = stack ++ r.under; names = all; frames = r.frames; memory = picture w }) in
      let name : ℕ → ℕ → ℕ → Name = λ a m l. record { address = a; cells = m; length = l; told = untold } in
      let go : ℕ → ℕ → ℕ → Effect = λ m l a. Moves (with_names (conf r (pc + 1) stack pending w) ((r.below ++ pending) ++ name a m l ∷ [])) in
      let small : size (get s p) < cell_limit = let b = low.low in omega (arith, f.ends, f.from, b) in
      let now : count (get w.store p) ≡ count (get s p) = count_at w p g.fits in
      subst (λ l. Reaches code most s (OneFits code shapes s untold (parameter.Open t)) (Going n c) (λ v n' w'. here r (pc + 1) (pile (image v) stack) (pending ++ one_name s untold v) n' w') (Goes (Open p l) n w)) (sym now) (
        g,
        (p, count (get s p), refl, f.leads, is_row, small),
        performs code n c (line h k (NameArray (root_in names d) (length_of names d) (element_cells names d))) _ has
            (ap (λ m. take_effect (at_cells (within (object code c (root_in names d)) (at d p) (m * element_cells names d)) (go (m * element_cells names d) m)) n c) many
            ∙ ap (λ x. take_effect (at_cells (within (object code c (root_in names d)) (at d p) (count (get s p) * x)) (go (count (get s p) * x) (count (get s p)))) n c) each
            ∙ ap (λ m. take_effect (at_cells (within (object code c (root_in names d)) (at d p) m) (go m (count (get s p)))) n c) whole
            ∙ ap (λ x. take_effect (at_cells x (go (size (get s p)) (count (get s p)))) n c) (finds_place code r s (root_in names d) o p (size (get s p)) pc st pending w low f refl)
            ∙ ap end (append_assoc r.below pending (name (offset s p) (size (get s p)) (count (get s p)) ∷ []))),
      )

  -- ---- records whose type is told

  -- what is known of a place, and of a type that is told of it
  abbrev pub Kept : Designator → Object → Place → Type 0
  Kept d o p = Fits d o p × (is_told names d ≡ true → IsTold code shapes s (rooted code r (root_in names d)) o p)

  -- the type of a record is told by the line that makes its name
  abbrev pub told_at : ℕ → Told
  told_at pc = record { home = r.home; procedure = r.procedure; place = pc }

  name_record_runs : (d : Designator) (t : Shape) (kind : RecordKind) (levels : ℕ) (p : Place) (many h k pc : ℕ) (stack : List ℤ) (pending : List Name) (n : Supply) (most : ℕ) (w : World) → Good most s n w → IndexesFit names d → KindFits kind → KindAgrees shapes kind → object_of names d ≡ Some (Of kind.shape) → base_object levels (object_of names d) ≡ Some (Of t) → Fits d (Of kind.shape) p → slice_get (lines_in code r) pc ≡ Some (line h k (NameRecord (root_in names d) kind.names many))
      → Reaches code most s (OneFits code shapes s (told_at pc) (parameter.Extended t)) (here r pc (at d p ∷ stack) pending n w) (λ v n' w'. here r (pc + 1) (pile (image v) stack) (pending ++ one_name s (told_at pc) v) n' w') (Goes (Named (down levels p) kind.names) n w)
  name_record_runs d t kind levels p many h k pc stack pending n most w g ty fits agrees e base f has =
      let st = at d p ∷ stack in
      let c = conf r pc st pending w in
      let low = root_fits code shapes r s names scope frame d (Of kind.shape) ty e in
      let q = down levels p in
      let whole = told_whole shapes s p kind fits agrees (record { leads = f.leads; is = f.is }) in
      let part = told_down shapes s p kind.names kind.shape t levels whole (ap (base_object levels) (sym e) ∙ base) in
      let as_many : record_cells kind.names ≡ named_cells s q kind.names = some_cells s q kind.names fits.named in
      let cells : record_cells kind.names ≡ size (get s p) = as_many ∙ kind_cells s q kind fits ∙ ap size (sym f.is) in
      let first = offset-down s levels p in
      let end : List Name → Point = λ all. Going n (record { at = (conf r (pc + 1) stack pending w).at; stack = stack ++ r.under; names = all; frames = r.frames; memory = picture w }) in
      let name : ℕ → ℕ → Name = λ a m. record { address = a; cells = m; length = 0; told = told_at pc } in
      let go : ℕ → ℕ → Effect = λ m a. Moves (with_names (conf r (pc + 1) stack pending w) ((r.below ++ pending) ++ name a m ∷ [])) in (
        g,
        (q, kind.names, refl, ap told_in has, part),
        performs code n c (line h k (NameRecord (root_in names d) kind.names many)) _ has
            (ap (λ o. take_effect (at_cells o (go (record_cells kind.names))) n c) (finds_place code r s (root_in names d) (Of kind.shape) p (record_cells kind.names) pc st pending w low f (sym cells))
            ∙ ap (λ m. end ((r.below ++ pending) ++ name (offset s p) m ∷ [])) as_many
            ∙ ap (λ a. end ((r.below ++ pending) ++ name a (named_cells s q kind.names) ∷ [])) (sym first)
            ∙ ap end (append_assoc r.below pending (name (offset s q) (named_cells s q kind.names) ∷ []))),
      )

  name_again_runs : (d : Designator) (o : Object) (t : Shape) (levels : ℕ) (p : Place) (many h k pc : ℕ) (stack : List ℤ) (pending : List Name) (n : Supply) (most : ℕ) (w : World) → Good most s n w → IndexesFit names d → is_told names d ≡ true → object_of names d ≡ Some o → base_object levels (object_of names d) ≡ Some (Of t) → Kept d o p → slice_get (lines_in code r) pc ≡ Some (line h k (NameAgain (name_in names d) many))
      → Reaches code most s (OneFits code shapes s (rooted code r (root_in names d)).told (parameter.Extended t)) (here r pc (at d p ∷ stack) pending n w) (λ v n' w'. here r (pc + 1) (pile (image v) stack) (pending ++ one_name s (rooted code r (root_in names d)).told v) n' w') (Goes (Named (down levels p) (told_of scope d w.store)) n w)
  name_again_runs d o t levels p many h k pc stack pending n most w g ty is e base f has =
      let st = at d p ∷ stack in
      let c = conf r pc st pending w in
      let x = rooted code r (root_in names d) in
      let types = type_of code x in
      let q = down levels p in
      let known = f.1 is in
      let part = told_down shapes s p types known.kind t levels known.holds (ap (λ y. base_object levels (Some y)) (sym known.is) ∙ ap (base_object levels) (sym e) ∙ base) in
      let as_many : named_cells s p types ≡ named_cells s q types = told_cells shapes s p types known.kind known.holds s p ∙ sym (told_cells shapes s p types known.kind known.holds s q) in
      let first : x.address ≡ offset s q = sym known.at ∙ sym (offset-down s levels p) in
      let end : List Name → Point = λ all. Going n (record { at = (conf r (pc + 1) stack pending w).at; stack = stack ++ r.under; names = all; frames = r.frames; memory = picture w }) in
      let name : ℕ → ℕ → ℕ → Name = λ a m l. record { address = a; cells = m; length = l; told = x.told } in
      let name_is : x ≡ name (offset s q) (named_cells s q types) 0 =
      ap (λ a. name a x.cells x.length) first ∙ ap (λ m. name (offset s q) m x.length) (known.cells ∙ as_many) ∙ ap (λ l. name (offset s q) (named_cells s q types) l) known.plain in
      let named = tells_type code shapes r s names scope frame d w is g.fits in
      subst (λ ts. Reaches code most s (OneFits code shapes s x.told (parameter.Extended t)) (Going n c) (λ v n' w'. here r (pc + 1) (pile (image v) stack) (pending ++ one_name s x.told v) n' w') (Goes (Named q ts) n w)) (sym named) (
        g,
        (q, types, refl, refl, part),
        performs code n c (line h k (NameAgain (name_in names d) many)) _ has
            (ap (λ y. end ((r.below ++ pending) ++ y ∷ [])) (finds_name code shapes r s names scope frame d pc st pending w ty is ∙ name_is)
            ∙ ap end (append_assoc r.below pending (name (offset s q) (named_cells s q types) 0 ∷ []))),
      )

  test_runs : (d : Designator) (type : TypeNames) (p : Place) (h k pc : ℕ) (stack : List ℤ) (pending : List Name) (n : Supply) (most : ℕ) (w : World) → Good most s n w → IndexesFit names d → is_told names d ≡ true → slice_get (lines_in code r) pc ≡ Some (line h k (TestRecord (name_in names d) type))
      → Reaches code most s AnyNumber (here r pc (at d p ∷ stack) pending n w) (λ v n' w'. here r (pc + 1) (v ∷ stack) pending n' w') (Goes (truth (extends (told_of scope d w.store) type)) n w)
  test_runs d type p h k pc stack pending n most w g ty is has =
      let c = conf r pc (at d p ∷ stack) pending w in
      let same : type_of code (name_at c (name_in names d)) ≡ told_of scope d w.store =
      ap (type_of code) (finds_name code shapes r s names scope frame d pc (at d p ∷ stack) pending w ty is) ∙ sym (tells_type code shapes r s names scope frame d w is g.fits) in (
        g,
        tt,
        performs code n c (line h k (TestRecord (name_in names d) type)) _ has (ap (λ t. here r (pc + 1) (truth (extends t type) ∷ stack) pending n w) same),
      )

  -- a guard goes on at the same cell, or it traps
  guard_by : (b : Bool) (d : Designator) (kind : RecordKind) (levels : ℕ) (o : Object) (p : Place) (l pc : ℕ) (stack : List ℤ) (pending : List Name) (n : Supply) (most : ℕ) (w : World) → Good most s n w → KindFits kind → KindAgrees shapes kind → base_object levels (Some (Of kind.shape)) ≡ Some o → Fits d o p → IsTold code shapes s (rooted code r (root_in names d)) o p → extends (type_of code (rooted code r (root_in names d))) kind.names ≡ b
      → Comes code (here r pc (at d p ∷ stack) pending n w) (take_effect (cond b (Moves (conf r (pc + 1) (at d p ∷ stack) pending w)) (Fails trap.Guard l)) n (conf r pc (at d p ∷ stack) pending w))
      → Reaches code most s (λ q. PlaceFits s (rooted code r (root_in names d)) (Of kind.shape) q × IsTold code shapes s (rooted code r (root_in names d)) (Of kind.shape) q) (here r pc (at d p ∷ stack) pending n w) (λ q n' w'. here r (pc + 1) (at d q ∷ stack) pending n' w') (extension scope b levels p l n w)
  guard_by true d kind levels o p l pc stack pending n most w g fits agrees base f known e comes =
      let x = rooted code r (root_in names d) in
      let q = up levels p in
      let types = type_of code x in
      let held = guard_holds shapes s p types known.kind kind levels known.holds fits agrees (base ∙ ap Some known.is) e in
      let stands = part_stands shapes s q types kind.shape held in
      let same : offset s q ≡ offset s p = guard_offset shapes s p types known.kind kind levels known.holds fits agrees (base ∙ ap Some known.is) e in
      let within = told_within shapes s q types kind.shape held in
      let cells : x.cells ≡ named_cells s q types = known.cells ∙ told_cells shapes s p types known.kind known.holds s p ∙ sym (told_cells shapes s p types known.kind known.holds s q) in
      let first = known.at in (
        g,
        (
          record { leads = stands.leads; from = omega (arith, same, first); ends = omega (arith, same, first, within, cells); is = stands.is },
          record { kind = kind.shape; is = refl; holds = held; at = same ∙ known.at; cells = cells; plain = known.plain },
        ),
        subst (λ m. Comes code (here r pc (at d p ∷ stack) pending n w) (here r (pc + 1) (pos (m - x.address) ∷ stack) pending n w)) (sym same) comes,
      )
  guard_by false d kind levels o p l pc stack pending n most w g fits agrees base f known e comes =
      trap_stands trap.Guard l (conf r pc (at d p ∷ stack) pending w) n w refl refl g.fits comes

  guard_runs : (d : Designator) (kind : RecordKind) (levels : ℕ) (o : Object) (p : Place) (l h k pc : ℕ) (stack : List ℤ) (pending : List Name) (n : Supply) (most : ℕ) (w : World) → Good most s n w → IndexesFit names d → is_told names d ≡ true → KindFits kind → KindAgrees shapes kind → base_object levels (Some (Of kind.shape)) ≡ Some o → Kept d o p → slice_get (lines_in code r) pc ≡ Some (line h k (Guard (name_in names d) kind.names trap.Guard l))
      → Reaches code most s (λ q. PlaceFits s (rooted code r (root_in names d)) (Of kind.shape) q × IsTold code shapes s (rooted code r (root_in names d)) (Of kind.shape) q) (here r pc (at d p ∷ stack) pending n w) (λ q n' w'. here r (pc + 1) (at d q ∷ stack) pending n' w') (extension scope (extends (told_of scope d w.store) kind.names) levels p l n w)
  guard_runs d kind levels o p l h k pc stack pending n most w g ty is fits agrees base f has =
      let c = conf r pc (at d p ∷ stack) pending w in
      let x = rooted code r (root_in names d) in
      let to : Bool → Point = λ b. take_effect (cond b (Moves (conf r (pc + 1) (at d p ∷ stack) pending w)) (Fails trap.Guard l)) n c in
      let same = ap (type_of code) (finds_name code shapes r s names scope frame d pc (at d p ∷ stack) pending w ty is) in
      let comes = performs code n c (line h k (Guard (name_in names d) kind.names trap.Guard l)) _ has (ap (λ t. to (extends t kind.names)) same) in
      subst (λ t. Reaches code most s (λ q. PlaceFits s x (Of kind.shape) q × IsTold code shapes s x (Of kind.shape) q) (Going n c) (λ q n' w'. here r (pc + 1) (at d q ∷ stack) pending n' w') (extension scope (extends t kind.names) levels p l n w)) (sym (tells_type code shapes r s names scope frame d w is g.fits))
      (guard_by (extends (type_of code x) kind.names) d kind levels o p l pc stack pending n most w g fits agrees base f.0 (f.1 is) refl comes)

  -- ---- operators

  unary_runs : (o : Computed) (i : Line) (l pc : ℕ) (x : ℤ) (stack : List ℤ) (pending : List Name) (n : Supply) (most : ℕ) (w : World) → Good most s n w → slice_get (lines_in code r) pc ≡ Some i → take_effect (perform code i.instr (conf r pc (x ∷ stack) pending w)) n (conf r pc (x ∷ stack) pending w) ≡ take_effect (operated o l (λ v. conf r (pc + 1) (v ∷ stack) pending w)) n (conf r pc (x ∷ stack) pending w)
      → Reaches code most s AnyNumber (here r pc (x ∷ stack) pending n w) (λ v n' w'. here r (pc + 1) (v ∷ stack) pending n' w') (computed scope o l n w)
  unary_runs o i l pc x stack pending n most w g has e =
      computed_runs o l pc (x ∷ stack) stack pending n most w g (performs code n (conf r pc (x ∷ stack) pending w) i _ has e)

  binary_runs : (o : Computed) (i : Line) (l pc : ℕ) (x y : ℤ) (stack : List ℤ) (pending : List Name) (n : Supply) (most : ℕ) (w : World) → Good most s n w → slice_get (lines_in code r) pc ≡ Some i → take_effect (perform code i.instr (conf r pc (y ∷ (x ∷ stack)) pending w)) n (conf r pc (y ∷ (x ∷ stack)) pending w) ≡ take_effect (operated o l (λ v. conf r (pc + 1) (v ∷ stack) pending w)) n (conf r pc (y ∷ (x ∷ stack)) pending w)
      → Reaches code most s AnyNumber (here r pc (y ∷ (x ∷ stack)) pending n w) (λ v n' w'. here r (pc + 1) (v ∷ stack) pending n' w') (computed scope o l n w)
  binary_runs o i l pc x y stack pending n most w g has e =
      computed_runs o l pc (y ∷ (x ∷ stack)) stack pending n most w g (performs code n (conf r pc (y ∷ (x ∷ stack)) pending w) i _ has e)

  -- what is passed to a parameter, and then to the others
  pub passed_both : (y : Told) (ys : List Told) (p : Parameter) (ps : List Parameter) (ca cb : List Line) (pc : ℕ) (stack : List ℤ) (pending : List Name) (n : Supply) (most : ℕ) (w : World) (ra : Run Value) (rb : Supply → World → Run Value) → pc + length ca + length cb ≡ pc + length (ca ++ cb)
      → Reaches code most s (OneFits code shapes s y p) (here r pc stack pending n w) (λ v n' w'. here r (pc + length ca) (pile (image v) stack) (pending ++ one_name s y v) n' w') ra
      → ((v : Value) (n1 : Supply) (w1 : World) → Good most s n1 w1 → Reaches code most s (PassedFit code shapes s ys ps) (here r (pc + length ca) (pile (image v) stack) (pending ++ one_name s y v) n1 w1) (λ a n' w'. here r (pc + length ca + length cb) (pile (image a) (pile (image v) stack)) ((pending ++ one_name s y v) ++ names_passed s ys a) n' w') (rb n1 w1))
      → Reaches code most s (PassedFit code shapes s (y ∷ ys) (p ∷ ps)) (here r pc stack pending n w) (λ a n' w'. here r (pc + length (ca ++ cb)) (pile (image a) stack) (pending ++ names_passed s (y ∷ ys) a) n' w') (and_then ra (λ v n1 w1. and_then (rb n1 w1) (λ vs n2 w2. Goes (Beside v vs) n2 w2)))
  passed_both y ys p ps ca cb pc stack pending n most w ra rb len one others =
      let end : ℕ → Value → Supply → World → Point = λ x a n' w'. here r x (pile (image a) stack) (pending ++ names_passed s (y ∷ ys) a) n' w' in
      let from = here r pc stack pending n w in
      moved code most s _ _ (PassedFit code shapes s (y ∷ ys) (p ∷ ps)) end from _ len
      (ties code most s (OneFits code shapes s y p) (PassedFit code shapes s (y ∷ ys) (p ∷ ps)) from (λ v n' w'. here r (pc + length ca) (pile (image v) stack) (pending ++ one_name s y v) n' w') (end (pc + length ca + length cb)) ra _ one
      (λ v n1 w1 g1 k1. ties code most s (PassedFit code shapes s ys ps) (PassedFit code shapes s (y ∷ ys) (p ∷ ps)) (here r (pc + length ca) (pile (image v) stack) (pending ++ one_name s y v) n1 w1) (λ a n' w'. here r (pc + length ca + length cb) (pile (image a) (pile (image v) stack)) ((pending ++ one_name s y v) ++ names_passed s ys a) n' w') (end (pc + length ca + length cb)) (rb n1 w1) _
      (others v n1 w1 g1)
      (λ a n2 w2 g2 k2. (
        g2,
        (v, a, refl, k1, k2),
        subst (λ x. Comes code (here r (pc + length ca + length cb) (pile (image a) (pile (image v) stack)) ((pending ++ one_name s y v) ++ names_passed s ys a) n2 w2) (here r (pc + length ca + length cb) x (pending ++ names_passed s (y ∷ ys) (Beside v a)) n2 w2)) (sym (pile-append (image v) (image a) stack))
            (subst (λ x. Comes code (here r (pc + length ca + length cb) (pile (image a) (pile (image v) stack)) ((pending ++ one_name s y v) ++ names_passed s ys a) n2 w2) (here r (pc + length ca + length cb) (pile (image a) (pile (image v) stack)) x n2 w2)) (append_assoc pending (one_name s y v) (names_passed s ys a))
            (stays code (here r (pc + length ca + length cb) (pile (image a) (pile (image v) stack)) ((pending ++ one_name s y v) ++ names_passed s ys a) n2 w2))),
      ))))

  -- ---- all expressions

  -- of which line each argument is told
  abbrev pub told_one : ℕ → ℕ → ℕ → Argument → Told
  told_one h k pc (argument.Value e) = untold
  told_one h k pc (argument.Place d) = untold
  told_one h k pc (argument.Open d) = untold
  told_one h k pc (argument.Typed d kind levels) = told_at (pc + length (offset_code names h k d))
  told_one h k pc (argument.Again d levels) = (rooted code r (root_in names d)).told

  abbrev pub told_row : ℕ → ℕ → ℕ → {j : _} → Row_of-Argument j → List Told
  told_row h k pc end_of-Argument = []
  told_row h k pc (more_of-Argument a rest) = told_one h k pc a ∷ told_row (h + value_one a) (k + name_one a) (pc + length (argument_code names h k a)) rest

  pub fits_only : (d : Designator) (o : Object) (from : Point) (to : Place → Supply → World → Point) (most : ℕ) (run : Run Place) → Reaches code most s (Kept d o) from to run → Reaches code most s (Fits d o) from to run
  fits_only d o from to most run h = keeps_less code most s (Kept d o) (Fits d o) from to run (λ p k. k.0) h

  -- a designator of which no type is told
  kept_so : (d : Designator) (o : Object) (from : Point) (to : Place → Supply → World → Point) (most : ℕ) (run : Run Place) → is_told names d ≡ false → Reaches code most s (Fits d o) from to run → Reaches code most s (Kept d o) from to run
  kept_so d o from to most run e h = keeps_less code most s (Fits d o) (Kept d o) from to run (λ p k. (k, λ t. absurd (let n : false ≡ true = sym e ∙ t in cc))) h

  module _ (calls : CallsRun code shapes r s names scope) where
    mutual
      pub expr_runs : (e : TypedExpr) (h k pc : ℕ) (stack : List ℤ) (pending : List Name) (n : Supply) (most : ℕ) (w : World) → ExprFits names e → ExprAgrees shapes e → Good most s n w → HasAt (lines_in code r) pc (expr_code names h k e) → Reaches code most s AnyNumber (here r pc stack pending n w) (λ v n' w'. here r (pc + length (expr_code names h k e)) (v ∷ stack) pending n' w') (value_of scope e n w)
      expr_runs (Constant v) h k pc stack pending n most w ty ag g has =
          (g, tt, performs code n (conf r pc stack pending w) (line h k (Push v)) (here r (pc + 1) (v ∷ stack) pending n w) has.0 refl)
      expr_runs (Read d) h k pc stack pending n most w ty ag g has =
          read_runs d h k pc stack pending n most w ty.0 ty.1 g has (λ hs. fits_only d (Of Basic) _ _ most _ (place_runs d (Of Basic) h k pc stack pending n most w ty.0 ag ty.1 g hs))
      expr_runs InputDone h k pc stack pending n most w ty ag g has =
          (g, tt, performs code n (conf r pc stack pending w) (line h k PushDone) (here r (pc + 1) (truth w.input.done ∷ stack) pending n w) has.0 refl)
      expr_runs (Unary' op l b (more_of-TypedExpr a end_of-TypedExpr)) h k pc stack pending n most w ty ag g has =
          one_runs code r s AnyNumber AnyNumber (λ v. v ∷ stack) (λ v. pending) (expr_code names h k a) (line (h + 1) k (Unary op l)) (λ x v n' w'. here r x (v ∷ stack) pending n' w') (value_of scope a n w) _ pc (here r pc stack pending n w) most has
          (expr_runs a h k pc stack pending n most w ty ag g (has_front (lines_in code r) pc (expr_code names h k a) _ has))
          (λ x n1 w1 g1 k1 at_i. unary_runs (apply_one op x) (line (h + 1) k (Unary op l)) l (pc + length (expr_code names h k a)) x stack pending n1 most w1 g1 at_i refl)
      expr_runs (Chain' b (more_of-TypedExpr a end_of-TypedExpr) m steps) h k pc stack pending n most w ty ag g has =
          let ca = expr_code names h k a in
          let cb = operations_code names h k steps in
          let len : pc + length ca + length cb ≡ pc + length (ca ++ cb) = omega (arith, length-append ca cb) in
          let end : ℕ → ℤ → Supply → World → Point = λ x v n' w'. here r x (v ∷ stack) pending n' w' in
          moved code most s _ _ AnyNumber end (here r pc stack pending n w) _ len
          (ties code most s AnyNumber AnyNumber (here r pc stack pending n w) (end (pc + length ca)) (end (pc + length ca + length cb)) (value_of scope a n w) _
          (expr_runs a h k pc stack pending n most w ty.0 ag.0 g (has_front (lines_in code r) pc ca cb has))
          (λ x n1 w1 g1 k1. operations_run steps h k (pc + length ca) x stack pending n1 most w1 ty.1 ag.1 g1 (has_back (lines_in code r) pc ca cb has)))
      expr_runs (Every' m es) h k pc stack pending n most w ty ag g has = every_runs es h k pc stack pending n most w ty ag g has
      expr_runs (Either' m es) h k pc stack pending n most w ty ag g has = either_runs es h k pc stack pending n most w ty ag g has
      expr_runs (Texts relation a b) h k pc stack pending n most w ty ag g has =
          let oa = elements_some (object_of names a) Basic ty.2 in
          let ob = elements_some (object_of names b) Basic ty.3 in
          let ea : elements_in (Some oa.0) ≡ Some Basic = ap elements_in (sym oa.1) ∙ ty.2 in
          let eb : elements_in (Some ob.0) ≡ Some Basic = ap elements_in (sym ob.1) ∙ ty.3 in
          two_runs code r s (Fits a oa.0) (Fits b ob.0) AnyNumber (at a) (at b) (offset_code names h k a) (offset_code names (h + 1) k b) (line (h + 2) k (RelateTexts relation (span_of names a) (span_of names b))) (λ x v n' w'. here r x (v ∷ stack) pending n' w') (place_of scope a n w) (λ p n1 w1. place_of scope b n1 w1) _ pc stack pending (here r pc stack pending n w) most has
          (fits_only a oa.0 _ _ most _ (place_runs a oa.0 h k pc stack pending n most w ty.0 ag.0 oa.1 g (has_front (lines_in code r) pc (offset_code names h k a) _ has)))
          (λ p n1 w1 g1 k1 hb. fits_only b ob.0 _ _ most _ (place_runs b ob.0 (h + 1) k (pc + length (offset_code names h k a)) (at a p ∷ stack) pending n1 most w1 ty.1 ag.1 ob.1 g1 hb))
          (λ p q n2 w2 g2 k1 k2 hi. relate_runs relation a b p q (h + 2) k (pc + length (offset_code names h k a) + length (offset_code names (h + 1) k b)) stack pending n2 most w2 g2
          (record { object = oa.0; indexes = ty.0; is = oa.1; of_characters = ea; fits = k1 }) (record { object = ob.0; indexes = ty.1; is = ob.1; of_characters = eb; fits = k2 }) hi)
      expr_runs (Length d) h k pc stack pending n most w ty ag g has =
          let o = elements_some (object_of names d) ty.1.0 ty.1.1 in
          let e : elements_in (Some o.0) ≡ Some ty.1.0 = ap elements_in (sym o.1) ∙ ty.1.1 in
          one_runs code r s (Fits d o.0) AnyNumber (λ p. at d p ∷ stack) (λ p. pending) (offset_code names h k d) (line (h + 1) k (TakeLength (length_of names d))) (λ x v n' w'. here r x (v ∷ stack) pending n' w') (place_of scope d n w) _ pc (here r pc stack pending n w) most has
          (fits_only d o.0 _ _ most _ (place_runs d o.0 h k pc stack pending n most w ty.0 ag o.1 g (has_front (lines_in code r) pc (offset_code names h k d) _ has)))
          (λ p n1 w1 g1 k1 at_i. length_runs d o.0 ty.1.0 p (h + 1) k (pc + length (offset_code names h k d)) stack pending n1 most w1 g1 ty.0 o.1 e ty.1.2 k1 at_i)
      expr_runs (Function' f l m args) h k pc stack pending n most w ty ag g has =
          let ca = arguments_code names h k args in
          let i = line (h + row_values args) (k + row_names args) (Invoke f l) in
          let at_call = pc + length ca in
          let ys = told_row h k pc args in
          one_runs code r s (PassedFit code shapes s ys ty.0.parameters) AnyNumber (λ a. pile (image a) stack) (λ a. pending ++ names_passed s ys a) ca i (λ x v n' w'. here r x (v ∷ stack) pending n' w') (passed (arguments scope args) n w) _ pc (here r pc stack pending n w) most has
          (arguments_run args ty.0.parameters h k pc stack pending n most w ty.3 ag g (has_front (lines_in code r) pc ca _ has))
          (λ a n1 w1 g1 k1 at_i. ties code most s (SoMany (results ty.0.is_function)) AnyNumber (here r at_call (pile (image a) stack) (pending ++ names_passed s ys a) n1 w1) (λ vs n' w'. here r (at_call + 1) (vs ++ stack) pending n' w') (λ v n' w'. here r (at_call + 1) (v ∷ stack) pending n' w') (scope.call f a l n1 w1) _
          (calls.by f l (h + row_values args) (k + row_names args) at_call ty.0 ys a stack pending n1 most w1 g1 ty.1 k1 at_i)
          (λ vs n2 w2 g2 k2. (g2, tt, subst (λ st. Comes code (here r (at_call + 1) (vs ++ stack) pending n2 w2) (here r (at_call + 1) st pending n2 w2)) (one_result vs stack (k2 ∙ ap results ty.2)) (stays code (here r (at_call + 1) (vs ++ stack) pending n2 w2)))))
      expr_runs (Test d type) h k pc stack pending n most w ty ag g has =
          let o = told_object names d ty.1 in
          one_runs code r s (Kept d (Of o.0)) AnyNumber (λ p. at d p ∷ stack) (λ p. pending) (offset_code names h k d) (line (h + 1) k (TestRecord (name_in names d) type)) (λ x v n' w'. here r x (v ∷ stack) pending n' w') (place_of scope d n w) _ pc (here r pc stack pending n w) most has
          (place_runs d (Of o.0) h k pc stack pending n most w ty.0 ag o.1 g (has_front (lines_in code r) pc (offset_code names h k d) _ has))
          (λ p n1 w1 g1 k1 at_i. test_runs d type p (h + 1) k (pc + length (offset_code names h k d)) stack pending n1 most w1 g1 ty.0 ty.1 at_i)

      pub operations_run : {j : _} (steps : Row_of-Operation j) (h k pc : ℕ) (x : ℤ) (stack : List ℤ) (pending : List Name) (n : Supply) (most : ℕ) (w : World) → OperationsFit names steps → OperationsAgree shapes steps → Good most s n w → HasAt (lines_in code r) pc (operations_code names h k steps) → Reaches code most s AnyNumber (here r pc (x ∷ stack) pending n w) (λ v n' w'. here r (pc + length (operations_code names h k steps)) (v ∷ stack) pending n' w') (chained (operations scope steps) x n w)
      operations_run end_of-Operation h k pc x stack pending n most w ty ag g has =
          moved code most s pc (pc + 0) AnyNumber (λ y v n' w'. here r y (v ∷ stack) pending n' w') (here r pc (x ∷ stack) pending n w) (Goes x n w) (omega arith) (g, tt, stays code (here r pc (x ∷ stack) pending n w))
      operations_run (more_of-Operation op l e rest) h k pc x stack pending n most w ty ag g has =
          let ca = expr_code names (h + 1) k e in
          let i = line (h + 2) k (Operate op l) in
          let cb = operations_code names h k rest in
          let hb = has_back (lines_in code r) pc ca (i ∷ cb) has in
          let len : pc + length ca + 1 + length cb ≡ pc + length (ca ++ (i ∷ cb)) = omega (arith, length-append ca (i ∷ cb)) in
          let end : ℕ → ℤ → Supply → World → Point = λ y v n' w'. here r y (v ∷ stack) pending n' w' in
          let from = here r pc (x ∷ stack) pending n w in
          moved code most s _ _ AnyNumber end from _ len
          (ties code most s AnyNumber AnyNumber from (end (pc + length ca + 1)) (end (pc + length ca + 1 + length cb)) (and_then (value_of scope e n w) (λ y n1 w1. computed scope (apply op x y) l n1 w1)) _
          (ties code most s AnyNumber AnyNumber from (λ y n1 w1. here r (pc + length ca) (y ∷ (x ∷ stack)) pending n1 w1) (end (pc + length ca + 1)) (value_of scope e n w) _
          (expr_runs e (h + 1) k pc (x ∷ stack) pending n most w ty.0 ag.0 g (has_front (lines_in code r) pc ca (i ∷ cb) has))
          (λ y n1 w1 g1 k1. binary_runs (apply op x y) i l (pc + length ca) x y stack pending n1 most w1 g1 hb.0 refl))
          (λ y n2 w2 g2 k2. operations_run rest h k (pc + length ca + 1) y stack pending n2 most w2 ty.1 ag.1 g2 hb.1))

      pub every_runs : {j : _} (es : Row_of-TypedExpr j) (h k pc : ℕ) (stack : List ℤ) (pending : List Name) (n : Supply) (most : ℕ) (w : World) → ExprsFit names es → ExprsAgree shapes es → Good most s n w → HasAt (lines_in code r) pc (every_code names h k es) → Reaches code most s AnyNumber (here r pc stack pending n w) (λ v n' w'. here r (pc + length (every_code names h k es)) (v ∷ stack) pending n' w') (every (values scope es) n w)
      every_runs end_of-TypedExpr h k pc stack pending n most w ty ag g has =
          (g, tt, performs code n (conf r pc stack pending w) (line h k (Push (pos 1))) (here r (pc + 1) (pos 1 ∷ stack) pending n w) has.0 refl)
      every_runs (more_of-TypedExpr a rest) h k pc stack pending n most w ty ag g has =
          let lines = lines_in code r in
          let ca = expr_code names h k a in
          let cb = every_code names h k rest in
          let ha = has_back lines pc ca _ has in
          let hb = has_front lines (pc + length ca + 1) cb _ ha.1 in
          let hs = has_back lines (pc + length ca + 1) cb _ ha.1 in
          let tail = line (h + 1) k (Skip 1) ∷ (line h k (Push (pos 0)) ∷ []) in
          let mid = pc + length ca + 1 + length cb in
          let len : mid + 1 + 1 ≡ pc + length (and_code h k ca cb) = omega (arith, length-append ca (line (h + 1) k (SkipIfZero (length cb + 1)) ∷ (cb ++ tail)), length-append cb tail) in
          let far : mid + 1 ≡ pc + length ca + 1 + (length cb + 1) = omega arith in
          let end : ℕ → ℤ → Supply → World → Point = λ y v n' w'. here r y (v ∷ stack) pending n' w' in
          moved code most s _ _ AnyNumber end (here r pc stack pending n w) _ len
          (ties code most s AnyNumber AnyNumber (here r pc stack pending n w) (end (pc + length ca)) (end (mid + 1 + 1)) (value_of scope a n w) _
          (expr_runs a h k pc stack pending n most w ty.0 ag.0 g (has_front lines pc ca _ has))
          (λ x n1 w1 g1 k1. skip_runs code r s x (h + 1) k (length cb + 1) (pc + length ca) stack pending n1 most w1 AnyNumber (end (mid + 1 + 1)) (Goes (pos 0) n1 w1) (every (values scope rest) n1 w1) ha.0
          (g1, tt, subst (λ y. Comes code (here r y stack pending n1 w1) (here r (mid + 1 + 1) (pos 0 ∷ stack) pending n1 w1)) far (performs code n1 (conf r (mid + 1) stack pending w1) (line h k (Push (pos 0))) _ hs.1.0 refl))
          (then_comes code most s AnyNumber (here r (pc + length ca + 1) stack pending n1 w1) (end mid) (end (mid + 1 + 1)) (every (values scope rest) n1 w1)
          (every_runs rest h k (pc + length ca + 1) stack pending n1 most w1 ty.1 ag.1 g1 hb)
          (λ v n' w' g' k'. skips code r s (h + 1) k 1 mid (v ∷ stack) pending n' w' hs.0))))

      pub either_runs : {j : _} (es : Row_of-TypedExpr j) (h k pc : ℕ) (stack : List ℤ) (pending : List Name) (n : Supply) (most : ℕ) (w : World) → ExprsFit names es → ExprsAgree shapes es → Good most s n w → HasAt (lines_in code r) pc (either_code names h k es) → Reaches code most s AnyNumber (here r pc stack pending n w) (λ v n' w'. here r (pc + length (either_code names h k es)) (v ∷ stack) pending n' w') (either (values scope es) n w)
      either_runs end_of-TypedExpr h k pc stack pending n most w ty ag g has =
          (g, tt, performs code n (conf r pc stack pending w) (line h k (Push (pos 0))) (here r (pc + 1) (pos 0 ∷ stack) pending n w) has.0 refl)
      either_runs (more_of-TypedExpr a rest) h k pc stack pending n most w ty ag g has =
          let lines = lines_in code r in
          let ca = expr_code names h k a in
          let cb = either_code names h k rest in
          let ha = has_back lines pc ca _ has in
          let mid = pc + length ca + 1 in
          let len : mid + 1 + 1 + length cb ≡ pc + length (or_code h k ca cb) = omega (arith, length-append ca (line (h + 1) k (SkipIfZero 2) ∷ (line h k (Push (pos 1)) ∷ (line (h + 1) k (Skip (length cb)) ∷ cb)))) in
          let far : mid + 1 + 1 ≡ mid + 2 = omega arith in
          let end : ℕ → ℤ → Supply → World → Point = λ y v n' w'. here r y (v ∷ stack) pending n' w' in
          moved code most s _ _ AnyNumber end (here r pc stack pending n w) _ len
          (ties code most s AnyNumber AnyNumber (here r pc stack pending n w) (end (pc + length ca)) (end (mid + 1 + 1 + length cb)) (value_of scope a n w) _
          (expr_runs a h k pc stack pending n most w ty.0 ag.0 g (has_front lines pc ca _ has))
          (λ x n1 w1 g1 k1. skip_runs code r s x (h + 1) k 2 (pc + length ca) stack pending n1 most w1 AnyNumber (end (mid + 1 + 1 + length cb)) (either (values scope rest) n1 w1) (Goes (pos 1) n1 w1) ha.0
          (subst (λ y. Reaches code most s AnyNumber (here r y stack pending n1 w1) (end (mid + 1 + 1 + length cb)) (either (values scope rest) n1 w1)) far
          (either_runs rest h k (mid + 1 + 1) stack pending n1 most w1 ty.1 ag.1 g1 ha.1.1.1))
          (g1, tt, goes_on code _ _ _ (performs code n1 (conf r mid stack pending w1) (line h k (Push (pos 1))) (here r (mid + 1) (pos 1 ∷ stack) pending n1 w1) ha.1.0 refl) (skips code r s (h + 1) k (length cb) (mid + 1) (pos 1 ∷ stack) pending n1 w1 ha.1.1.0))))

      pub place_runs : (d : Designator) (o : Object) (h k pc : ℕ) (stack : List ℤ) (pending : List Name) (n : Supply) (most : ℕ) (w : World) → IndexesFit names d → PlaceAgrees shapes d → object_of names d ≡ Some o → Good most s n w → HasAt (lines_in code r) pc (offset_code names h k d) → Reaches code most s (Kept d o) (here r pc stack pending n w) (λ p n' w'. here r (pc + length (offset_code names h k d)) (at d p ∷ stack) pending n' w') (place_of scope d n w)
      place_runs (designator.Whole v) o h k pc stack pending n most w ty ag e g has =
          let x = frame.variables v o e in
          let first : pos 0 ≡ at (designator.Whole v) x.place = ap pos (omega (arith, x.at)) in
          subst (λ p. Reaches code most s (Kept (designator.Whole v) o) (here r pc stack pending n w) (λ p n' w'. here r (pc + 1) (at (designator.Whole v) p ∷ stack) pending n' w') (Goes p n w)) (sym (x.stands w g.fits))
          (g, (x.fits, x.told), performs code n (conf r pc stack pending w) (line h k (Push (pos 0))) _ has.0 (ap (λ z. here r (pc + 1) (z ∷ stack) pending n w) first))
      place_runs (designator.Element' b (more_of-Designator d end_of-Designator) l c (more_of-TypedExpr e end_of-TypedExpr)) o h k pc stack pending n most w ty ag is g has =
          let t = shape_some (elements_in (object_of names d)) o is in
          let u = elements_some (object_of names d) t.0 t.1 in
          let each : elements_in (Some u.0) ≡ Some t.0 = ap elements_in (sym u.1) ∙ t.1 in
          kept_so (designator.Element' b (more_of-Designator d end_of-Designator) l c (more_of-TypedExpr e end_of-TypedExpr)) o _ _ most _ refl
          (two_runs code r s (Fits d u.0) AnyNumber (Fits d o) (at d) (λ y. y) (offset_code names h k d) (expr_code names (h + 1) k e) (line (h + 2) k (Index (length_of names d) (element_cells names d) l)) (λ x p n' w'. here r x (at d p ∷ stack) pending n' w') (place_of scope d n w) (λ p n1 w1. value_of scope e n1 w1) (λ p i n2 w2. element scope (index_in i (count (get w2.store p))) p l n2 w2) pc stack pending (here r pc stack pending n w) most has
          (fits_only d u.0 _ _ most _ (place_runs d u.0 h k pc stack pending n most w ty.0 ag.0 u.1 g (has_front (lines_in code r) pc (offset_code names h k d) _ has)))
          (λ p n1 w1 g1 k1 hb. expr_runs e (h + 1) k (pc + length (offset_code names h k d)) (at d p ∷ stack) pending n1 most w1 ty.1 ag.1 g1 hb)
          (λ p i n2 w2 g2 k1 k2 hi. subst (λ x. Reaches code most s (Fits d x) (here r (pc + length (offset_code names h k d) + length (expr_code names (h + 1) k e)) (i ∷ (at d p ∷ stack)) pending n2 w2) (λ p n' w'. here r (pc + length (offset_code names h k d) + length (expr_code names (h + 1) k e) + 1) (at d p ∷ stack) pending n' w') (element scope (index_in i (count (get w2.store p))) p l n2 w2)) (sym t.2)
          (index_runs i d u.0 t.0 p l (h + 2) k (pc + length (offset_code names h k d) + length (expr_code names (h + 1) k e)) stack pending n2 most w2 g2 ty.0 u.1 each k1 hi)))
      place_runs (designator.Field' b (more_of-Designator d end_of-Designator) i) o h k pc stack pending n most w ty ag is g has =
          let f = field_some (object_of names d) i o is in
          let lines = lines_in code r in
          let cd = offset_code names h k d in
          let more = field_code (h + 1) k d (before (zero_in (object_of names d)) i) in
          let to : ℕ → Place → Supply → World → Point = λ x p n' w'. here r x (at d p ∷ stack) pending n' w' in
          let len : pc + length cd + length more ≡ pc + length (cd ++ more) = omega (arith, length-append cd more) in
          kept_so (designator.Field' b (more_of-Designator d end_of-Designator) i) o _ _ most _ refl
          (moved code most s _ _ (Fits d o) to (here r pc stack pending n w) _ len
          (ties code most s (Fits d (Of f.0)) (Fits d o) (here r pc stack pending n w) (to (pc + length cd)) (to (pc + length cd + length more)) (place_of scope d n w) _
          (fits_only d (Of f.0) _ _ most _ (place_runs d (Of f.0) h k pc stack pending n most w ty ag f.1 g (has_front lines pc cd more has)))
          (λ p n1 w1 g1 k1. field_runs d f.0 o p i (h + 1) k (pc + length cd) stack pending n1 most w1 g1 ty f.1 (field_is f.0 i o f.2) k1 (has_back lines pc cd more has))))
      place_runs (designator.Guarded' b (more_of-Designator d end_of-Designator) l kind levels) o h k pc stack pending n most w ty ag is g has =
          let d' = designator.Guarded' b (more_of-Designator d end_of-Designator) l kind levels in
          let x = rooted code r (root_in names d) in
          let u = told_object names d ty.1 in
          let mine : Place → Type 0 = λ q. PlaceFits s x (Of kind.shape) q × IsTold code shapes s x (Of kind.shape) q in
          let to : ℕ → Place → Supply → World → Point = λ y p n' w'. here r y (at d p ∷ stack) pending n' w' in
          subst (λ y. Reaches code most s (Kept d' y) (here r pc stack pending n w) (to (pc + length (offset_code names h k d'))) (place_of scope d' n w)) (some_same (Of kind.shape) o is)
          (keeps_less code most s mine (Kept d' (Of kind.shape)) (here r pc stack pending n w) (to (pc + length (offset_code names h k d'))) (place_of scope d' n w) (λ q k. (k.0, λ t. k.1))
          (one_runs code r s (Kept d (Of u.0)) mine (λ p. at d p ∷ stack) (λ p. pending) (offset_code names h k d) (line (h + 1) k (Guard (name_in names d) kind.names trap.Guard l)) to (place_of scope d n w) _ pc (here r pc stack pending n w) most has
          (place_runs d (Of u.0) h k pc stack pending n most w ty.0 ag.0 u.1 g (has_front (lines_in code r) pc (offset_code names h k d) _ has))
          (λ p n1 w1 g1 k1 at_i. guard_runs d kind levels (Of u.0) p l (h + 1) k (pc + length (offset_code names h k d)) stack pending n1 most w1 g1 ty.0 ty.1 ty.2 ag.1 (ty.3 ∙ u.1) k1 at_i)))

      pub argument_runs : (a : Argument) (p : Parameter) (h k pc : ℕ) (stack : List ℤ) (pending : List Name) (n : Supply) (most : ℕ) (w : World) → IsPassed names a p → ArgumentAgrees shapes a → Good most s n w → HasAt (lines_in code r) pc (argument_code names h k a) → Reaches code most s (OneFits code shapes s (told_one h k pc a) p) (here r pc stack pending n w) (λ v n' w'. here r (pc + length (argument_code names h k a)) (pile (image v) stack) (pending ++ one_name s (told_one h k pc a) v) n' w') (argument_of scope a n w)
      argument_runs (argument.Value e) parameter.Value h k pc stack pending n most w ty ag g has =
          let ce = expr_code names h k e in
          ties code most s AnyNumber (OneFits code shapes s untold parameter.Value) (here r pc stack pending n w) (λ v n' w'. here r (pc + length ce) (v ∷ stack) pending n' w') (λ v n' w'. here r (pc + length ce) (pile (image v) stack) (pending ++ one_name s untold v) n' w') (value_of scope e n w) _
          (expr_runs e h k pc stack pending n most w ty ag g has)
          (λ v n1 w1 g1 k1. (g1, (v, refl), subst (λ x. Comes code (here r (pc + length ce) (v ∷ stack) pending n1 w1) (here r (pc + length ce) (v ∷ stack) x n1 w1)) (sym (append-nil pending)) (stays code (here r (pc + length ce) (v ∷ stack) pending n1 w1))))
      argument_runs (argument.Place d) (parameter.Place t) h k pc stack pending n most w ty ag g has =
          one_runs code r s (Fits d (Of t)) (OneFits code shapes s untold (parameter.Place t)) (λ p. at d p ∷ stack) (λ p. pending) (offset_code names h k d) (line (h + 1) k (NamePlace (root_in names d) (cells_of names d))) (λ x v n' w'. here r x (pile (image v) stack) (pending ++ one_name s untold v) n' w') (place_of scope d n w) _ pc (here r pc stack pending n w) most has
          (fits_only d (Of t) _ _ most _ (place_runs d (Of t) h k pc stack pending n most w ty.0 ag ty.1 g (has_front (lines_in code r) pc (offset_code names h k d) _ has)))
          (λ p n1 w1 g1 k1 at_i. name_place_runs d t p (h + 1) k (pc + length (offset_code names h k d)) stack pending n1 most w1 g1 ty.0 ty.1 k1 at_i)
      argument_runs (argument.Open d) (parameter.Open t) h k pc stack pending n most w ty ag g has =
          let o = elements_some (object_of names d) t ty.1 in
          let each : elements_in (Some o.0) ≡ Some t = ap elements_in (sym o.1) ∙ ty.1 in
          one_runs code r s (Fits d o.0) (OneFits code shapes s untold (parameter.Open t)) (λ p. at d p ∷ stack) (λ p. pending) (offset_code names h k d) (line (h + 1) k (NameArray (root_in names d) (length_of names d) (element_cells names d))) (λ x v n' w'. here r x (pile (image v) stack) (pending ++ one_name s untold v) n' w') (place_of scope d n w) _ pc (here r pc stack pending n w) most has
          (fits_only d o.0 _ _ most _ (place_runs d o.0 h k pc stack pending n most w ty.0 ag o.1 g (has_front (lines_in code r) pc (offset_code names h k d) _ has)))
          (λ p n1 w1 g1 k1 at_i. name_array_runs d o.0 t p (h + 1) k (pc + length (offset_code names h k d)) stack pending n1 most w1 g1 ty.0 o.1 each k1 at_i)
      argument_runs (argument.Value e) (parameter.Place t) h k pc stack pending n most w ty ag g has = absurd ty
      argument_runs (argument.Value e) (parameter.Open t) h k pc stack pending n most w ty ag g has = absurd ty
      argument_runs (argument.Place d) parameter.Value h k pc stack pending n most w ty ag g has = absurd ty
      argument_runs (argument.Place d) (parameter.Open t) h k pc stack pending n most w ty ag g has = absurd ty
      argument_runs (argument.Open d) parameter.Value h k pc stack pending n most w ty ag g has = absurd ty
      argument_runs (argument.Open d) (parameter.Place t) h k pc stack pending n most w ty ag g has = absurd ty
      argument_runs (argument.Typed d kind levels) (parameter.Extended t) h k pc stack pending n most w ty ag g has =
          let x = told_at (pc + length (offset_code names h k d)) in
          one_runs code r s (Fits d (Of kind.shape)) (OneFits code shapes s x (parameter.Extended t)) (λ p. at d p ∷ stack) (λ p. pending) (offset_code names h k d) (line (h + 1) k (NameRecord (root_in names d) kind.names (base_cells names d levels))) (λ y v n' w'. here r y (pile (image v) stack) (pending ++ one_name s x v) n' w') (place_of scope d n w) _ pc (here r pc stack pending n w) most has
          (fits_only d (Of kind.shape) _ _ most _ (place_runs d (Of kind.shape) h k pc stack pending n most w ty.0 ag.0 ty.3 g (has_front (lines_in code r) pc (offset_code names h k d) _ has)))
          (λ p n1 w1 g1 k1 at_i. name_record_runs d t kind levels p (base_cells names d levels) (h + 1) k (pc + length (offset_code names h k d)) stack pending n1 most w1 g1 ty.0 ty.2 ag.1 ty.3 ty.4 k1 at_i)
      argument_runs (argument.Again d levels) (parameter.Extended t) h k pc stack pending n most w ty ag g has =
          let x = (rooted code r (root_in names d)).told in
          let o = told_object names d ty.1 in
          one_runs code r s (Kept d (Of o.0)) (OneFits code shapes s x (parameter.Extended t)) (λ p. at d p ∷ stack) (λ p. pending) (offset_code names h k d) (line (h + 1) k (NameAgain (name_in names d) (base_cells names d levels))) (λ y v n' w'. here r y (pile (image v) stack) (pending ++ one_name s x v) n' w') (place_of scope d n w) _ pc (here r pc stack pending n w) most has
          (place_runs d (Of o.0) h k pc stack pending n most w ty.0 ag o.1 g (has_front (lines_in code r) pc (offset_code names h k d) _ has))
          (λ p n1 w1 g1 k1 at_i. name_again_runs d (Of o.0) t levels p (base_cells names d levels) (h + 1) k (pc + length (offset_code names h k d)) stack pending n1 most w1 g1 ty.0 ty.1 o.1 ty.2 k1 at_i)
      argument_runs (argument.Value e) (parameter.Extended t) h k pc stack pending n most w ty ag g has = absurd ty
      argument_runs (argument.Place d) (parameter.Extended t) h k pc stack pending n most w ty ag g has = absurd ty
      argument_runs (argument.Open d) (parameter.Extended t) h k pc stack pending n most w ty ag g has = absurd ty
      argument_runs (argument.Typed d kind levels) parameter.Value h k pc stack pending n most w ty ag g has = absurd ty
      argument_runs (argument.Typed d kind levels) (parameter.Place t) h k pc stack pending n most w ty ag g has = absurd ty
      argument_runs (argument.Typed d kind levels) (parameter.Open t) h k pc stack pending n most w ty ag g has = absurd ty
      argument_runs (argument.Again d levels) parameter.Value h k pc stack pending n most w ty ag g has = absurd ty
      argument_runs (argument.Again d levels) (parameter.Place t) h k pc stack pending n most w ty ag g has = absurd ty
      argument_runs (argument.Again d levels) (parameter.Open t) h k pc stack pending n most w ty ag g has = absurd ty

      pub arguments_run : {j : _} (args : Row_of-Argument j) (ps : List Parameter) (h k pc : ℕ) (stack : List ℤ) (pending : List Name) (n : Supply) (most : ℕ) (w : World) → RowPassed names args ps → ArgumentsAgree shapes args → Good most s n w → HasAt (lines_in code r) pc (arguments_code names h k args) → Reaches code most s (PassedFit code shapes s (told_row h k pc args) ps) (here r pc stack pending n w) (λ a n' w'. here r (pc + length (arguments_code names h k args)) (pile (image a) stack) (pending ++ names_passed s (told_row h k pc args) a) n' w') (passed (arguments scope args) n w)
      arguments_run end_of-Argument [] h k pc stack pending n most w ty ag g has =
          moved code most s pc (pc + 0) (PassedFit code shapes s [] []) (λ x a n' w'. here r x (pile (image a) stack) (pending ++ names_passed s [] a) n' w') (here r pc stack pending n w) (Goes Nothing n w) (omega arith)
          (g, refl, subst (λ x. Comes code (here r pc stack pending n w) (here r pc stack x n w)) (sym (append-nil pending)) (stays code (here r pc stack pending n w)))
      arguments_run end_of-Argument (p ∷ ps) h k pc stack pending n most w ty ag g has = absurd ty
      arguments_run (more_of-Argument a rest) [] h k pc stack pending n most w ty ag g has = absurd ty
      arguments_run (more_of-Argument a rest) (p ∷ ps) h k pc stack pending n most w ty ag g has =
          let ca = argument_code names h k a in
          let cb = arguments_code names (h + value_one a) (k + name_one a) rest in
          let len : pc + length ca + length cb ≡ pc + length (ca ++ cb) = omega (arith, length-append ca cb) in
          passed_both (told_one h k pc a) (told_row (h + value_one a) (k + name_one a) (pc + length ca) rest) p ps ca cb pc stack pending n most w (argument_of scope a n w) (passed (arguments scope rest))
          len (argument_runs a p h k pc stack pending n most w ty.0 ag.0 g (has_front (lines_in code r) pc ca cb has))
          (λ v n1 w1 g1. arguments_run rest ps (h + value_one a) (k + name_one a) (pc + length ca) (pile (image v) stack) (pending ++ one_name s (told_one h k pc a) v) n1 most w1 ty.1 ag.1 g1 (has_back (lines_in code r) pc ca cb has))
