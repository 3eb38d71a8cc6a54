-- The machine follows the statements that have no others in them.
use Rattle.std.proofs.Common.{◌≡◌, ℕ, zero, suc, ◌+◌, ◌-◌, ℤ, pos, negsuc, List, [], ◌∷◌, ◌++◌, length, map, Option, Some, None, Bool, true, false, refl, sym, ap, ◌∙◌, subst, arith, length-append, append-nil}
use Rattle.std.specs.Prelude.{slice_get, nat_lt, cond, if◌then◌else◌}
use Rattle.ob_inout.specs.declared.answer.Answer.{Answer}
use Rattle.ob_inout.specs.declared.answer.Answer.TheVariants as answer
use Rattle.ob_inout.specs.Reading.{Line as InputLine, Input, Reading, opened, given, read_char, read_int, read_string, read_name}
use Rattle.ob_inout.specs.Writing.{int_text, char_text, string_text, line_end}
use Rattle.ob_mean.specs.declared.expression.Variable.{Variable}
use Rattle.ob_mean.specs.declared.expression.TypedExpr.{TypedExpr}
use Rattle.ob_mean.specs.declared.expression.Designator.{Designator}
use Rattle.ob_mean.specs.declared.expression.Designator.TheVariants as designator
use Rattle.ob_mean.specs.declared.expression.Argument.{Argument}
use Rattle.ob_mean.specs.declared.module.Parameter.{Parameter}
use Rattle.ob_mean.specs.declared.outcome.Outcome.TheVariants.{Stopped, NeedsLine}
use Rattle.ob_mean.specs.declared.outcome.TrapKind.TheVariants as trap
use Rattle.ob_mean.specs.declared.outcome.TurnKind.{TurnKind}
use Rattle.ob_mean.specs.declared.outcome.TurnKind.TheVariants as kind
use Rattle.ob_mean.specs.declared.shape.Shape.{Shape}
use Rattle.ob_mean.specs.declared.shape.Shape.TheVariants.{Basic}
use Rattle.ob_mean.specs.declared.statement.Action.TheVariants as action
use Rattle.ob_mean.specs.declared.statement.Adjustment.{Adjustment}
use Rattle.ob_mean.specs.declared.statement.InputCall.{InputCall}
use Rattle.ob_mean.specs.declared.statement.InputCall.TheVariants as incoming
use Rattle.ob_mean.specs.declared.statement.OutputCall.{OutputCall}
use Rattle.ob_mean.specs.declared.statement.OutputCall.TheVariants as outgoing
use Rattle.ob_mean.specs.declared.statement.Reader.{Reader}
use Rattle.ob_mean.specs.declared.statement.Reader.TheVariants as reader
use Rattle.ob_mean.specs.Values.{Place, Value, Cell, Nothing, count, size, get, number, offset, shape, image, row}
use Rattle.ob_mean.specs.Shapes.{zero_of}
use Rattle.ob_mean.specs.Texts.{character, characters, text_row}
use Rattle.ob_mean.specs.Runs.{World, Supply, Run, Goes, Stands, Done, done, and_then, supply, turn, choose, stored, write, with_input}
use Rattle.ob_mean.specs.Input.{mapped_answer, mapped, finds, answered, reading, kept}
use Rattle.ob_mean.specs.Expressions.{Scope, traps, passed, value_of, place_of, argument_of}
use Rattle.ob_mean.specs.Statements.{text_stored, adjusted, input_meaning, output_meaning, action_meaning}
use Rattle.ob_mean.specs.WellFormed.{Object, Of, Names, variable_object, object_of, elements_in, ListPassed, IsText, IsRead, InputFits, OutputFits, ExprFits, IndexesFit}
use Rattle.ob_code.specs.declared.instr.Instr.TheVariants as instr
use Rattle.ob_code.specs.declared.instr.Line.{Line}
use Rattle.ob_code.specs.declared.instr.Name.{Name}
use Rattle.ob_code.specs.declared.instr.Told.{Told}
use Rattle.ob_code.specs.Machine.{Code, Config, Memory, Effect, Moves, Turns, Fails, Point, Going, Standing, picture, object, elements, within, at_cells, cell, cells_at, overwritten, with_buffer, text_cells, characters_at, stored_text, target_object, found_in, kept as set_from, lines_of, perform, take_effect, Comes}
use Rattle.ob_gen.specs.TypesAgree.{Shapes, ExprAgrees, PlaceAgrees, PassedAgree, InputAgrees, OutputAgrees}
use Rattle.ob_gen.specs.Code.{line, root_of, root_in, zero_in, cells_of, length_of, span_of, expr_code, offset_code, argument_code, passed_code, list_values, list_names, value_one, name_one, target_of, input_code, output_code, assign_code}
use Rattle.ob_code.proofs.machine.Runs.{stays, performs}
use Rattle.ob_gen.proofs.machine.Reaches.{HasAt, has_front, has_back, Running, conf, here, lines_in, Good, Reaches, AnyNumber, AnyDone, SoMany, ActionRuns, VariablesHold, follows, ties, moved, one_runs, two_runs, Same}
use Rattle.ob_gen.proofs.machine.Store.{Inside, inside-leads, shape_at, reads, reads_part, writes, keeps_shape, size-shape, length-image}
use Rattle.ob_gen.proofs.machine.Zeros.{shape-text_row, image-text_row}
use Rattle.ob_gen.proofs.machine.Places.{FrameFits, elements_some, mark, finds_place, root_fits}
use Rattle.ob_gen.proofs.machine.Passing.{PassedFit, names_passed, one_name, pile, results, no_result, CallsRun}
use Rattle.ob_gen.proofs.machine.Expressions.{Fits, trap_stands, count_at, load_runs, TextFits, text_row_at, text_length, text_found, text_read, passed_both, told_one, fits_only, expr_runs, place_runs, argument_runs}

module _ (code : Code) (shapes : Shapes) (r : Running) (s : Value) (names : Names) (scope : Scope) (frame : FrameFits code shapes r s names scope) where
  -- a place of a designator, and the number for it
  abbrev Fits_at : Designator → Object → Place → Type 0
  Fits_at d o p = Fits code shapes r s names scope frame d o p

  abbrev mark_of : Designator → Place → ℤ
  mark_of d p = mark code r s (root_in names d) p

  -- ---- what is set

  -- cells that are written are the picture of the store with the value at its place
  overwrites : (w : World) (p : Place) (x : Value) (cells : List ℤ) → shape w.store ≡ s → Inside s p → shape x ≡ get s p → image x ≡ cells → overwritten (picture w) (offset s p) cells ≡ picture (stored w p x)
  overwrites w p x cells e inside fits same =
      ap (λ cs. record { cells = cs; written = w.written; input = w.input }) (sym (writes s w.store p x cells e (inside-leads s p inside) fits same))

  good_stored : (n : Supply) (most : ℕ) (w : World) (p : Place) (x : Value) → Good most s n w → shape x ≡ get s p → Good most s n (stored w p x)
  good_stored n most w p x g fits = record { less = g.less; fits = keeps_shape s w.store p x g.fits fits }

  -- ---- basic variables

  variable_stores : (v : Variable) (e : variable_object names v ≡ Some (Of Basic)) (h k pc : ℕ) (z : ℤ) (stack : List ℤ) (pending : List Name) (n : Supply) (w : World) → shape w.store ≡ s → slice_get (lines_in code r) pc ≡ Some (line h k (instr.Store (root_of names v))) → Comes code (here r pc (z ∷ stack) pending n w) (here r (pc + 1) stack pending n (stored w (frame.variables v (Of Basic) e).place (Cell z)))
  variable_stores v e h k pc z stack pending n w fits has =
      let c = conf r pc (z ∷ stack) pending w in
      let x = frame.variables v (Of Basic) e in
      let f = x.fits in
      let first : mark code r s (root_of names v) x.place ≡ pos 0 = ap pos (omega (arith, x.at)) in
      let found = finds_place code r s (root_of names v) (Of Basic) x.place 1 pc (z ∷ stack) pending w x.root f (ap size f.is) in
      let found' : within (object code c (root_of names v)) (pos 0) 1 ≡ Some (offset s x.place) = ap (λ z. within (object code c (root_of names v)) z 1) (sym first) ∙ found in
      let after : Memory → Config = λ m. record { at = (conf r (pc + 1) stack pending w).at; stack = stack ++ r.under; names = r.below ++ pending; frames = r.frames; memory = m } in
      performs code n c (line h k (instr.Store (root_of names v))) _ has
      (ap (λ o. take_effect (at_cells o (λ a. Moves (after (overwritten (picture w) a (z ∷ []))))) n c) found'
      ∙ ap (λ m. Going n (after m)) (overwrites w x.place (Cell z) (z ∷ []) fits f.leads (sym f.is) refl))

  pub variables_hold : VariablesHold code r s names scope
  variables_hold v e =
      let x = frame.variables v (Of Basic) e in
      record {
        place = x.place;
        stands = x.stands;
        loads = λ h k pc stack pending n w fits has. load_runs code shapes r s names scope frame v h k pc stack pending n w e fits has;
        stores = λ h k pc z stack pending n w fits has. variable_stores v e h k pc z stack pending n w fits has;
        keeps = λ z w fits. keeps_shape s w.store x.place (Cell z) fits (sym x.fits.is);
      }

  -- ---- turns

  pub turn_by : {A : Type 0} (kind : TurnKind) (t : ℕ) (ls : List InputLine) (most : ℕ) (c c' : Config) (w : World) (i : Line) (keep : A → Type 0) (to : A → Supply → World → Point) (next : Supply → Run A) → c.memory ≡ picture w → shape w.store ≡ s → slice_get (lines_of code c.at.home c.at.procedure) c.at.place ≡ Some i → perform code i.instr c ≡ Turns kind c' → ((m : ℕ) → t ≡ suc m → Reaches code most s keep (Going (supply m ls) c') to (next (supply m ls))) → Reaches code most s keep (Going (supply t ls) c) to (turn kind (supply t ls) w next)
  turn_by kind zero ls most c c' w i keep to next same fits has e goes =
      record { there = c; comes = performs code (supply 0 ls) c i (Standing (Stopped kind) (supply 0 ls) c) has (ap (λ x. take_effect x (supply 0 ls) c) e); same = same; kept = Same fits }
  turn_by kind (suc m) ls most c c' w i keep to next same fits has e goes =
      follows code most s keep (Going (supply (suc m) ls) c) (Going (supply m ls) c') to (next (supply m ls))
      (performs code (supply (suc m) ls) c i (Going (supply m ls) c') has (ap (λ x. take_effect x (supply (suc m) ls) c) e)) (goes m refl)

  good_less : (t m most : ℕ) (ls : List InputLine) (w w' : World) → Good most s (supply t ls) w → t ≡ suc m → shape w'.store ≡ s → Good most s (supply m ls) w'
  good_less t m most ls w w' g e fits = record { less = let b = g.less in omega (arith, b, e); fits = fits }

  -- a turn that is all of an instruction
  turn_done : (kind : TurnKind) (n : Supply) (most pc : ℕ) (stack : List ℤ) (w w' : World) (i : Line) → Good most s n w → shape w'.store ≡ s → slice_get (lines_in code r) pc ≡ Some i → perform code i.instr (conf r pc stack [] w) ≡ Turns kind (conf r (pc + 1) [] [] w') → Reaches code most s AnyDone (here r pc stack [] n w) (λ d n' w'. here r (pc + 1) [] [] n' w') (turn kind n w (λ n2. Goes done n2 w'))
  turn_done kind n most pc stack w w' i g fits has e =
      turn_by kind n.turns n.lines most (conf r pc stack [] w) (conf r (pc + 1) [] [] w') w i AnyDone (λ d n' w'. here r (pc + 1) [] [] n' w') (λ n2. Goes done n2 w') refl g.fits has e
      (λ m q. (good_less n.turns m most n.lines w w' g q fits, tt, stays code (here r (pc + 1) [] [] (supply m n.lines) w')))

  -- ---- assignments

  store_at_runs : (d : Designator) (p : Place) (v : ℤ) (h k pc : ℕ) (n : Supply) (most : ℕ) (w : World) → Good most s n w → IndexesFit names d → object_of names d ≡ Some (Of Basic) → Fits_at d (Of Basic) p → slice_get (lines_in code r) pc ≡ Some (line h k (instr.StoreAt (root_in names d)))
      → Reaches code most s AnyDone (here r pc (v ∷ (mark_of d p ∷ [])) [] n w) (λ d n' w'. here r (pc + 1) [] [] n' w') (Goes done n (stored w p (Cell v)))
  store_at_runs d p v h k pc n most w g ty e f has =
      let st = v ∷ (mark_of d p ∷ []) in
      let c = conf r pc st [] w in
      let found = finds_place code r s (root_in names d) (Of Basic) p 1 pc st [] w (root_fits code shapes r s names scope frame d (Of Basic) ty e) f (ap size f.is) in
      let after : Memory → Config = λ m. record { at = (conf r (pc + 1) [] [] w).at; stack = r.under; names = r.below ++ []; frames = r.frames; memory = m } in (
        good_stored n most w p (Cell v) g (sym f.is),
        tt,
        performs code n c (line h k (instr.StoreAt (root_in names d))) _ has
            (ap (λ o. take_effect (at_cells o (λ a. Moves (after (overwritten (picture w) a (v ∷ []))))) n c) found
            ∙ ap (λ m. Going n (after m)) (overwrites w p (Cell v) (v ∷ []) g.fits f.leads (sym f.is) refl)),
      )

  adjust_runs : (a : Adjustment) (d : Designator) (p : Place) (v : ℤ) (h k pc : ℕ) (n : Supply) (most : ℕ) (w : World) → Good most s n w → IndexesFit names d → object_of names d ≡ Some (Of Basic) → Fits_at d (Of Basic) p → slice_get (lines_in code r) pc ≡ Some (line h k (instr.AdjustAt a (root_in names d)))
      → Reaches code most s AnyDone (here r pc (v ∷ (mark_of d p ∷ [])) [] n w) (λ d n' w'. here r (pc + 1) [] [] n' w') (Goes done n (stored w p (Cell (adjusted a (number (get w.store p)) v))))
  adjust_runs a d p v h k pc n most w g ty e f has =
      let st = v ∷ (mark_of d p ∷ []) in
      let c = conf r pc st [] w in
      let found = finds_place code r s (root_in names d) (Of Basic) p 1 pc st [] w (root_fits code shapes r s names scope frame d (Of Basic) ty e) f (ap size f.is) in
      let after : Memory → Config = λ m. record { at = (conf r (pc + 1) [] [] w).at; stack = r.under; names = r.below ++ []; frames = r.frames; memory = m } in
      let new = adjusted a (number (get w.store p)) v in (
        good_stored n most w p (Cell new) g (sym f.is),
        tt,
        performs code n c (line h k (instr.AdjustAt a (root_in names d))) _ has
            (ap (λ o. take_effect (at_cells o (λ x. Moves (after (overwritten (picture w) x (adjusted a (cell (picture w) x) v ∷ []))))) n c) found
            ∙ ap (λ z. Going n (after (overwritten (picture w) (offset s p) (adjusted a z v ∷ [])))) (reads s w.store p g.fits (inside-leads s p f.leads) f.is)
            ∙ ap (λ m. Going n (after m)) (overwrites w p (Cell new) (new ∷ []) g.fits f.leads (sym f.is) refl)),
      )

  copy_runs : (d e : Designator) (t : Shape) (p q : Place) (h k pc : ℕ) (n : Supply) (most : ℕ) (w : World) → Good most s n w → IndexesFit names d → IndexesFit names e → object_of names d ≡ Some (Of t) → object_of names e ≡ Some (Of t) → Fits_at d (Of t) p → Fits_at e (Of t) q → slice_get (lines_in code r) pc ≡ Some (line h k (instr.Copy (root_in names d) (root_in names e) (cells_of names d)))
      → Reaches code most s AnyDone (here r pc (mark_of e q ∷ (mark_of d p ∷ [])) [] n w) (λ d n' w'. here r (pc + 1) [] [] n' w') (Goes done n (stored w p (get w.store q)))
  copy_runs d e t p q h k pc n most w g id ie od oe fd fe has =
      let st = mark_of e q ∷ (mark_of d p ∷ []) in
      let c = conf r pc st [] w in
      let m = size (zero_of t) in
      let cells : cells_of names d ≡ m = ap (λ x. size (zero_in x)) od in
      let found_d = finds_place code r s (root_in names d) (Of t) p m pc st [] w (root_fits code shapes r s names scope frame d (Of t) id od) fd (ap size fd.is) in
      let found_e = finds_place code r s (root_in names e) (Of t) q m pc st [] w (root_fits code shapes r s names scope frame e (Of t) ie oe) fe (ap size fe.is) in
      let after : Memory → Config = λ m. record { at = (conf r (pc + 1) [] [] w).at; stack = r.under; names = r.below ++ []; frames = r.frames; memory = m } in
      let new = get w.store q in
      let fits : shape new ≡ get s p = shape_at s w.store q g.fits ∙ fe.is ∙ sym fd.is in
      let inner : ℕ → ℕ → Effect = λ m a. at_cells (within (object code c (root_in names e)) (mark_of e q) m) (λ b. Moves (after (overwritten (picture w) a (cells_at (picture w) b m)))) in (
        good_stored n most w p new g fits,
        tt,
        performs code n c (line h k (instr.Copy (root_in names d) (root_in names e) (cells_of names d))) _ has
            (ap (λ m. take_effect (at_cells (within (object code c (root_in names d)) (mark_of d p) m) (inner m)) n c) cells
            ∙ ap (λ o. take_effect (at_cells o (inner m)) n c) found_d
            ∙ ap (λ o. take_effect (at_cells o (λ b. Moves (after (overwritten (picture w) (offset s p) (cells_at (picture w) b m))))) n c) found_e
            ∙ ap (λ cs. Going n (after (overwritten (picture w) (offset s p) cs))) (reads_part s w.store q m g.fits (inside-leads s q fe.leads) (ap size fe.is))
            ∙ ap (λ m. Going n (after m)) (overwrites w p new (image new) g.fits fd.leads fits refl)),
      )

  -- a text, which fits or not
  text_by : (b : Bool) (d : Designator) (p : Place) (l : ℕ) (text : List ℕ) (pc : ℕ) (n : Supply) (most : ℕ) (w : World) → Good most s n w → TextFits code shapes r s names scope frame d p → nat_lt (length text) (count (get s p)) ≡ b
      → Comes code (here r pc (mark_of d p ∷ []) [] n w) (take_effect (cond b (Moves (conf r (pc + 1) [] [] (stored w p (text_row (count (get s p)) text)))) (Fails trap.TextLength l)) n (conf r pc (mark_of d p ∷ []) [] w))
      → Reaches code most s AnyDone (here r pc (mark_of d p ∷ []) [] n w) (λ d n' w'. here r (pc + 1) [] [] n' w') (if b then Goes done n (stored w p (text_row (count (get s p)) text)) else traps scope trap.TextLength l n w)
  text_by true d p l text pc n most w g f e comes =
      (good_stored n most w p (text_row (count (get s p)) text) g (shape-text_row (count (get s p)) text ∙ sym (text_row_at code shapes r s names scope frame d p f)), tt, comes)
  text_by false d p l text pc n most w g f e comes =
      trap_stands code shapes r s names scope frame trap.TextLength l (conf r pc (mark_of d p ∷ []) [] w) n w refl refl g.fits comes

  text_runs : (d : Designator) (p : Place) (l : ℕ) (text : List ℕ) (i : Line) (pc : ℕ) (n : Supply) (most : ℕ) (w : World) → Good most s n w → TextFits code shapes r s names scope frame d p → slice_get (lines_in code r) pc ≡ Some i
      → perform code i.instr (conf r pc (mark_of d p ∷ []) [] w) ≡ at_cells (within (object code (conf r pc (mark_of d p ∷ []) [] w) (root_in names d)) (mark_of d p) (elements (conf r pc (mark_of d p ∷ []) [] w) (length_of names d))) (λ a. stored_text text (elements (conf r pc (mark_of d p ∷ []) [] w) (length_of names d)) l (record { at = (conf r (pc + 1) [] [] w).at; stack = r.under; names = r.below ++ []; frames = r.frames; memory = overwritten (picture w) a (text_cells (elements (conf r pc (mark_of d p ∷ []) [] w) (length_of names d)) text) }))
      → Reaches code most s AnyDone (here r pc (mark_of d p ∷ []) [] n w) (λ d n' w'. here r (pc + 1) [] [] n' w') (text_stored scope p l text n w)
  text_runs d p l text i pc n most w g f has e =
      let st = mark_of d p ∷ [] in
      let c = conf r pc st [] w in
      let m = count (get s p) in
      let after : Memory → Config = λ m. record { at = (conf r (pc + 1) [] [] w).at; stack = r.under; names = r.below ++ []; frames = r.frames; memory = m } in
      let inner : ℕ → ℕ → Effect = λ k a. stored_text text k l (after (overwritten (picture w) a (text_cells k text))) in
      let fits : shape (text_row m text) ≡ get s p = shape-text_row m text ∙ sym (text_row_at code shapes r s names scope frame d p f) in
      let comes = performs code n c i _ has
      (ap (λ x. take_effect x n c) e
      ∙ ap (λ o. take_effect (at_cells o (inner (elements c (length_of names d)))) n c) (text_found code shapes r s names scope frame d p pc st [] w f)
      ∙ ap (λ k. take_effect (inner k (offset s p)) n c) (text_length code shapes r s names scope frame d p pc st [] w f)
      ∙ ap (λ x. take_effect (stored_text text m l (after x)) n c) (overwrites w p (text_row m text) (text_cells m text) g.fits f.fits.leads fits (image-text_row m text))) in
      subst (λ k. Reaches code most s AnyDone (here r pc st [] n w) (λ d n' w'. here r (pc + 1) [] [] n' w') (if nat_lt (length text) k then Goes done n (stored w p (text_row k text)) else traps scope trap.TextLength l n w)) (sym (count_at code shapes r s names scope frame w p g.fits))
      (text_by (nat_lt (length text) m) d p l text pc n most w g f refl comes)

  assert_runs : (v : ℤ) (l h k pc : ℕ) (n : Supply) (most : ℕ) (w : World) → Good most s n w → slice_get (lines_in code r) pc ≡ Some (line h k (instr.Assert l)) → Reaches code most s AnyDone (here r pc (v ∷ []) [] n w) (λ d n' w'. here r (pc + 1) [] [] n' w') (choose v (traps scope trap.Assertion l n w) (Goes done n w))
  assert_runs (pos zero) l h k pc n most w g has =
      let c = conf r pc (pos zero ∷ []) [] w in
      trap_stands code shapes r s names scope frame trap.Assertion l c n w refl refl g.fits (performs code n c (line h k (instr.Assert l)) _ has refl)
  assert_runs (pos (suc v)) l h k pc n most w g has = (g, tt, performs code n (conf r pc (pos (suc v) ∷ []) [] w) (line h k (instr.Assert l)) _ has refl)
  assert_runs (negsuc v) l h k pc n most w g has = (g, tt, performs code n (conf r pc (negsuc v ∷ []) [] w) (line h k (instr.Assert l)) _ has refl)

  -- ---- In

  abbrev Match : Place → Answer Value → Answer (List ℤ) → Type 0
  Match p (answer.Value v) (answer.Value cells) = (image v ≡ cells) × (shape v ≡ get s p)
  Match p (answer.Value v) answer.Failed = ⊥
  Match p (answer.Value v) answer.NeedsLine = ⊥
  Match p answer.Failed (answer.Value cells) = ⊥
  Match p answer.Failed answer.Failed = Unit {0}
  Match p answer.Failed answer.NeedsLine = ⊥
  Match p answer.NeedsLine (answer.Value cells) = ⊥
  Match p answer.NeedsLine answer.Failed = ⊥
  Match p answer.NeedsLine answer.NeedsLine = Unit {0}

  matches : {A : Type 0} (p : Place) (f : A → Value) (g : A → List ℤ) (a : Answer A) → ((x : A) → (image (f x) ≡ g x) × (shape (f x) ≡ get s p)) → Match p (mapped_answer f a) (mapped_answer g a)
  matches p f g (answer.Value x) h = h x
  matches p f g answer.Failed h = tt
  matches p f g answer.NeedsLine h = tt

  -- a place that a reader sets
  abbrev ReadFits : Reader → Designator → Place → Type 0
  ReadFits reader.Char d p = IndexesFit names d × (object_of names d ≡ Some (Of Basic)) × Fits_at d (Of Basic) p
  ReadFits reader.Int d p = IndexesFit names d × (object_of names d ≡ Some (Of Basic)) × Fits_at d (Of Basic) p
  ReadFits reader.String d p = TextFits code shapes r s names scope frame d p
  ReadFits reader.Name d p = TextFits code shapes r s names scope frame d p

  read_object : (rd : Reader) (d : Designator) (p : Place) → ReadFits rd d p → (o : Object) × IndexesFit names d × (object_of names d ≡ Some o) × Fits_at d o p
  read_object reader.Char d p f = (Of Basic, f.0, f.1, f.2)
  read_object reader.Int d p f = (Of Basic, f.0, f.1, f.2)
  read_object reader.String d p f = (f.object, f.indexes, f.is, f.fits)
  read_object reader.Name d p f = (f.object, f.indexes, f.is, f.fits)

  target_is : (rd : Reader) (d : Designator) (c : Config) → target_object code c (target_of names rd d) ≡ object code c (root_in names d)
  target_is reader.Char d c = refl
  target_is reader.Int d c = refl
  target_is reader.String d c = refl
  target_is reader.Name d c = refl

  -- both find the same
  record FindsSame (p : Place) (x : Reading Value) (y : Reading (List ℤ)) : Type 0 where
    pub answers : Match p x.answer y.answer
    pub inputs : x.input ≡ y.input

  finds_text : (p : Place) (m : ℕ) (x : Reading (List ℕ)) → row m (Cell (pos 0)) ≡ get s p → FindsSame p (mapped (λ text. text_row m text) x) (mapped (λ text. text_cells m text) x)
  finds_text p m x e = record {
    answers = matches p (λ text. text_row m text) (λ text. text_cells m text) x.answer (λ text. (image-text_row m text, shape-text_row m text ∙ e));
    inputs = refl;
  }

  finds_same : (rd : Reader) (d : Designator) (p : Place) (now : Value) (pc : ℕ) (stack : List ℤ) (w : World) (input : Input) → ReadFits rd d p → count now ≡ count (get s p) → FindsSame p (finds rd now input) (found_in (conf r pc stack [] w) (target_of names rd d) input)
  finds_same reader.Char d p now pc stack w input f e = record {
    answers = matches p (λ x. Cell (pos x)) (λ x. pos x ∷ []) (read_char [] input).answer (λ x. (refl, sym f.2.is));
    inputs = refl;
  }
  finds_same reader.Int d p now pc stack w input f e = record {
    answers = matches p (λ x. Cell x) (λ x. x ∷ []) (read_int [] input).answer (λ x. (refl, sym f.2.is));
    inputs = refl;
  }
  finds_same reader.String d p now pc stack w input f e =
      let m = count now in
      let many : elements (conf r pc stack [] w) (length_of names d) ≡ m = text_length code shapes r s names scope frame d p pc stack [] w f ∙ sym e in
      let is_row : row m (Cell (pos 0)) ≡ get s p = ap (λ k. row k (Cell (pos 0))) e ∙ sym (text_row_at code shapes r s names scope frame d p f) in
      subst (λ k. FindsSame p (mapped (λ text. text_row m text) (read_string m [] input)) (mapped (λ text. text_cells k text) (read_string k [] input))) (sym many) (finds_text p m (read_string m [] input) is_row)
  finds_same reader.Name d p now pc stack w input f e =
      let m = count now in
      let many : elements (conf r pc stack [] w) (length_of names d) ≡ m = text_length code shapes r s names scope frame d p pc stack [] w f ∙ sym e in
      let is_row : row m (Cell (pos 0)) ≡ get s p = ap (λ k. row k (Cell (pos 0))) e ∙ sym (text_row_at code shapes r s names scope frame d p f) in
      subst (λ k. FindsSame p (mapped (λ text. text_row m text) (read_name m [] input)) (mapped (λ text. text_cells k text) (read_name k [] input))) (sym many) (finds_text p m (read_name m [] input) is_row)

  abbrev KeptFits : Place → Option Value → Type 0
  KeptFits p None = Unit {0}
  KeptFits p (Some v) = shape v ≡ get s p

  -- what a reader answers, and where the machine goes for it
  answers_by : (a : Answer Value) (b : Answer (List ℤ)) (input : Input) (rd : Reader) (d : Designator) (p : Place) (pc : ℕ) (n : Supply) (most : ℕ) (w : World) (ask : World → Run (Option Value)) → Match p a b → Good most s n w → ReadFits rd d p
      → Comes code (here r pc (mark_of d p ∷ []) [] n w) (take_effect (set_from code (target_of names rd d) b input (mark_of d p) r.under (conf r pc (mark_of d p ∷ []) [] w)) n (conf r pc (mark_of d p ∷ []) [] w))
      → (Good most s n (with_input w input) → Reaches code most s (KeptFits p) (here r (pc + 1) (mark_of d p ∷ []) [] n (with_input w input)) (λ v n' w'. here r (pc + 3) [] [] n' (kept w' p v)) (ask (with_input w input)))
      → Reaches code most s (KeptFits p) (here r pc (mark_of d p ∷ []) [] n w) (λ v n' w'. here r (pc + 3) [] [] n' (kept w' p v)) (answered a (with_input w input) n ask)
  answers_by (answer.Value v) (answer.Value cells) input rd d p pc n most w ask same g f comes asks =
      let c = conf r pc (mark_of d p ∷ []) [] w in
      let o = read_object rd d p f in
      let len : size (get s p) ≡ length cells = ap size (sym same.1) ∙ size-shape v ∙ sym (length-image v) ∙ ap length same.0 in
      let found = ap (λ name. within name (mark_of d p) (length cells)) (target_is rd d c) ∙ finds_place code r s (root_in names d) o.0 p (length cells) pc (mark_of d p ∷ []) [] w (root_fits code shapes r s names scope frame d o.0 o.1 o.2) o.3 len in
      let after : Memory → Config = λ m. record { at = (conf r (pc + 3) [] [] w).at; stack = r.under; names = r.below ++ []; frames = r.frames; memory = with_buffer m input } in (
        record { less = g.less; fits = g.fits },
        same.1,
        subst (λ x. Comes code (Going n c) x)
            (ap (λ o. take_effect (at_cells o (λ a. Moves (after (overwritten (picture w) a cells)))) n c) found
            ∙ ap (λ m. Going n (after m)) (overwrites w p v cells g.fits o.3.leads same.1 same.0)) comes,
      )
  answers_by answer.Failed answer.Failed input rd d p pc n most w ask same g f comes asks = (record { less = g.less; fits = g.fits }, tt, comes)
  answers_by answer.NeedsLine answer.NeedsLine input rd d p pc n most w ask same g f comes asks =
      follows code most s (KeptFits p) (here r pc (mark_of d p ∷ []) [] n w) (here r (pc + 1) (mark_of d p ∷ []) [] n (with_input w input)) (λ v n' w'. here r (pc + 3) [] [] n' (kept w' p v)) (ask (with_input w input)) comes (asks (record { less = g.less; fits = g.fits }))
  answers_by (answer.Value v) answer.Failed input rd d p pc n most w ask same g f comes asks = absurd same
  answers_by (answer.Value v) answer.NeedsLine input rd d p pc n most w ask same g f comes asks = absurd same
  answers_by answer.Failed (answer.Value cells) input rd d p pc n most w ask same g f comes asks = absurd same
  answers_by answer.Failed answer.NeedsLine input rd d p pc n most w ask same g f comes asks = absurd same
  answers_by answer.NeedsLine (answer.Value cells) input rd d p pc n most w ask same g f comes asks = absurd same
  answers_by answer.NeedsLine answer.Failed input rd d p pc n most w ask same g f comes asks = absurd same

  -- one look into the buffer
  looks : (rd : Reader) (d : Designator) (p : Place) (now : Value) (pc : ℕ) (n : Supply) (most : ℕ) (w : World) (ask : World → Run (Option Value)) → Good most s n w → ReadFits rd d p → count now ≡ count (get s p) → slice_get (lines_in code r) pc ≡ Some (line 1 0 (instr.Read (target_of names rd d)))
      → (Good most s n (with_input w (finds rd now w.input).input) → Reaches code most s (KeptFits p) (here r (pc + 1) (mark_of d p ∷ []) [] n (with_input w (finds rd now w.input).input)) (λ v n' w'. here r (pc + 3) [] [] n' (kept w' p v)) (ask (with_input w (finds rd now w.input).input)))
      → Reaches code most s (KeptFits p) (here r pc (mark_of d p ∷ []) [] n w) (λ v n' w'. here r (pc + 3) [] [] n' (kept w' p v)) (answered (finds rd now w.input).answer (with_input w (finds rd now w.input).input) n ask)
  looks rd d p now pc n most w ask g f e has asks =
      let c = conf r pc (mark_of d p ∷ []) [] w in
      let x = finds rd now w.input in
      let y = found_in c (target_of names rd d) w.input in
      let both = finds_same rd d p now pc (mark_of d p ∷ []) w w.input f e in
      let comes = performs code n c (line 1 0 (instr.Read (target_of names rd d))) _ has
      (ap (λ i. take_effect (set_from code (target_of names rd d) y.answer i (mark_of d p) r.under c) n c) (sym both.inputs)) in
      answers_by x.answer y.answer x.input rd d p pc n most w ask both.answers g f comes asks

  -- a reader, which asks for lines
  reading_runs : (ls : List InputLine) (t : ℕ) (rd : Reader) (d : Designator) (p : Place) (now : Value) (pc : ℕ) (most : ℕ) (w : World) → Good most s (supply t ls) w → ReadFits rd d p → count now ≡ count (get s p) → HasAt (lines_in code r) pc (line 1 0 (instr.Read (target_of names rd d)) ∷ (line 1 0 instr.AskLine ∷ (line 1 0 instr.TakeLine ∷ [])))
      → Reaches code most s (KeptFits p) (here r pc (mark_of d p ∷ []) [] (supply t ls) w) (λ v n' w'. here r (pc + 3) [] [] n' (kept w' p v)) (reading (finds rd now) t ls w)
  reading_runs [] t rd d p now pc most w g f e has =
      let st = mark_of d p ∷ [] in
      let end : Option Value → Supply → World → Point = λ v n' w'. here r (pc + 3) [] [] n' (kept w' p v) in
      looks rd d p now pc (supply t []) most w _ g f e has.0
      (λ g1. let w1 = with_input w (finds rd now w.input).input in
      turn_by kind.LineAsked t [] most (conf r (pc + 1) st [] w1) (conf r (pc + 1 + 1) st [] w1) w1 (line 1 0 instr.AskLine) (KeptFits p) end (λ n. Stands NeedsLine n w1) refl g1.fits has.1.0 refl
      (λ m q. record {
        there = conf r (pc + 1 + 1) st [] w1;
        comes = performs code (supply m []) (conf r (pc + 1 + 1) st [] w1) (line 1 0 instr.TakeLine) (Standing NeedsLine (supply m []) (conf r (pc + 1 + 1) st [] w1)) has.1.1.0 refl;
        same = refl;
        kept = Same g1.fits;
      }))
  reading_runs (l ∷ ls) t rd d p now pc most w g f e has =
      let st = mark_of d p ∷ [] in
      let end : Option Value → Supply → World → Point = λ v n' w'. here r (pc + 3) [] [] n' (kept w' p v) in
      looks rd d p now pc (supply t (l ∷ ls)) most w _ g f e has.0
      (λ g1. let w1 = with_input w (finds rd now w.input).input in
      let w2 = with_input w1 (given l w1.input) in
      let back : pc + 1 + 1 - 2 ≡ pc = omega arith in
      turn_by kind.LineAsked t (l ∷ ls) most (conf r (pc + 1) st [] w1) (conf r (pc + 1 + 1) st [] w1) w1 (line 1 0 instr.AskLine) (KeptFits p) end (λ n. reading (finds rd now) n.turns ls w2) refl g1.fits has.1.0 refl
      (λ m q. follows code most s (KeptFits p) (here r (pc + 1 + 1) st [] (supply m (l ∷ ls)) w1) (here r pc st [] (supply m ls) w2) end (reading (finds rd now) m ls w2)
      (performs code (supply m (l ∷ ls)) (conf r (pc + 1 + 1) st [] w1) (line 1 0 instr.TakeLine) (here r pc st [] (supply m ls) w2) has.1.1.0 (ap (λ x. here r x st [] (supply m ls) w2) back))
      (reading_runs ls m rd d p now pc most w2 (record { less = let b = g1.less in omega (arith, b, q); fits = g1.fits }) f e has)))

  -- ---- all actions

  -- of which line each argument is told
  abbrev pub told_list : ℕ → ℕ → ℕ → List Argument → List Told
  told_list h k pc [] = []
  told_list h k pc (a ∷ rest) = told_one code shapes r s names scope frame h k pc a ∷ told_list (h + value_one a) (k + name_one a) (pc + length (argument_code names h k a)) rest

  module _ (calls : CallsRun code shapes r s names scope) where
    abbrev end_at : ℕ → Done → Supply → World → Point
    end_at pc d n w = here r pc [] [] n w

    expr_at : (e : TypedExpr) (h pc : ℕ) (stack : List ℤ) (n : Supply) (most : ℕ) (w : World) → ExprFits names e → ExprAgrees shapes e → Good most s n w → HasAt (lines_in code r) pc (expr_code names h 0 e) → Reaches code most s AnyNumber (here r pc stack [] n w) (λ v n' w'. here r (pc + length (expr_code names h 0 e)) (v ∷ stack) [] n' w') (value_of scope e n w)
    expr_at e h pc stack n most w ty ag g has = expr_runs code shapes r s names scope frame calls e h 0 pc stack [] n most w ty ag g has

    place_at : (d : Designator) (o : Object) (h pc : ℕ) (stack : List ℤ) (n : Supply) (most : ℕ) (w : World) → IndexesFit names d → PlaceAgrees shapes d → object_of names d ≡ Some o → Good most s n w → HasAt (lines_in code r) pc (offset_code names h 0 d) → Reaches code most s (Fits_at d o) (here r pc stack [] n w) (λ p n' w'. here r (pc + length (offset_code names h 0 d)) (mark_of d p ∷ stack) [] n' w') (place_of scope d n w)
    place_at d o h pc stack n most w ty ag e g has =
        fits_only code shapes r s names scope frame d o _ _ most _ (place_runs code shapes r s names scope frame calls d o h 0 pc stack [] n most w ty ag e g has)

    -- an array of characters
    text_at : (d : Designator) (h pc : ℕ) (stack : List ℤ) (n : Supply) (most : ℕ) (w : World) → IndexesFit names d → PlaceAgrees shapes d → IsText (object_of names d) → Good most s n w → HasAt (lines_in code r) pc (offset_code names h 0 d) → Reaches code most s (TextFits code shapes r s names scope frame d) (here r pc stack [] n w) (λ p n' w'. here r (pc + length (offset_code names h 0 d)) (mark_of d p ∷ stack) [] n' w') (place_of scope d n w)
    text_at d h pc stack n most w ty ag is g has =
        let o = elements_some (object_of names d) Basic is in
        let each : elements_in (Some o.0) ≡ Some Basic = ap elements_in (sym o.1) ∙ is in
        kept_as (place_of scope d n w) (place_at d o.0 h pc stack n most w ty ag o.1 g has) each o.1
      where
        kept_as : (run : Run Place) → Reaches code most s (Fits_at d (elements_some (object_of names d) Basic is).0) (here r pc stack [] n w) (λ p n' w'. here r (pc + length (offset_code names h 0 d)) (mark_of d p ∷ stack) [] n' w') run → elements_in (Some (elements_some (object_of names d) Basic is).0) ≡ Some Basic → object_of names d ≡ Some (elements_some (object_of names d) Basic is).0 → Reaches code most s (TextFits code shapes r s names scope frame d) (here r pc stack [] n w) (λ p n' w'. here r (pc + length (offset_code names h 0 d)) (mark_of d p ∷ stack) [] n' w') run
        kept_as (Goes p n w) x each e = (x.0, record { object = (elements_some (object_of names d) Basic is).0; indexes = ty; is = e; of_characters = each; fits = x.1 }, x.2)
        kept_as (Stands why n w) x each e = x

    -- a basic variable or an array of characters, as a reader wants it
    target_at : (rd : Reader) (d : Designator) (pc : ℕ) (n : Supply) (most : ℕ) (w : World) → IndexesFit names d → PlaceAgrees shapes d → IsRead rd (object_of names d) → Good most s n w → HasAt (lines_in code r) pc (offset_code names 0 0 d) → Reaches code most s (ReadFits rd d) (here r pc [] [] n w) (λ p n' w'. here r (pc + length (offset_code names 0 0 d)) (mark_of d p ∷ []) [] n' w') (place_of scope d n w)
    target_at reader.Char d pc n most w ty ag is g has = basic_at (place_of scope d n w) (place_at d (Of Basic) 0 pc [] n most w ty ag is g has)
      where
        basic_at : (run : Run Place) → Reaches code most s (Fits_at d (Of Basic)) (here r pc [] [] n w) (λ p n' w'. here r (pc + length (offset_code names 0 0 d)) (mark_of d p ∷ []) [] n' w') run → Reaches code most s (ReadFits reader.Char d) (here r pc [] [] n w) (λ p n' w'. here r (pc + length (offset_code names 0 0 d)) (mark_of d p ∷ []) [] n' w') run
        basic_at (Goes p n w) x = (x.0, (ty, is, x.1), x.2)
        basic_at (Stands why n w) x = x
    target_at reader.Int d pc n most w ty ag is g has = basic_at (place_of scope d n w) (place_at d (Of Basic) 0 pc [] n most w ty ag is g has)
      where
        basic_at : (run : Run Place) → Reaches code most s (Fits_at d (Of Basic)) (here r pc [] [] n w) (λ p n' w'. here r (pc + length (offset_code names 0 0 d)) (mark_of d p ∷ []) [] n' w') run → Reaches code most s (ReadFits reader.Int d) (here r pc [] [] n w) (λ p n' w'. here r (pc + length (offset_code names 0 0 d)) (mark_of d p ∷ []) [] n' w') run
        basic_at (Goes p n w) x = (x.0, (ty, is, x.1), x.2)
        basic_at (Stands why n w) x = x
    target_at reader.String d pc n most w ty ag is g has = text_at d 0 pc [] n most w ty ag is g has
    target_at reader.Name d pc n most w ty ag is g has = text_at d 0 pc [] n most w ty ag is g has

    assign_runs : (d : Designator) (e : TypedExpr) (pc : ℕ) (n : Supply) (most : ℕ) (w : World) → IndexesFit names d → PlaceAgrees shapes d → object_of names d ≡ Some (Of Basic) → ExprFits names e → ExprAgrees shapes e → Good most s n w → HasAt (lines_in code r) pc (assign_code names d e) → Reaches code most s AnyDone (here r pc [] [] n w) (λ d' n' w'. end_at (pc + length (assign_code names d e)) d' n' w') (action_meaning scope (action.Assign d e) n w)
    assign_runs (designator.Whole v) e pc n most w ty ag is te ae g has =
        let x = frame.variables v (Of Basic) is in
        let ce = expr_code names 0 0 e in
        one_runs code r s AnyNumber AnyDone (λ v. v ∷ []) (λ v. []) ce (line 1 0 (instr.Store (root_of names v))) end_at (value_of scope e n w) _ pc (here r pc [] [] n w) most has
        (expr_at e 0 pc [] n most w te ae g (has_front (lines_in code r) pc ce _ has))
        (λ z n1 w1 g1 k1 at_i. subst (λ p. Reaches code most s AnyDone (here r (pc + length ce) (z ∷ []) [] n1 w1) (end_at (pc + length ce + 1)) (Goes done n1 (stored w1 p (Cell z)))) (sym (x.stands w g.fits))
        (good_stored n1 most w1 x.place (Cell z) g1 (sym x.fits.is), tt, variable_stores v is 1 0 (pc + length ce) z [] [] n1 w1 g1.fits at_i))
    assign_runs (designator.Element' q a l b row) e pc n most w ty ag is te ae g has =
        let d = designator.Element' q a l b row in
        two_runs code r s (Fits_at d (Of Basic)) AnyNumber AnyDone (mark_of d) (λ y. y) (offset_code names 0 0 d) (expr_code names 1 0 e) (line 2 0 (instr.StoreAt (root_in names d))) end_at (place_of scope d n w) (λ p n1 w1. value_of scope e n1 w1) _ pc [] [] (here r pc [] [] n w) most has
        (place_at d (Of Basic) 0 pc [] n most w ty ag is g (has_front (lines_in code r) pc (offset_code names 0 0 d) _ has))
        (λ p n1 w1 g1 k1 hb. expr_at e 1 (pc + length (offset_code names 0 0 d)) (mark_of d p ∷ []) n1 most w1 te ae g1 hb)
        (λ p v n2 w2 g2 k1 k2 hi. store_at_runs d p v 2 0 (pc + length (offset_code names 0 0 d) + length (expr_code names 1 0 e)) n2 most w2 g2 ty is k1 hi)
    assign_runs (designator.Field' q a i) e pc n most w ty ag is te ae g has =
        let d = designator.Field' q a i in
        two_runs code r s (Fits_at d (Of Basic)) AnyNumber AnyDone (mark_of d) (λ y. y) (offset_code names 0 0 d) (expr_code names 1 0 e) (line 2 0 (instr.StoreAt (root_in names d))) end_at (place_of scope d n w) (λ p n1 w1. value_of scope e n1 w1) _ pc [] [] (here r pc [] [] n w) most has
        (place_at d (Of Basic) 0 pc [] n most w ty ag is g (has_front (lines_in code r) pc (offset_code names 0 0 d) _ has))
        (λ p n1 w1 g1 k1 hb. expr_at e 1 (pc + length (offset_code names 0 0 d)) (mark_of d p ∷ []) n1 most w1 te ae g1 hb)
        (λ p v n2 w2 g2 k1 k2 hi. store_at_runs d p v 2 0 (pc + length (offset_code names 0 0 d) + length (expr_code names 1 0 e)) n2 most w2 g2 ty is k1 hi)
    assign_runs (designator.Guarded' q a l kind levels) e pc n most w ty ag is te ae g has =
        let d = designator.Guarded' q a l kind levels in
        two_runs code r s (Fits_at d (Of Basic)) AnyNumber AnyDone (mark_of d) (λ y. y) (offset_code names 0 0 d) (expr_code names 1 0 e) (line 2 0 (instr.StoreAt (root_in names d))) end_at (place_of scope d n w) (λ p n1 w1. value_of scope e n1 w1) _ pc [] [] (here r pc [] [] n w) most has
        (place_at d (Of Basic) 0 pc [] n most w ty ag is g (has_front (lines_in code r) pc (offset_code names 0 0 d) _ has))
        (λ p n1 w1 g1 k1 hb. expr_at e 1 (pc + length (offset_code names 0 0 d)) (mark_of d p ∷ []) n1 most w1 te ae g1 hb)
        (λ p v n2 w2 g2 k1 k2 hi. store_at_runs d p v 2 0 (pc + length (offset_code names 0 0 d) + length (expr_code names 1 0 e)) n2 most w2 g2 ty is k1 hi)

    passed_runs : (args : List Argument) (ps : List Parameter) (h k pc : ℕ) (stack : List ℤ) (pending : List Name) (n : Supply) (most : ℕ) (w : World) → ListPassed names args ps → PassedAgree shapes args → Good most s n w → HasAt (lines_in code r) pc (passed_code names h k args) → Reaches code most s (PassedFit code shapes s (told_list h k pc args) ps) (here r pc stack pending n w) (λ a n' w'. here r (pc + length (passed_code names h k args)) (pile (image a) stack) (pending ++ names_passed s (told_list h k pc args) a) n' w') (passed (map (argument_of scope) args) n w)
    passed_runs [] [] h k pc stack pending n most w ty ag g has =
        moved code most s pc (pc + 0) (PassedFit code shapes s [] []) (λ x a n' w'. here r x (pile (image a) stack) (pending ++ names_passed s [] a) n' w') (here r pc stack pending n w) (Goes Nothing n w) (omega arith)
        (g, refl, subst (λ x. Comes code (here r pc stack pending n w) (here r pc stack x n w)) (sym (append-nil pending)) (stays code (here r pc stack pending n w)))
    passed_runs [] (p ∷ ps) h k pc stack pending n most w ty ag g has = absurd ty
    passed_runs (a ∷ rest) [] h k pc stack pending n most w ty ag g has = absurd ty
    passed_runs (a ∷ rest) (p ∷ ps) h k pc stack pending n most w ty ag g has =
        let ca = argument_code names h k a in
        let cb = passed_code names (h + value_one a) (k + name_one a) rest in
        let len : pc + length ca + length cb ≡ pc + length (ca ++ cb) = omega (arith, length-append ca cb) in
        passed_both code shapes r s names scope frame (told_one code shapes r s names scope frame h k pc a) (told_list (h + value_one a) (k + name_one a) (pc + length ca) rest) p ps ca cb pc stack pending n most w (argument_of scope a n w) (passed (map (argument_of scope) rest))
        len (argument_runs code shapes r s names scope frame calls a p h k pc stack pending n most w ty.0 ag.0 g (has_front (lines_in code r) pc ca cb has))
        (λ v n1 w1 g1. passed_runs rest ps (h + value_one a) (k + name_one a) (pc + length ca) (pile (image v) stack) (pending ++ one_name s (told_one code shapes r s names scope frame h k pc a) v) n1 most w1 ty.1 ag.1 g1 (has_back (lines_in code r) pc ca cb has))

    input_runs : (call : InputCall) (pc : ℕ) (n : Supply) (most : ℕ) (w : World) → InputFits names call → InputAgrees shapes call → Good most s n w → HasAt (lines_in code r) pc (input_code names call) → Reaches code most s AnyDone (here r pc [] [] n w) (end_at (pc + length (input_code names call))) (input_meaning scope call n w)
    input_runs incoming.Open pc n most w ty ag g has =
        turn_done kind.Input n most pc [] w (with_input w opened) (line 0 0 instr.OpenInput) g g.fits has.0 refl
    input_runs (incoming.Read rd d) pc n most w ty ag g has =
        let cd = offset_code names 0 0 d in
        let is = line 1 0 instr.CallInput ∷ (line 1 0 (instr.Read (target_of names rd d)) ∷ (line 1 0 instr.AskLine ∷ (line 1 0 instr.TakeLine ∷ []))) in
        let at_call = pc + length cd in
        let hi = has_back (lines_in code r) pc cd is has in
        let len : at_call + 1 + 3 ≡ pc + length (cd ++ is) = omega (arith, length-append cd is) in
        moved code most s _ _ AnyDone end_at (here r pc [] [] n w) _ len
        (ties code most s (ReadFits rd d) AnyDone (here r pc [] [] n w) (λ p n' w'. here r at_call (mark_of d p ∷ []) [] n' w') (end_at (at_call + 1 + 3)) (place_of scope d n w) _
        (target_at rd d pc n most w ty.0 ag ty.1 g (has_front (lines_in code r) pc cd is has))
        (λ p n1 w1 g1 k1.
        let st = mark_of d p ∷ [] in
        let now = get w1.store p in
        turn_by kind.Input n1.turns n1.lines most (conf r at_call st [] w1) (conf r (at_call + 1) st [] w1) w1 (line 1 0 instr.CallInput) AnyDone (end_at (at_call + 1 + 3)) (λ n2. and_then (reading (finds rd now) n2.turns n2.lines w1) (λ v n3 w3. Goes done n3 (kept w3 p v))) refl g1.fits hi.0 refl
        (λ m q. let g2 = good_less n1.turns m most n1.lines w1 w1 g1 q g1.fits in
        ties code most s (KeptFits p) AnyDone (here r (at_call + 1) st [] (supply m n1.lines) w1) (λ v n' w'. here r (at_call + 1 + 3) [] [] n' (kept w' p v)) (end_at (at_call + 1 + 3)) (reading (finds rd now) m n1.lines w1) _
        (reading_runs n1.lines m rd d p now (at_call + 1) most w1 g2 k1 (count_at code shapes r s names scope frame w1 p g1.fits) hi.1)
        (λ v n3 w3 g3 k3. (keeps_good v n3 w3 p g3 k3, tt, stays code (here r (at_call + 1 + 3) [] [] n3 (kept w3 p v)))))))
      where
        keeps_good : (v : Option Value) (n3 : Supply) (w3 : World) (p : Place) → Good most s n3 w3 → KeptFits p v → Good most s n3 (kept w3 p v)
        keeps_good None n3 w3 p g k = g
        keeps_good (Some x) n3 w3 p g k = good_stored n3 most w3 p x g k

    put_text_runs : (d : Designator) (p : Place) (pc : ℕ) (n : Supply) (most : ℕ) (w : World) → Good most s n w → TextFits code shapes r s names scope frame d p → slice_get (lines_in code r) pc ≡ Some (line 1 0 (instr.PutText (span_of names d))) → Reaches code most s AnyDone (here r pc (mark_of d p ∷ []) [] n w) (end_at (pc + 1)) (turn kind.Output n w (λ n2. Goes done n2 (write w (string_text (characters (get w.store p))))))
    put_text_runs d p pc n most w g f has =
        let st = mark_of d p ∷ [] in
        let c = conf r pc st [] w in
        let after : List ℕ → Config = λ text. conf r (pc + 1) [] [] (write w text) in
        let inner : ℕ → ℕ → Effect = λ m a. Turns kind.Output (after (string_text (characters_at (picture w) a m))) in
        turn_done kind.Output n most pc st w (write w (string_text (characters (get w.store p)))) (line 1 0 (instr.PutText (span_of names d))) g g.fits has
        (ap (λ o. at_cells o (inner (elements c (length_of names d)))) (text_found code shapes r s names scope frame d p pc st [] w f)
        ∙ ap (λ m. inner m (offset s p)) (text_length code shapes r s names scope frame d p pc st [] w f)
        ∙ ap (λ text. Turns kind.Output (after (string_text text))) (text_read code shapes r s names scope frame d p w f g.fits))

    output_runs : (call : OutputCall) (pc : ℕ) (n : Supply) (most : ℕ) (w : World) → OutputFits names call → OutputAgrees shapes call → Good most s n w → HasAt (lines_in code r) pc (output_code names call) → Reaches code most s AnyDone (here r pc [] [] n w) (end_at (pc + length (output_code names call))) (output_meaning scope call n w)
    output_runs outgoing.Open pc n most w ty ag g has = turn_done kind.Output n most pc [] w w (line 0 0 instr.OpenOutput) g g.fits has.0 refl
    output_runs (outgoing.Char e) pc n most w ty ag g has =
        let ce = expr_code names 0 0 e in
        one_runs code r s AnyNumber AnyDone (λ v. v ∷ []) (λ v. []) ce (line 1 0 instr.PutChar) end_at (value_of scope e n w) _ pc (here r pc [] [] n w) most has
        (expr_at e 0 pc [] n most w ty ag g (has_front (lines_in code r) pc ce _ has))
        (λ v n1 w1 g1 k1 at_i. turn_done kind.Output n1 most (pc + length ce) (v ∷ []) w1 (write w1 (char_text (character v))) (line 1 0 instr.PutChar) g1 g1.fits at_i refl)
    output_runs (outgoing.String d) pc n most w ty ag g has =
        let cd = offset_code names 0 0 d in
        one_runs code r s (TextFits code shapes r s names scope frame d) AnyDone (λ p. mark_of d p ∷ []) (λ p. []) cd (line 1 0 (instr.PutText (span_of names d))) end_at (place_of scope d n w) _ pc (here r pc [] [] n w) most has
        (text_at d 0 pc [] n most w ty.0 ag ty.1 g (has_front (lines_in code r) pc cd _ has))
        (λ p n1 w1 g1 k1 at_i. put_text_runs d p (pc + length cd) n1 most w1 g1 k1 at_i)
    output_runs (outgoing.Int e width) pc n most w ty ag g has =
        two_runs code r s AnyNumber AnyNumber AnyDone (λ x. x) (λ y. y) (expr_code names 0 0 e) (expr_code names 1 0 width) (line 2 0 instr.PutInt) end_at (value_of scope e n w) (λ v n1 w1. value_of scope width n1 w1) _ pc [] [] (here r pc [] [] n w) most has
        (expr_at e 0 pc [] n most w ty.0 ag.0 g (has_front (lines_in code r) pc (expr_code names 0 0 e) _ has))
        (λ v n1 w1 g1 k1 hb. expr_at width 1 (pc + length (expr_code names 0 0 e)) (v ∷ []) n1 most w1 ty.1 ag.1 g1 hb)
        (λ v k n2 w2 g2 k1 k2 hi. turn_done kind.Output n2 most (pc + length (expr_code names 0 0 e) + length (expr_code names 1 0 width)) (k ∷ (v ∷ [])) w2 (write w2 (int_text v k)) (line 2 0 instr.PutInt) g2 g2.fits hi refl)
    output_runs outgoing.Ln pc n most w ty ag g has = turn_done kind.Output n most pc [] w (write w line_end) (line 0 0 instr.PutLine) g g.fits has.0 refl

    pub action_runs : ActionRuns code shapes r s names scope
    action_runs (action.Assign d e) pc n most w ty ag g has = assign_runs d e pc n most w ty.0 ag.0 ty.1 ty.2 ag.1 g has
    action_runs (action.Copy d e) pc n most w ty ag g has =
        let o = ty.2 in
        two_runs code r s (Fits_at d (Of o.0)) (Fits_at e (Of o.0)) AnyDone (mark_of d) (mark_of e) (offset_code names 0 0 d) (offset_code names 1 0 e) (line 2 0 (instr.Copy (root_in names d) (root_in names e) (cells_of names d))) end_at (place_of scope d n w) (λ p n1 w1. place_of scope e n1 w1) _ pc [] [] (here r pc [] [] n w) most has
        (place_at d (Of o.0) 0 pc [] n most w ty.0 ag.0 o.1 g (has_front (lines_in code r) pc (offset_code names 0 0 d) _ has))
        (λ p n1 w1 g1 k1 hb. place_at e (Of o.0) 1 (pc + length (offset_code names 0 0 d)) (mark_of d p ∷ []) n1 most w1 ty.1 ag.1 o.2 g1 hb)
        (λ p q n2 w2 g2 k1 k2 hi. copy_runs d e o.0 p q 2 0 (pc + length (offset_code names 0 0 d) + length (offset_code names 1 0 e)) n2 most w2 g2 ty.0 ty.1 o.1 o.2 k1 k2 hi)
    action_runs (action.AssignText d l text) pc n most w ty ag g has =
        let cd = offset_code names 0 0 d in
        one_runs code r s (TextFits code shapes r s names scope frame d) AnyDone (λ p. mark_of d p ∷ []) (λ p. []) cd (line 1 0 (instr.StoreText (span_of names d) text l)) end_at (place_of scope d n w) _ pc (here r pc [] [] n w) most has
        (text_at d 0 pc [] n most w ty.0 ag ty.1 g (has_front (lines_in code r) pc cd _ has))
        (λ p n1 w1 g1 k1 at_i. text_runs d p l text (line 1 0 (instr.StoreText (span_of names d) text l)) (pc + length cd) n1 most w1 g1 k1 at_i refl)
    action_runs (action.Adjust a d e) pc n most w ty ag g has =
        two_runs code r s (Fits_at d (Of Basic)) AnyNumber AnyDone (mark_of d) (λ y. y) (offset_code names 0 0 d) (expr_code names 1 0 e) (line 2 0 (instr.AdjustAt a (root_in names d))) end_at (place_of scope d n w) (λ p n1 w1. value_of scope e n1 w1) _ pc [] [] (here r pc [] [] n w) most has
        (place_at d (Of Basic) 0 pc [] n most w ty.0 ag.0 ty.1 g (has_front (lines_in code r) pc (offset_code names 0 0 d) _ has))
        (λ p n1 w1 g1 k1 hb. expr_at e 1 (pc + length (offset_code names 0 0 d)) (mark_of d p ∷ []) n1 most w1 ty.2 ag.1 g1 hb)
        (λ p v n2 w2 g2 k1 k2 hi. adjust_runs a d p v 2 0 (pc + length (offset_code names 0 0 d) + length (expr_code names 1 0 e)) n2 most w2 g2 ty.0 ty.1 k1 hi)
    action_runs (action.Assert l e) pc n most w ty ag g has =
        let ce = expr_code names 0 0 e in
        one_runs code r s AnyNumber AnyDone (λ v. v ∷ []) (λ v. []) ce (line 1 0 (instr.Assert l)) end_at (value_of scope e n w) _ pc (here r pc [] [] n w) most has
        (expr_at e 0 pc [] n most w ty ag g (has_front (lines_in code r) pc ce _ has))
        (λ v n1 w1 g1 k1 at_i. assert_runs v l 1 0 (pc + length ce) n1 most w1 g1 at_i)
    action_runs (action.Call f l args) pc n most w ty ag g has =
        let ca = passed_code names 0 0 args in
        let at_call = pc + length ca in
        let ys = told_list 0 0 pc args in
        one_runs code r s (PassedFit code shapes s ys ty.0.parameters) AnyDone (λ a. pile (image a) []) (λ a. names_passed s ys a) ca (line (list_values args) (list_names args) (instr.Invoke f l)) end_at (passed (map (argument_of scope) args) n w) _ pc (here r pc [] [] n w) most has
        (passed_runs args ty.0.parameters 0 0 pc [] [] n most w ty.3 ag g (has_front (lines_in code r) pc ca _ has))
        (λ a n1 w1 g1 k1 at_i. ties code most s (SoMany (results ty.0.is_function)) AnyDone (here r at_call (pile (image a) []) (names_passed s ys a) n1 w1) (λ vs n' w'. here r (at_call + 1) (vs ++ []) [] n' w') (end_at (at_call + 1)) (scope.call f a l n1 w1) _
        (calls.by f l (list_values args) (list_names args) at_call ty.0 ys a [] [] n1 most w1 g1 ty.1 k1 at_i)
        (λ vs n2 w2 g2 k2. (g2, tt, subst (λ st. Comes code (here r (at_call + 1) (vs ++ []) [] n2 w2) (here r (at_call + 1) st [] n2 w2)) (no_result vs [] (k2 ∙ ap results ty.2)) (stays code (here r (at_call + 1) (vs ++ []) [] n2 w2)))))
    action_runs (action.Input call) pc n most w ty ag g has = input_runs call pc n most w ty ag g has
    action_runs (action.Output call) pc n most w ty ag g has = output_runs call pc n most w ty ag g has
