-- The code of a module's body does what the body means.
use Rattle.std.proofs.Common.{◌≡◌, ℕ, ◌+◌, ◌-◌, List, [], length, Some, None, Bool, true, refl, sym, ap, ◌∙◌, subst, arith, append-nil}
use Rattle.std.specs.Prelude.{slice_get}
use Rattle.ob_mean.specs.declared.face.Face.{Face}
use Rattle.ob_mean.specs.declared.module.TypedModule.{TypedModule}
use Rattle.ob_mean.specs.Values.{Value, count, shape}
use Rattle.ob_mean.specs.Runs.{World, Supply, ended}
use Rattle.ob_mean.specs.Expressions.{Scope}
use Rattle.ob_mean.specs.Statements.{list_meaning}
use Rattle.ob_mean.specs.Programs.{Program, opening_store, scope_at, body_in, body_meaning, max_depth}
use Rattle.ob_mean.specs.WellFormed.{Object, Names, own_object, named_object}
use Rattle.ob_code.specs.declared.instr.Line.{Line}
use Rattle.ob_code.specs.declared.instr.Procedure.{Procedure}
use Rattle.ob_code.specs.Machine.{Code, picture, Going, procedure_in, lines_in as lines_of_procedure, body_number, start}
use Rattle.ob_gen.specs.Code.{list_code}
use Rattle.ob_gen.specs.TypesAgree.{Shapes}
use Rattle.ob_gen.specs.Correct.{IsCodeOf, IsCodeOfProgram, MayBegin, BodyBehaves}
use Rattle.ob_gen.proofs.machine.Reaches.{HasAt, has_all, here, lines_in, Reaches, AnyDone, moved}
use Rattle.ob_gen.proofs.machine.Places.{FrameFits}
use Rattle.ob_gen.proofs.machine.Passing.{CallsRun}
use Rattle.ob_gen.proofs.machine.Expressions.{expr_runs}
use Rattle.ob_gen.proofs.machine.Actions.{variables_hold, action_runs}
use Rattle.ob_gen.proofs.machine.Statements.{list_runs}
use Rattle.ob_gen.proofs.machine.Ends.{opening_fits, running, Comes_to, at_end, follows_it}
use Rattle.ob_gen.proofs.machine.Linked.{body_compiled, names_at, OwnFits, frame_fits}
use Rattle.ob_gen.proofs.machine.Calls.{calls_run}

module _ (program : Program) (code : Code) (faces : ℕ → List Face) (shapes : Shapes) (runs : ℕ → Bool) (whole : IsCodeOfProgram program code faces shapes runs) (home : ℕ) (ok : runs home ≡ true) where
  abbrev s : Value
  s = shape (opening_store program)

  abbrev names : Names
  names = names_at program code faces shapes runs whole home ok [] []

  tree : TypedModule
  tree = (whole home ok).m.tree

  -- the body, and where it stands
  compiled : (g : Procedure) × (slice_get (whole home ok).l.code.procedures.items (length (whole home ok).l.code.procedures.items - 1) ≡ Some g) × IsCodeOf names (whole home ok).m.tree.body None g
  compiled = body_compiled (faces home) (whole home ok).m.tree (whole home ok).m.tree.procedures (whole home ok).l.code.procedures.items (whole home ok).compiled.procedures

  abbrev scope : World → Scope
  scope w = scope_at program max_depth home (count w.store)

  abbrev lines : List Line
  lines = list_code names (whole home ok).m.tree.body

  lines_is : (w : World) → lines_in code (running code home w) ≡ lines
  lines_is w =
      let may = whole home ok in
      ap (λ x. lines_of_procedure (procedure_in x (body_number x))) may.found ∙ ap lines_of_procedure compiled.1 ∙ compiled.2.lines ∙ append-nil lines

  own : (w : World) → OwnFits program code faces shapes runs whole (running code home w) s names (scope w)
  own w = record {
    holds = λ x o e. absurd (none_own x o e);
    names_it = λ x o e. absurd (none_named x o e);
  }
    where
      none_own : (x : ℕ) (o : Object) → own_object [] [] x ≡ Some o → ⊥
      none_own x o e = let n : None ≡ Some o = e in cc

      none_named : (x : ℕ) (o : Object) → named_object (slice_get [] x) ≡ Some o → ⊥
      none_named x o e = let n : None ≡ Some o = e in cc

  frame : (w : World) → FrameFits code shapes (running code home w) s names (scope w)
  frame w = frame_fits program code faces shapes runs whole (running code home w) s [] [] max_depth (count w.store) ok (opening_fits program) (own w)

  calls : (w : World) → CallsRun code shapes (running code home w) s names (scope w)
  calls w = calls_run program code faces shapes runs whole max_depth (running code home w) s [] [] (count w.store) ok (opening_fits program) (omega arith)

  body_runs : (n : Supply) (w : World) → MayBegin program w → Reaches code n.turns s AnyDone (Going n (start code home (picture w))) (λ d n' w'. here (running code home w) (length lines) [] [] n' w') (list_meaning (scope w) (whole home ok).m.tree.body n w)
  body_runs n w begins =
      let r = running code home w in
      let e : 0 + length lines ≡ length lines = omega arith in
      moved code n.turns s _ _ AnyDone (λ x d n' w'. here r x [] [] n' w') (here r 0 [] [] n w) (list_meaning (scope w) (whole home ok).m.tree.body n w) e
      (list_runs code shapes r s names (scope w) (expr_runs code shapes r s names (scope w) (frame w) (calls w)) (action_runs code shapes r s names (scope w) (frame w) (calls w)) (variables_hold code shapes r s names (scope w) (frame w)) refl
      (whole home ok).m.tree.body 0 n n.turns w (whole home ok).linked.formed.body (whole home ok).types.1 (record { less = omega arith; fits = begins }) (subst (λ l. HasAt l 0 lines) (sym (lines_is w)) (has_all lines [])))

  there : (n : Supply) (w : World) → MayBegin program w → Comes_to program code (start code home (picture w)) n (body_meaning program home n w)
  unfolding body_meaning
  there n w begins =
      subst (λ b. Comes_to program code (start code home (picture w)) n (ended (list_meaning (scope w) (body_in b) n w))) (sym (whole home ok).loaded)
      (at_end program code (running code home w) lines (start code home (picture w)) n n.turns (list_meaning (scope w) (whole home ok).m.tree.body n w) refl (lines_is w) (body_runs n w begins))

  pub body_behaves : BodyBehaves program code home
  body_behaves = follows_it program code (body_meaning program home) (λ w. start code home (picture w)) there
