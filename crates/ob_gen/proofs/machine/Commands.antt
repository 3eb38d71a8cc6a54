-- The code of a list of commands does what they mean.
use Rattle.std.proofs.Common.{◌≡◌, ℕ, suc, ◌+◌, ℤ, List, [], ◌∷◌, ◌++◌, length, Some, Bool, false, refl, sym, ap, ◌∙◌, subst, arith}
use Rattle.std.specs.Prelude.{slice_get}
use Rattle.ob_mean.specs.declared.expression.Callee.{Callee}
use Rattle.ob_mean.specs.declared.expression.Callee.TheVariants as callee
use Rattle.ob_mean.specs.declared.outcome.TurnKind.TheVariants as kind
use Rattle.ob_mean.specs.declared.face.Face.{Face}
use Rattle.ob_mean.specs.declared.face.Heading.{Heading}
use Rattle.ob_mean.specs.declared.module.TypedProcedure.{TypedProcedure}
use Rattle.ob_mean.specs.Values.{Value, Nothing, count, shape}
use Rattle.ob_mean.specs.Runs.{World, Supply, Goes, done, turn}
use Rattle.ob_mean.specs.Programs.{Program, Command, opening_store, scope_at, procedure_in, procedure_meaning, found_meaning, call_at, in_turn, commands_meaning, max_depth}
use Rattle.ob_code.specs.Machine.{Code, picture, procedure_in as code_procedure_in, lines_in as lines_of_procedure, body_number, start}
use Rattle.ob_gen.specs.TypesAgree.{Shapes}
use Rattle.ob_gen.specs.Correct.{IsCodeOfProgram, MayBegin}
use Rattle.ob_gen.specs.Commands.{commands_code, LeadsTo, AllLead, IsCodeOfCommands, CommandsBehave}
use Rattle.ob_code.proofs.machine.Runs.{stays}
use Rattle.ob_gen.proofs.machine.Reaches.{HasAt, has_all, here, lines_in, Good, Reaches, AnyDone, SoMany, ties, moved}
use Rattle.ob_gen.proofs.machine.Passing.{PassedFit, no_result}
use Rattle.ob_gen.proofs.machine.Linked.{CodeAt, code_at, heading_found}
use Rattle.ob_gen.proofs.machine.Calls.{called_runs, calls_run}
use Rattle.ob_gen.proofs.machine.Ends.{opening_fits, running, Comes_to, at_end, follows_it}

-- what callers know of a command
abbrev plain : Heading
plain = record { parameters = []; is_function = false }

-- a call of a procedure of the same module
call_is : (program : Program) (more home p : ℕ) (tree : TypedProcedure) (n : Supply) (w : World) → procedure_in (slice_get program home) p ≡ Some tree → call_at program (suc more) home (callee.OfModule p) Nothing 0 n w ≡ turn kind.ProcedureCall n w (λ n1. procedure_meaning (scope_at program more home (count w.store)) tree Nothing n1 w)
unfolding call_at
call_is program more home p tree n w e = ap (λ o. turn kind.ProcedureCall n w (λ n1. found_meaning (scope_at program more home (count w.store)) o Nothing n1 w)) e

module _ (program : Program) (code : Code) (faces : ℕ → List Face) (shapes : Shapes) (runs : ℕ → Bool) (whole : IsCodeOfProgram program code faces shapes runs) (home : ℕ) where
  abbrev s : Value
  s = shape (opening_store program)

  -- the call of a command in the module of commands
  record CommandAt (f : Callee) (c : Command) : Type 0 where
    pub at : CodeAt program code faces shapes runs whole home f plain
    pub home_is : c.home ≡ at.there
    pub tree_is : procedure_in (slice_get program c.home) c.procedure ≡ Some at.tree

  command_at : (f : Callee) (c : Command) → LeadsTo program code runs home f c → CommandAt f c
  command_at f c l =
      let may = whole c.home l.may_run in
      let h = heading_found (procedure_in (slice_get program c.home) c.procedure) plain l.plain in
      let tree_is : slice_get may.m.tree.procedures c.procedure ≡ Some h.0 = ap (λ x. procedure_in x c.procedure) (sym may.loaded) ∙ h.1 in
      record { at = code_at program code faces shapes runs whole home c.home c.procedure l.may_run f plain h.0 l.target l.number tree_is h.2; home_is = refl; tree_is = h.1 }

  command_runs : (f : Callee) (c : Command) (pc : ℕ) (w0 : World) (n : Supply) (most : ℕ) (w : World) → LeadsTo program code runs home f c → Good most s n w → HasAt (lines_in code (running code home w0)) pc (commands_code (f ∷ [])) → Reaches code most s (SoMany 0) (here (running code home w0) pc [] [] n w) (λ vs n' w'. here (running code home w0) (pc + 1) (vs ++ []) [] n' w') (call_at program max_depth c.home (callee.OfModule c.procedure) Nothing 0 n w)
  command_runs f c pc w0 n most w l good has =
      let r = running code home w0 in
      let x = command_at f c l in
      let to : List ℤ → Supply → World → _ = λ vs n' w'. here r (pc + 1) (vs ++ []) [] n' w' in
      let more : ℕ = 999 in
      let deep : suc more ≡ max_depth = omega arith in
      let args : PassedFit code shapes s [] x.at.tree.parameters Nothing = subst (λ (y : Heading). PassedFit code shapes s [] y.parameters Nothing) (sym x.at.heading) refl in
      let done = called_runs program code faces shapes runs whole r s more (opening_fits program) f plain x.at 0 0 0 pc [] Nothing [] [] n.turns n.lines most w refl good args has.0
      (λ r1 s1 ps1 ts1 frame1 ok1 fit1 len. calls_run program code faces shapes runs whole more r1 s1 ps1 ts1 frame1 ok1 fit1 (omega (arith, len))) in
      subst (λ d. Reaches code most s (SoMany 0) (here r pc [] [] n w) to (call_at program d c.home (callee.OfModule c.procedure) Nothing 0 n w)) deep
      (subst (Reaches code most s (SoMany 0) (here r pc [] [] n w) to) (sym (call_is program more c.home c.procedure x.at.tree n w x.tree_is))
      (subst (λ y. Reaches code most s (SoMany 0) (here r pc [] [] n w) to (turn kind.ProcedureCall n w (λ n1. procedure_meaning (scope_at program more y (count w.store)) x.at.tree Nothing n1 w))) (sym x.home_is) done))

  commands_run : (fs : List Callee) (cs : List Command) (pc : ℕ) (w0 : World) (n : Supply) (most : ℕ) (w : World) → AllLead program code runs home fs cs → Good most s n w → HasAt (lines_in code (running code home w0)) pc (commands_code fs) → Reaches code most s AnyDone (here (running code home w0) pc [] [] n w) (λ d n' w'. here (running code home w0) (pc + length (commands_code fs)) [] [] n' w') (in_turn program cs n w)
  commands_run [] [] pc w0 n most w l good has =
      let r = running code home w0 in
      moved code most s pc (pc + 0) AnyDone (λ x d n' w'. here r x [] [] n' w') (here r pc [] [] n w) (Goes done n w) (omega arith) (good, tt, stays code (here r pc [] [] n w))
  commands_run [] (c ∷ cs) pc w0 n most w l good has = absurd l
  commands_run (f ∷ fs) [] pc w0 n most w l good has = absurd l
  commands_run (f ∷ fs) (c ∷ cs) pc w0 n most w l good has =
      let r = running code home w0 in
      let len : pc + 1 + length (commands_code fs) ≡ pc + length (commands_code (f ∷ fs)) = omega arith in
      let end = pc + 1 + length (commands_code fs) in
      moved code most s _ _ AnyDone (λ x d n' w'. here r x [] [] n' w') (here r pc [] [] n w) (in_turn program (c ∷ cs) n w) len
      (ties code most s (SoMany 0) AnyDone (here r pc [] [] n w) (λ vs n' w'. here r (pc + 1) (vs ++ []) [] n' w') (λ d n' w'. here r end [] [] n' w') (call_at program max_depth c.home (callee.OfModule c.procedure) Nothing 0 n w) _
      (command_runs f c pc w0 n most w l.0 good (has.0, tt))
      (λ vs n1 w1 g1 k1. subst (λ st. Reaches code most s AnyDone (here r (pc + 1) st [] n1 w1) (λ d n' w'. here r end [] [] n' w') (in_turn program cs n1 w1)) (sym (no_result vs [] k1))
      (commands_run fs cs (pc + 1) w0 n1 most w1 l.1 g1 has.1)))

  module _ (cs : List Command) (is_code : IsCodeOfCommands program code runs home cs) where
    lines_are : (w : World) → lines_in code (running code home w) ≡ commands_code is_code.calls
    lines_are w =
        ap (λ x. lines_of_procedure (code_procedure_in x (body_number x))) is_code.found ∙ ap lines_of_procedure is_code.last ∙ is_code.lines

    there : (n : Supply) (w : World) → MayBegin program w → Comes_to program code (start code home (picture w)) n (commands_meaning program cs n w)
    unfolding commands_meaning
    there n w begins =
        let r = running code home w in
        let lines = commands_code is_code.calls in
        let e : 0 + length lines ≡ length lines = omega arith in
        at_end program code r lines (start code home (picture w)) n n.turns (in_turn program cs n w) refl (lines_are w)
        (moved code n.turns s _ _ AnyDone (λ x d n' w'. here r x [] [] n' w') (here r 0 [] [] n w) (in_turn program cs n w) e
        (commands_run is_code.calls cs 0 w n n.turns w is_code.lead (record { less = omega arith; fits = begins }) (subst (λ l. HasAt l 0 lines) (sym (lines_are w)) (has_all lines []))))

    pub commands_behave : CommandsBehave program code home cs
    commands_behave = follows_it program code (commands_meaning program cs) (λ w. start code home (picture w)) there
