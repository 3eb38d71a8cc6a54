use Rattle.std.proofs.Common.{◌≡◌, ℕ, Some, true, false, sym, ap, ◌∙◌, ⊎_elim, arith}
use Rattle.std.specs.Prelude.{slice_get}
use Rattle.std.proofs.lemmas.Bool.{cases_lt}
use Rattle.ob_code.specs.declared.instr.Entries.{Entries}
use Rattle.ob_code.specs.Linked.{Imports, runs_of}
use Rattle.ob_code.proofs.Each.{each_more, stands_within}
use Rattle.ob_verify.proofs.linked.all_imports_fit.Goals as goal
use Rattle.ob_verify.proofs.linked.all_imports_fit.Goals.{else-runs-via-then-runs+else-not-imports_fit, else-runs-via-else-runs}

differ : true ≡ false → ⊥
differ e = cc

pub loop-home-preserved : goal.loop-home-preserved
loop-home-preserved c = elim c.else-runs.branch [
  | else-runs-via-then-runs+else-not-imports_fit w ↦
      each_more (λ k m. runs_of c.args.may_run.now k ≡ true → (i : ℕ) (known : Entries) → slice_get m.code.imports.items i ≡ Some known → Imports c.args.modules.now (runs_of c.args.may_run.now) m i known)
      c.args.modules.now c.loop-home.home w.index-modules-home.result c.loop-home-test.true w.index-modules-home.is c.loop-home.invariant (λ may. w.imports_fit.ensures.fit w.if-not-imports_fit.false)
  | else-runs-via-else-runs w ↦ λ k m lt e may.
      ⊎_elim (λ less. c.loop-home.invariant k m less e may)
      (λ le. let same : k ≡ c.loop-home.home = omega (arith, lt, le) in absurd (differ (sym may ∙ ap (runs_of c.args.may_run.now) same ∙ sym c.runs.ensures ∙ w.if-runs.false)))
      (cases_lt k c.loop-home.home)
]

pub returns-clause-fit : goal.returns-clause-fit
returns-clause-fit c = λ yes home l e. let lt = stands_within c.args.modules.now home l e in c.loop-home.invariant home l (omega (arith, lt, c.loop-home-test.false)) e
