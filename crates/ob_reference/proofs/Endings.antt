-- Where a run ends.
use Rattle.std.proofs.Common.{◌≡◌, Result, Ok, Err, ap, ◌∙◌, subst}
use Rattle.ob_mean.specs.declared.outcome.Outcome.{Outcome}
use Rattle.ob_mean.specs.declared.outcome.Outcome.TheVariants.{Ended}
use Rattle.ob_mean.specs.Runs.{Run, Stands, Done, done, ended}
use Rattle.ob_reference.specs.declared.reference.Ran.{Ran}
use Rattle.ob_reference_store.specs.declared.state.State.{State}
use Rattle.ob_reference_store.specs.declared.stop.Stop.{Stop}
use Rattle.ob_reference_store.specs.declared.stop.Stop.TheVariants as stop
use Rattle.ob_reference.specs.Answers.{Says}
use Rattle.ob_reference_store.specs.States.{Follows, supply_in, world_in}

says_same : (p q : Run Done) (ran : Ran) → p ≡ q → Says q ran → Says p ran
says_same p q ran e h = (h.0, e ∙ h.1)

pub goes_on : (gone : Result (Unit {0}) Stop) (s : State) (ran : Ran) (run : Run Done) (u : Unit {0}) → gone ≡ Ok u → Says (Stands Ended (supply_in s) (world_in s)) ran → Follows (λ (_ : Unit {0}). done) gone s run → Says (ended run) ran
goes_on gone s ran run u e h f = says_same (ended run) _ ran (ap ended (subst (λ g. Follows (λ (_ : Unit {0}). done) g s run) e f)) h

pub stands_still : (gone : Result (Unit {0}) Stop) (s : State) (ran : Ran) (run : Run Done) (why : Outcome) → gone ≡ Err (stop.Stands why) → Says (Stands why (supply_in s) (world_in s)) ran → Follows (λ (_ : Unit {0}). done) gone s run → Says (ended run) ran
stands_still gone s ran run why e h f = says_same (ended run) _ ran (ap ended (subst (λ g. Follows (λ (_ : Unit {0}). done) g s run) e f)) h
