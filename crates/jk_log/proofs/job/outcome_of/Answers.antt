use Rattle.std.proofs.Common.{subst}
use Rattle.jk_language.specs.declared.outcome.Refused.{Refused}
use Rattle.jk_language.specs.Spoken.{IsRefusal}
use Rattle.jk_log.proofs.job.outcome_of.Goals as goal

pub returns-in-Err-Fault : goal.returns-in-Err-Fault
returns-in-Err-Fault g c = λ session.
    subst (λ (r : Refused). IsRefusal g.L.Language.spoken session c.args.text.now r) c.in-Err-Fault.field-0-is (c.in-Err-Fault.ensures.faults session)
