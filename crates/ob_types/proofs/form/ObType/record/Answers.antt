use Rattle.std.proofs.Common.{subst}
use Rattle.ob_types.specs.Forms.{AreFacts}
use Rattle.ob_types.proofs.form.ObType.record.Goals as goal

pub invariant_of-record : goal.invariant_of-record
invariant_of-record c = subst (λ fs. AreFacts c.in_ok-facts.facts c.args.name fs) c.as_slice.ensures c.in_ok-facts.ensures
