use Rattle.std.proofs.Common.{subst}
use Rattle.ob_types.specs.declared.structure.RecordType.{out-RecordType}
use Rattle.ob_types.specs.Spelling.{AreEnds}
use Rattle.ob_types.proofs.Rolled.{ends_rolled}
use Rattle.ob_types.proofs.form.RecordType.ends.Goals as goal

pub returns : goal.returns
returns c =
    let inside = c.self.inside in
    subst (λ r. AreEnds inside.facts.ends (out-RecordType r).fields) c.self.view_is (ends_rolled inside.name inside.fields inside.facts.ends c.self.invariant.4)
