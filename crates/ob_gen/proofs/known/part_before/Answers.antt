use Rattle.std.proofs.Common.{ap, ◌∙◌}
use Rattle.ob_gen.specs.Known.{object_seen}
use Rattle.ob_gen.proofs.emitting.Known.{text_before}
use Rattle.ob_gen.proofs.known.part_before.Goals as goal

pub returns-in-Characters : goal.returns-in-Characters
returns-in-Characters c = c.min.ensures ∙ text_before c.args.object c.in-Characters.length c.args.part (ap object_seen c.in-Characters.is)
