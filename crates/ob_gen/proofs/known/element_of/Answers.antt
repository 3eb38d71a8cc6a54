use Rattle.std.proofs.Common.{ap, sym}
use Rattle.ob_mean.specs.WellFormed.{shape_object}
use Rattle.ob_gen.specs.Known.{object_seen}
use Rattle.ob_gen.proofs.emitting.Known.{text_elements}
use Rattle.ob_gen.proofs.known.element_of.Goals as goal

pub returns-in-Characters : goal.returns-in-Characters
returns-in-Characters c = sym (ap shape_object (text_elements c.args.object c.in-Characters.field-0 (ap object_seen c.in-Characters.is)))
