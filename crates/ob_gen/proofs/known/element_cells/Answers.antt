use Rattle.std.proofs.Common.{ap, sym}
use Rattle.ob_mean.specs.Values.{size}
use Rattle.ob_gen.specs.Code.{zero_element}
use Rattle.ob_gen.specs.Known.{object_seen}
use Rattle.ob_gen.proofs.emitting.Known.{text_elements}
use Rattle.ob_gen.proofs.known.element_cells.Goals as goal

pub returns-in-Characters : goal.returns-in-Characters
returns-in-Characters c = sym (ap (λ o. size (zero_element o)) (text_elements c.args.object c.in-Characters.field-0 (ap object_seen c.in-Characters.is)))
