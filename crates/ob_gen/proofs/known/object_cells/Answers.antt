use Rattle.std.proofs.Common.{ap}
use Rattle.ob_gen.specs.Known.{object_seen}
use Rattle.ob_gen.proofs.emitting.Known.{text_cells}
use Rattle.ob_gen.proofs.known.object_cells.Goals as goal

pub returns-in-Characters : goal.returns-in-Characters
returns-in-Characters c = text_cells c.args.object c.in-Characters.length (ap object_seen c.in-Characters.is)
