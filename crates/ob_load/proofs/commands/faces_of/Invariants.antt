use Rattle.std.proofs.Common.{take}
use Rattle.ob_image.specs.Compiled.{AreKnown}
use Rattle.ob_load.proofs.commands.faces_of.Given as goal

abbrev pub invariant-loop-number : goal.invariant-loop-number
invariant-loop-number l = AreKnown l.known (take l.number-index l.numbers) l.faces.items
