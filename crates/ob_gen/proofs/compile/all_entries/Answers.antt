use Rattle.ob_gen.proofs.emitting.Generated.{faces_done}
use Rattle.ob_gen.proofs.compile.all_entries.Goals as goal

pub returns : goal.returns
returns c = faces_done c.args.faces.now c.loop-face.face-index c.loop-face.imports.items c.loop-face-test.false c.loop-face.invariant
