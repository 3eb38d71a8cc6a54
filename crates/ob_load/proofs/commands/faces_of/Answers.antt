use Rattle.std.proofs.Common.{List, sym, subst, take, arith, ◌+◌}
use Rattle.ob_mean.specs.declared.face.Face.{Face}
use Rattle.ob_image.specs.Compiled.{AreKnown}
use Rattle.ob_load.proofs.Called.{known_next}
use Rattle.ob_load.proofs.commands.faces_of.Goals as goal

pub loop-number-preserved : goal.loop-number-preserved
loop-number-preserved c =
    let known = c.args.known.now in
    let numbers = c.args.numbers.now in
    let n = c.loop-number.number-index in
    subst (λ (fs : List Face). AreKnown known (take (n + 1) numbers) fs) (sym c.in_ok-push.ensures.items)
    (known_next known numbers c.loop-number.faces.items n 0 c.in_ok-face.face (omega (arith, c.loop-number-test.true)) c.loop-number.invariant c.in_ok-face.ensures)
