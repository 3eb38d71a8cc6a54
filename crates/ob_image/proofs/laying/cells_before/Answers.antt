use Rattle.std.proofs.Common.{◌<◌, arith}
use Rattle.ob_image.proofs.Laid.{cells_most, last_ends}
use Rattle.ob_image.proofs.laying.cells_before.Goals as goal

pub overflow_add-result : goal.overflow_add-result
overflow_add-result c =
    let some : 0 < c.args.number = omega (arith, c.if-number-eq0.false) in
    let ends = last_ends c.args.code.now c.args.number c.index-code-number.result some c.requires.there c.index-code-number.is c.requires.laid in
    let most = cells_most c.args.code.now c.args.number in
    omega (arith, ends, most, c.requires.few)

pub returns : goal.returns
returns c =
    let some : 0 < c.args.number = omega (arith, c.if-number-eq0.false) in
    last_ends c.args.code.now c.args.number c.index-code-number.result some c.requires.there c.index-code-number.is c.requires.laid
