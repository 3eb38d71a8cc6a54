use Rattle.std.proofs.Common.{arith}
use Rattle.ob_code.specs.Kinds.{HasKinds}
use Rattle.ob_code.proofs.Each.{each_more, stands_within}
use Rattle.ob_verify.proofs.validate.have_kinds.Goals as goal

pub loop-place-preserved : goal.loop-place-preserved
loop-place-preserved c =
    each_more (λ k f. HasKinds c.args.code.now f) c.args.code.now.procedures.items c.loop-place.place c.index.result.now (omega (arith, c.loop-place-test.true, c.len-place-end.ensures)) c.index.ensures c.loop-place.invariant
    (c.in_ok-known.ensures c.if-not-known.false)

pub returns : goal.returns
returns c = λ yes p f e. let lt = stands_within c.args.code.now.procedures.items p f e in c.loop-place.invariant p f (omega (arith, lt, c.len-place-end.ensures, c.loop-place-test.false)) e
