use Rattle.std.proofs.Common.{arith}
use Rattle.ob_code.specs.Linked.{Exports}
use Rattle.ob_code.proofs.Each.{each_more, stands_within}
use Rattle.ob_verify.proofs.linked.exports.Goals as goal

pub loop-place-preserved : goal.loop-place-preserved
loop-place-preserved c =
    each_more (λ k entry. Exports c.args.imported.now k entry) c.args.known.now.exported.items c.loop-place.place c.index.result.now (omega (arith, c.loop-place-test.true, c.len-place-end.ensures)) c.index.ensures c.loop-place.invariant
    (c.exports_at.ensures.exports c.if-not-exports_at.false)

pub returns-clause-exports : goal.returns-clause-exports
returns-clause-exports c = λ yes place entry e. let lt = stands_within c.args.known.now.exported.items place entry e in c.loop-place.invariant place entry (omega (arith, lt, c.loop-place-test.false, c.len-place-end.ensures)) e
