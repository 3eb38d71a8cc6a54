use Rattle.std.proofs.Common.{arith}
use Rattle.ob_code.specs.Kinds.{listed, Keeps}
use Rattle.ob_code.proofs.Each.{each_more, stands_within}
use Rattle.ob_verify.proofs.measured.lines_keep.Goals as goal

pub loop-place-preserved : goal.loop-place-preserved
loop-place-preserved c =
    let f = c.args.procedure.now in
    each_more (λ k x. Keeps c.args.code.now f (listed c.args.rows.now) k (listed c.args.rows.now k) x.instr) f.lines.items c.loop-place.place c.index.result.now (omega (arith, c.loop-place-test.true, c.len-place-end.ensures)) c.index.ensures c.loop-place.invariant
    (c.line_keeps.ensures c.if-not-line_keeps.false)

pub returns : goal.returns
returns c = λ yes place l e. let lt = stands_within c.args.procedure.now.lines.items place l e in c.loop-place.invariant place l (omega (arith, lt, c.len-place-end.ensures, c.loop-place-test.false)) e
