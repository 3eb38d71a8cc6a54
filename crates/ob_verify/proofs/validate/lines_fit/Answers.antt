use Rattle.std.proofs.Common.{rules, arith}
use Rattle.ob_code.specs.Valid.{Fits}
use Rattle.ob_code.proofs.Each.{each_more, stands_within}
use Rattle.ob_verify.proofs.validate.lines_fit.Goals as goal

pub loop-place-preserved : goal.loop-place-preserved
loop-place-preserved c =
    let f = c.args.procedure.now in
    each_more (λ k x. Fits c.args.code.now f f.lines.items k x.operands x.names x.instr) f.lines.items c.loop-place.place c.index.result.now (omega (arith, c.loop-place-test.true, c.len-place-end.ensures)) c.index.ensures c.loop-place.invariant
    (c.fits.ensures c.if-not-fits.false)

pub returns : goal.returns
returns c = λ yes. record {
  opens = search rules;
  each = λ place l e. let lt = stands_within c.args.procedure.now.lines.items place l e in c.loop-place.invariant place l (omega (arith, lt, c.len-place-end.ensures, c.loop-place-test.false)) e;
}
