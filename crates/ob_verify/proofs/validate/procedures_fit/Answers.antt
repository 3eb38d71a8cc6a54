use Rattle.std.proofs.Common.{arith, length, subst, ◌∙◌, ap, get_or, ◌<◌}
use Rattle.ob_code.specs.Valid.{ProcedureFits}
use Rattle.ob_code.proofs.Each.{each_more, stands_within}
use Rattle.ob_verify.proofs.validate.procedures_fit.Goals as goal

pub loop-procedure-preserved : goal.loop-procedure-preserved
loop-procedure-preserved c =
    let code = c.args.code.now in
    let here = c.deref-procedure-items.ensures.value in
    each_more (λ k f. ProcedureFits code f) code.procedures.items c.loop-procedure.procedure-index c.procedure-item.result (subst (λ l. c.loop-procedure.procedure-index < length l) here c.loop-procedure-test.true) (c.procedure-item.is ∙ ap (λ l. get_or l c.loop-procedure.procedure-index c.procedure-item.result) here) c.loop-procedure.invariant
    (c.procedure_fits.ensures c.if-not-procedure_fits.false)

pub returns : goal.returns
returns c = λ yes p f e.
    let lt = stands_within c.args.code.now.procedures.items p f e in c.loop-procedure.invariant p f (omega (arith, lt, ap length c.deref-procedure-items.ensures.value)) e
