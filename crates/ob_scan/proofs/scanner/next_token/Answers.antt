use Rattle.std.proofs.Common.{length, Ok, sym, ◌∙◌, arith}
use Rattle.std.proofs.lemmas.Bool.{eqb-true}
use Rattle.std.proofs.lemmas.Result.{err_from_is_err_and}
use Rattle.ob_base.specs.declared.fault.Code.TheVariants as codes
use Rattle.ob_scan.proofs.Shorter.{exactly_shorter}
use Rattle.ob_scan.proofs.TokenLists.{step_last, step_first, step_open, step_refused, not_zero}
use Rattle.ob_scan.proofs.scanner.next_token.Goals as goal

pub returns-then-is_empty-clause-exact : goal.returns-then-is_empty-clause-exact
returns-then-is_empty-clause-exact c =
    step_last c.args.place c.args.text.now c.after_gap-middle.result.now c.after_gap-middle.ensures.gap c.after_gap-middle.ensures.stays (eqb-true (length c.after_gap-middle.result.now) 0 (sym c.is_empty.ensures ∙ c.if-is_empty.true))

pub returns-then-begins-clause-exact : goal.returns-then-begins-clause-exact
returns-then-begins-clause-exact c =
    step_open c.args.place c.args.text.now c.after_gap-middle.result.now codes.Comment c.refused.result c.after_gap-middle.ensures.gap c.after_gap-middle.ensures.stays (sym c.begins.ensures.value ∙ c.if-begins.true) c.refused.ensures tt

pub returns-in_err-found-clause-exact : goal.returns-in_err-found-clause-exact
returns-in_err-found-clause-exact c =
    let p = err_from_is_err_and c.from_residual.result c.from_residual.ensures.1 in
    rw (p.1, p.2) (step_refused c.args.place c.args.text.now c.after_gap-middle.result.now c.in_err-found.field-0.0 c.after_gap-middle.ensures.gap c.after_gap-middle.ensures.stays (not_zero (length c.after_gap-middle.result.now) (sym c.is_empty.ensures ∙ c.if-is_empty.false)) c.in_err-found.ensures)

pub passed-to-requires-clause-ends : goal.passed-to-requires-clause-ends
passed-to-requires-clause-ends c = omega (arith, exactly_shorter c.after_gap-middle.result.now (Ok c.in_ok-found.found) c.in_ok-found.ensures)

pub returns-clause-exact : goal.returns-clause-exact
returns-clause-exact c =
    step_first c.args.place c.args.text.now c.after_gap-middle.result.now c.in_ok-found.found c.passed-from.result c.passed-to.result c.span_between-span.result c.after_gap-middle.ensures.gap c.after_gap-middle.ensures.stays c.after_gap-middle.ensures.no_blank
    (sym c.begins.ensures.value ∙ c.if-begins.false) c.in_ok-found.ensures c.passed-from.ensures.place c.passed-to.ensures.place c.span_between-span.ensures

pub returns-clause-shorter : goal.returns-clause-shorter
returns-clause-shorter c = omega (arith, exactly_shorter c.after_gap-middle.result.now (Ok c.in_ok-found.found) c.in_ok-found.ensures, c.after_gap-middle.ensures.within)
