use Rattle.std.proofs.Common.{◌≡◌, ◌*◌, pos, false, Some, arith, sym, subst, ◌∙◌}
use Rattle.std.proofs.lemmas.Int.{ints}
use Rattle.std.proofs.lemmas.Result.{IfOk-weaker}
use Rattle.jiff_fmt.specs.Printer.{options, IsTimestampText}
use Rattle.js_tables.proofs.Dates.{with_precision, date_shown}
use Rattle.js_tables.proofs.moment.date_text.Goals as goal

pub returns : goal.returns
returns c =
    let q = c.precision-printer.result in
    let o : options q ≡ (false, 84, Some 6) = with_precision c.new.result q c.new.ensures c.precision-printer.ensures in
    let n : c.in-Ok.instant.nanosecond ≡ pos (c.args.moment * 1000) = omega (arith, ints, c.in-Ok.ensures.value) in
    IfOk-weaker c.from_str.result _ _ (λ t e. date_shown q c.in-Ok.instant c.args.moment t o n (subst (λ x. IsTimestampText q c.in-Ok.instant x) (sym (e ∙ c.as_str.ensures.value)) c.timestamp_text.ensures)) c.from_str.ensures
