use Rattle.std.proofs.Common.{Err}
use Rattle.std.proofs.lemmas.Result.{err_from_is_err_and}
use Rattle.js_http.proofs.RequestLemmas.{refused_by_length, stated_is}
use Rattle.js_http.proofs.request.begin_request.Goals as goal

pub returns-in_err-len : goal.returns-in_err-len
returns-in_err-len g c =
    let p = err_from_is_err_and c.from_residual-in_err-len.result c.from_residual-in_err-len.ensures.1 in
    let head = c.in_ok-head.ensures.taken in
    let refused = stated_is c.in_ok-head.head c.needs_length.result (Err c.in_err-len.field-0.0) c.needs_length.ensures c.in_err-len.ensures in
    rw (p.1, p.2) (
      head.0,
      head.1,
      head.2,
      refused_by_length head.0 c.in_ok-head.head head.3.1 c.in_err-len.field-0.0 head.3.2 head.2 refused,
    )
