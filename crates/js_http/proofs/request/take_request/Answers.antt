use Rattle.std.proofs.Common.{arith, sym, subst, ◌++◌, length-append}
use Rattle.std.proofs.KnownBytes.{Consumes-trans}
use Rattle.js_http.specs.Requests.{Answers}
use Rattle.js_http.proofs.request.take_request.Goals as goal

pub returns : goal.returns
returns g c =
    let began = c.in_ok-begun.ensures in
    let more = c.finish_request.ensures in (
      began.0 ++ more.0,
      Consumes-trans _ _ _ began.0 more.0 began.1 more.1,
      omega (arith, length-append began.0 more.0, began.2, more.2),
      subst (λ came. Answers (came ++ more.0) c.finish_request.result) (sym began.3.received) more.3,
    )
