use Rattle.std.proofs.Common.{arith, refl, sym}
use Rattle.std.proofs.lemmas.Result.{err_from_is_err_and}
use Rattle.js_http.proofs.FramingLemmas.{body_len-le}
use Rattle.js_http.proofs.RequestLemmas.{refused_in_body, request_whole, tail_is}
use Rattle.js_http.proofs.request.finish_request.Goals as goal

pub read_body-requires-clause-small : goal.read_body-requires-clause-small
read_body-requires-clause-small g c = body_len-le _ _ _ (sym c.requires.stated)

pub returns-in_err-body : goal.returns-in_err-body
returns-in_err-body g c =
    let p = err_from_is_err_and c.from_residual.result c.from_residual.ensures.1 in
    let head = c.requires.head in
    let small = body_len-le _ _ _ (sym c.requires.stated) in
    let read = c.in_err-body.ensures.received in
    rw (p.1, p.2) (
      read.0,
      read.1,
      omega (arith, read.2, small),
      refused_in_body c.args.begun.received.items read.0 _ c.args.begun.head head.0 c.args.begun.len c.in_err-body.field-0.0 head.1 c.requires.short c.requires.stated
          (tail_is _ _ _ _ c.deref.ensures.value refl) read.3,
    )

pub returns : goal.returns
returns g c =
    let head = c.requires.head in
    let small = body_len-le _ _ _ (sym c.requires.stated) in
    let read = c.in_ok-body.ensures.received in (
      read.0,
      read.1,
      omega (arith, read.2, small),
      rw c.from.ensures
          (request_whole c.args.begun.received.items read.0 _ c.in_ok-body.body.items c.args.begun.head head.0 c.args.begun.len head.1 c.requires.short c.requires.stated
          (tail_is _ _ _ _ c.deref.ensures.value refl) read.3),
    )
