use Rattle.std.proofs.Common.{ℕ, arith, ap, length, length-append}
use Rattle.std.proofs.lemmas.Result.{err_from_is_err_and}
use Rattle.js_http.proofs.HeadLemmas.{body_stops, body_whole}
use Rattle.js_http.proofs.read.read_body.Goals as goal

pub returns-in_err-read_some : goal.returns-in_err-read_some
returns-in_err-read_some g c =
    let p = err_from_is_err_and c.from_residual-in_err-read_some.result c.from_residual-in_err-read_some.ensures.1 in
    let before = c.body.invariant in
    let read = c.in_err-read_some.ensures.bytes in
    rw (p.1, p.2)
    (record {
      received =
          body_stops _ _ _ c.args.start.now before.0 c.body.body.items c.read_some.new.bytes.items read.0 c.args.len _
          c.in_err-read_some.field-0.0 before.1 before.2 (omega arith) (omega arith) read.1 read.2;
    })

pub returns : goal.returns
returns g c =
    let before = c.body.invariant in
    record {
      received = (
        before.0,
        before.1,
        omega (arith, ap length before.2, length-append {A = ℕ}),
        body_whole c.args.start.now before.0 c.body.body.items c.args.len before.2 (omega arith) (omega arith),
      );
    }
