use Rattle.std.proofs.Common.{arith, inl, subst}
use Rattle.httparse.specs.Grammar.{HasNoRequest, MayBecomeRequest}
use Rattle.js_http.proofs.HeadLemmas.{too_long}
use Rattle.js_http.proofs.read.last_head.Goals as goal

pub returns-then-len-ge-MAX_HEAD_LEN : goal.returns-then-len-ge-MAX_HEAD_LEN
returns-then-len-ge-MAX_HEAD_LEN c =
    let none = subst (λ bytes. HasNoRequest bytes × MayBecomeRequest bytes) c.deref.ensures.value (rw c.in-None.is at c.in_ok-head.ensures) in
    inl (too_long c.args.bytes.items (omega arith) (omega arith) none)
