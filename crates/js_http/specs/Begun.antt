-- A request whose head has come.
use Rattle.std.specs.Prelude.{◌≡◌, ℕ, ◌≤◌, List, length, Ok}
use Rattle.httparse.specs.Grammar.{RequestHead}
use Rattle.js_http.specs.declared.request.Begun.{Begun}
use Rattle.js_http.specs.Framing.{body_len}
use Rattle.js_http.specs.Heads.{IsHeadAt}
use Rattle.js_http.specs.Methods.{needs_length}

-- taken is what came, it begins with the head, and the body has the length that the head states
pub record BeginsAt (taken : List ℕ) (b : Begun) : Type 0 where
  pub received : taken ≡ b.received.items
  pub short : length taken ≤ 16384
  pub head : (h : RequestHead) × IsHeadAt taken b.head h
  pub stated : body_len (needs_length b.head.method) b.head.headers ≡ Ok b.len
  pub counted : b.reads ≤ 16384
