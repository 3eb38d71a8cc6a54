-- What a read adds to what has come so far.
use Rattle.std.specs.Prelude.{◌≡◌, ℕ, ◌<◌, ◌≤◌, List, [], ◌++◌, length, ⊤, Result, Ok, Err}
use Rattle.httparse.specs.Grammar.{RequestHead}
use Rattle.js_http.specs.declared.refusal.HttpRefusal.{HttpRefusal}
use Rattle.js_http.specs.declared.refusal.HttpRefusal.TheVariants.{Ended, Memory}
use Rattle.js_http.specs.declared.head.Head.{Head}
use Rattle.js_http.specs.Heads.{IsHeadAt}

-- at Ok some bytes received, no more than the room, and they were added; at Ended none received
abbrev pub ReadsSome : List ℕ → List ℕ → ℕ → List ℕ → Result Unit HttpRefusal → Type 0
ReadsSome old new room received (Ok _) = (0 < length received) × (length received ≤ room) × (new ≡ old ++ received)
ReadsSome old new room received (Err Ended) = (received ≡ []) × (new ≡ old)
ReadsSome old new room received (Err Memory) = (length received ≤ room) × (new ≡ old)
ReadsSome old new room received (Err _) = ⊥

-- bytes are all that was taken, and the head is at their front
abbrev pub HasHead : List ℕ → Head → List ℕ → Type 0
HasHead taken head bytes = (taken ≡ bytes) × (h : RequestHead) × IsHeadAt taken head h

-- of start, and of what received after it, the first len bytes are the body
abbrev pub HasBody : List ℕ → List ℕ → ℕ → List ℕ → Type 0
HasBody start received len body = (length body ≡ len) × (after : List ℕ) × (start ++ received ≡ body ++ after)

-- why there is no body: too few bytes received, or there was no memory
abbrev pub LacksBody : List ℕ → List ℕ → ℕ → HttpRefusal → Type 0
LacksBody start received len Ended = length (start ++ received) < len
LacksBody start received len Memory = ⊤
LacksBody start received len _ = ⊥
