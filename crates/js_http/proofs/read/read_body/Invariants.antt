use Rattle.std.proofs.Common.{◌≡◌, ◌+◌, ◌-◌, ◌≤◌, ◌++◌, List, ℕ, length, take, vec_len}
use Rattle.std.specs.Io.KnownBytes.{Consumes}
use Rattle.js_http.proofs.read.read_body.Given as goal

-- the body so far is what received with the head and what received since
abbrev pub invariant-body : goal.invariant-body
invariant-body g l =
    (received : List ℕ)
    × Consumes (g.R.Read.remaining l.fn.reader) (g.R.Read.remaining l.reader) received
    × (l.body.items ≡ take l.len l.start ++ received) × (vec_len l.body ≤ l.len) × (l.reads ≤ 16384 + length received)

abbrev pub decreases-body : goal.decreases-body
decreases-body g l = l.len - vec_len l.body
