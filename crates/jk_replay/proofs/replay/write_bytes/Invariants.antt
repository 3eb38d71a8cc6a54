use Rattle.std.proofs.Common.{◌≡◌, ◌++◌, List, ℕ, length}
use Rattle.std.specs.Io.KnownBytes.{Appends}
use Rattle.jk_replay.proofs.replay.write_bytes.Given as goal

-- what was written and the rest are the bytes
abbrev pub invariant-rest : goal.invariant-rest
invariant-rest g l =
    (front : List ℕ)
    × Appends (g.W.Write.contents l.fn.writer) (g.W.Write.contents l.writer) front × (l.bytes ≡ front ++ l.rest)

abbrev pub decreases-rest : goal.decreases-rest
decreases-rest g l = length l.rest
