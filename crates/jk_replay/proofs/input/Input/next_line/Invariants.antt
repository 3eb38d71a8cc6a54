use Rattle.std.proofs.Common.{◌≡◌, ◌-◌, ◌++◌, List, ℕ}
use Rattle.jk_replay.specs.Held.{Comes}
use Rattle.jk_replay.proofs.input.Input.next_line.Given as goal

abbrev pub invariant-pieces : goal.invariant-pieces
invariant-pieces g l =
    (came : List ℕ)
    × Comes (g.R.Read.remaining l.fn.reader) (g.R.Read.remaining l.reader) l.fn.self l.self came
    × (l.self.held ≡ l.fn.self.held ++ came)

abbrev pub decreases-pieces : goal.decreases-pieces
decreases-pieces g l = 67108866 - l.self.taken
