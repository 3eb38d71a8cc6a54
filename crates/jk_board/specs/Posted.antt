-- To be believed.
-- What is kept of a board.
use Rattle.std.specs.Prelude.{◌≡◌, ℕ, ◌+◌, ◌-◌, ◌≤◌, List, ◌++◌, length, drop}
use Rattle.std.specs.declared.vec.Vec.{Vec}
use Rattle.std.specs.declared.alloc.Global.{Global}
use Rattle.jk_log.specs.declared.entry.Entry.{Entry}
use Rattle.jk_board.specs.declared.posted.Posted.{Posted}
use Rattle.jk_board.specs.Levels.{of_newest, of_older, of_oldest, RowEndsWith}

-- the entries that are kept, in order
abbrev pub held_of : Posted → List Entry
held_of b = of_oldest b.oldest ++ of_older b.older ++ of_newest b.newest

-- what is kept is the last part of this whole board
abbrev pub Shows : List Entry → Posted → Type 0
Shows all b = (b.dropped ≤ length all) × (drop b.dropped all ≡ held_of b)

abbrev pub IsSame : Posted → Posted → Type 0
IsSame b c = (b.dropped ≡ c.dropped) × (held_of b ≡ held_of c)

-- some more of the first entries are dropped, all of which stand before this place, and then these are put last
abbrev pub Follows : ℕ → List Entry → Posted → Posted → Type 0
Follows place entries b next =
    (more : ℕ) × (more ≤ length (held_of b)) × (more ≤ place - b.dropped) × (next.dropped ≡ b.dropped + more) × (held_of next ≡ drop more (held_of b) ++ entries)

-- these entries were put last
abbrev pub EndsWith : Vec Entry Global → Posted → Type 0
EndsWith entries b = RowEndsWith entries b.newest
