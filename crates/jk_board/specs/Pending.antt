-- To be believed.
-- What a publisher has pending.
use Rattle.std.specs.Prelude.{◌≡◌, ◌≤◌, List, [], ◌∷◌, ◌++◌, length}
use Rattle.jk_language.specs.Spoken.{Spoken}
use Rattle.jk_log.specs.declared.entry.Entry.{Entry}
use Rattle.jk_board.specs.declared.publisher.Replace.{Replace}
use Rattle.jk_board.specs.declared.publisher.Window.{Window}
use Rattle.jk_board.specs.declared.posted.Posted.{Posted}
use Rattle.jk_board.specs.Posted.{held_of, Shows}
use Rattle.jk_board.specs.Boards.{IsBoard}

-- what the two copies have in common
abbrev pub window_of : Posted → Window
window_of b = record { dropped = b.dropped; held = held_of b }

-- One board is pending: the last part of all that was seen, and then of some more. That more is legal, and none of it is dropped.
abbrev pub IsNext : {S T : Type 0} → Spoken S T → List Entry → List Replace → Type 0
IsNext spoken seen pending =
    (next : Replace) × (more : List Entry) × (pending ≡ next ∷ []) × (IsBoard spoken seen → IsBoard spoken (seen ++ more))
    × (next.posted.dropped ≤ length seen) × Shows (seen ++ more) next.posted
