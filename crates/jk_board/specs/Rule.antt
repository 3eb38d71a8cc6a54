-- To be believed.
-- The rule of a board: what is kept is the last part of a beginning of what a legal log shows, and that begins with all that anyone
-- has seen or was told of.
use Rattle.std.specs.Prelude.{◌≡◌, ℕ, List, [], ◌∷◌}
use Rattle.std.specs.List.{AllByRecursion}
use mathlib.Core.Option.{some}
use lib.ListN.{get_elem?}
use Rattle.jk_language.specs.Spoken.{Spoken}
use Rattle.jk_log.specs.declared.entry.Entry.{Entry}
use Rattle.jk_board.specs.declared.posted.Posted.{Posted}
use Rattle.jk_board.specs.declared.rule.Seen.{Seen}
use Rattle.jk_board.specs.Posted.{Shows}
use Rattle.jk_board.specs.Boards.{StartsWith, IsBoard}

abbrev pub sees : List Entry → List (List Entry) → Seen
sees s t = record { seen = s; told = t }

abbrev pub Begins : List Entry → Seen → Type 0
Begins all v = StartsWith all v.seen × AllByRecursion (StartsWith all) v.told

-- there is one whole board, of which the last part is kept, and it begins with all that was seen and told of
abbrev pub Grows : {S T : Type 0} → Spoken S T → Posted → List Seen → Type 0
Grows spoken b views =
    (all : List Entry) × IsBoard spoken all × Shows all b × ((j : ℕ) (v : Seen) → get_elem? views j ≡ some v → Begins all v)

-- the whole board begins with all that was seen and told of, and is what was seen from now on
abbrev pub Finds : {S T : Type 0} → Spoken S T → Seen → Posted → Posted → Seen → Type 0
Finds spoken v x y w = IsBoard spoken w.seen × Shows w.seen y × Begins w.seen v × (w.told ≡ v.told)
