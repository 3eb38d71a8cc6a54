-- To be believed.
-- What boards are: beginnings of what a legal log of a kernel shows.
use Rattle.std.specs.Prelude.{◌≡◌, List, ◌++◌}
use Rattle.jk_language.specs.Spoken.{Spoken}
use Rattle.jk_log.specs.declared.entry.Entry.{Entry}
use Rattle.jk_log.specs.Log.{Log}
use Rattle.jk_log.specs.Legal.{IsLegal}
use Rattle.jk_log.specs.Render.{render}

-- a list that begins with another
abbrev pub StartsWith : List Entry → List Entry → Type 0
StartsWith all first = (rest : List Entry) × (all ≡ first ++ rest)

-- a board is a beginning of what some legal log shows
unfoldable pub IsBoard : {S T : Type 0} → Spoken S T → List Entry → Type 0
IsBoard spoken xs = (log : Log) × IsLegal spoken log × StartsWith (render log) xs
