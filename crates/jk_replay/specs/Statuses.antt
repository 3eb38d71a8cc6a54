-- To be believed.
-- The statuses that the program ends with, and what it tells on its standard error.
use Rattle.std.specs.Prelude.{◌≡◌, ℕ, List, [], ◌++◌, Option, Result, Ok, Err, ◌⊎◌, codes, decimal}
use Rattle.std.specs.Io.KnownBytes.{Appends}
use Rattle.jp_msg.specs.Reading.{fault_number}
use Rattle.jk_replay.specs.declared.replay.End.{End}
use Rattle.jk_replay.specs.declared.replay.End.TheVariants.{Rest, WorkLeft}
use Rattle.jk_replay.specs.declared.replay.ReplayFault.{ReplayFault}
use Rattle.jk_replay.specs.declared.replay.ReplayFault.TheVariants.{Line, Memory, Device}

abbrev pub status_of : Result End ReplayFault → ℕ
status_of (Ok Rest) = 0
status_of (Ok WorkLeft) = 3
status_of (Err (Line number fault)) = 1
status_of (Err Memory) = 2
status_of (Err (Device side)) = 4

abbrev pub told_of : Result End ReplayFault → List ℕ
told_of (Ok Rest) = []
told_of (Ok WorkLeft) = codes "work left\n"
told_of (Err (Line number fault)) = codes "line " ++ decimal number ++ codes ": bad " ++ decimal (fault_number fault) ++ codes "\n"
told_of (Err Memory) = codes "out of memory\n"
told_of (Err (Device side)) = codes "device failed\n"

abbrev pub usage : List ℕ
usage = codes "usage: jupyter_oberon replay | serve PORT ROOT\n"

-- a text was told, and the program ends with this status; or the text could not be told, and the device that failed is
-- that of the standard error
abbrev pub Tells : Option (List ℕ) → Option (List ℕ) → List ℕ → ℕ → ℕ → Type 0
Tells before after text status ended = (Appends before after text × (ended ≡ status)) ⊎ (ended ≡ 4)
