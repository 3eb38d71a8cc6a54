-- To be believed.
-- Lines of input. A line ends with U+000A or with the input.
use Rattle.std.specs.Prelude.{◌≡◌, ◌≢◌, ℕ, ◌<◌, List, [], ◌∷◌, ◌++◌, length, Option}
use Rattle.std.specs.Io.KnownBytes.{IsAtEnd}
use Rattle.jk_replay.specs.declared.input.Line.{Line}
use Rattle.jk_replay.specs.declared.input.Line.TheVariants.{Ended, Last, Long}

-- how many bytes a line may have
abbrev pub max_line : ℕ
max_line = 1048576

-- no line ends in these bytes
abbrev pub IsOneLine : List ℕ → Type 0
IsOneLine [] = Unit {0}
IsOneLine (c ∷ cs) = (c ≢ 10) × IsOneLine cs

-- of bytes, the next line and what is held after it; or the last line, after which the input ends; or a line that is
-- too long, whatever follows
abbrev pub TakesLine : List ℕ → Line → List ℕ → Option (List ℕ) → Type 0
TakesLine bytes (Ended line) held left = (bytes ≡ line.items ++ 10 ∷ held) × IsOneLine line.items
TakesLine bytes (Last line) held left = (bytes ≡ line.items) × IsOneLine line.items × IsAtEnd left
TakesLine bytes Long held left = (bytes ≡ held) × IsOneLine held × (max_line < length held)
