-- To be believed.
-- What of the input is held: read and not handed out yet.
use Rattle.std.specs.Prelude.{◌≡◌, ℕ, ◌+◌, ◌<◌, ◌≤◌, Bool, true, false, List, [], ◌++◌, length, Option, Result, Ok, Err, ◌⊎◌}
use Rattle.std.specs.Io.KnownBytes.{Consumes, IsAtEnd}
use Rattle.jk_replay.specs.declared.input.InputFault.{InputFault}
use Rattle.jk_replay.specs.declared.input.InputFault.TheVariants.{Device, Memory}
use Rattle.jk_replay.specs.Lines.{IsOneLine}

pub record InputState : Type 0 where
  pub held : List ℕ
  -- how many bytes were read in all
  pub taken : ℕ

-- how many bytes of input are read at most: one more than there may be, to find that it is too long
abbrev pub most_input : ℕ
most_input = 67108865

-- these bytes came from the reader, and are counted
pub record Comes (before after : Option (List ℕ)) (old new : InputState) (came : List ℕ) : Type 0 where
  pub consumes : Consumes before after came
  pub counted : new.taken ≡ old.taken + length came
  pub within : old.taken ≤ most_input → new.taken ≤ most_input

-- nothing came; or the input is too long, and its last byte came and is not held
abbrev pub IsPast : ℕ → List ℕ → Type 0
IsPast taken came = (came ≡ []) ⊎ ((taken ≡ most_input) × (length came ≡ 1))

-- more is held, or the input is at its end, or reading failed
abbrev pub Refills : Option (List ℕ) → InputState → InputState → List ℕ → Result Bool InputFault → Type 0
Refills after old new came (Ok true) = (new.held ≡ old.held ++ came) × (0 < length came)
Refills after old new came (Ok false) = (new.held ≡ old.held) × (came ≡ []) × IsAtEnd after
Refills after old new came (Err Memory) = Unit {0}
Refills after old new came (Err Device) = IsPast new.taken came

-- What was not handed out where reading failed: no line ends in it. Of an input that is too long the last byte is not
-- looked at.
pub record IsLeftOver (taken : ℕ) (rest : List ℕ) : Type 0 where
  pub held : List ℕ
  pub past : List ℕ
  pub split : rest ≡ held ++ past
  pub unended : IsOneLine held
  pub last : IsPast taken past

abbrev pub LeavesOver : InputFault → ℕ → List ℕ → Type 0
LeavesOver Memory taken rest = Unit {0}
LeavesOver Device taken rest = IsLeftOver taken rest
