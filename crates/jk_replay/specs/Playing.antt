-- What is written on the way, at each line and each slice.
use Rattle.std.specs.Prelude.{◌≡◌, ◌≢◌, ℕ, ◌≤◌, List, [], ◌++◌, Result, Ok, Err, ◌⊎◌}
use Rattle.jk_language.specs.Spoken.{Spoken}
use Rattle.jk_core.specs.declared.kernel.Work.{Work}
use Rattle.jk_replay.specs.declared.input.InputFault.{InputFault}
use Rattle.jk_replay.specs.declared.input.InputFault.TheVariants as input_fault
use Rattle.jk_replay.specs.declared.replay.End.{End}
use Rattle.jk_replay.specs.declared.replay.ReplayFault.{ReplayFault}
use Rattle.jk_replay.specs.declared.replay.ReplayFault.TheVariants.{Line, Memory, Device}
use Rattle.jk_replay.specs.declared.replay.Side.TheVariants.{Input, Output}
use Rattle.jk_replay.specs.Replaying.{ReplayState, IsSliced}
use Rattle.jk_replay.specs.Replays.{AsksFor, LineDone, SlicesDone, EndIs, HasStopped, last_slices, last_turns}

-- a fault of the input, as one of the replay
abbrev pub of_input : InputFault → ReplayFault
of_input input_fault.Device = Device Input
of_input input_fault.Memory = Memory

-- what was written of a line: all that it shows, nothing, or where the writer failed a front
abbrev pub LinePlayed : {S T : Type 0} → Spoken S T → List ℕ → ℕ → ReplayState T → ReplayState T → List ℕ → Result (Unit {0}) ReplayFault → Type 0
LinePlayed spoken line number old new front (Ok u) = LineDone spoken line old new front
LinePlayed spoken line number old new front (Err (Line k fault)) =
    (k ≡ number) × (line ≢ []) × AsksFor old line (Err fault) × (front ≡ [])
LinePlayed spoken line number old new front (Err Memory) = front ≡ []
LinePlayed spoken line number old new front (Err (Device Input)) = ⊥
LinePlayed {T = T} spoken line number old new front (Err (Device Output)) =
    (mid : ReplayState T) × (back : List ℕ) × LineDone spoken line old mid (front ++ back)

-- what a slice comes to, with what was written of it
abbrev pub SlicePlayed : {S T : Type 0} → Spoken S T → ReplayState T → ReplayState T → List ℕ → Result Work ReplayFault → Type 0
SlicePlayed spoken old new front (Ok answer) = IsSliced spoken last_turns old answer new front
SlicePlayed spoken old new front (Err (Line k fault)) = ⊥
SlicePlayed spoken old new front (Err Memory) = front ≡ []
SlicePlayed spoken old new front (Err (Device Input)) = ⊥
SlicePlayed {T = T} spoken old new front (Err (Device Output)) =
    (answer : Work) × (mid : ReplayState T) × (back : List ℕ) × IsSliced spoken last_turns old answer mid (front ++ back)

-- so many slices, at most those after the last line, show this text
pub record SomeSlices {S T : Type 0} (spoken : Spoken S T) (old new : ReplayState T) (slices : ℕ) (text : List ℕ) : Type 0 where
  pub few : slices ≤ last_slices
  pub sliced : SlicesDone spoken slices old new text

-- what was written of the slices after the last line
abbrev pub SlicesPlayed : {S T : Type 0} → Spoken S T → ReplayState T → List ℕ → Result End ReplayFault → Type 0
SlicesPlayed {T = T} spoken old front (Ok end) =
    (slices : ℕ) × (new : ReplayState T) × SomeSlices spoken old new slices front
    × EndIs end new.kernel × ((slices ≡ last_slices) ⊎ HasStopped new.kernel)
SlicesPlayed spoken old front (Err (Line k fault)) = ⊥
SlicesPlayed {T = T} spoken old front (Err Memory) = (slices : ℕ) × (new : ReplayState T) × SomeSlices spoken old new slices front
SlicesPlayed spoken old front (Err (Device Input)) = ⊥
SlicesPlayed {T = T} spoken old front (Err (Device Output)) =
    (slices : ℕ) × (new : ReplayState T) × (back : List ℕ) × SomeSlices spoken old new slices (front ++ back)
