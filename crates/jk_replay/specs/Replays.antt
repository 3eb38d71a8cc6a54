-- To be believed.
-- What a replay writes for what it reads, and how it ends.
use Rattle.std.specs.Prelude.{true, false, ◌≡◌, ◌≢◌, ℕ, zero, suc, ◌+◌, ◌<◌, ◌≤◌, List, [], ◌∷◌, ◌++◌, length, Option, None, Result, Ok, Err, ◌⊎◌}
use Rattle.std.specs.Str.{IsUtf8}
use Rattle.std.specs.Io.KnownBytes.{IsAtEnd}
use Rattle.json_form.specs.declared.fault.Fault.{Fault}
use Rattle.json_form.specs.declared.fault.Fault.TheVariants.{NotJson, TooLong}
use Rattle.json_form.specs.Forms.{◌>>=◌}
use Rattle.jk_language.specs.Spoken.{Spoken}
use Rattle.jk_log.specs.Legal.{IsLegal}
use Rattle.jk_log.specs.Log.{running}
use Rattle.jk_log.specs.Render.{render}
use Rattle.jk_core.specs.State.{KernelState, fresh}
use Rattle.jk_core.specs.Steps.{FirstUnread, IsAsking, is_at_rest}
use Rattle.jk_replay.specs.declared.input.Line.{Line}
use Rattle.jk_replay.specs.declared.input.Line.TheVariants as taken
use Rattle.jk_replay.specs.declared.replay.End.{End}
use Rattle.jk_replay.specs.declared.replay.End.TheVariants.{Rest, WorkLeft}
use Rattle.jk_replay.specs.declared.replay.ReplayFault.{ReplayFault}
use Rattle.jk_replay.specs.declared.replay.ReplayFault.TheVariants as replay_fault
use Rattle.jk_replay.specs.declared.replay.Side.TheVariants.{Input, Output}
use Rattle.jk_replay.specs.declared.step.Step.{Step}
use Rattle.jk_replay.specs.declared.step.Step.TheVariants as step
use Rattle.jk_replay.specs.Held.{IsLeftOver}
use Rattle.jk_replay.specs.Lines.{max_line, IsOneLine, TakesLine}
use Rattle.jk_replay.specs.Steps.{step_at}
use Rattle.jk_replay.specs.Shown.{entry_lines}
use Rattle.jk_replay.specs.Replaying.{ReplayState, StepDone, admitted, opening_of}

-- how many slices are worked after the last line, and how many turns each has
abbrev pub last_slices : ℕ
last_slices = 1000

abbrev pub last_turns : ℕ
last_turns = 1000

-- before the first line
abbrev pub opening : {T : Type 0} → ReplayState T
opening = opening_of fresh

-- lines, each with its end
abbrev pub with_ends : List (List ℕ) → List ℕ
with_ends [] = []
with_ends (line ∷ lines) = line ++ 10 ∷ with_ends lines

-- What a line asks for, or its first fault, by what stands before it. What is too long is not looked at, and what is no
-- UTF-8 is no JSON.
pub record AsksFor {T : Type 0} (s : ReplayState T) (line : List ℕ) (asked : Result Step Fault) : Type 0 where
  pub long : max_line < length line → asked ≡ Err TooLong
  pub text : length line ≤ max_line → IsUtf8 line → asked ≡ (step_at line >>= admitted s)
  pub other : length line ≤ max_line → (IsUtf8 line → ⊥) → asked ≡ Err NotJson

-- what a line does, and the lines that it shows. An empty one does nothing
abbrev pub LineDone : {S T : Type 0} → Spoken S T → List ℕ → ReplayState T → ReplayState T → List ℕ → Type 0
LineDone spoken [] old new text = (new ≡ old) × (text ≡ [])
LineDone spoken (c ∷ cs) old new text = (step : Step) × AsksFor old (c ∷ cs) (Ok step) × StepDone spoken step old new text

-- what lines do, one after another
abbrev pub LinesDone : {S T : Type 0} → Spoken S T → List (List ℕ) → ReplayState T → ReplayState T → List ℕ → Type 0
LinesDone spoken [] old new text = (new ≡ old) × (text ≡ [])
LinesDone {T = T} spoken (line ∷ lines) old new text =
    (mid : ReplayState T) × (first rest : List ℕ)
    × IsOneLine line × LineDone spoken line old mid first × LinesDone spoken lines mid new rest × (text ≡ first ++ rest)

-- so many slices after the last line, each as a line would ask for it
abbrev pub SlicesDone : {S T : Type 0} → Spoken S T → ℕ → ReplayState T → ReplayState T → List ℕ → Type 0
SlicesDone spoken zero old new text = (new ≡ old) × (text ≡ [])
SlicesDone {T = T} spoken (suc n) old new text =
    (mid : ReplayState T) × (first rest : List ℕ)
    × SlicesDone spoken n old mid first × StepDone spoken (step.Run last_turns) mid new rest × (text ≡ first ++ rest)

-- no cell runs, and no request waits; or a cell runs or asks, or a request waits
abbrev pub EndIs : {T : Type 0} → End → KernelState T → Type 0
EndIs Rest k = is_at_rest k ≡ true
EndIs WorkLeft k = is_at_rest k ≡ false

-- no slice would do anything: nothing waits, or the text that is first was not read, or the cell that runs asks for a line
abbrev pub HasStopped : {T : Type 0} → KernelState T → Type 0
HasStopped k = ((running k.log ≡ None) × ((k.waits ≡ []) ⊎ FirstUnread k.waits)) ⊎ IsAsking k.log

-- The first lines of the input lead here, and this text is what they show: the entries of a legal log that go to all or
-- to a seat.
pub record Reaches {S T : Type 0} (spoken : Spoken S T) (input : List ℕ) (lines : List (List ℕ)) (rest : List ℕ) (state : ReplayState T) (text : List ℕ) : Type 0 where
  pub split : input ≡ with_ends lines ++ rest
  pub done : LinesDone spoken lines opening state text
  pub legal : IsLegal spoken state.kernel.log
  pub rendered : text ≡ entry_lines (render state.kernel.log)

-- all lines of the input, and so many slices after them, lead here, and this text is what they show
pub record Finishes {S T : Type 0} (spoken : Spoken S T) (input : List ℕ) (left : Option (List ℕ)) (slices : ℕ) (state : ReplayState T) (text : List ℕ) : Type 0 where
  pub lines : List (List ℕ)
  pub last : List ℕ
  pub split : input ≡ with_ends lines ++ last
  pub over : IsAtEnd left
  pub behind : ReplayState T
  pub of_lines : List ℕ
  pub of_slices : List ℕ
  pub done : LinesDone spoken (lines ++ last ∷ []) opening behind of_lines
  pub few : slices ≤ last_slices
  pub sliced : SlicesDone spoken slices behind state of_slices
  pub whole : text ≡ of_lines ++ of_slices
  pub legal : IsLegal spoken state.kernel.log
  pub rendered : text ≡ entry_lines (render state.kernel.log)

-- what is shown at some point of a replay
abbrev pub Shows : {S T : Type 0} → Spoken S T → List ℕ → Option (List ℕ) → List ℕ → Type 0
Shows {T = T} spoken input left text =
    ((lines : List (List ℕ)) × (rest : List ℕ) × (state : ReplayState T) × Reaches spoken input lines rest state text)
    ⊎ ((slices : ℕ) × (state : ReplayState T) × Finishes spoken input left slices state text)

-- the next line is refused for this fault
abbrev pub IsRefused : {T : Type 0} → ReplayState T → Line → Fault → Type 0
IsRefused s (taken.Ended line) fault = (line.items ≢ []) × AsksFor s line.items (Err fault)
IsRefused s (taken.Last line) fault = (line.items ≢ []) × AsksFor s line.items (Err fault)
IsRefused s taken.Long fault = fault ≡ TooLong

-- What is written for an input, with what is left of it, by how the replay ends. At the end the kernel rests or not. At
-- a line that is refused, the lines before it took effect, and where the input failed all lines that came whole. For want
-- of memory it is what some point shows, and where the output failed a beginning of that.
abbrev pub Replays : {S T : Type 0} → Spoken S T → List ℕ → Option (List ℕ) → List ℕ → Result End ReplayFault → Type 0
Replays {T = T} spoken input left written (Ok end) =
    (slices : ℕ) × (state : ReplayState T) × Finishes spoken input left slices state written
    × EndIs end state.kernel × ((slices ≡ last_slices) ⊎ HasStopped state.kernel)
Replays {T = T} spoken input left written (Err (replay_fault.Line number fault)) =
    (lines : List (List ℕ)) × (rest : List ℕ) × (state : ReplayState T) × Reaches spoken input lines rest state written
    × (number ≡ length lines + 1)
    × ((line : Line) × (held : List ℕ) × TakesLine rest line held left × IsRefused state line fault)
Replays spoken input left written (Err replay_fault.Memory) = Shows spoken input left written
Replays {T = T} spoken input left written (Err (replay_fault.Device Input)) =
    (lines : List (List ℕ)) × (rest : List ℕ) × (state : ReplayState T) × Reaches spoken input lines rest state written
    × IsLeftOver (length input) rest
Replays spoken input left written (Err (replay_fault.Device Output)) = (more : List ℕ) × Shows spoken input left (written ++ more)
