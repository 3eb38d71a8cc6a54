-- To be believed.
-- The readers of In, which ask for lines (after the Oakwood Guidelines).
use Rattle.std.specs.Prelude.{ℕ, pos, List, [], ◌∷◌, Option, Some, None}
use Rattle.ob_inout.specs.declared.answer.Answer.{Answer}
use Rattle.ob_inout.specs.declared.answer.Answer.TheVariants as answer
use Rattle.ob_inout.specs.Reading.{Line, Input, Reading, given, read_char, read_int, read_string, read_name}
use Rattle.ob_mean.specs.declared.outcome.Outcome.TheVariants.{NeedsLine}
use Rattle.ob_mean.specs.declared.outcome.TurnKind.TheVariants.{LineAsked}
use Rattle.ob_mean.specs.declared.statement.Reader.{Reader}
use Rattle.ob_mean.specs.declared.statement.Reader.TheVariants as reader
use Rattle.ob_mean.specs.Values.{Place, Value, Cell, count}
use Rattle.ob_mean.specs.Texts.{text_row}
use Rattle.ob_mean.specs.Runs.{World, Supply, Run, Goes, Stands, supply, spend, with_input, stored}

abbrev pub mapped_answer : {A B : Type 0} → (A → B) → Answer A → Answer B
mapped_answer f (answer.Value a) = answer.Value (f a)
mapped_answer f answer.Failed = answer.Failed
mapped_answer f answer.NeedsLine = answer.NeedsLine

abbrev pub mapped : {A B : Type 0} → (A → B) → Reading A → Reading B
mapped f r = record { answer = mapped_answer f r.answer; input = r.input; lines = r.lines }

-- what a reader finds in the buffer, without a line, for a variable of this value: the value that it gets
abbrev pub finds : Reader → Value → Input → Reading Value
finds reader.Char now input = mapped (λ c. Cell (pos c)) (read_char [] input)
finds reader.Int now input = mapped (λ z. Cell z) (read_int [] input)
finds reader.String now input = mapped (λ text. text_row (count now) text) (read_string (count now) [] input)
finds reader.Name now input = mapped (λ text. text_row (count now) text) (read_name (count now) [] input)

-- a value that was read, or none, or what comes of asking
abbrev pub answered : Answer Value → World → Supply → (World → Run (Option Value)) → Run (Option Value)
answered (answer.Value v) w n ask = Goes (Some v) n w
answered answer.Failed w n ask = Goes None n w
answered answer.NeedsLine w n ask = ask w

-- A reader that finds the buffer empty asks for a line, which is a turn, and reads again: with so many turns and these
-- lines, from this world.
abbrev pub reading : (Input → Reading Value) → ℕ → List Line → World → Run (Option Value)
reading find turns [] w =
    answered (find w.input).answer (with_input w (find w.input).input) (supply turns []) (λ w1.
    spend turns [] LineAsked w1 (λ n. Stands NeedsLine n w1))
reading find turns (line ∷ lines) w =
    answered (find w.input).answer (with_input w (find w.input).input) (supply turns (line ∷ lines)) (λ w1.
    spend turns (line ∷ lines) LineAsked w1 (λ n. reading find n.turns lines (with_input w1 (given line w1.input))))

-- a failed read leaves its variable
abbrev pub kept : World → Place → Option Value → World
kept w p None = w
kept w p (Some v) = stored w p v
