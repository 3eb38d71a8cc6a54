-- What In finds in its buffer, and the lines that it is given.
use Rattle.std.specs.Prelude.{◌≡◌, [], ◌∷◌, Bool, true, false}
use Rattle.ob_inout.specs.declared.answer.Answer.{Answer}
use Rattle.ob_inout.specs.Reading.{Line, Input, Reading, given}
use Rattle.ob_mean.specs.Values.{Value}
use Rattle.ob_mean.specs.Runs.{with_input}
use Rattle.ob_mean.specs.Input.{mapped_answer}
use Rattle.ob_reference_store.specs.declared.state.State.{State}
use Rattle.ob_reference_store.specs.declared.value.Value as declared
use Rattle.ob_reference_store.specs.Kept.{value_in}
use Rattle.ob_reference_store.specs.States.{supply_in, world_in}

-- what a reader answers, and the buffer after it
pub record Finds (find : Input → Reading Value) (a : Answer declared.Value) (old new : State) : Type 0 where
  pub answer : (find old.input.input).answer ≡ mapped_answer value_in a
  pub world : world_in new ≡ with_input (world_in old) (find old.input.input).input
  pub supply : supply_in new ≡ supply_in old

-- the buffer has the next line, and so has the supply one less; or there is none
abbrev pub GivesLine : Bool → State → State → Type 0
GivesLine true old new = (line : Line) × ((supply_in old).lines ≡ line ∷ (supply_in new).lines) × (new.turns ≡ old.turns) × (world_in new ≡ with_input (world_in old) (given line old.input.input))
GivesLine false old new = ((supply_in old).lines ≡ []) × (new ≡ old)
