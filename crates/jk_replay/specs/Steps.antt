-- To be believed.
-- What a line asks for.
use Rattle.std.specs.Prelude.{ℕ, ℤ, pos, negsuc, List, Option, Some, None, Result, Ok, Err, codes, nat_le, if◌then◌else◌}
use Rattle.serde_json.specs.Data.{Data}
use Rattle.serde_json.specs.Find.{get}
use Rattle.json_form.specs.declared.fault.Fault.{Fault}
use Rattle.json_form.specs.declared.fault.Fault.TheVariants.{WrongKind}
use Rattle.json_form.specs.Forms.{◌>>=◌, whole_of, optional, needed}
use Rattle.jp_msg.specs.Reading.{value_at, message_of}
use Rattle.jk_replay.specs.declared.step.Step.{Step}
use Rattle.jk_replay.specs.declared.step.Step.TheVariants as step

-- a number from 0 to a greatest one
abbrev pub number_to : ℕ → ℤ → Result ℕ Fault
number_to most (pos n) = if nat_le n most then Ok n else Err WrongKind
number_to most (negsuc n) = Err WrongKind

-- how many turns a slice may have, and the last seat
abbrev pub max_turns : ℕ
max_turns = 1000000

abbrev pub last_seat : ℕ
last_seat = 7

-- the turns of a slice
unfoldable pub turns_of : Option Data → Result Step Fault
turns_of field = needed whole_of field >>= λ z. number_to max_turns z >>= λ n. Ok (step.Run n)

-- a message, with the seat that sends it
unfoldable pub message_step : Data → Result Step Fault
message_step d =
    message_of d >>= λ m. optional (pos 0) whole_of (get (codes "seat") d) >>= λ z. number_to last_seat z >>= λ seat. Ok (step.Message seat m)

-- a seat that leaves
unfoldable pub leaving_of : Option Data → Result Step Fault
leaving_of field = needed whole_of field >>= λ z. number_to last_seat z >>= λ seat. Ok (step.Leave seat)

abbrev pub step_by : Option Data → Option Data → Data → Result Step Fault
step_by (Some turns) leave d = turns_of (Some turns)
step_by None (Some seat) d = leaving_of (Some seat)
step_by None None d = message_step d

unfoldable pub step_of : Data → Result Step Fault
step_of d = step_by (get (codes "run") d) (get (codes "leave") d) d

-- what a line asks for, or its first fault
unfoldable pub step_at : List ℕ → Result Step Fault
step_at text = value_at text >>= step_of
