-- What the reference answers.
use Rattle.std.specs.Prelude.{◌≡◌, drop, map, string_bytes}
use Rattle.ob_inout.specs.Reading.{Input}
use Rattle.ob_mean.specs.Runs.{Run, Stands, Done, supply}
use Rattle.ob_mean.specs.Programs as programs
use Rattle.ob_reference.specs.declared.reference.Ran.{Ran}
use Rattle.ob_reference.specs.declared.reference.Command.{Command}
use Rattle.ob_reference_store.specs.Kept.{value_in}
use Rattle.ob_reference_store.specs.States.{line_in}

abbrev pub command_in : Command → programs.Command
command_in c = record { home = c.home; procedure = c.procedure }

-- The run stands with this outcome, these turns and lines left, this text written and these variables.
abbrev pub Says : Run Done → Ran → Type 0
Says run ran = (input : Input) × (run ≡ Stands ran.outcome (supply ran.turns (map line_in (drop ran.used ran.lines.items))) (record { store = value_in ran.store; written = string_bytes ran.output; input = input }))
