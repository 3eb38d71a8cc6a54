-- The state of the code, and that a function of the code does what a piece of a program means.
use Rattle.std.specs.Prelude.{◌≡◌, List, drop, map, Some, None, string_bytes, Result, Ok, Err}
use Rattle.ob_inout.specs.Reading.{Line}
use Rattle.ob_mean.specs.declared.module.Loaded.{Loaded}
use Rattle.ob_mean.specs.Runs.{World, Supply, Run, Goes, Stands, supply}
use Rattle.ob_mean.specs.Expressions.{Scope}
use Rattle.ob_mean.specs.Programs.{scope_at}
use Rattle.ob_reference_store.specs.declared.state.State.{State}
use Rattle.ob_reference_store.specs.declared.state.At.{At}
use Rattle.ob_reference_store.specs.declared.state.GivenLine.{GivenLine}
use Rattle.ob_reference_store.specs.declared.state.GivenLine.TheVariants as given
use Rattle.ob_reference_store.specs.declared.stop.Stop.{Stop}
use Rattle.ob_reference_store.specs.declared.stop.Stop.TheVariants as stop
use Rattle.ob_reference_store.specs.Kept.{value_in}

abbrev pub line_in : GivenLine → Line
line_in (given.Text text) = Some (string_bytes text)
line_in given.Nothing = None

abbrev pub world_in : State → World
world_in s = record { store = value_in s.store; written = string_bytes s.written; input = s.input.input }

abbrev pub supply_in : State → Supply
supply_in s = supply s.turns (map line_in (drop s.used s.lines.items))

abbrev pub scope_in : List Loaded → At → Scope
scope_in program at = scope_at program at.depth at.home at.frame

-- A result and the state after it are what a run gives, seen by `view`, unless there was no answer.
abbrev pub Follows : {X A : Type 0} → (X → A) → Result X Stop → State → Run A → Type 0
Follows view (Ok x) s run = run ≡ Goes (view x) (supply_in s) (world_in s)
Follows view (Err (stop.Stands why)) s run = run ≡ Stands why (supply_in s) (world_in s)
Follows view (Err stop.Unanswered) s run = Unit {0}
