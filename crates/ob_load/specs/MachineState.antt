-- What a machine stands at.
use Rattle.std.specs.Prelude.{ℕ, ◌-◌, Bool, false, List, [], length}
use Rattle.ob_inout.specs.Reading.{Line}
use Rattle.ob_mean.specs.Values.{Value}
use Rattle.ob_vm.specs.Images as vm
use Rattle.ob_session.specs.Session.{Session, Module}
use Rattle.jk_language.specs.MachineState as kernel
use Rattle.ob_load.specs.declared.task.Task.{Task}
use Rattle.ob_load.specs.Parts.{told}
use Rattle.ob_load.specs.Tasks.{task_run}

pub record MachineState : Type 0 where
  -- the modules and their variables when it was begun, and what it runs
  pub modules : List Module
  pub store : Value
  pub task : Task
  -- the lines that it was given
  pub lines : List Line
  -- the turns so far, and the length of the output that was taken
  pub turns : ℕ
  pub shown : ℕ
  -- whether it told that it needs a line, and was given none since
  pub asks : Bool
  -- whether the end was told
  pub over : Bool

-- before the first turn of a task in a session
abbrev pub begun_in : Session → Task → MachineState
begun_in s task = record { modules = s.modules; store = s.store; task = task; lines = []; turns = 0; shown = 0; asks = false; over = false }

-- as a kernel sees it: what it comes to is what its task means
abbrev pub state_of : MachineState → kernel.MachineState Session
state_of m = record {
  goes = λ lines n. told (task_run m.modules m.store m.task lines n);
  lines = m.lines;
  turns = m.turns;
  shown = m.shown;
  asks = m.asks;
  over = m.over;
}

-- the output at so many turns
abbrev pub output_at : List Module → Value → Task → List Line → ℕ → List ℕ
output_at modules store task lines n = (task_run modules store task lines n).output

-- over a machine of code: of its output, what it has not written since it was taken last was taken
abbrev pub stands_at : List Module → Value → Task → List Line → vm.MachineState → Bool → Bool → MachineState
stands_at modules store task lines m asks over = record {
  modules = modules;
  store = store;
  task = task;
  lines = lines;
  turns = m.used;
  shown = length (output_at modules store task lines m.used) - length m.written;
  asks = asks;
  over = over;
}
