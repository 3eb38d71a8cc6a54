-- What ties a session, and a machine that runs in it, to their code.
use Rattle.std.specs.Prelude.{◌≡◌, ℕ, ◌<◌, ◌≤◌, Bool, true, List, [], ◌++◌, length, take}
use Rattle.ob_inout.specs.Reading.{Line}
use Rattle.ob_mean.specs.Runs.{supply}
use Rattle.ob_mean.specs.Values.{Value}
use Rattle.ob_mean.specs.Programs.{world_before}
use Rattle.ob_code.specs.Linked.{all_cells, runs_of}
use Rattle.ob_code.specs.Machine.{Config, Going, Comes, start, picture}
use Rattle.ob_gen.specs.Correct.{Follows, MayBegin}
use Rattle.ob_vm.specs.Images.{ImageState, MachineState, IsOf, AsksFor, machine_config}
use Rattle.ob_session.specs.Session.{Module, program_of}
use Rattle.ob_link.specs.Modules.{AllSolid, AllDistinct}
use Rattle.ob_image.specs.Compiled.{Known, AreCompiled, runs_in}
use Rattle.ob_load.specs.Known.{AreSaid}
use Rattle.ob_load.specs.declared.task.Task.{Task}
use Rattle.ob_load.specs.Tasks.{task_meaning, home_of}
use Rattle.ob_load.specs.Words.{AllWords}

-- the same with this text written before
abbrev pub prefixed : List ℕ → Config → Config
prefixed text c = record { at = c.at; stack = c.stack; names = c.names; frames = c.frames; memory = record { cells = c.memory.cells; written = text ++ c.memory.written; input = c.memory.input } }

-- what is asked of the modules that are loaded where one more is checked: each array of a type that they export has elements,
-- no two of them have one name, and the names that they export are words
abbrev pub AreCheckable : List Module → Type 0
AreCheckable modules = AllSolid modules × AllDistinct modules × AllWords modules

-- between cells there is the code of the modules alone
pub record IsKept (modules : List Module) (known : List Known) (i : ImageState) : Type 0 where
  pub compiled : AreCompiled modules known i.code
  pub runs : (n : ℕ) → runs_of i.may_run n ≡ runs_in modules n
  pub flags : length i.may_run ≡ length modules
  pub cells : length i.cells ≡ all_cells i.code
  pub checkable : AreCheckable modules
  pub said : AreSaid modules known

-- after it the code of commands may stand, which has no cells
pub record IsHeld (modules : List Module) (known : List Known) (i : ImageState) : Type 0 where
  pub compiled : AreCompiled modules known (take (length modules) i.code)
  pub runs : (n : ℕ) → n < length modules → runs_of i.may_run n ≡ runs_in modules n
  pub flags : length modules ≤ length i.may_run
  pub sized : all_cells i.code ≡ all_cells (take (length modules) i.code)
  pub checkable : AreCheckable modules
  pub said : AreSaid modules known

-- before the first turn
abbrev pub opens : List Module → Value → Task → ImageState → Config
opens modules store task i = start i.code (home_of modules task) (picture (world_before store))

-- a machine in its run, with these lines
pub record IsRunning (modules : List Module) (store : Value) (task : Task) (lines : List Line) (i : ImageState) (m : MachineState) (asks : Bool) : Type 0 where
  -- the machine is one of this code, and the code does what the task means
  pub fits : IsOf i m
  pub follows : Follows (program_of modules) i.code (task_meaning (program_of modules) task) (λ w. start i.code (home_of modules task) (picture w))
  pub begins : MayBegin (program_of modules) (world_before store)
  -- the turns and the lines so far have led to where the machine stands, if the text that was taken is put before what it wrote
  -- since
  pub taken : List ℕ
  pub comes : Comes i.code (Going (supply m.used lines) (opens modules store task i)) (Going (supply 0 []) (prefixed taken (machine_config i m)))
  -- where it asks for a line, one is what comes next
  pub asking : asks ≡ true → AsksFor i m
