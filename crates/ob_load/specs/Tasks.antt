-- What a machine runs in a session: the body of a module, or commands.
use Rattle.std.specs.Prelude.{ℕ, List, length}
use Rattle.ob_inout.specs.Reading.{Line}
use Rattle.ob_mean.specs.Runs as runs
use Rattle.ob_mean.specs.Runs.{supply, Done}
use Rattle.ob_mean.specs.Values.{Value}
use Rattle.ob_mean.specs.Programs.{Program, body_meaning, commands_meaning, world_before}
use Rattle.ob_session.specs.Session.{Module, program_of}
use Rattle.ob_session.specs.Cells.{CellMeaning, ran}
use Rattle.ob_load.specs.declared.task.Task.{Task}
use Rattle.ob_load.specs.declared.task.Task.TheVariants.{Body, Commands}

abbrev pub task_meaning : Program → Task → runs.Piece Done
task_meaning program (Body home) n w = body_meaning program home n w
task_meaning program (Commands cs) n w = commands_meaning program cs.items n w

-- where its code stands: that of commands after the modules
abbrev pub home_of : List Module → Task → ℕ
home_of modules (Body home) = home
home_of modules (Commands cs) = length modules

-- what a task has come to, over these modules and variables, with these lines, in n turns
unfoldable pub task_run : List Module → Value → Task → List Line → ℕ → CellMeaning
task_run modules store task lines n =
    ran modules (supply n lines) (task_meaning (program_of modules) task (supply n lines) (world_before store))
