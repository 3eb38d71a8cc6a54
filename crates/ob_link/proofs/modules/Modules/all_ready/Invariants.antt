use Rattle.std.proofs.Common.{◌≡◌, drop}
use Rattle.ob_session.specs.Cells as cells
use Rattle.ob_link.specs.Looking.{storeless}
use Rattle.ob_link.proofs.LookedUp.{ready_behind}
use Rattle.ob_link.proofs.modules.Modules.all_ready.Given as goal

abbrev pub invariant-loop-command : goal.invariant-loop-command
invariant-loop-command l = cells.all_ready (storeless l.self) l.commands ≡ ready_behind l.so_far.items (cells.all_ready (storeless l.self) (drop l.command-index l.commands))
