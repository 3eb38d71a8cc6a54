use Rattle.std.proofs.Common.{take}
use Rattle.ob_load.specs.Commanded.{AreCalled}
use Rattle.ob_load.proofs.commands.all_calls.Given as goal

abbrev pub invariant-loop-command : goal.invariant-loop-command
invariant-loop-command l = AreCalled l.modules (take l.command-index l.commands) l.homes.items l.calls.items
