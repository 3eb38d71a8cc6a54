use Rattle.std.proofs.Common.{◌≡◌, map, take}
use Rattle.ob_cell.specs.Texts.{command_of}
use Rattle.ob_cell.proofs.command.names_of.Given as goal

abbrev pub invariant-loop-command : goal.invariant-loop-command
invariant-loop-command l = l.names.items ≡ map command_of (take l.command-index l.commands)
