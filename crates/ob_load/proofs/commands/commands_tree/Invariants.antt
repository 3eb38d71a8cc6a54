use Rattle.std.proofs.Common.{◌≡◌, take}
use Rattle.ob_image.specs.CommandsCode.{calls_body}
use Rattle.ob_load.proofs.commands.commands_tree.Given as goal

abbrev pub invariant-loop-call : goal.invariant-loop-call
invariant-loop-call l = l.body ≡ calls_body (take l.call-index l.calls)
