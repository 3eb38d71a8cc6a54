use Rattle.std.proofs.Common.{rules, ◌≡◌, Some, slice_index, ◌∙◌}
use Rattle.ob_session.specs.Cells as cells
use Rattle.ob_link.proofs.LookedUp.{looked_there}
use Rattle.ob_link.proofs.modules.Modules.looked_inside.Goals as goal

pub returns-in_ok-fault-in-Some : goal.returns-in_ok-fault-in-Some
returns-in_ok-fault-in-Some c =
    let found = c.args.found.now in
    let placed : cells.command_place found.interface.exports c.args.name.now 0 ≡ Some c.in-Some.place = search rules in
    let numbered : c.procedure_at.result ≡ slice_index found.tree.exported c.in-Some.place = search rules in
    c.linked.ensures
    ∙ looked_there c.args.self.now (record { home = c.args.home.now; name = c.args.name.now }) found c.in-Some.place c.place_of-number.result c.procedure_at.result c.in_ok-fault-in-Some.fault c.new-command.result
    placed c.place_of-number.ensures numbered c.in_ok-fault-in-Some.ensures c.new-command.ensures
