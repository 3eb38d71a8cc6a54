use Rattle.std.proofs.Common.{map, refl, sym, ◌∙◌, ap}
use Rattle.ob_session.specs.Cells.{OfCommands, all_ready}
use Rattle.ob_cell.specs.Texts as meaning
use Rattle.ob_link.specs.Looking.{in_store, ready_seen}
use Rattle.ob_cell.proofs.command.commands_plan.Goals as goal

pub returns : goal.returns
returns c = λ store.
    let s = in_store c.args.modules.now store in
    let named = c.as_slice.ensures.value ∙ c.in_ok-names.ensures in
    (OfCommands (map meaning.command_of c.args.commands.now), refl, ap (all_ready s) (sym named) ∙ sym (c.in_ok-commands.ensures store) ∙ ap ready_seen c.in-Faulty.is)
