use Rattle.std.proofs.Common.{List, sym, ◌∙◌, ap, subst}
use Rattle.ob_tree.specs.declared.tree.Cell.{Cell}
use Rattle.ob_tree.specs.declared.tree.Cell.TheVariants as cells
use Rattle.ob_tree.specs.declared.tree.Command.{Command}
use Rattle.ob_link.specs.Looking.{in_store}
use Rattle.ob_cell.specs.Oberon.{IsTreeOf}
use Rattle.ob_cell.specs.Planned.{IsPlanned}
use Rattle.ob_cell.proofs.cell.plan.Goals as goal

pub module_plan-requires-clause-read : goal.module_plan-requires-clause-read
module_plan-requires-clause-read c = (c.requires.read.0, subst (IsTreeOf c.requires.read.0) c.in-Module.is c.requires.read.1)

pub returns-in_ok-commands_plan-in-Commands-clause-found :
    goal.returns-in_ok-commands_plan-in-Commands-clause-found
returns-in_ok-commands_plan-in-Commands-clause-found c = λ store.
    let planned = c.in_ok-commands_plan-in-Commands in
    let same = ap (λ (l : List Command). cells.Commands l) c.as_slice.ensures ∙ sym c.in-Commands.is in
    subst (λ (cell : Cell). IsPlanned (in_store c.args.modules.now store) cell planned.field-0) same (planned.ensures store)
