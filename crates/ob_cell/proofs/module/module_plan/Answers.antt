use Rattle.std.proofs.Common.{◌∙◌}
use Rattle.ob_cell.proofs.Adding.{apart_seen}
use Rattle.ob_cell.proofs.Rules.{memory_faults, memory_found}
use Rattle.ob_cell.proofs.module.module_plan.Goals as goal

pub plan_over-requires-clause-loaded : goal.plan_over-requires-clause-loaded
plan_over-requires-clause-loaded c = c.loaded.ensures ∙ apart_seen c.args.modules.now c.args.tree.now.name.name (c.is_apart.ensures c.if-is_apart.true)

pub returns-in_err-loaded-clause-found : goal.returns-in_err-loaded-clause-found
returns-in_err-loaded-clause-found c = memory_found _ c.from_residual.result c.from_residual.ensures.1

pub returns-in_err-loaded-clause-faults : goal.returns-in_err-loaded-clause-faults
returns-in_err-loaded-clause-faults c = memory_faults c.args.modules.now c.args.tree.now c.from_residual.result c.from_residual.ensures.1
