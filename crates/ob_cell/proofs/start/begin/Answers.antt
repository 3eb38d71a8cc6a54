use Rattle.std.proofs.Common.{refl, ap, ◌∙◌}
use Rattle.ob_base.specs.declared.fault.Fault as base_fault
use Rattle.ob_base.specs.declared.fault.Refused.TheVariants as refused
use Rattle.ob_cell.specs.declared.planned.Plan.TheVariants as plan
use Rattle.ob_cell.specs.Codes.{code_number}
use Rattle.ob_cell.proofs.Beginning.{planned_in, refused_in, fresh_module, fresh_commands, refused_link, refused_rule}
use Rattle.ob_cell.proofs.start.begin.Goals as goal

pub begin_module-requires : goal.begin_module-requires
begin_module-requires c =
    (planned_in c.args.session c.args.tree.now c.cell.result.now c.modules.result.now _ (plan.Module c.in-Ok-Module.planned) c.modules.ensures.value c.cell.ensures.value c.in-Ok-Module.field-0-is c.in-Ok-Module.ensures.found).1

pub run_commands-requires : goal.run_commands-requires
run_commands-requires c =
    let p = planned_in c.args.session c.args.tree.now c.cell.result.now c.modules.result.now _ (plan.Commands c.in-Ok-Commands.commands) c.modules.ensures.value c.cell.ensures.value c.in-Ok-Commands.field-0-is c.in-Ok-Commands.ensures.found in (p.0, p.2)

pub returns-in-Ok-Module-clause-begun : goal.returns-in-Ok-Module-clause-begun
returns-in-Ok-Module-clause-begun c = λ text is.
    fresh_module c.args.session text c.args.tree.now c.in-Ok-Module.planned _ is
    (planned_in c.args.session c.args.tree.now c.cell.result.now c.modules.result.now _ (plan.Module c.in-Ok-Module.planned) c.modules.ensures.value c.cell.ensures.value c.in-Ok-Module.field-0-is c.in-Ok-Module.ensures.found)
    c.in_ok-begin_module-in-Ok-Module.ensures.begun

pub returns-in-Ok-Commands-clause-begun : goal.returns-in-Ok-Commands-clause-begun
returns-in-Ok-Commands-clause-begun c = λ text is.
    fresh_commands c.args.session text c.args.tree.now c.in-Ok-Commands.commands _ is
    (planned_in c.args.session c.args.tree.now c.cell.result.now c.modules.result.now _ (plan.Commands c.in-Ok-Commands.commands) c.modules.ensures.value c.cell.ensures.value c.in-Ok-Commands.field-0-is c.in-Ok-Commands.ensures.found)
    c.in_ok-run_commands-in-Ok-Commands.ensures.begun

pub returns-in-Ok-clause-begun : goal.returns-in-Ok-clause-begun
returns-in-Ok-clause-begun c = λ text is. (
  refl,
  refused_link c.args.session text c.args.tree.now c.in-Ok-Unlinked.fault c.in-Ok.fault is
      (planned_in c.args.session c.args.tree.now c.cell.result.now c.modules.result.now _ (plan.Unlinked c.in-Ok-Unlinked.fault) c.modules.ensures.value c.cell.ensures.value c.in-Ok-Unlinked.field-0-is c.in-Ok-Unlinked.ensures.found)
      c.in-Ok.ensures,
)

pub returns-in-Err-Fault-clause-begun : goal.returns-in-Err-Fault-clause-begun
returns-in-Err-Fault-clause-begun c = λ text is. (
  refl,
  refused_rule c.args.session text c.args.tree.now c.in-Err-Fault.fault c.numbered.result is
      (refused_in c.args.session c.args.tree.now c.cell.result.now c.modules.result.now _ (refused.Fault c.in-Err-Fault.fault) c.modules.ensures.value c.cell.ensures.value c.in-Err-Fault.field-0-is c.in-Err-Fault.ensures.faults)
      (c.numbered.ensures ∙ ap (λ (f : base_fault.Fault). code_number f.code) c.in-Err-Fault.fault-is),
)
