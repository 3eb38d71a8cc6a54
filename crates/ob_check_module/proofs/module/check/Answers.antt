use Rattle.ob_check_scope.specs.Rule.{answer}
use Rattle.ob_check_module.specs.Modules as spec
use Rattle.ob_check_module.proofs.Answering as answering
use Rattle.ob_check_module.proofs.module.check.Goals as goal

pub returns-clause-found : goal.returns-clause-found
returns-clause-found c =
    let rules = spec.module_at c.args.imports.now c.args.tree.now in
    answering.found rules c.told_of.result (answering.answers rules c.module_of.result c.told_of.result c.module_of.ensures c.told_of.ensures)

pub returns-clause-only : goal.returns-clause-only
returns-clause-only c =
    let rules = spec.module_at c.args.imports.now c.args.tree.now in
    answering.only rules c.told_of.result (answering.answers rules c.module_of.result c.told_of.result c.module_of.ensures c.told_of.ensures)

pub returns-clause-faults : goal.returns-clause-faults
returns-clause-faults c =
    let rules = spec.module_at c.args.imports.now c.args.tree.now in
    answering.faults rules c.told_of.result (answering.answers rules c.module_of.result c.told_of.result c.module_of.ensures c.told_of.ensures)

pub returns-clause-answer : goal.returns-clause-answer
returns-clause-answer c =
    let rules = spec.module_at c.args.imports.now c.args.tree.now in
    answering.answers rules c.module_of.result c.told_of.result c.module_of.ensures c.told_of.ensures

pub returns-clause-codes : goal.returns-clause-codes
returns-clause-codes c =
    let rules = spec.module_at c.args.imports.now c.args.tree.now in
    answering.codes (answer rules) c.told_of.result (answering.answers rules c.module_of.result c.told_of.result c.module_of.ensures c.told_of.ensures)
