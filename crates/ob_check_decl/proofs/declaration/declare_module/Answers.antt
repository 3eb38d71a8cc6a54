use Rattle.ob_check_decl.specs.Declarations as spec
use Rattle.ob_check_scope.proofs.Exact.{judged_found, judged_only, judged_broken}
use Rattle.ob_check_decl.proofs.declaration.declare_module.Goals as goal

pub returns-clause-found : goal.returns-clause-found
returns-clause-found c = judged_found (spec.module_rule c.args.modules.now c.args.tree.now) c.declared_by.result c.declared_by.ensures

pub returns-clause-only : goal.returns-clause-only
returns-clause-only c = judged_only (spec.module_rule c.args.modules.now c.args.tree.now) c.declared_by.result c.declared_by.ensures

pub returns-clause-broken : goal.returns-clause-broken
returns-clause-broken c = judged_broken (spec.module_rule c.args.modules.now c.args.tree.now) c.declared_by.result c.declared_by.ensures
