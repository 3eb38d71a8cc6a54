use Rattle.std.proofs.Common.{rules, ◌≡◌, None, ap}
use Rattle.ob_check_scope.specs.declared.rule.RuleCode.TheVariants as code
use Rattle.ob_check_scope.specs.Block.{find}
use Rattle.ob_check_decl.specs.Declarations as spec
use Rattle.ob_check_scope.proofs.Exact.{judged_needs}
use Rattle.ob_check_decl.proofs.declaration.import.Goals as goal

pub returns : goal.returns
unfolding spec.import_rule
returns c =
    let absent : find c.args.so_far.block c.args.import.now.name.name ≡ None = search rules in
    judged_needs (spec.is_new (find c.args.so_far.block c.args.import.now.name.name)) code.DeclaredTwice
    (spec.new_import c.args.modules.now c.args.so_far c.args.import.now) c.new_import.result (ap spec.is_new absent) c.new_import.ensures
