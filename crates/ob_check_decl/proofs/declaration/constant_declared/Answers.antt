use Rattle.std.proofs.Common.{rules, ◌≡◌, None, ap}
use Rattle.ob_check_scope.specs.declared.rule.RuleCode.TheVariants as code
use Rattle.ob_check_scope.specs.Block.{find}
use Rattle.ob_check_decl.specs.Declarations as spec
use Rattle.ob_check_scope.proofs.Exact.{judged_needs}
use Rattle.ob_check_decl.proofs.declaration.constant_declared.Goals as goal

pub returns : goal.returns
unfolding spec.constant_rule
returns c =
    let absent : find c.args.so_far.block c.args.d.now.name.name.name ≡ None = search rules in
    judged_needs (spec.is_new (find c.args.so_far.block c.args.d.now.name.name.name)) code.DeclaredTwice
    (spec.new_constant c.args.modules.now c.args.nesting c.args.so_far c.args.d.now) c.new_constant.result (ap spec.is_new absent) c.new_constant.ensures
