use Rattle.std.proofs.Common.{rules, ◌≡◌, None, ap}
use Rattle.ob_check_scope.specs.declared.rule.RuleCode.TheVariants as code
use Rattle.ob_tree.specs.declared.tree.Procedure.{out-Procedure}
use Rattle.ob_check_scope.specs.Block.{find}
use Rattle.ob_check_decl.specs.Declarations.{is_new}
use Rattle.ob_check_decl.specs.Headings as spec
use Rattle.ob_check_scope.proofs.Exact.{judged_needs}
use Rattle.ob_check_decl.proofs.heading.enter_procedure.Goals as goal

pub returns : goal.returns
unfolding spec.procedure_rule
returns c =
    let absent : find c.args.scope.block (out-Procedure c.args.p.now).name.name.name ≡ None = search rules in
    judged_needs (is_new (find c.args.scope.block (out-Procedure c.args.p.now).name.name.name)) code.DeclaredTwice
    (spec.new_procedure c.args.modules.now c.args.levels c.args.number c.args.scope c.args.p.now) c.new_procedure.result (ap is_new absent) c.new_procedure.ensures
