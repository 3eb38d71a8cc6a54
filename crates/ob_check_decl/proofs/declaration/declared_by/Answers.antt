use Rattle.std.proofs.Common.{rules, ◌≡◌, true, subst}
use Rattle.ob_check_scope.specs.declared.rule.RuleCode.TheVariants as code
use Rattle.ob_check_scope.specs.Rule.{Then, Judges, through}
use Rattle.ob_check_scope.specs.Scope.{opening}
use Rattle.ob_check_scope.proofs.Exact.{judged_needs, judged_then}
use Rattle.ob_tree.specs.declared.tree.Declarations.{Declarations}
use Rattle.ob_check_scope.specs.Imports.{standard_named}
use Rattle.ob_check_decl.specs.Declarations as spec
use Rattle.ob_check_decl.proofs.declaration.declared_by.Goals as goal

pub returns : goal.returns
unfolding spec.module_rule
returns c =
    let m = c.args.tree.now in
    let other : spec.is_other (standard_named m.name.name) ≡ true = search rules in
    judged_needs (spec.is_other (standard_named m.name.name)) code.DeclaredTwice
    (Then (through (spec.import_rule c.args.modules.now) (opening m.name.name) m.imports) (λ s. spec.declarations_rule c.args.modules.now spec.max_nesting s m.declarations))
    c.declare_all.result other
    (judged_then (through (spec.import_rule c.args.modules.now) (opening m.name.name) m.imports) (λ s. spec.declarations_rule c.args.modules.now spec.max_nesting s m.declarations)
    c.in_ok-scope.scope c.declare_all.result (search rules)
    (subst (λ (d : Declarations). Judges (spec.declarations_rule c.args.modules.now spec.max_nesting c.in_ok-scope.scope d) c.declare_all.result) c.get.ensures c.declare_all.ensures))
