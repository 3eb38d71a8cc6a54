use Rattle.std.proofs.Common.{◌∙◌, ap, subst}
use Rattle.ob_check_scope.specs.Rule.{Judges}
use Rattle.ob_check_module.specs.Modules as spec
use Rattle.ob_check_module.proofs.module.behind_declarations.Goals as goal

pub returns : goal.returns
unfolding spec.checked_rule
returns c =
    subst (λ vs. Judges (spec.procedures_rule c.args.imports.now c.args.scope vs c.args.tree.now) c.with_procedures.result)
    (c.in_ok-variables.ensures ∙ ap spec.declared_variables c.declared.ensures) c.with_procedures.ensures
