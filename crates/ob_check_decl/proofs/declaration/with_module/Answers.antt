use Rattle.std.proofs.Common.{◌∙◌, ℕ, Option, subst, ap}
use Rattle.ob_check_scope.specs.Rule.{Judges}
use Rattle.ob_check_decl.specs.Declarations as spec
use Rattle.ob_check_decl.proofs.declaration.with_module.Goals as goal

pub returns : goal.returns
returns c =
    subst (λ (known : Option ℕ). Judges (spec.module_numbered c.args.so_far c.args.name.now.name c.args.place known) c.module_numbered.result)
    (c.number_of_module-known.ensures ∙ ap (λ ds. spec.number_of_module ds c.args.place) c.declared.ensures)
    c.module_numbered.ensures
