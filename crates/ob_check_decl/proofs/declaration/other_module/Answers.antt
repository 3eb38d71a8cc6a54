use Rattle.std.proofs.Common.{◌≡◌, ℕ, Option, Ok, subst}
use Rattle.ob_check_scope.specs.Rule.{answer}
use Rattle.ob_check_scope.specs.Imports.{module_place}
use Rattle.ob_check_decl.specs.Declarations as spec
use Rattle.ob_check_scope.proofs.Exact.{judged_then}
use Rattle.ob_check_decl.proofs.declaration.other_module.Goals as goal

pub returns : goal.returns
unfolding spec.other_module
returns c =
    judged_then (spec.loaded_place c.args.modules.now c.args.so_far.module_name (module_place c.args.modules.now c.args.own.now.name))
    (λ place. spec.with_module c.args.so_far c.args.name.now.name place)
    c.in_ok-place.place c.with_module.result
    (subst (λ (found : Option ℕ). answer (spec.loaded_place c.args.modules.now c.args.so_far.module_name found) ≡ Ok c.in_ok-place.place) c.place_of-found.ensures c.in_ok-place.ensures)
    c.with_module.ensures
