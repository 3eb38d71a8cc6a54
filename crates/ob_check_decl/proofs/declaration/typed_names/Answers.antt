use Rattle.std.proofs.Common.{[]}
use Rattle.ob_tree.specs.declared.tree.TypedNames.{out-TypedNames}
use Rattle.ob_check_scope.specs.Rule.{through}
use Rattle.ob_check_decl.specs.Declarations as spec
use Rattle.ob_check_scope.proofs.Exact.{judged_then}
use Rattle.ob_check_decl.proofs.declaration.typed_names.Goals as goal

pub returns : goal.returns
unfolding spec.variables_rule
returns c =
    judged_then (through (spec.variable_name c.args.so_far.block) [] (out-TypedNames c.args.x.now).names)
    (λ names. spec.typed_variables c.args.modules.now c.args.nesting c.args.so_far c.args.x.now)
    c.in_ok-_names._names c.typed_variables.result
    (let e = c.in_ok-_names.ensures in let g = c.as_slice.ensures in cc)
    c.typed_variables.ensures
