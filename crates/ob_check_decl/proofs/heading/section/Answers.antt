use Rattle.std.proofs.Common.{[]}
use Rattle.ob_check_scope.specs.Rule.{through}
use Rattle.ob_check_decl.specs.Headings as spec
use Rattle.ob_check_scope.proofs.Exact.{judged_then}
use Rattle.ob_check_decl.proofs.heading.section.Goals as goal

pub returns : goal.returns
unfolding spec.section_rule
returns c =
    judged_then (through (spec.parameter_name c.args.so_far.block) [] c.args.x.now.names)
    (λ names. spec.typed_parameters c.args.site.imports.now c.args.site.levels c.args.site.scope.now c.args.so_far c.args.x.now)
    c.in_ok-_names._names c.typed_parameters.result
    (let e = c.in_ok-_names.ensures in let g = c.as_slice.ensures in cc)
    c.typed_parameters.ensures
