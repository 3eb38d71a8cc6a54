use Rattle.std.proofs.Common.{rules}
use Rattle.ob_check_scope.specs.Scope.{in_heading}
use Rattle.ob_check_decl.specs.Headings as spec
use Rattle.ob_check_scope.proofs.Exact.{judged_then}
use Rattle.ob_check_decl.proofs.heading.typed_parameters.Goals as goal

pub returns : goal.returns
unfolding spec.typed_parameters
returns c =
    judged_then (spec.formal_at c.args.site.imports.now (in_heading c.args.site.scope.now c.args.so_far.block) c.args.site.levels c.args.x.now.of)
    (λ t. spec.parameters_of t c.args.so_far c.args.x.now)
    c.in_ok-of.of c.parameters_of.result
    (let e = c.in_ok-of.ensures in let g = c.get.ensures in first_of (cc, search rules))
    c.parameters_of.ensures
