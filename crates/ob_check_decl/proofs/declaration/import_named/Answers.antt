use Rattle.std.proofs.Common.{rules, ◌≡◌, false, not, subst, ap}
use Rattle.std.specs.Str.{bytes_eq}
use Rattle.ob_check_scope.specs.declared.rule.RuleCode.TheVariants as code
use Rattle.ob_check_scope.specs.declared.imports.StandardName.{StandardName}
use Rattle.ob_check_scope.specs.Imports.{standard_named}
use Rattle.ob_check_scope.specs.Rule.{Judges}
use Rattle.ob_check_decl.specs.Declarations as spec
use Rattle.ob_check_scope.proofs.Exact.{judged_needs}
use Rattle.ob_check_decl.proofs.declaration.import_named.Goals as goal

pub returns : goal.returns
unfolding spec.import_named
returns c =
    let other : bytes_eq c.args.own.now.name c.args.so_far.module_name ≡ false = search rules in
    judged_needs (not (bytes_eq c.args.own.now.name c.args.so_far.module_name)) code.ImportsItself
    (spec.imported_as c.args.modules.now c.args.so_far c.args.name.now.name c.args.own.now.name (standard_named c.args.own.now.name))
    c.imported_as.result (ap not other)
    (subst (λ (k : StandardName). Judges (spec.imported_as c.args.modules.now c.args.so_far c.args.name.now.name c.args.own.now.name k) c.imported_as.result) c.standard_named-standard.ensures c.imported_as.ensures)
