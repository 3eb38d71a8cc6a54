use Rattle.std.proofs.Common.{◌≡◌, drop}
use Rattle.ob_check_module.specs.Modules as spec
use Rattle.ob_check_module.proofs.module.all_imported.Given as goal

abbrev pub invariant-loop-d : goal.invariant-loop-d
invariant-loop-d l = spec.with_imports l.imports l.so_far (drop l.d-index l.declared) ≡ spec.all_imported l.imports l.declared
