use Rattle.std.proofs.Common.{◌≡◌, ◌++◌, drop}
use Rattle.ob_check_decl.specs.Interfaces as spec
use Rattle.ob_check_decl.proofs.interface.exports_of.Given as goal

abbrev pub invariant-loop-d : goal.invariant-loop-d
invariant-loop-d l = l.so_far ++ spec.exports_of (drop l.d-index l.declared) ≡ spec.exports_of l.declared
