use Rattle.std.proofs.Common.{◌≡◌, ◌++◌, drop}
use Rattle.ob_gen.specs.Correct.{name_kinds}
use Rattle.ob_gen.proofs.compile.name_kinds.Given as goal

abbrev pub invariant-loop-parameter : goal.invariant-loop-parameter
invariant-loop-parameter l = l.kinds ++ name_kinds (drop l.parameter-index l.parameters) ≡ name_kinds l.parameters
