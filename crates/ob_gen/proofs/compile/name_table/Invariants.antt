use Rattle.std.proofs.Common.{◌≡◌, ◌++◌, drop, map}
use Rattle.ob_gen.specs.Code.{named_one}
use Rattle.ob_gen.proofs.compile.name_table.Given as goal

abbrev pub invariant-loop-parameter : goal.invariant-loop-parameter
invariant-loop-parameter l = l.table ++ map named_one (drop l.parameter-index l.parameters) ≡ map named_one l.parameters
