use Rattle.std.proofs.Common.{◌≡◌, ◌≤◌, ◌+◌, drop}
use Rattle.ob_gen.specs.Correct.{named_count}
use Rattle.ob_gen.specs.Generated.{valued_count}
use Rattle.ob_gen.proofs.compile.entry_of.Given as goal

abbrev pub invariant-loop-parameter : goal.invariant-loop-parameter
invariant-loop-parameter l = record {
  operands : l.operands + valued_count (drop l.parameter-index l.parameters) ≡ valued_count l.parameters;
  names : l.names + named_count (drop l.parameter-index l.parameters) ≡ named_count l.parameters;
  few : l.operands + l.names ≤ l.parameter-index;
}
