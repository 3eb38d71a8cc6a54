use Rattle.std.proofs.Common.{◌≡◌, ◌+◌, ◌≤◌, ◌++◌, drop, vec_len}
use Rattle.ob_gen.specs.Code.{expr_code, passed_code, list_values, list_names}
use Rattle.ob_gen.specs.Emitted.{operations_list, holed, holes, sides, side}
use Rattle.ob_gen.specs.Known.{names_in}
use Rattle.ob_gen.proofs.emit.+expressions.Given as goal

abbrev pub invariant-emit_operations-loop-operation : goal.invariant-emit_operations-loop-operation
invariant-emit_operations-loop-operation l = record {
  code : l.code.items ++ operations_list (names_in l.known) l.operands l.names (drop l.operation-index l.operations) ≡ l.initial.code.items ++ operations_list (names_in l.known) l.operands l.names l.operations;
  grows : vec_len l.initial.code ≤ vec_len l.code;
}

abbrev pub invariant-emit_every-loop-e : goal.invariant-emit_every-loop-e
invariant-emit_every-loop-e l = record {
  code : l.code.items ++ sides l.operands l.names (expr_code (names_in l.known) l.operands l.names) (drop l.e-index l.all) ≡ l.initial.code.items ++ sides l.operands l.names (expr_code (names_in l.known) l.operands l.names) l.all;
  ends : l.ends.items ++ holes (vec_len l.code) (expr_code (names_in l.known) l.operands l.names) (drop l.e-index l.all) ≡ holes (vec_len l.initial.code) (expr_code (names_in l.known) l.operands l.names) l.all;
  grows : vec_len l.initial.code ≤ vec_len l.code;
}

abbrev pub invariant-emit_either-loop-e : goal.invariant-emit_either-loop-e
invariant-emit_either-loop-e l = record {
  code : l.code.items ++ holed (l.operands + 1) l.names (side (names_in l.known) l.operands l.names) (drop l.e-index l.all) ≡ l.initial.code.items ++ holed (l.operands + 1) l.names (side (names_in l.known) l.operands l.names) l.all;
  ends : l.ends.items ++ holes (vec_len l.code) (side (names_in l.known) l.operands l.names) (drop l.e-index l.all) ≡ holes (vec_len l.initial.code) (side (names_in l.known) l.operands l.names) l.all;
  grows : vec_len l.initial.code ≤ vec_len l.code;
}

abbrev pub invariant-emit_arguments-loop-argument : goal.invariant-emit_arguments-loop-argument
invariant-emit_arguments-loop-argument l = record {
  code : l.code.items ++ passed_code (names_in l.known) l.passed.operands l.passed.names (drop l.argument-index l.arguments) ≡ l.initial.code.items ++ passed_code (names_in l.known) l.operands l.names l.arguments;
  values : l.passed.operands + list_values (drop l.argument-index l.arguments) ≡ l.operands + list_values l.arguments;
  names : l.passed.names + list_names (drop l.argument-index l.arguments) ≡ l.names + list_names l.arguments;
  operands_low : l.passed.operands ≤ vec_len l.code;
  names_low : l.passed.names ≤ vec_len l.code;
  grows : vec_len l.initial.code ≤ vec_len l.code;
}
