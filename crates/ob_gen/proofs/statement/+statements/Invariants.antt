use Rattle.std.proofs.Common.{◌≡◌, ◌≤◌, ◌++◌, drop, vec_len}
use Rattle.ob_gen.specs.Code.{list_code}
use Rattle.ob_gen.specs.Emitted.{holed, holes, starts, branch_piece, body_piece, arm_piece}
use Rattle.ob_gen.specs.Known.{names_in}
use Rattle.ob_gen.proofs.statement.+statements.Given as goal

abbrev pub invariant-emit_statements-loop-statement : goal.invariant-emit_statements-loop-statement
invariant-emit_statements-loop-statement l = record {
  code : l.code.items ++ list_code (names_in l.known) (drop l.statement-index l.statements) ≡ l.initial.code.items ++ list_code (names_in l.known) l.statements;
  grows : vec_len l.initial.code ≤ vec_len l.code;
}

abbrev pub invariant-emit_choice-loop-branch : goal.invariant-emit_choice-loop-branch
invariant-emit_choice-loop-branch l = record {
  code : l.code.items ++ holed 0 0 (branch_piece (names_in l.known)) (drop l.branch-index l.branches) ≡ l.initial.code.items ++ holed 0 0 (branch_piece (names_in l.known)) l.branches;
  ends : l.ends.items ++ holes (vec_len l.code) (branch_piece (names_in l.known)) (drop l.branch-index l.branches) ≡ holes (vec_len l.initial.code) (branch_piece (names_in l.known)) l.branches;
  grows : vec_len l.initial.code ≤ vec_len l.code;
}

abbrev pub invariant-emit_arms-loop-arm : goal.invariant-emit_arms-loop-arm
invariant-emit_arms-loop-arm l = record {
  code : l.code.items ++ holed 0 0 (arm_piece (names_in l.known)) (drop l.arm-index l.arms) ≡ l.initial.code.items ++ holed 0 0 (arm_piece (names_in l.known)) l.arms;
  ends : l.ends.items ++ holes (vec_len l.code) (arm_piece (names_in l.known)) (drop l.arm-index l.arms) ≡ holes (vec_len l.initial.code) (arm_piece (names_in l.known)) l.arms;
  grows : vec_len l.initial.code ≤ vec_len l.code;
}

abbrev pub invariant-emit_bodies-loop-branch : goal.invariant-emit_bodies-loop-branch
invariant-emit_bodies-loop-branch l = record {
  code : l.code.items ++ holed 0 0 (body_piece (names_in l.known)) (drop l.branch-index l.branches) ≡ l.initial.code.items ++ holed 0 0 (body_piece (names_in l.known)) l.branches;
  ends : l.ends.items ++ holes (vec_len l.code) (body_piece (names_in l.known)) (drop l.branch-index l.branches) ≡ holes (vec_len l.initial.code) (body_piece (names_in l.known)) l.branches;
  starts : l.starts.items ++ starts (vec_len l.code) (body_piece (names_in l.known)) (drop l.branch-index l.branches) ≡ starts (vec_len l.initial.code) (body_piece (names_in l.known)) l.branches;
  grows : vec_len l.initial.code ≤ vec_len l.code;
}
