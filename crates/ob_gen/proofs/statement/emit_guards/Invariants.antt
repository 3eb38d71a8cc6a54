use Rattle.std.proofs.Common.{◌≡◌, ◌≤◌, ◌++◌, drop, vec_len}
use Rattle.ob_gen.specs.Emitted.{guards_to}
use Rattle.ob_gen.specs.Known.{names_in}
use Rattle.ob_gen.proofs.statement.emit_guards.Given as goal

abbrev pub invariant-loop-branch : goal.invariant-loop-branch
invariant-loop-branch l = record {
  code : l.code.items ++ guards_to (names_in l.known) (vec_len l.code) (drop l.branch-index l.starts) (drop l.branch-index l.branches) ≡ l.initial.code.items ++ guards_to (names_in l.known) (vec_len l.initial.code) l.starts l.branches;
  number : l.number ≡ l.branch-index;
  grows : vec_len l.initial.code ≤ vec_len l.code;
}
