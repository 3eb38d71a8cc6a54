use Rattle.std.proofs.Common.{◌≡◌, ◌≤◌, ◌++◌, drop, length, vec_len}
use Rattle.ob_gen.specs.Code.{labels_code}
use Rattle.ob_gen.proofs.statement.emit_labels.Given as goal

abbrev pub invariant-loop-range : goal.invariant-loop-range
invariant-loop-range l = record {
  code : l.code.items ++ labels_code (drop l.range-index l.labels) ≡ l.initial.code.items ++ labels_code l.labels;
  left : l.left ≡ length (drop l.range-index l.labels);
  grows : vec_len l.initial.code ≤ vec_len l.code;
}
