use Rattle.std.proofs.Common.{◌≡◌, ◌+◌, ◌*◌, ◌≤◌, length, drop}
use Rattle.ob_inout.specs.Writing.{string_text}
use Rattle.ob_inout.proofs.output.string_size.Given as goal

abbrev pub invariant-loop-c : goal.invariant-loop-c
invariant-loop-c l = record {
  counted : l.size + length (string_text (drop l.c-index l.characters)) ≡ length (string_text l.characters);
  bounded : l.size ≤ 2 * l.c-index;
}
