use Rattle.std.proofs.Common.{◌≡◌, ◌+◌, ◌*◌, ◌≤◌, length, drop}
use Rattle.std.specs.Prelude.{map}
use Rattle.ob_inout.specs.Writing.{string_text}
use Rattle.ob_mean.specs.Texts.{character}
use Rattle.ob_step.proofs.texts.text_size.Given as goal

abbrev pub invariant-loop-i : goal.invariant-loop-i
invariant-loop-i l = record {
  counted : l.size + length (string_text (map character (drop l.i l.row))) ≡ length (string_text (map character l.row));
  bounded : l.size ≤ 2 * l.i;
}
