use Rattle.std.proofs.Common.{◌≡◌, ◌+◌, ◌≤◌, ◌++◌, length, drop, string_bytes}
use Rattle.std.specs.Prelude.{map}
use Rattle.std.specs.String.{string_capacity, string_len}
use Rattle.ob_inout.specs.Writing.{string_text}
use Rattle.ob_mean.specs.Texts.{character}
use Rattle.ob_step.proofs.texts.write_text.Given as goal

abbrev pub invariant-loop-i : goal.invariant-loop-i
invariant-loop-i l = record {
  written : string_bytes l.output ++ string_text (map character (drop l.i l.row)) ≡ string_bytes l.initial.output ++ string_text (map character l.row);
  room : string_len l.output + length (string_text (map character (drop l.i l.row))) ≤ string_capacity l.output;
}
