use Rattle.std.proofs.Common.{◌≡◌, ◌+◌, ◌≤◌, ◌++◌, length, drop, string_bytes}
use Rattle.std.specs.String.{string_capacity, string_len}
use Rattle.ob_inout.specs.Writing.{string_text}
use Rattle.ob_inout.proofs.output.put_string.Given as goal

abbrev pub invariant-loop-ch : goal.invariant-loop-ch
invariant-loop-ch l = record {
  written : string_bytes l.output ++ string_text (drop l.ch-index l.characters) ≡ string_bytes l.initial.output ++ string_text l.characters;
  room : string_len l.output + length (string_text (drop l.ch-index l.characters)) ≤ string_capacity l.output;
}
