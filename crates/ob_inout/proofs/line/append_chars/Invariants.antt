use Rattle.std.proofs.Common.{◌≡◌, ◌+◌, ◌≤◌, ◌++◌, length, drop, map}
use Rattle.std.specs.Str.{chars}
use Rattle.std.specs.Vec.{vec_len, vec_capacity}
use Rattle.ob_inout.specs.Reading.{char_of}
use Rattle.ob_inout.proofs.line.append_chars.Given as goal

abbrev pub invariant-loop-c : goal.invariant-loop-c
invariant-loop-c l = record {
  appended : l.line.items ++ map char_of (drop (length l.yielded) (chars l.text)) ≡ l.initial.line.items ++ map char_of (chars l.text);
  counted : vec_len l.line ≡ vec_len l.initial.line + length l.yielded;
  room : vec_capacity l.initial.line ≤ vec_capacity l.line;
}
