use Rattle.std.proofs.Common.{◌≡◌, ◌+◌, ◌≤◌, ◌++◌, replicate, string_bytes}
use Rattle.std.specs.String.{string_capacity, string_len}
use Rattle.ob_inout.proofs.output.put_blanks.Given as goal

abbrev pub invariant-loop : goal.invariant-loop
invariant-loop l = record {
  written : string_bytes l.output ≡ string_bytes l.initial.output ++ replicate l.counter 32;
  counted : string_len l.output ≡ string_len l.initial.output + l.counter;
  room : string_capacity l.initial.output ≤ string_capacity l.output;
}
