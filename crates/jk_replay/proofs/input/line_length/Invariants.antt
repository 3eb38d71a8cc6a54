use Rattle.std.proofs.Common.{◌≡◌, take}
use Rattle.jk_replay.specs.Lines.{IsOneLine}
use Rattle.jk_replay.proofs.input.line_length.Given as goal

abbrev pub invariant-loop-byte : goal.invariant-loop-byte
invariant-loop-byte l = (l.count ≡ l.byte-index) × IsOneLine (take l.byte-index l.bytes)
