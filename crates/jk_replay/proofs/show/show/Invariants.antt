use Rattle.std.proofs.Common.{◌≡◌, take, string_bytes}
use Rattle.jk_replay.specs.Shown as spec
use Rattle.jk_replay.proofs.show.show.Given as goal

abbrev pub invariant-loop-entry : goal.invariant-loop-entry
invariant-loop-entry l = string_bytes l.lines ≡ spec.entry_lines (take l.entry-index l.entries)
