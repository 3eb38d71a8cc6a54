use Rattle.std.proofs.Common.{◌≡◌, ◌++◌, take}
use Rattle.jk_board.proofs.posted.publications.copy_some.Given as goal

abbrev pub invariant-loop-entry : goal.invariant-loop-entry
invariant-loop-entry l = l.found.items ≡ l.initial.found.items ++ take l.entry-index l.wanted
