use Rattle.std.proofs.Common.{List}
use Rattle.jk_log.specs.declared.entry.Entry.{Entry}
use Rattle.thread_tests.specs.Shown.{HasShown}
use Rattle.thread_tests.proofs.joins.take_joins.Given as goal

abbrev pub invariant-loop-number : goal.invariant-loop-number
invariant-loop-number g l = (shown : List Entry) → HasShown g.L.Language.spoken shown l.initial.kernel → HasShown g.L.Language.spoken shown l.kernel
