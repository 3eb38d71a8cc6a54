use Rattle.jk_board.specs.Ends.{published}
use Rattle.thread_tests.specs.Shown.{HasShown}
use Rattle.thread_tests.proofs.joins.publish_each.Given as goal

abbrev pub invariant-loop-number : goal.invariant-loop-number
invariant-loop-number g l = HasShown g.L.Language.spoken (published l.publisher) l.kernel
