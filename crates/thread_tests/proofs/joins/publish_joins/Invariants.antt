use Rattle.jk_board.specs.Ends.{published}
use Rattle.thread_tests.specs.Shown.{HasShown}
use Rattle.thread_tests.proofs.joins.publish_joins.Given as goal

abbrev pub invariant-loop-place : goal.invariant-loop-place
invariant-loop-place g l = HasShown g.L.Language.spoken (published l.publisher) l.kernel
