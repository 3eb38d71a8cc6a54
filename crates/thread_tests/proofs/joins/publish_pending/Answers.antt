use Rattle.jk_board.specs.Ends.{published}
use Rattle.thread_tests.proofs.Showing.{next_board}
use Rattle.thread_tests.proofs.joins.publish_pending.Goals as goal

pub publish-publisher-requires : goal.publish-publisher-requires
publish-publisher-requires g c = next_board g.L.Language.spoken c.pending_marks-marks.result (published c.args.publisher) c.in-Ok.entries.items c.args.kernel.now c.requires c.in-Ok.ensures.entries
