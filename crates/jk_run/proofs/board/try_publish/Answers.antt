use Rattle.jk_board.specs.Ends.{published}
use Rattle.jk_log.specs.Pending.{joined}
use Rattle.jk_run.proofs.Rounds.{next_board}
use Rattle.jk_run.proofs.board.try_publish.Goals as goal

pub publish-publisher-requires : goal.publish-publisher-requires
publish-publisher-requires g c =
    next_board g.L.Language.spoken c.args.kernel.now.log (published c.args.publisher) c.args.entries.items (joined c.args.kernel.now.pending) c.legal.ensures c.requires
