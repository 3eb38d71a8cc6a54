use Rattle.jk_board.proofs.Growing.{begins}
use Rattle.jk_board.proofs.board.Board.new.Goals as goal

pub new-requires-5-clause-rule : goal.new-requires-5-clause-rule
new-requires-5-clause-rule g c = begins g.L.Language.spoken c.in_ok-first.first c.in_ok-first.ensures.0 c.in_ok-first.ensures.1
