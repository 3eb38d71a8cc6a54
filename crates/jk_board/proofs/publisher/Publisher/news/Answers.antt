use Rattle.jk_board.proofs.Growing.{looks}
use Rattle.jk_board.proofs.publisher.Publisher.news.Goals as goal

pub enter_as-requires : goal.enter_as-requires
enter_as-requires g c x = looks g.L.Language.spoken _ _ x
