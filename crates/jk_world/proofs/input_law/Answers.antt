use Rattle.jk_world.proofs.Asks.{asks_allowed, input_right}
use Rattle.jk_world.proofs.input_law.Goals as goal

pub returns-clause-given : goal.returns-clause-given
returns-clause-given g c = λ log at legal. input_right g.L.Language.spoken g.met.L.Language.lawful log legal.each at

pub returns-clause-allowed : goal.returns-clause-allowed
returns-clause-allowed g c = λ log legal. asks_allowed g.L.Language.spoken g.met.L.Language.lawful log legal.each
