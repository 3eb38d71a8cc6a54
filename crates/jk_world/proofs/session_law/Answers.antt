use Rattle.jk_world.proofs.Handing.{all_begin, handed_on}
use Rattle.jk_world.proofs.session_law.Goals as goal

pub returns-clause-last : goal.returns-clause-last
returns-clause-last g c = λ log legal. handed_on g.L.Language.spoken g.met.L.Language.lawful log legal.each

pub returns-clause-each : goal.returns-clause-each
returns-clause-each g c = λ log legal. all_begin g.L.Language.spoken g.met.L.Language.lawful log legal.each
