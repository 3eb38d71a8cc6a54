use Rattle.std.proofs.lemmas.List.Elements.{All-same}
use Rattle.jk_queues.specs.Pool.{IsNewEnd}
use Rattle.js_drive.proofs.driving.making.make.Goals as goal

pub returns-clause-parsers : goal.returns-clause-parsers
returns-clause-parsers g c = All-same (IsNewEnd c.in_ok-pool.pool) _ _ c.in_ok-parsers.ensures c.in_ok-pool.ensures.ends
