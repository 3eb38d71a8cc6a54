use Rattle.js_tables.proofs.Reordered.{same_by_text}
use Rattle.js_tables.proofs.tables.reserve_date.Goals as goal

pub returns-clause-same : goal.returns-clause-same
returns-clause-same c = same_by_text c.args.dates.now c.reserve.new.self c.reserve.ensures.entries.2
