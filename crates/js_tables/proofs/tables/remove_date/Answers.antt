use Rattle.std.proofs.Common.{None}
use Rattle.std.proofs.lemmas.Map.Text.{hash_map_updates_text}
use Rattle.js_tables.proofs.tables.remove_date.Goals as goal

pub returns : goal.returns
returns c = hash_map_updates_text c.args.path.now c.args.dates.now c.remove.new.self None c.remove.ensures.updates
