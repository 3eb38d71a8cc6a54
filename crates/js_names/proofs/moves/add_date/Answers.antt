use Rattle.std.proofs.Common.{Some, string_bytes}
use Rattle.std.proofs.lemmas.Map.Text.{hash_map_updates_text}
use Rattle.js_names.proofs.moves.add_date.Goals as goal

pub returns : goal.returns
returns c =
    hash_map_updates_text (string_bytes c.args.path) c.args.dates.now c.insert.new.self (Some c.args.date) c.in_ok-insert.ensures.updates
