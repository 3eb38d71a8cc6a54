use Rattle.std.proofs.Common.{Some, string_bytes}
use Rattle.std.proofs.lemmas.Map.Text.{btree_map_updates_text}
use Rattle.js_shelf.proofs.memory.set.Goals as goal

pub returns-clause-ok : goal.returns-clause-ok
returns-clause-ok c = λ path.
    btree_map_updates_text (string_bytes c.args.path) c.args.items.now c.insert.new.self (Some c.args.item) c.in_ok-insert.ensures.updates path
