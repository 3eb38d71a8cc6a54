use Rattle.std.proofs.Common.{Some, string_bytes, Result, Ok, Err}
use Rattle.std.specs.Prelude.{OnOk, IsOk}
use Rattle.std.proofs.lemmas.Map.Text.{hash_map_updates_text}
use Rattle.js_tables.proofs.tables.put_date.Goals as goal

if_ok : {T E P : Type 0} (r : Result T E) → IsOk r → OnOk r P → P
if_ok (Ok x) ok h = h
if_ok (Err e) ok h = absurd (cc ok)

pub returns : goal.returns
returns c = hash_map_updates_text (string_bytes c.args.path) c.args.dates.now c.insert.new.self (Some c.args.date) (if_ok c.insert.result (c.insert.ensures.succeeds c.requires) c.insert.ensures.updates)
