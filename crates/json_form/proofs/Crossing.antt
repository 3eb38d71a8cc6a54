-- A JSON value may go to another thread, and be looked at there.
use denote.Param.Send.{IsSend, IsSync, sendable}
use Rattle.std.proofs.Crossing.{crosses}
use Rattle.std.proofs.MapsCrossing as maps
use Rattle.serde_json.proofs.value.Value.TheLaws.TheKnot as knot
use Rattle.json_form.specs.contracts.kept.Json.{the_row}

pub json_send : IsSend the_row
json_send = search (maps.crosses, crosses, knot.crosses, sendable) depth 60 fits 20000

pub json_sync : IsSync the_row
json_sync = search (maps.crosses, crosses, knot.crosses, sendable) depth 60 fits 20000
