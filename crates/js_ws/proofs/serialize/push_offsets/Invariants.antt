use Rattle.std.proofs.Common.{◌≡◌, ◌++◌, drop}
use Rattle.js_ws.specs.Serialized.{offsets_from}
use Rattle.js_ws.proofs.serialize.push_offsets.Given as goal

abbrev pub invariant-loop-part : goal.invariant-loop-part
invariant-loop-part l = l.out.items ++ offsets_from l.place (drop l.part-index l.parts) ≡ l.fn.out.items ++ offsets_from l.fn.here l.parts
