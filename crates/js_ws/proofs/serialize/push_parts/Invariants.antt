use Rattle.std.proofs.Common.{◌≡◌, ◌++◌, drop}
use Rattle.js_ws.specs.Serialized.{joined}
use Rattle.js_ws.proofs.serialize.push_parts.Given as goal

abbrev pub invariant-loop-part : goal.invariant-loop-part
invariant-loop-part l = l.out.items ++ joined (drop l.part-index l.parts) ≡ l.fn.out.items ++ joined l.parts
