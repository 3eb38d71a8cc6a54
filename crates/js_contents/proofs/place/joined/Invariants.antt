use Rattle.std.proofs.Common.{◌≡◌, drop, string_bytes}
use Rattle.js_contents.specs.Places.{joined, root}
use Rattle.js_contents.proofs.place.joined.Given as goal

abbrev pub invariant-loop-part : goal.invariant-loop-part
invariant-loop-part l =
    joined (record { path = string_bytes l.path; name = l.name }) (drop l.part-index l.parts) ≡ joined root l.parts
