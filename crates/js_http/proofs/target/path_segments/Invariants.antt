use Rattle.std.proofs.Common.{◌≡◌, ◌++◌, length}
use Rattle.js_http.specs.Targets.{segments_of}
use Rattle.js_http.proofs.target.path_segments.Given as goal

-- the segments so far, and those of the rest
abbrev pub invariant-segments : goal.invariant-segments
invariant-segments l = l.items.items ++ segments_of l.rest ≡ segments_of l.path

abbrev pub decreases-segments : goal.decreases-segments
decreases-segments l = length l.rest
