use Rattle.std.proofs.Common.{◌≡◌, ◌+◌, ◌≤◌, length}
use Rattle.std.specs.List.{list_all}
use Rattle.js_shelf.specs.Paths.{segments, is_segment}
use Rattle.js_shelf.proofs.path.are_segments.Given as goal

-- the segments so far are some, and no more than 16
abbrev pub invariant-segments : goal.invariant-segments
invariant-segments l = record {
  few : l.count ≤ 16;
  counted : l.count + length (segments l.rest) ≡ length (segments l.path);
  tested : list_all is_segment (segments l.path) ≡ list_all is_segment (segments l.rest);
}

abbrev pub decreases-segments : goal.decreases-segments
decreases-segments l = length l.rest
