use Rattle.std.proofs.Common.{rules}
use Rattle.js_http.proofs.TargetLemmas.{segments_end, segments_more}
use Rattle.js_http.proofs.target.path_segments.Goals as goal

pub returns-then-is_empty : goal.returns-then-is_empty
returns-then-is_empty c =
    rw (c.in_ok-push.ensures.items, c.in_ok-decoded.ensures)
    (segments_end c.segments.items.items c.segments.rest.now c.split_at.result.0.now c.split_at.result.1.now c.args.path.now c.byte_place.result
    c.byte_place.ensures.first c.byte_place.ensures.within c.split_at.ensures.front c.split_at.ensures.back (search rules) c.segments.invariant)

pub segments-preserved : goal.segments-preserved
segments-preserved c =
    rw (c.in_ok-push.ensures.items, c.in_ok-decoded.ensures)
    (segments_more c.segments.items.items c.segments.rest.now c.split_at.result.0.now c.split_at.result.1.now c.args.path.now c.byte_place.result
    c.byte_place.ensures.first c.split_at.ensures.front c.split_at.ensures.back (search rules) c.segments.invariant)
