use Rattle.std.proofs.Common.{rules, arith, ap, ◌-◌, ◌∙◌, length, take, drop}
use Rattle.std.specs.List.{list_all}
use Rattle.js_shelf.specs.Paths.{is_segment, segments}
use Rattle.js_shelf.proofs.PathLemmas.{segments_first, segments_end, segments_more, too_many, one_bad, last_good, good_first}
use Rattle.js_shelf.proofs.path.are_segments.Goals as goal

pub returns-then-count-eq-MAX_SEGMENTS : goal.returns-then-count-eq-MAX_SEGMENTS
returns-then-count-eq-MAX_SEGMENTS c =
    too_many c.args.path.now c.segments.rest.now c.segments.count (search rules) c.segments.invariant.counted

pub returns-then-not-is_segment : goal.returns-then-not-is_segment
returns-then-not-is_segment c =
    let first = segments_first c.segments.rest.now c.split_at.result.0.now c.split_at.result.1.now c.slash_place.result c.slash_place.ensures.first c.slash_place.ensures.within c.split_at.ensures.front c.split_at.ensures.back in
    one_bad c.args.path.now c.segments.rest.now c.split_at.result.0.now first.0 first.1 (search rules) c.segments.invariant.tested

pub returns-then-is_empty : goal.returns-then-is_empty
returns-then-is_empty c =
    let last = segments_end c.segments.rest.now c.split_at.result.0.now c.split_at.result.1.now c.slash_place.result c.slash_place.ensures.first c.slash_place.ensures.within c.split_at.ensures.front c.split_at.ensures.back (search rules) in
    last_good c.args.path.now c.segments.rest.now c.split_at.result.0.now c.segments.count last (search rules) (search rules) c.segments.invariant.counted c.segments.invariant.tested

pub segments-preserved : goal.segments-preserved
segments-preserved c =
    let more = segments_more c.segments.rest.now c.split_at.result.0.now c.split_at.result.1.now c.slash_place.result c.slash_place.ensures.first c.split_at.ensures.front c.split_at.ensures.back (search rules) in
    record {
      few = search rules;
      counted = omega (arith, c.segments.invariant.counted, ap length more);
      tested = c.segments.invariant.tested ∙ ap (list_all is_segment) more ∙ good_first c.split_at.result.0.now (segments (take (length c.split_at.result.1.now - 1) (drop 1 c.split_at.result.1.now))) (search rules);
    }
