use Rattle.std.proofs.Common.{sym, ap, ◌∙◌}
use Rattle.std.specs.HashMap.{get_by_text}
use Rattle.js_names.proofs.Dates.{all_moved, last_there, or_else}
use Rattle.js_names.proofs.moves.moved_dates.Goals as goal

pub returns : goal.returns
returns c =
    let from = c.args.from.now in
    let to = c.args.to.now in
    let moved = get_by_text c.loop-path.moved in
    all_moved from to c.args.dates.now.entries moved c.into_iter-path-iterator.ensures.into_iter_gives.4
    (λ q. sym (ap (λ es. or_else (last_there from to es q) (moved q)) c.in-None.ensures.steps.0) ∙ c.loop-path.invariant q)
