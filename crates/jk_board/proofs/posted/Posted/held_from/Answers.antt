use Rattle.std.proofs.Common.{◌-◌, ap, ◌∙◌}
use Rattle.jk_board.specs.Levels.{of_newest, of_older, of_oldest}
use Rattle.jk_board.proofs.Lists.{three_windows}
use Rattle.jk_board.proofs.posted.Posted.held_from.Goals as goal

pub returns : goal.returns
returns c =
    let b = c.args.self.now in
    three_windows c.args.max c.args.place c.saturating_sub-place.result c.saturating_sub-place-2.result (of_oldest b.oldest) (of_older b.older) (of_newest b.newest)
    c.new-found.result.items c.copy_from.new.found.items c.copy_from-2.new.found.items c.copy_from-3.new.found.items
    c.new-found.ensures.items c.in_ok-copy_from.ensures
    (c.saturating_sub-place.ensures ∙ ap (λ n. c.args.place - n) c.count.ensures) c.in_ok-copy_from-2.ensures
    (c.saturating_sub-place-2.ensures ∙ ap (λ n. c.saturating_sub-place.result - n) c.count-2.ensures) c.in_ok-copy_from-3.ensures
