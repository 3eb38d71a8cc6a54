use Rattle.std.proofs.Common.{rules, ◌≤◌, ◌∙◌, sym, ap, length, drop}
use Rattle.std.proofs.lemmas.List.{drop_all}
use Rattle.ob_types.specs.Numbered.{are_apart}
use Rattle.ob_types.proofs.Texts.{nothing_apart}
use Rattle.ob_types.proofs.key.are_apart.Goals as goal

pub returns-then-i-right : goal.returns-then-i-right
returns-then-i-right c =
    let past : length c.args.right.now ≤ c.loop-i.i = search rules in
    let rest = drop c.loop-i.i c.args.left.now in
    sym (c.loop-i.invariant ∙ ap (are_apart rest) (drop_all c.loop-i.i c.args.right.now past) ∙ nothing_apart rest)
