use Rattle.std.proofs.Common.{rules, ◌≡◌, ℕ, List, Err, refl, subst}
use Rattle.js_follow.specs.Changing.{Compares}
use Rattle.js_follow.specs.Putting.{GivesTo}
use Rattle.js_follow.proofs.putting.give.Goals as goal

pub returns-in_err-is_unchanged : goal.returns-in_err-is_unchanged
unfolding GivesTo
returns-in_err-is_unchanged g c =
    let compares = subst
    (λ (path : List ℕ). Compares (g.S.Shelf.contents c.args.shelf.now) (g.S.Shelf.contents c.is_unchanged.new.shelf) (g.S.Shelf.faults c.args.shelf.now) (g.S.Shelf.faults c.is_unchanged.new.shelf) path (Err c.in_err-is_unchanged.field-0.0) c.args.recording.now)
    c.as_str.ensures c.in_err-is_unchanged.ensures in
    let is : c.from_residual.result ≡ Err c.in_err-is_unchanged.field-0.0 = search rules in (
      Err c.in_err-is_unchanged.field-0.0,
      g.S.Shelf.contents c.is_unchanged.new.shelf,
      g.S.Shelf.faults c.is_unchanged.new.shelf,
      compares,
      (is, refl, (refl, refl)),
    )
