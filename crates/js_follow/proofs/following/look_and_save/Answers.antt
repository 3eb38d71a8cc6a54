use Rattle.std.proofs.Common.{rules, ◌≡◌, ℕ, List, Ok, Err, refl, subst}
use Rattle.js_follow.specs.Changing.{Looks}
use Rattle.js_follow.specs.Following.{LooksAndSaves}
use Rattle.js_follow.proofs.following.look_and_save.Goals as goal

pub returns : goal.returns
unfolding LooksAndSaves
returns g c =
    let looks = subst
    (λ (path : List ℕ). Looks (g.S.Shelf.contents c.args.shelf.now) (g.S.Shelf.contents c.look.new.shelf) (g.S.Shelf.faults c.args.shelf.now) (g.S.Shelf.faults c.look.new.shelf) path c.args.date.now (Ok c.in_ok-look.field-0) c.args.recording.now c.look.new.recording)
    c.as_str.ensures c.in_ok-look.ensures in (
      Ok c.in_ok-look.field-0,
      c.look.new.recording,
      g.S.Shelf.contents c.look.new.shelf,
      g.S.Shelf.faults c.look.new.shelf,
      looks,
      c.save_to.ensures,
    )

pub returns-in_err-look : goal.returns-in_err-look
unfolding LooksAndSaves
returns-in_err-look g c =
    let looks = subst
    (λ (path : List ℕ). Looks (g.S.Shelf.contents c.args.shelf.now) (g.S.Shelf.contents c.look.new.shelf) (g.S.Shelf.faults c.args.shelf.now) (g.S.Shelf.faults c.look.new.shelf) path c.args.date.now (Err c.in_err-look.field-0.0) c.args.recording.now c.look.new.recording)
    c.as_str.ensures c.in_err-look.ensures in
    let is : c.from_residual.result ≡ Err c.in_err-look.field-0.0 = search rules in (
      Err c.in_err-look.field-0.0,
      c.look.new.recording,
      g.S.Shelf.contents c.look.new.shelf,
      g.S.Shelf.faults c.look.new.shelf,
      looks,
      (is, refl, (refl, refl)),
    )
