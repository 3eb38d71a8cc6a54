use Rattle.std.proofs.Common.{◌≡◌, Result, Ok, Err, refl, sym, subst}
use Rattle.js_shelf.specs.declared.item.Item.{Item}
use Rattle.js_shelf.specs.declared.item.Item.TheVariants.{File, Folder}
use Rattle.js_shelf.specs.declared.item.ShelfRefusal.{ShelfRefusal}
use Rattle.js_follow.specs.Changing.{Meets}
use Rattle.js_follow.proofs.changing.read_and_meet.Goals as goal

pub returns-in-Ok-File : goal.returns-in-Ok-File
returns-in-Ok-File g c =
    let found : c.get.result ≡ Ok (File c.in-Ok-File.bytes) = cc (c.in-Ok-File.is, c.in-Ok-File.field-0-is) in (
      c.get.result,
      g.S.Shelf.contents c.get.new.self,
      g.S.Shelf.faults c.get.new.self,
      c.get.ensures.answer,
      c.get.ensures.cause,
      subst
          (λ (r : Result Item ShelfRefusal). Meets (g.S.Shelf.contents c.get.new.self) (g.S.Shelf.contents c.meet_file.new.shelf) (g.S.Shelf.faults c.get.new.self) (g.S.Shelf.faults c.meet_file.new.shelf) r c.args.path.now c.args.date.now c.meet_file.result c.args.recording.now c.meet_file.new.recording)
          (sym found) c.meet_file.ensures,
    )

pub returns-in-Ok-Folder : goal.returns-in-Ok-Folder
returns-in-Ok-Folder g c =
    let found : c.get.result ≡ Ok Folder = cc (c.in-Ok-Folder.is, c.in-Ok-Folder.field-0-is) in (
      c.get.result,
      g.S.Shelf.contents c.get.new.self,
      g.S.Shelf.faults c.get.new.self,
      c.get.ensures.answer,
      c.get.ensures.cause,
      subst
          (λ (r : Result Item ShelfRefusal). Meets (g.S.Shelf.contents c.get.new.self) (g.S.Shelf.contents c.get.new.self) (g.S.Shelf.faults c.get.new.self) (g.S.Shelf.faults c.get.new.self) r c.args.path.now c.args.date.now (Ok tt) c.args.recording.now c.args.recording.now)
          (sym found) (refl, refl, refl, refl),
    )

pub returns-in-Err : goal.returns-in-Err
returns-in-Err g c =
    let found : c.get.result ≡ Err c.in-Err.refusal = cc (c.in-Err.is) in (
      c.get.result,
      g.S.Shelf.contents c.get.new.self,
      g.S.Shelf.faults c.get.new.self,
      c.get.ensures.answer,
      c.get.ensures.cause,
      subst
          (λ (r : Result Item ShelfRefusal). Meets (g.S.Shelf.contents c.get.new.self) (g.S.Shelf.contents c.get.new.self) (g.S.Shelf.faults c.get.new.self) (g.S.Shelf.faults c.get.new.self) r c.args.path.now c.args.date.now c.unless_missing.result c.args.recording.now c.args.recording.now)
          (sym found) (c.unless_missing.ensures, refl, refl, refl),
    )
