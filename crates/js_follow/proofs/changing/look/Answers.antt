use Rattle.std.proofs.Common.{◌≡◌, Result, Ok, Err, refl, sym, subst}
use Rattle.js_shelf.specs.declared.item.ItemKind.{ItemKind}
use Rattle.js_shelf.specs.declared.item.ItemKind.TheVariants.{File, Folder}
use Rattle.js_shelf.specs.declared.item.ShelfRefusal.{ShelfRefusal}
use Rattle.js_follow.specs.Changing.{MeetsKind}
use Rattle.js_follow.proofs.changing.look.Goals as goal

pub returns-in-Ok-File : goal.returns-in-Ok-File
returns-in-Ok-File g c =
    let found : c.kind.result ≡ Ok (File c.in-Ok-File.count) = cc (c.in-Ok-File.is, c.in-Ok-File.field-0-is) in (
      c.kind.result,
      g.S.Shelf.contents c.kind.new.self,
      g.S.Shelf.faults c.kind.new.self,
      c.kind.ensures.answer,
      c.kind.ensures.cause,
      subst
          (λ (r : Result ItemKind ShelfRefusal). MeetsKind (g.S.Shelf.contents c.kind.new.self) (g.S.Shelf.contents c.meet_count.new.shelf) (g.S.Shelf.faults c.kind.new.self) (g.S.Shelf.faults c.meet_count.new.shelf) r c.args.path.now c.args.date.now c.meet_count.result c.args.recording.now c.meet_count.new.recording)
          (sym found) c.meet_count.ensures,
    )

pub returns-in-Ok-Folder : goal.returns-in-Ok-Folder
returns-in-Ok-Folder g c =
    let found : c.kind.result ≡ Ok Folder = cc (c.in-Ok-Folder.is, c.in-Ok-Folder.field-0-is) in (
      c.kind.result,
      g.S.Shelf.contents c.kind.new.self,
      g.S.Shelf.faults c.kind.new.self,
      c.kind.ensures.answer,
      c.kind.ensures.cause,
      subst
          (λ (r : Result ItemKind ShelfRefusal). MeetsKind (g.S.Shelf.contents c.kind.new.self) (g.S.Shelf.contents c.kind.new.self) (g.S.Shelf.faults c.kind.new.self) (g.S.Shelf.faults c.kind.new.self) r c.args.path.now c.args.date.now (Ok tt) c.args.recording.now c.args.recording.now)
          (sym found) (refl, refl, refl, refl),
    )

pub returns-in-Err : goal.returns-in-Err
returns-in-Err g c =
    let found : c.kind.result ≡ Err c.in-Err.refusal = cc (c.in-Err.is) in (
      c.kind.result,
      g.S.Shelf.contents c.kind.new.self,
      g.S.Shelf.faults c.kind.new.self,
      c.kind.ensures.answer,
      c.kind.ensures.cause,
      subst
          (λ (r : Result ItemKind ShelfRefusal). MeetsKind (g.S.Shelf.contents c.kind.new.self) (g.S.Shelf.contents c.kind.new.self) (g.S.Shelf.faults c.kind.new.self) (g.S.Shelf.faults c.kind.new.self) r c.args.path.now c.args.date.now c.unless_missing.result c.args.recording.now c.args.recording.now)
          (sym found) (c.unless_missing.ensures, refl, refl, refl),
    )
