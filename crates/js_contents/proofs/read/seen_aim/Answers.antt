use Rattle.std.proofs.Common.{Ok, refl, sym, subst}
use Rattle.js_shelf.specs.Shelves.{Tells}
use Rattle.js_tables.specs.Tables.{rows}
use Rattle.js_contents.specs.declared.read.Aim.TheVariants as aim
use Rattle.js_contents.specs.declared.read.Seen.{Seen}
use Rattle.js_contents.specs.declared.read.Seen.TheVariants as seen
use Rattle.js_contents.specs.Reads.{AimsAtSeen}
use Rattle.js_contents.proofs.Telling.{tells_same}
use Rattle.js_contents.proofs.read.seen_aim.Goals as goal

pub returns-in-Shown : goal.returns-in-Shown
returns-in-Shown g c =
    let old = g.S.Shelf.contents c.args.shelf.now in
    let r = rows c.args.tables.now in
    let plan = c.in-Shown.plan in
    subst (λ (s : Seen). Tells old old (AimsAtSeen r s (Ok (aim.Plan plan)))) (sym c.in-Shown.is)
    (tells_same old (λ m n. AimsAtSeen r (seen.Shown plan) (Ok (aim.Plan plan)) m n) (λ m. ((λ path. refl), refl)))

pub returns-in-File : goal.returns-in-File
returns-in-File g c =
    subst (λ (s : Seen). Tells (g.S.Shelf.contents c.args.shelf.now) (g.S.Shelf.contents c.file_aim.new.shelf) (AimsAtSeen (rows c.args.tables.now) s c.file_aim.result)) (sym c.in-File.is)
    c.file_aim.ensures

pub returns-in-Folder : goal.returns-in-Folder
returns-in-Folder g c =
    subst (λ (s : Seen). Tells (g.S.Shelf.contents c.args.shelf.now) (g.S.Shelf.contents c.folder_aim.new.shelf) (AimsAtSeen (rows c.args.tables.now) s c.folder_aim.result)) (sym c.in-Folder.is)
    c.folder_aim.ensures
