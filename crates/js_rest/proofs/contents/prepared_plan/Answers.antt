use Rattle.std.proofs.Common.{Err, refl, sym, ap, ◌∙◌, subst}
use Rattle.js_shelf.specs.Shelves.{Tells}
use Rattle.js_tables.specs.declared.refusal.Refusal.TheVariants.{Failed}
use Rattle.js_tables.specs.Tables.{rows}
use Rattle.js_rest.specs.declared.parts.Prepared.{Prepared}
use Rattle.js_rest.specs.declared.parts.Prepared.TheVariants as prepared
use Rattle.js_rest.specs.Contents.{PutsPrepared}
use Rattle.js_rest.proofs.Telling.{tells_same}
use Rattle.js_rest.proofs.contents.prepared_plan.Goals as goal

pub returns-in-Ok : goal.returns-in-Ok
returns-in-Ok g c =
    subst (λ (p : Prepared). Tells (g.S.Shelf.contents c.args.shelf.now) (g.S.Shelf.contents c.put_plan.new.shelf) (PutsPrepared (rows c.args.tables.now) c.args.given.now p c.put_plan.result))
    (sym (c.in-Put.is ∙ ap (λ x. prepared.Put x) c.in-Ok.is)) c.put_plan.ensures

pub returns-in-Err : goal.returns-in-Err
returns-in-Err g c =
    let old = g.S.Shelf.contents c.args.shelf.now in
    let r = rows c.args.tables.now in
    let given = c.args.given.now in
    let refusal = c.in-Err.refusal in
    subst (λ (p : Prepared). Tells old old (PutsPrepared r given p (Err refusal))) (sym (c.in-Put.is ∙ ap (λ x. prepared.Put x) c.in-Err.is))
    (tells_same old (PutsPrepared r given (prepared.Put (Err refusal)) (Err refusal)) (λ m. ((λ path. refl), refl)))

pub returns-in-Other : goal.returns-in-Other
returns-in-Other g c =
    let old = g.S.Shelf.contents c.args.shelf.now in
    let r = rows c.args.tables.now in
    let given = c.args.given.now in
    subst (λ (p : Prepared). Tells old old (PutsPrepared r given p (Err Failed))) (sym c.in-Other.is)
    (tells_same old (PutsPrepared r given prepared.Other (Err Failed)) (λ m. ((λ path. refl), refl)))
