use Rattle.std.proofs.Common.{Ok, Err, refl}
use Rattle.js_http.specs.declared.response.Response.TheVariants.{Refused}
use Rattle.js_tables.specs.declared.plan.Answer.TheVariants.{Reply}
use Rattle.js_tables.specs.Tables.{rows}
use Rattle.js_rest.specs.Answers.{CarriesOut}
use Rattle.js_rest.specs.Changes.{Tries}
use Rattle.js_rest.proofs.Telling.{tells_weaker, carried, carried_alone}
use Rattle.js_rest.proofs.answer.Manager.carry_out.Goals as goal

pub returns-in-Ok-clause-shelf : goal.returns-in-Ok-clause-shelf
returns-in-Ok-clause-shelf g c =
    let begins = g.L.Running.begins in
    let tells = g.L.Running.tells in
    let l = c.args.self.now.running in
    let k = c.try_change.new.running in
    let plan = c.args.plan in
    let r = rows c.args.self.now.tables in
    let q = rows c.make_room.new.self in
    let t = rows c.try_change.new.tables in
    let s = rows c.update.new.self in
    tells_weaker (g.S.Shelf.contents c.args.shelf.now) (g.S.Shelf.contents c.try_change.new.shelf) (Tries begins tells plan.change (Ok tt) q t l k) (CarriesOut begins tells plan r s l k plan.answer)
    (λ m n h. carried begins tells plan (Ok tt) r q t s l k plan.answer m n c.make_room.ensures.same (c.update.ensures, refl) h) c.in-Ok.ensures.shelf

pub returns-in-Ok-clause-alone : goal.returns-in-Ok-clause-alone
returns-in-Ok-clause-alone g c =
    let begins = g.L.Running.begins in
    let tells = g.L.Running.tells in
    let plan = c.args.plan in
    carried_alone begins tells plan (Ok tt) (rows c.args.self.now.tables) (rows c.make_room.new.self) (rows c.try_change.new.tables) (rows c.update.new.self)
    c.args.self.now.running c.try_change.new.running plan.answer c.make_room.ensures.same (c.update.ensures, refl) c.in-Ok.ensures.alone

pub returns-in-Err-clause-shelf : goal.returns-in-Err-clause-shelf
returns-in-Err-clause-shelf g c =
    let begins = g.L.Running.begins in
    let tells = g.L.Running.tells in
    let l = c.args.self.now.running in
    let k = c.try_change.new.running in
    let plan = c.args.plan in
    let r = rows c.args.self.now.tables in
    let q = rows c.make_room.new.self in
    let t = rows c.try_change.new.tables in
    let answer = Reply (Refused c.in-Err.status) in
    tells_weaker (g.S.Shelf.contents c.args.shelf.now) (g.S.Shelf.contents c.try_change.new.shelf) (Tries begins tells plan.change (Err c.in-Err.status) q t l k) (CarriesOut begins tells plan r t l k answer)
    (λ m n h. carried begins tells plan (Err c.in-Err.status) r q t t l k answer m n c.make_room.ensures.same (refl, refl) h) c.in-Err.ensures.shelf

pub returns-in-Err-clause-alone : goal.returns-in-Err-clause-alone
returns-in-Err-clause-alone g c =
    let begins = g.L.Running.begins in
    let tells = g.L.Running.tells in
    carried_alone begins tells c.args.plan (Err c.in-Err.status) (rows c.args.self.now.tables) (rows c.make_room.new.self) (rows c.try_change.new.tables) (rows c.try_change.new.tables)
    c.args.self.now.running c.try_change.new.running (Reply (Refused c.in-Err.status)) c.make_room.ensures.same (refl, refl) c.in-Err.ensures.alone
