use Rattle.std.proofs.Common.{◌<◌, length, ap, sym, ◌∙◌, subst, arith}
use Rattle.ob_types.specs.InterfaceTree.{InterfaceTree}
use Rattle.ob_code.specs.declared.instr.CodeModule.{CodeModule}
use Rattle.ob_code.specs.Machine.{Code}
use Rattle.ob_gen.specs.Generated.{IsGenerated}
use Rattle.ob_session.specs.Session.{name_of, place_of}
use Rattle.ob_load.specs.Loading.{IsPrepared}
use Rattle.ob_load.proofs.Loaded.{code_many, is_ready, known_many, many_put, may_begin, place_within, put_there}
use Rattle.ob_load.proofs.loading.load.Goals as goal

pub take_place-requires : goal.take_place-requires
take_place-requires c = record { sides = known_many c.args.modules.now c.args.modules.now c.args.known.now.items c.args.code.now.items 0 c.requires.compiled }

pub put_at-requires-clause-there : goal.put_at-requires-clause-there
put_at-requires-clause-there c =
    let at = c.place_of-number.ensures ∙ ap (place_of c.args.modules.now) (c.name.ensures ∙ ap (λ (i : InterfaceTree). i.name) c.interface.ensures) in
    let within = place_within c.args.modules.now (name_of c.args.compiled.added) in
    let many = code_many c.args.modules.now c.args.modules.now c.args.known.now.items c.args.code.now.items 0 c.requires.compiled in
    let same = ap (λ (x : Code). length x) c.in_ok-reserve.ensures.items in
    omega (arith, at, within, many, same)

pub lay-requires-clause-there : goal.lay-requires-clause-there
lay-requires-clause-there c =
    let at = c.place_of-number.ensures ∙ ap (place_of c.args.modules.now) (c.name.ensures ∙ ap (λ (i : InterfaceTree). i.name) c.interface.ensures) in
    (put_there c.args.modules.now c.args.known.now.items (name_of c.args.compiled.added) c.args.code.now.items c.reserve.new.self.items c.put_at.new.items.items c.place_of-number.result _ c.requires.compiled at c.in_ok-reserve.ensures.items c.put_at.ensures).0

pub lay-requires-clause-laid : goal.lay-requires-clause-laid
lay-requires-clause-laid c =
    let at = c.place_of-number.ensures ∙ ap (place_of c.args.modules.now) (c.name.ensures ∙ ap (λ (i : InterfaceTree). i.name) c.interface.ensures) in
    (put_there c.args.modules.now c.args.known.now.items (name_of c.args.compiled.added) c.args.code.now.items c.reserve.new.self.items c.put_at.new.items.items c.place_of-number.result _ c.requires.compiled at c.in_ok-reserve.ensures.items c.put_at.ensures).1

pub lay-requires-clause-few : goal.lay-requires-clause-few
lay-requires-clause-few c =
    let ms = c.args.modules.now in
    let m = c.args.compiled.added in
    let k = c.args.compiled.faces in
    let p = c.in_ok-prepared.prepared in
    let code = c.into_code.result in
    let at = c.place_of-number.ensures ∙ ap (place_of ms) (c.name.ensures ∙ ap (λ (i : InterfaceTree). i.name) c.interface.ensures) in
    let generated = subst (λ (x : CodeModule). IsGenerated k.faces m.tree x) (sym c.into_code.ensures.value) c.requires.generated in
    let prepared = subst (λ (x : CodeModule). IsPrepared ms c.args.cells.now m x p) (sym c.into_code.ensures.value) c.in_ok-prepared.ensures in
    let ready = is_ready ms m k c.args.cells.now code p c.requires.formed generated c.requires.face c.requires.found prepared in
    let many = many_put ms m c.args.known.now.items k c.args.code.now.items _ c.requires.compiled ready c.args.cells.now c.requires.cells p prepared c.place_of-number.result c.reserve.new.self.items c.put_at.new.items.items at c.in_ok-reserve.ensures.items c.put_at.ensures in
    let small : length p.cells.items < 18446744073709551616 = omega (arith, p.cells.ok, p.cells.small) in
    omega (arith, many, small)

pub returns-clause-may : goal.returns-clause-may
returns-clause-may c =
    let ms = c.args.modules.now in
    let m = c.args.compiled.added in
    let k = c.args.compiled.faces in
    let p = c.in_ok-prepared.prepared in
    let code = c.into_code.result in
    let at = c.place_of-number.ensures ∙ ap (place_of ms) (c.name.ensures ∙ ap (λ (i : InterfaceTree). i.name) c.interface.ensures) in
    let generated = subst (λ (x : CodeModule). IsGenerated k.faces m.tree x) (sym c.into_code.ensures.value) c.requires.generated in
    let prepared = subst (λ (x : CodeModule). IsPrepared ms c.args.cells.now m x p) (sym c.into_code.ensures.value) c.in_ok-prepared.ensures in
    let ready = is_ready ms m k c.args.cells.now code p c.requires.formed generated c.requires.face c.requires.found prepared in
    may_begin ms m c.args.known.now.items k c.args.code.now.items _ c.requires.compiled ready c.args.cells.now c.requires.cells p prepared c.in_ok-runs.runs
    c.place_of-number.result c.take_place.new.modules c.take_place.new.known.items c.reserve.new.self.items c.put_at.new.items.items c.lay.new.code.items
    at c.in_ok-runs.ensures.modules c.in_ok-runs.ensures.known c.in_ok-reserve.ensures.items c.put_at.ensures c.lay.ensures
    c.requires.known c.requires.said c.requires.links c.requires.unreached c.in_ok-runs.ensures.flags
