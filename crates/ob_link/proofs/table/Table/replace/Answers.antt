use Rattle.std.proofs.Common.{rules, ◌≡◌, ℕ, ◌<◌, List, length, Some, refl, sym, ◌∙◌, ap}
use Rattle.std.proofs.lemmas.Option.{slice_get_read}
use Rattle.std.proofs.Math.ListN.{set}
use Rattle.ob_session.specs.Session.{Module, find_module, with_module}
use Rattle.ob_link.specs.Places.{number_in}
use Rattle.ob_link.proofs.Places.{placed, number_again, with_again}
use Rattle.ob_link.proofs.table.Table.replace.Goals as goal

pub index_mut-requires : goal.index_mut-requires
index_mut-requires c =
    let known : number_in c.self.inside.modules.items c.args.loaded.interface.name ≡ Some c.args.number =
    ap (λ (ms : List Module). number_in ms c.args.loaded.interface.name) c.self.view_is ∙ c.requires in
    let inside : c.args.number < length c.self.inside.modules.items = (placed c.self.inside.modules.items c.args.loaded.interface.name c.args.number known).inside in
    search rules

pub invariant_of-self : goal.invariant_of-self
invariant_of-self c = λ q.
    let known : number_in c.self.inside.modules.items c.args.loaded.interface.name ≡ Some c.args.number =
    ap (λ (ms : List Module). number_in ms c.args.loaded.interface.name) c.self.view_is ∙ c.requires in
    c.self.invariant q ∙ sym (number_again c.self.inside.modules.items c.args.loaded c.args.number q known)
    ∙ ap (λ m. number_in (set c.self.inside.modules.items c.args.number m) q) (sym c.replace.ensures.after)

pub returns-clause-new : goal.returns-clause-new
returns-clause-new c =
    let known : number_in c.self.inside.modules.items c.args.loaded.interface.name ≡ Some c.args.number =
    ap (λ (ms : List Module). number_in ms c.args.loaded.interface.name) c.self.view_is ∙ c.requires in
    ap (set c.self.inside.modules.items c.args.number) c.replace.ensures.after
    ∙ sym (with_again c.self.inside.modules.items c.args.loaded c.args.number known)
    ∙ ap (λ (ms : List Module). with_module ms c.args.loaded) c.self.view_is

pub returns-clause-back : goal.returns-clause-back
returns-clause-back c =
    let old : List Module = c.self.inside.modules.items in
    let name : List ℕ = c.args.loaded.interface.name in
    let known : number_in old name ≡ Some c.args.number = ap (λ (ms : List Module). number_in ms name) c.self.view_is ∙ c.requires in
    let there = placed old name c.args.number known in
    ap (λ (ms : List Module). find_module ms name) (sym c.self.view_is)
    ∙ sym there.found
    ∙ slice_get_read old (length old) c.args.number c.index_mut.result.now refl there.inside c.index_mut.ensures.value
    ∙ ap Some (sym c.replace.ensures.value)
