use Rattle.std.proofs.Common.{rules, ◌≡◌, Some, None, sym, ◌∙◌, ap, ◌∷◌, [], ◌++◌, cond, length, List}
use Rattle.std.specs.Str.{bytes_eq}
use Rattle.std.specs.HashMap.{get_by}
use Rattle.ob_session.specs.Session.{Module, with_module}
use Rattle.ob_link.specs.Places.{number_in}
use Rattle.ob_link.proofs.Places.{updated, number_more, with_new}
use Rattle.ob_link.proofs.table.Table.append.Goals as goal

pub invariant_of-self-2 : goal.invariant_of-self-2
invariant_of-self-2 c = λ q.
    let old : List Module = c.self.inside.modules.items in
    let unknown : number_in old c.args.loaded.interface.name ≡ None = ap (λ (ms : List Module). number_in ms c.args.loaded.interface.name) c.self.view_is ∙ c.requires in
    let key : c.in_ok-name.name.items ≡ c.args.loaded.interface.name = search rules in
    let at_end : c.len-number.result ≡ length old = search rules in
    let pushed : c.push.new.self.items ≡ old ++ c.args.loaded ∷ [] = search rules in
    updated c.self.inside.places c.insert.new.self c.in_ok-name.name.items (Some c.len-number.result) c.in_ok-insert.ensures.updates q
    ∙ ap (λ b. cond (bytes_eq b q) (Some c.len-number.result) (get_by (λ k. bytes_eq q k.items) c.self.inside.places)) key
    ∙ ap (λ n. cond (bytes_eq c.args.loaded.interface.name q) (Some n) (get_by (λ k. bytes_eq q k.items) c.self.inside.places)) at_end
    ∙ ap (cond (bytes_eq c.args.loaded.interface.name q) (Some (length old))) (c.self.invariant q)
    ∙ sym (number_more old c.args.loaded q unknown)
    ∙ ap (λ (ms : List Module). number_in ms q) (sym pushed)

pub returns-clause-ok : goal.returns-clause-ok
returns-clause-ok c =
    let old : List Module = c.self.inside.modules.items in
    let unknown : number_in old c.args.loaded.interface.name ≡ None = ap (λ (ms : List Module). number_in ms c.args.loaded.interface.name) c.self.view_is ∙ c.requires in
    let pushed : c.push.new.self.items ≡ old ++ c.args.loaded ∷ [] = search rules in
    pushed ∙ sym (with_new old c.args.loaded unknown) ∙ ap (λ (ms : List Module). with_module ms c.args.loaded) c.self.view_is
