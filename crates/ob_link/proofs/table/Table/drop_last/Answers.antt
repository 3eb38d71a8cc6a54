use Rattle.std.proofs.Common.{rules, ◌≡◌, None, sym, ◌∙◌, ap, ◌∷◌, [], ◌++◌, cond, List}
use Rattle.std.specs.Str.{bytes_eq}
use Rattle.std.proofs.lemmas.List.{same_from_push}
use Rattle.std.specs.HashMap.{get_by}
use Rattle.ob_session.specs.Session.{Module, name_of}
use Rattle.ob_link.specs.Places.{number_in}
use Rattle.ob_link.proofs.Places.{updated}
use Rattle.ob_link.proofs.Exchanged.{number_less}
use Rattle.ob_link.proofs.table.Table.drop_last.Goals as goal

pub invariant_of-self : goal.invariant_of-self
invariant_of-self c = λ q.
    let old : List Module = c.self.inside.modules.items in
    let before : List Module = c.requires.before in
    let gone : Module = c.requires.last in
    let ends : old ≡ before ++ gone ∷ [] = c.self.view_is ∙ c.requires.ends in
    let popped : old ≡ c.pop.new.self.items ++ c.in-Some.last ∷ [] = search rules in
    let same = same_from_push c.pop.new.self.items before c.in-Some.last gone (sym popped ∙ ends) in
    let key : c.as_slice.result.now ≡ name_of c.in-Some.last = search rules in
    updated c.self.inside.places c.remove.new.self c.as_slice.result.now None c.remove.ensures.updates q
    ∙ ap (λ b. cond (bytes_eq b q) None (get_by (λ k. bytes_eq q k.items) c.self.inside.places)) (key ∙ ap name_of same.1)
    ∙ ap (cond (bytes_eq (name_of gone) q) None) (c.self.invariant q ∙ ap (λ (ms : List Module). number_in ms q) ends)
    ∙ number_less before gone q c.requires.new
    ∙ ap (λ (ms : List Module). number_in ms q) (sym same.0)
