use Rattle.std.proofs.Common.{rules, ◌≡◌, ap, ◌∙◌, drop, IsTrue}
use Rattle.std.specs.Str.{bytes_eq}
use Rattle.std.proofs.lemmas.Option.{MatchOption-at_some}
use Rattle.ob_types.specs.InterfaceText.{interface_text, exports_text}
use Rattle.ob_types.proofs.Texts.{key_by_rests}
use Rattle.ob_types.proofs.key.Key.is_of.Goals as goal

pub returns-in-Some : goal.returns-in-Some
returns-in-Some c =
    let n = c.same_before-same.result in
    let i = c.args.interface.now in
    let j = c.self.inside.interface in
    let xs = c.rest_from-left.result.now in
    let ys = c.rest_from-right.result.now in
    let names : i.name ≡ j.name = search rules in
    let seen = MatchOption-at_some (Unit {0}) (λ b. (IsTrue b → exports_text xs ≡ exports_text ys) × (exports_text xs ≡ exports_text ys → IsTrue b)) c.in-Some.seen c.in-Some.is c.in_ok-seen.ensures in
    key_by_rests i j n c.in-Some.seen xs ys names c.same_before-same.ensures.same (c.rest_from-left.ensures ∙ ap (drop n) c.exports.ensures) (c.rest_from-right.ensures ∙ ap (drop n) c.exports-2.ensures) seen ∙ ap (bytes_eq (interface_text i)) c.self.view_is
