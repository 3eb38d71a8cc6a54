use Rattle.std.proofs.Common.{rules, ◌≡◌, false, Some, sym, ◌∙◌, ap, ◌∷◌, [], ◌++◌, cond, length, List, ℕ}
use Rattle.std.specs.Str.{bytes_eq}
use Rattle.std.specs.HashMap.{get_by}
use Rattle.ob_check_scope.specs.Names.{place_in, is_among}
use Rattle.ob_types.proofs.PlaceMaps.{updated}
use Rattle.ob_check_scope.proofs.Places.{place_more, not_placed}
use Rattle.ob_check_scope.proofs.names.Names.push_new.Goals as goal

pub invariant_of-self-2 : goal.invariant_of-self-2
invariant_of-self-2 c = λ q.
    let old : List (List ℕ) = c.self.inside.names.items in
    let unknown : is_among old c.args.name.now ≡ false = ap (λ ns. is_among ns c.args.name.now) c.self.view_is ∙ c.requires in
    let key : c.in_ok-key.key.items ≡ c.args.name.now = search rules in
    let at_end : c.len-place.result ≡ length old = search rules in
    let pushed : c.push.new.self.items ≡ old ++ c.args.name.now ∷ [] = search rules in
    updated c.self.inside.places c.insert.new.self c.in_ok-key.key.items (Some c.len-place.result) c.in_ok-insert.ensures.updates q
    ∙ ap (λ b. cond (bytes_eq b q) (Some c.len-place.result) (get_by (λ k. bytes_eq q k.items) c.self.inside.places)) key
    ∙ ap (λ n. cond (bytes_eq c.args.name.now q) (Some n) (get_by (λ k. bytes_eq q k.items) c.self.inside.places)) at_end
    ∙ ap (cond (bytes_eq c.args.name.now q) (Some (length old))) (c.self.invariant q)
    ∙ sym (place_more old c.args.name.now q (not_placed old c.args.name.now unknown))
    ∙ ap (λ ns. place_in ns q) (sym pushed)
