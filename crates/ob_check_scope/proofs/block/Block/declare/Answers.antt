use Rattle.std.proofs.Common.{rules, ◌≡◌, Some, None, sym, ◌∙◌, ap, ◌∷◌, [], ◌++◌, cond, length, List}
use Rattle.std.specs.Str.{bytes_eq}
use Rattle.std.specs.HashMap.{get_by}
use Rattle.ob_check_scope.specs.Block.{find, place_of}
use Rattle.ob_check_scope.specs.declared.block.Declared.{Declared}
use Rattle.ob_types.proofs.PlaceMaps.{updated}
use Rattle.ob_check_scope.proofs.Index.{place_more, none_placed}
use Rattle.ob_check_scope.proofs.block.Block.declare.Goals as goal

pub invariant_of-self-2 : goal.invariant_of-self-2
invariant_of-self-2 c = λ q.
    let old : List Declared = c.self.inside.declared.items in
    let same : find old c.args.name.now ≡ None = ap (λ ds. find ds c.args.name.now) c.self.view_is ∙ c.requires in
    let key : c.in_ok-key.key.items ≡ c.args.name.now = search rules in
    let at_end : c.len-place.result ≡ length old = search rules in
    let pushed : c.push.new.self.items ≡ old ++ record { name = c.args.name.now; exported = c.args.exported; entry = c.args.entry } ∷ [] = search rules in
    updated c.self.inside.places c.insert.new.self c.in_ok-key.key.items (Some c.len-place.result) c.in_ok-insert.ensures.updates q
    ∙ ap (λ b. cond (bytes_eq b q) (Some c.len-place.result) (get_by (λ k. bytes_eq q k.items) c.self.inside.places)) key
    ∙ ap (λ n. cond (bytes_eq c.args.name.now q) (Some n) (get_by (λ k. bytes_eq q k.items) c.self.inside.places)) at_end
    ∙ ap (cond (bytes_eq c.args.name.now q) (Some (length old))) (c.self.invariant q)
    ∙ sym (place_more old (record { name = c.args.name.now; exported = c.args.exported; entry = c.args.entry }) q (none_placed old c.args.name.now same))
    ∙ ap (λ ds. place_of ds q) (sym pushed)
