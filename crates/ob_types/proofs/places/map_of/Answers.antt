use Rattle.std.proofs.Common.{rules, ◌≡◌, ◌+◌, ◌-◌, ℕ, suc, Some, cond, drop, length, slice_get, refl, sym, ◌∙◌, ap, arith}
use Rattle.std.specs.Str.{bytes_eq}
use Rattle.std.specs.HashMap.{get_by}
use Rattle.ob_types.specs.Forms.{place_from}
use Rattle.std.proofs.lemmas.Option.{slice_get_read}
use Rattle.ob_types.proofs.PlaceMaps.{updated}
use Rattle.ob_types.proofs.FieldPlaces.{one_before}
use Rattle.ob_types.proofs.places.map_of.Goals as goal

pub loop-i-preserved : goal.loop-i-preserved
loop-i-preserved c =
    let i : ℕ = c.loop-i.i - 1 in
    let up : c.loop-i.i ≡ i + 1 = omega (arith, c.loop-i-test.true) in
    let next : c.loop-i.i ≡ suc i = omega (arith, c.loop-i-test.true) in
    let here : slice_get c.args.fields.now i ≡ Some c.index-fields-i.result = slice_get_read c.args.fields.now (length c.args.fields.now) i c.index-fields-i.result refl (omega (arith, c.loop-i-test.true, c.loop-i.invariant.0)) c.index-fields-i.is in
    let key : c.in_ok-key.key.items ≡ c.index-fields-i.result.name = search rules in (
      omega (arith, c.loop-i.invariant.0),
      λ q.
          updated c.loop-i.places c.insert.new.self c.in_ok-key.key.items (Some i) c.in_ok-insert.ensures.updates q
          ∙ ap (λ b. cond (bytes_eq b q) (Some i) (get_by (λ k. bytes_eq q k.items) c.loop-i.places)) key
          ∙ ap (cond (bytes_eq c.index-fields-i.result.name q) (Some i))
          (c.loop-i.invariant.1 q ∙ ap (λ n. place_from n (drop c.loop-i.i c.args.fields.now) q) up ∙ ap (λ n. place_from (i + 1) (drop n c.args.fields.now) q) next)
          ∙ sym (one_before c.args.fields.now i i c.index-fields-i.result q here),
    )
