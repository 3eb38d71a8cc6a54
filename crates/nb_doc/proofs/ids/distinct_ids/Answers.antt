use Rattle.std.proofs.Common.{◌+◌, ◌||◌, ◌≡◌, List, ℕ, false, cond, length, sym, ap, ◌∙◌, subst}
use Rattle.std.proofs.lemmas.Bool.{not-true}
use Rattle.std.specs.Str.{bytes_eq}
use Rattle.nb_doc.specs.Ids.{is_among, standing}
use Rattle.nb_doc.proofs.Distinct.{IsReading, begins, more_ids}
use Rattle.nb_doc.proofs.ids.distinct_ids.Goals as goal

pub loop-draft-init : goal.loop-draft-init
loop-draft-init c =
    let P : List (List ℕ) → Type 0 = λ n. IsReading n (standing c.args.drafts.now) (standing c.args.drafts.now) in
    subst P (sym c.empty-names.ensures) (begins (standing c.args.drafts.now))

pub loop-draft-preserved : goal.loop-draft-preserved
loop-draft-preserved c =
    let named : c.as_str.result.now ≡ c.in-Some.id = c.as_str.ensures in
    let new : is_among c.loop-draft.names c.in-Some.id ≡ false = ap (is_among c.loop-draft.names) (sym named) ∙ not-true _ (sym c.in_ok-add.ensures.new ∙ c.if-not-branch.false) in
    more_ids c.loop-draft.names c.add.new.self c.in-Some.id c.args.drafts.now c.loop-draft.draft-index c.draft-item.result c.loop-draft.invariant c.loop-draft-test.true c.draft-item.is c.in-Some.is new
    (λ q. c.in_ok-add.ensures.members q ∙ ap (λ b. bytes_eq q b || is_among c.loop-draft.names q) named)
    (c.in_ok-add.ensures.len ∙ ap (λ b. length c.loop-draft.names + cond b 1 0) c.if-not-branch.false)
