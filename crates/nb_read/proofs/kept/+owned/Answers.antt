use Rattle.std.proofs.Common.{◌≡◌, ◌+◌, [], ◌∷◌, ◌++◌, drop, take, map, false, string_bytes, sym, ap, ap₂, ◌∙◌, subst, arith, rules}
use Rattle.std.proofs.lemmas.List.{drop_more, take_more, map-append}
use Rattle.json.specs.Value.{value_view}
use Rattle.json.proofs.Trees as lent
use Rattle.serde_json.specs.Data.{array, put, Members}
use Rattle.serde_json.specs.View.{view, items_view, members_view}
use Rattle.serde_json.specs.Written.{items_have_float, members_have_float}
use Rattle.serde_json.proofs.Views.{view-Array, members_view-insert_entry}
use Rattle.nb_read.specs.Lent.{data_of, data_view, items_data, members_data}
use Rattle.nb_read.proofs.Keeping.{array_is, items_more, put_whole}
use Rattle.nb_read.proofs.kept.+owned.Goals as goal

pub owned-returns-in_ok-owned_items-in-Array-clause-form : goal.owned-returns-in_ok-owned_items-in-Array-clause-form
owned-returns-in_ok-owned_items-in-Array-clause-form t c =
    let items = c.in-Array.items in
    let found = c.in_ok-owned_items-in-Array in
    let seen : data_view c.args.value.now ≡ array (items_data items.items) = ap data_of (ap value_view c.in-Array.is ∙ lent.view-Array items) in
    view-Array found.field-0 ∙ array_is found.field-0.items items.items found.ensures.form ∙ sym seen

pub owned_items-loop-item-preserved : goal.owned_items-loop-item-preserved
owned_items-loop-item-preserved t c =
    let l = c.loop-item in
    let xs = c.deref-item-items.result.now in
    let x = c.item-item.result in
    let o = c.in_ok-item.item in
    let more : take (l.item-index + 1) xs ≡ take l.item-index xs ++ x ∷ [] = take_more xs l.item-index x (omega arith) ∙ ap (λ y. take l.item-index xs ++ y ∷ []) (sym c.item-item.is) in
    let pushed = c.in_ok-push.ensures.items in
    record {
      kept =
          ap (map view) pushed ∙ map-append view l.found.items (o ∷ []) ∙ ap₂ (λ ds d. ds ++ d ∷ []) l.invariant.kept c.in_ok-item.ensures.form
          ∙ sym (map-append data_view (take l.item-index xs) (x ∷ [])) ∙ ap (map data_view) (sym more);
      whole = subst (λ os. items_have_float (items_view os) ≡ false) (sym pushed) (items_more l.found.items o l.invariant.whole c.in_ok-item.ensures.whole);
    }

pub owned_members-loop-member-preserved : goal.owned_members-loop-member-preserved
owned_members-loop-member-preserved t c =
    let l = c.loop-member in
    let xs = c.deref-member-items.result.now in
    let x = c.member-item.result in
    let old = members_view l.found.entries in
    let v = c.in_ok-value.value in
    let here : drop l.member-index xs ≡ x ∷ drop (l.member-index + 1) xs = drop_more xs l.member-index x (omega arith) ∙ ap (λ y. y ∷ drop (l.member-index + 1) xs) (sym c.member-item.is) in
    let copied : string_bytes c.in_ok-key.key ≡ x.0.now = search rules in
    let inserted : members_view c.insert.new.self.entries ≡ put x.0.now (view v) old =
    ap members_view c.in_ok-insert.ensures.entries ∙ members_view-insert_entry l.found.entries c.in_ok-key.key v ∙ ap (λ name. put name (view v) old) copied in
    record {
      kept =
          ap (members_data (drop (l.member-index + 1) xs)) (inserted ∙ ap (λ d. put x.0.now d old) c.in_ok-value.ensures.form)
          ∙ ap (λ ys. members_data ys old) (sym here) ∙ l.invariant.kept;
      whole = subst (λ (ms : Members). members_have_float ms ≡ false) (sym inserted) (put_whole x.0.now (view v) old c.in_ok-value.ensures.whole l.invariant.whole);
    }
