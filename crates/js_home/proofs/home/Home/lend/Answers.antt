use Rattle.std.proofs.Common.{◌≡◌, ◌<◌, ◌∙◌, ap, sym, refl, subst, ◌++◌, ◌∷◌, [], append-nil}
use Rattle.jk_queues.specs.Ends.{seat_inbox}
use Rattle.js_home.specs.Homes.{IsPlaceOf, lent_of}
use Rattle.js_home.specs.Places.{place_of}
use Rattle.js_home.specs.declared.free.Free.{Free}
use Rattle.js_home.specs.declared.home.Home.{Home}
use Rattle.js_home.specs.declared.place.Place.{Place}
use Rattle.js_home.proofs.Ranges.{last_inside, last_own}
use Rattle.js_home.proofs.Homes.{keeps_places, keeps_own, same_all, moved_places, moved_own, lends_moves, lent_more}
use Rattle.js_home.proofs.home.Home.lend.Goals as goal
use Rattle.js_lend.specs.Ends.{lent_to}
use Rattle.std.specs.Prelude.{map}

pub invariant_of-self : goal.invariant_of-self
invariant_of-self g c =
    let h = c.args.self.now in
    let same = same_all h.free.items h.free.items h.lent.items c.reserve.new.self.items refl (sym (ap (map lent_to) c.reserve.ensures.items)) in
    record { first = h.first; places = keeps_places _ _ same h.places; own = keeps_own (seat_inbox h.zero) _ _ same h.own }

pub invariant_of-self-in_default : goal.invariant_of-self-in_default
invariant_of-self-in_default g c =
    let h = c.args.self.now in
    let same = same_all h.free.items h.free.items h.lent.items c.reserve.new.self.items refl (sym (ap (map lent_to) c.reserve.ensures.items)) in
    record { first = h.first; places = keeps_places _ _ same h.places; own = keeps_own (seat_inbox h.zero) _ _ same h.own }

pub invariant_of-self-in_default-pop : goal.invariant_of-self-in_default-pop
invariant_of-self-in_default-pop g c =
    let h = c.args.self.now in
    let same = same_all h.free.items c.pop.new.self.items h.lent.items c.reserve.new.self.items (c.in_default-pop.ensures.items ∙ append-nil c.pop.new.self.items) (sym (ap (map lent_to) c.reserve.ensures.items)) in
    record { first = h.first; places = keeps_places _ _ same h.places; own = keeps_own (seat_inbox h.zero) _ _ same h.own }

pub invariant_of-self-2 : goal.invariant_of-self-2
invariant_of-self-2 g c =
    let h = c.args.self.now in
    let loan = c.lend-loan.result.0 in
    let lent = c.push_reserved.ensures.items ∙ ap (λ l. l ++ loan ∷ []) c.reserve.ensures.items in
    let moves = lends_moves h.free.items c.pop.new.self.items h.lent.items c.push_reserved.new.self.items loan c.in-Some.free c.in-Some.ensures.items lent c.lend-loan.ensures.0 in
    record { first = h.first; places = moved_places _ _ moves h.places; own = moved_own (seat_inbox h.zero) _ _ moves h.own }

pub returns-clause-lent : goal.returns-clause-lent
returns-clause-lent g c =
    let h = c.args.self.now in
    let loan = c.lend-loan.result.0 in
    let x = c.in-Some.free in
    let lent = c.push_reserved.ensures.items ∙ ap (λ l. l ++ loan ∷ []) c.reserve.ensures.items in
    let is = ap (λ l. l.value) c.new-2.ensures ∙ c.lend-loan.ensures.2 in (
      c.in-Some.ensures.items ∙ ap (λ z. c.pop.new.self.items ++ z ∷ []) (sym is),
      lent_more h.lent.items c.push_reserved.new.self.items loan x lent c.lend-loan.ensures.0 ∙ ap (λ z. lent_of h ++ z ∷ []) (sym is),
      refl,
    )

is_place : {L S T M : Type 0} (h : Home L S T M) (place : Place L S T M) (x : Free L S T M) → place.lease.value ≡ x → seat_inbox x.seat ≡ seat_inbox h.zero
    → (0 < place_of x) × (place_of x < 8) → IsPlaceOf h place
is_place h place x e own low =
    let inbox = ap (λ f. seat_inbox f.seat) e ∙ own in
    (inbox, place.lease.value.own ∙ inbox, subst (λ f. 0 < place_of f) (sym e) low.0, subst (λ f. place_of f < 8) (sym e) low.1)

pub returns-clause-own : goal.returns-clause-own
returns-clause-own g c =
    let h = c.args.self.now in
    let x = c.in-Some.free in
    let is = ap (λ l. l.value) c.new-2.ensures ∙ c.lend-loan.ensures.2 in
    let low = last_inside c.pop.new.self.items h.free.items (map lent_to h.lent.items) x c.in-Some.ensures.items h.places in
    let own = last_own c.pop.new.self.items h.free.items (map lent_to h.lent.items) x c.in-Some.ensures.items (seat_inbox h.zero) h.own in
    is_place h c.new-2.result x is own low
