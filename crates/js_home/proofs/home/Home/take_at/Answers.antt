use Rattle.std.proofs.Common.{◌∙◌, ap, sym, refl, ◌++◌, ◌∷◌, [], slice_set}
use Rattle.jk_queues.specs.Ends.{seat_inbox}
use Rattle.js_lend.specs.Ends.{lent_to}
use Rattle.js_home.proofs.Homes.{keeps_places, keeps_own, same_all, asked, lent_at, taken_rest, takes_places, takes_own}
use Rattle.js_home.proofs.home.Home.take_at.Goals as goal

pub invariant_of-self : goal.invariant_of-self
invariant_of-self g c =
    let h = c.args.self.now in
    let same = same_all h.free.items c.reserve.new.self.items h.lent.items h.lent.items (sym c.reserve.ensures.items) refl in
    record { first = h.first; places = keeps_places _ _ same h.places; own = keeps_own (seat_inbox h.zero) _ _ same h.own }

pub invariant_of-self-in_default : goal.invariant_of-self-in_default
invariant_of-self-in_default g c =
    let h = c.args.self.now in
    let still = asked h.lent.items c.args.place c.index_mut.result.now c.take.new.self c.index_mut.ensures.value c.take.ensures.same in
    let same = same_all h.free.items c.reserve.new.self.items h.lent.items (slice_set h.lent.items c.args.place c.take.new.self) (sym c.reserve.ensures.items) (sym still) in
    record { first = h.first; places = keeps_places _ _ same h.places; own = keeps_own (seat_inbox h.zero) _ _ same h.own }

pub returns-in_default : goal.returns-in_default
returns-in_default g c =
    let h = c.args.self.now in
    (refl, (c.reserve.ensures.items, asked h.lent.items c.args.place c.index_mut.result.now c.take.new.self c.index_mut.ensures.value c.take.ensures.same))

pub invariant_of-self-2 : goal.invariant_of-self-2
invariant_of-self-2 g c =
    let h = c.args.self.now in
    let x = c.in-Some.free in
    let free = c.push_reserved.ensures.items ∙ ap (λ l. l ++ x ∷ []) c.reserve.ensures.items in
    let came = c.in-Some.ensures.came in
    record {
      first = h.first;
      places = takes_places h.free.items _ h.lent.items _ c.args.place c.index_mut.result.now c.take.new.self x c.requires c.index_mut.ensures.value came.place free c.remove.ensures.items h.places;
      own = takes_own (seat_inbox h.zero) h.free.items _ h.lent.items _ c.args.place c.index_mut.result.now c.take.new.self x c.requires c.index_mut.ensures.value came.inbox free c.remove.ensures.items h.own;
    }

pub returns : goal.returns
returns g c =
    let h = c.args.self.now in
    let x = c.in-Some.free in
    record {
      was = lent_to c.index_mut.result.now;
      now = x;
      low = c.requires;
      lent = lent_at h.lent.items c.args.place c.index_mut.result.now c.index_mut.ensures.value;
      served = c.in-Some.ensures.came;
      free = c.push_reserved.ensures.items ∙ ap (λ l. l ++ x ∷ []) c.reserve.ensures.items;
      others = taken_rest h.lent.items _ c.args.place c.take.new.self c.remove.ensures.items;
      zero = refl;
    }
