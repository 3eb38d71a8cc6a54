use Rattle.std.proofs.Common.{◌∙◌, ap, sym, refl, subst}
use Rattle.js_kernels.specs.Hosting.{IsPlaceAt, IsPlaceOf, home_of, states_of}
use Rattle.js_kernels.specs.Told.{KernelState, place_in}
use Rattle.std.specs.Prelude.{List}
use Rattle.js_kernels.proofs.Hosting.{found_at, id_place, kept_at, lent_so, place_at}
use Rattle.js_kernels.proofs.Reached.{still}
use Rattle.js_kernels.proofs.kernels.Kernels.take_place.Goals as goal

pub returns-clause-same : goal.returns-clause-same
returns-clause-same g c =
    let was = c.index_mut.result.now in
    kept_at c.self.inside.hosted.items c.in-Some.place was (record { id = was.id; ends = c.lend.new.self }) c.index_mut.ensures.value (refl, c.lend.ensures.scribe) c.lend.ensures.same ∙ c.self.view_is

pub returns-clause-place : goal.returns-clause-place
returns-clause-place g c =
    let was = c.index_mut.result.now in
    let ks = c.self.inside.hosted.items in
    let first = found_at ks c.as_slice.result.now c.args.id.now c.in-Some.place c.as_slice.ensures.value c.in-Some.ensures in
    lent_so c.lend.result (λ p. IsPlaceOf (home_of was.ends) p) (λ p. IsPlaceAt c.args.id.now c.args.self.now p)
    (λ p h. subst (λ (states : List KernelState). IsPlaceAt c.args.id.now states p) c.self.view_is (place_at ks c.in-Some.place was c.args.id.now p first c.index_mut.ensures.value h))
    c.lend.ensures.place

-- a place was found for the identifier
pub returns-clause-gone : goal.returns-clause-gone
returns-clause-gone g c none =
    let ks = c.self.inside.hosted.items in
    let first = found_at ks c.as_slice.result.now c.args.id.now c.in-Some.place c.as_slice.ensures.value c.in-Some.ensures in
    let found = ap (place_in c.args.id.now) (sym c.self.view_is) ∙ (id_place c.args.id.now ks ∙ first) in
    absurd (cc (sym none ∙ found))

pub invariant_of-self : goal.invariant_of-self
invariant_of-self g c =
    let was = c.index_mut.result.now in
    still g.row.L.Denot g.row.L-Session.Denot g.row.L-Tree.Denot g.row.L-Machine.Denot (states_of c.self.inside.hosted.items) _
    (kept_at c.self.inside.hosted.items c.in-Some.place was (record { id = was.id; ends = c.lend.new.self }) c.index_mut.ensures.value (refl, c.lend.ensures.scribe) c.lend.ensures.same)
    c.self.invariant
