use Rattle.std.proofs.Common.{◌∙◌, ap, refl, sym, subst}
use Rattle.std.proofs.lemmas.Option.{none-some}
use Rattle.js_kernels.specs.Hosting.{state_in, states_of}
use Rattle.js_kernels.specs.Readings.{EndsReading, IsRead}
use Rattle.js_kernels.specs.Recording.{reading_in}
use Rattle.js_kernels.proofs.Hosting.{found_at}
use Rattle.js_kernels.proofs.Readings.{changed_at, ended_at, nowhere, somewhere}
use Rattle.js_kernels.specs.Events.{Event}
use Rattle.js_kernels.proofs.Reached.{after}
use Rattle.js_kernels.proofs.kernels.Kernels.end_reading.Goals as goal

pub returns-in-Some-clause-there : goal.returns-in-Some-clause-there
returns-in-Some-clause-there g c place found =
    let was = c.index_mut.result.now in
    let ks = c.self.inside.hosted.items in
    let first = found_at ks c.as_slice.result.now c.args.id.now c.in-Some.place c.as_slice.ensures.value c.in-Some.ensures in
    let kept = c.end_reading.ensures in
    changed_at EndsReading c.args.self.now ks c.in-Some.place was (record { id = was.id; ends = c.end_reading.new.self }) c.args.id.now c.self.view_is first
    c.index_mut.ensures.value refl (ap state_in kept.0) (ap reading_in kept.1)

-- a kernel was found
pub returns-in-Some-clause-gone : goal.returns-in-Some-clause-gone
returns-in-Some-clause-gone g c none =
    let ks = c.self.inside.hosted.items in
    let first = found_at ks c.as_slice.result.now c.args.id.now c.in-Some.place c.as_slice.ensures.value c.in-Some.ensures in
    absurd (none-some c.in-Some.place (sym none ∙ somewhere c.args.self.now ks c.in-Some.place c.args.id.now c.self.view_is first))

-- none was found
pub returns-in_default-clause-there : goal.returns-in_default-clause-there
returns-in_default-clause-there g c place found =
    absurd (none-some place (sym (nowhere c.args.self.now c.self.inside.hosted.items c.as_slice.result.now c.args.id.now c.self.view_is c.as_slice.ensures.value
    (sym c.in_default.is ∙ c.place_of.ensures)) ∙ found))

-- what is read of it has ended
pub returns-in-Some-clause-read : goal.returns-in-Some-clause-read
returns-in-Some-clause-read g c =
    let was = c.index_mut.result.now in
    let ks = c.self.inside.hosted.items in
    let first = found_at ks c.as_slice.result.now c.args.id.now c.in-Some.place c.as_slice.ensures.value c.in-Some.ensures in
    ended_at ks c.in-Some.place was (record { id = was.id; ends = c.end_reading.new.self }) c.args.id.now first c.index_mut.ensures.value refl c.end_reading.ensures.1

pub returns-in_default-clause-read : goal.returns-in_default-clause-read
returns-in_default-clause-read g c = c.requires

pub invariant_of-self : goal.invariant_of-self
invariant_of-self g c =
    let was = c.index_mut.result.now in
    let ks = c.self.inside.hosted.items in
    let first = found_at ks c.as_slice.result.now c.args.id.now c.in-Some.place c.as_slice.ensures.value c.in-Some.ensures in
    let kept = c.end_reading.ensures in
    after g.row.L.Denot g.row.L-Session.Denot g.row.L-Tree.Denot g.row.L-Machine.Denot (states_of ks) (Event.EndReading c.args.id.now) _ c.self.invariant (
      subst (IsRead c.args.id.now) (sym c.self.view_is) c.requires,
      changed_at EndsReading (states_of ks) ks c.in-Some.place was (record { id = was.id; ends = c.end_reading.new.self }) c.args.id.now refl first
          c.index_mut.ensures.value refl (ap state_in kept.0) (ap reading_in kept.1),
    )
