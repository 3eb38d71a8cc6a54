use Rattle.std.proofs.Common.{ap, refl}
use Rattle.js_kernels.specs.Hosting.{state_in, states_of}
use Rattle.js_kernels.proofs.Hosting.{found_at, recorded_at}
use Rattle.js_kernels.proofs.Readings.{read_on_at}
use Rattle.js_kernels.specs.Events.{Event}
use Rattle.js_kernels.proofs.Reached.{after}
use Rattle.js_kernels.proofs.kernels.Kernels.record.Goals as goal

pub returns-clause-reads : goal.returns-clause-reads
returns-clause-reads g c =
    let was = c.index_mut.result.now in
    let kept = c.record.ensures.same in
    let ks = c.self.inside.hosted.items in
    let first = found_at ks c.as_slice.result.now c.args.id.now c.in-Some.place c.as_slice.ensures.value c.in-Some.ensures in
    read_on_at _ _ _ _ c.args.self.now ks c.in-Some.place was c.record.new.self c.args.id.now _ _ _ _ c.self.view_is first c.index_mut.ensures.value kept.0 (ap state_in kept.1)
    was.ends.scribe refl c.record.ensures.records

pub returns-clause-records : goal.returns-clause-records
returns-clause-records g c =
    let was = c.index_mut.result.now in
    let kept = c.record.ensures.same in
    let ks = c.self.inside.hosted.items in
    let first = found_at ks c.as_slice.result.now c.args.id.now c.in-Some.place c.as_slice.ensures.value c.in-Some.ensures in
    recorded_at _ _ _ _ c.args.self.now ks c.in-Some.place was c.record.new.self c.args.id.now _ _ _ c.self.view_is first c.index_mut.ensures.value kept.0 (ap state_in kept.1)
    c.record.ensures.records

pub invariant_of-self : goal.invariant_of-self
invariant_of-self g c =
    let was = c.index_mut.result.now in
    let kept = c.record.ensures.same in
    let ks = c.self.inside.hosted.items in
    let first = found_at ks c.as_slice.result.now c.args.id.now c.in-Some.place c.as_slice.ensures.value c.in-Some.ensures in
    after g.row.L.Denot g.row.L-Session.Denot g.row.L-Tree.Denot g.row.L-Machine.Denot (states_of ks) (Event.Record c.args.id.now c.args.date.now _ _ _ _ _ _) _ c.self.invariant
    (recorded_at _ _ _ _ (states_of ks) ks c.in-Some.place was c.record.new.self c.args.id.now _ _ _ refl first c.index_mut.ensures.value kept.0 (ap state_in kept.1)
    c.record.ensures.records)
