use Rattle.std.proofs.Common.{ap, refl}
use Rattle.js_kernels.specs.Hosting.{state_in, states_of}
use Rattle.js_kernels.proofs.Hosting.{found_at}
use Rattle.js_kernels.proofs.Readings.{begun_at}
use Rattle.js_kernels.proofs.Reached.{begun}
use Rattle.js_kernels.proofs.kernels.Kernels.begin_reading.Goals as goal

pub returns-in-Some : goal.returns-in-Some
returns-in-Some g c =
    let was = c.index_mut.result.now in
    let ks = c.self.inside.hosted.items in
    let first = found_at ks c.as_slice.result.now c.args.id.now c.in-Some.place c.as_slice.ensures.value c.in-Some.ensures in
    begun_at c.args.self.now ks c.in-Some.place was (record { id = was.id; ends = c.begin_reading.new.self }) c.args.id.now c.begin_reading.result c.self.view_is first
    c.index_mut.ensures.value refl (ap state_in c.begin_reading.ensures.home) c.begin_reading.ensures.reading

pub invariant_of-self : goal.invariant_of-self
invariant_of-self g c =
    let was = c.index_mut.result.now in
    let ks = c.self.inside.hosted.items in
    let first = found_at ks c.as_slice.result.now c.args.id.now c.in-Some.place c.as_slice.ensures.value c.in-Some.ensures in
    begun g.row.L.Denot g.row.L-Session.Denot g.row.L-Tree.Denot g.row.L-Machine.Denot (states_of ks) c.args.id.now c.begin_reading.result _ c.self.invariant
    (begun_at (states_of ks) ks c.in-Some.place was (record { id = was.id; ends = c.begin_reading.new.self }) c.args.id.now c.begin_reading.result refl first
    c.index_mut.ensures.value refl (ap state_in c.begin_reading.ensures.home) c.begin_reading.ensures.reading)
