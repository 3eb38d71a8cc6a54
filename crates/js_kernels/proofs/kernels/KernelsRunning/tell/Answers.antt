use Rattle.std.proofs.Common.{refl}
use Rattle.jk_log.specs.Asked.{sort_as}
use Rattle.js_kernels.proofs.Hosting.{found_at, tells_at, untold_at}
use Rattle.js_kernels.specs.Hosting.{states_of}
use Rattle.js_kernels.specs.Events.{Event}
use Rattle.js_kernels.proofs.Reached.{after}
use Rattle.js_kernels.proofs.kernels.KernelsRunning.tell.Goals as goal

pub returns-clause-told : goal.returns-clause-told
returns-clause-told g c =
    let was = c.index_mut.result.now in
    let ks = c.self.inside.hosted.items in
    let place = c.in-Some-place_of.place in
    let first = found_at ks c.as_slice.result.now c.args.id.now place c.as_slice.ensures.value c.in-Some-place_of.ensures in
    tells_at c.args.self.now ks place was (record { id = was.id; ends = c.tell.new.self }) c.args.id.now c.args.command (sort_as c.in-Some.what) c.tell.result
    c.self.view_is first c.index_mut.ensures.value (refl, c.tell.ensures.scribe) c.in-Some.ensures c.tell.ensures.told

pub returns-clause-err : goal.returns-clause-err
returns-clause-err g c =
    let was = c.index_mut.result.now in
    let ks = c.self.inside.hosted.items in
    let place = c.in-Some-place_of.place in
    let first = found_at ks c.as_slice.result.now c.args.id.now place c.as_slice.ensures.value c.in-Some-place_of.ensures in
    untold_at c.args.self.now ks place was (record { id = was.id; ends = c.tell.new.self }) c.args.id.now c.args.command (sort_as c.in-Some.what) c.tell.result
    c.self.view_is first c.index_mut.ensures.value (refl, c.tell.ensures.scribe) c.in-Some.ensures c.tell.ensures.told

pub invariant_of-self : goal.invariant_of-self
invariant_of-self g c =
    let was = c.index_mut.result.now in
    let ks = c.self.inside.hosted.items in
    let place = c.in-Some-place_of.place in
    let first = found_at ks c.as_slice.result.now c.args.id.now place c.as_slice.ensures.value c.in-Some-place_of.ensures in
    after g.row.L.Denot g.row.L-Session.Denot g.row.L-Tree.Denot g.row.L-Machine.Denot (states_of ks) (Event.Tell c.args.id.now c.args.command c.tell.result) _ c.self.invariant
    (tells_at (states_of ks) ks place was (record { id = was.id; ends = c.tell.new.self }) c.args.id.now c.args.command (sort_as c.in-Some.what) c.tell.result
    refl first c.index_mut.ensures.value (refl, c.tell.ensures.scribe) c.in-Some.ensures c.tell.ensures.told)
