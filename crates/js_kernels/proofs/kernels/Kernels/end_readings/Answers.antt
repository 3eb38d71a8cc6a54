use Rattle.std.proofs.Common.{◌∙◌, sym, arith, ap}
use Rattle.std.proofs.Math.ListN.{length-set}
use Rattle.js_tables.specs.Tables.{rows}
use Rattle.js_kernels.specs.Readings.{if_recorded}
use Rattle.js_kernels.proofs.Readings.{all_over, one_over}
use Rattle.js_kernels.specs.Hosting.{states_of}
use Rattle.js_kernels.specs.Events.{Event}
use Rattle.js_kernels.proofs.Reached.{after}
use Rattle.std.specs.Prelude.{map}
use Rattle.js_kernels.proofs.kernels.Kernels.end_readings.Goals as goal

pub loop-place-preserved : goal.loop-place-preserved
loop-place-preserved g c =
    let was = c.index_mut.result.now in
    let ks = c.loop-place.self-inside.hosted.items in
    record {
      so = one_over (if_recorded (rows c.args.tables.now)) c.args.self.now ks c.loop-place.place was c.end_unrecorded.new.self (omega arith)
          (c.loop-place.invariant.count ∙ sym c.loop-place.invariant.all) c.index_mut.ensures.value c.loop-place.invariant.so c.end_unrecorded.ensures;
      count = simp length-set c.loop-place.invariant.count;
      all = c.loop-place.invariant.all;
    }

pub returns : goal.returns
returns g c =
    all_over (if_recorded (rows c.args.tables.now)) c.args.self.now _ c.loop-place.place (omega (arith, c.loop-place.invariant.all)) c.loop-place.invariant.so

pub invariant_of-self : goal.invariant_of-self
invariant_of-self g c =
    let r = rows c.args.tables.now in
    let all = all_over (if_recorded r) c.args.self.now _ c.loop-place.place (omega (arith, c.loop-place.invariant.all)) c.loop-place.invariant.so in
    after g.row.L.Denot g.row.L-Session.Denot g.row.L-Tree.Denot g.row.L-Machine.Denot (states_of c.self.inside.hosted.items) (Event.Unrecord r) _ c.self.invariant (all ∙ ap (map (if_recorded r)) (sym c.self.view_is))
