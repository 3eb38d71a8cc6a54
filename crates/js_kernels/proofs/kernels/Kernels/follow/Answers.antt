use Rattle.std.proofs.Common.{◌∙◌, refl, sym}
use Rattle.std.proofs.Math.ListN.{length-set}
use Rattle.js_kernels.proofs.Hosting.{kept_at}
use Rattle.js_kernels.specs.Hosting.{states_of}
use Rattle.js_kernels.proofs.Reached.{still}
use Rattle.js_kernels.proofs.kernels.Kernels.follow.Goals as goal

pub loop-place-preserved : goal.loop-place-preserved
loop-place-preserved g c =
    let was = c.index_mut.result.now in
    record {
      same = kept_at c.loop-place.self-inside.hosted.items c.loop-place.place was (record { id = was.id; ends = c.follow.new.self }) c.index_mut.ensures.value (refl, c.follow.ensures.scribe) c.follow.ensures.home
          ∙ c.loop-place.invariant.same;
      count = simp length-set c.loop-place.invariant.count;
    }

pub invariant_of-self : goal.invariant_of-self
invariant_of-self g c = still g.row.L.Denot g.row.L-Session.Denot g.row.L-Tree.Denot g.row.L-Machine.Denot (states_of c.self.inside.hosted.items) _ (c.loop-place.invariant.same ∙ sym c.self.view_is) c.self.invariant
