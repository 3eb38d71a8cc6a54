use Rattle.std.proofs.Common.{◌∙◌, ap, refl}
use Rattle.js_kernels.specs.Hosting.{state_in, states_of}
use Rattle.js_kernels.proofs.Hosting.{kept_at}
use Rattle.js_kernels.proofs.Reached.{still}
use Rattle.js_kernels.proofs.kernels.Kernels.note.Goals as goal

pub returns-in-Some : goal.returns-in-Some
returns-in-Some g c =
    let was = c.index_mut.result.now in
    kept_at c.self.inside.hosted.items c.in-Some.place was (record { id = was.id; ends = c.note.new.self }) c.index_mut.ensures.value (refl, c.note.ensures.1) (ap state_in c.note.ensures.0) ∙ c.self.view_is

pub invariant_of-self : goal.invariant_of-self
invariant_of-self g c =
    let was = c.index_mut.result.now in
    still g.row.L.Denot g.row.L-Session.Denot g.row.L-Tree.Denot g.row.L-Machine.Denot (states_of c.self.inside.hosted.items) _
    (kept_at c.self.inside.hosted.items c.in-Some.place was (record { id = was.id; ends = c.note.new.self }) c.index_mut.ensures.value (refl, c.note.ensures.1) (ap state_in c.note.ensures.0))
    c.self.invariant
