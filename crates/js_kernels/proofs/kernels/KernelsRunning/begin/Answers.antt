use Rattle.std.proofs.Common.{◌++◌, ◌∷◌, [], ap, ◌∙◌}
use Rattle.js_kernels.specs.Events.{Event}
use Rattle.js_kernels.specs.Hosting.{states_of}
use Rattle.js_kernels.specs.declared.kernels.hosted.Hosted.{Hosted}
use Rattle.js_kernels.proofs.Reached.{after, made_last}
use Rattle.js_kernels.proofs.kernels.KernelsRunning.begin.Goals as goal

pub invariant_of-self-2 : goal.invariant_of-self-2
invariant_of-self-2 g c =
    let ks = c.self.inside.hosted.items in
    let k : Hosted _ _ _ _ = record { id = c.in_ok-id.id; ends = c.new-ends.result } in
    after g.row.L.Denot g.row.L-Session.Denot g.row.L-Tree.Denot g.row.L-Machine.Denot (states_of ks) (Event.Begin c.args.id.now) _ c.self.invariant
    (ap states_of (c.push_reserved.ensures.items ∙ ap (λ xs. xs ++ k ∷ []) c.reserve.ensures.items)
    ∙ made_last _ _ _ _ ks k c.args.id.now c.in_ok-id.ensures c.new-ends.ensures.0 c.new-ends.ensures.1)
