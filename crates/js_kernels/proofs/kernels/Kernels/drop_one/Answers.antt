use Rattle.std.proofs.Common.{◌<◌, length, refl, arith}
use Rattle.std.proofs.lemmas.Option.{slice_get_read}
use Rattle.js_kernels.proofs.Readings.{gone_at, none_gone}
use Rattle.js_kernels.specs.Hosting.{states_of}
use Rattle.js_kernels.specs.Events.{Event}
use Rattle.js_kernels.proofs.Reached.{after}
use Rattle.js_kernels.proofs.kernels.Kernels.drop_one.Goals as goal

pub returns-then-is_left : goal.returns-then-is_left
returns-then-is_left g c =
    let was = c.index.result.now in
    let ks = c.self.inside.hosted.items in
    let low : c.args.place < length ks = grind arith in
    gone_at c.args.self.now ks c.remove-known.new.self.items c.args.place was c.self.view_is (slice_get_read ks (length ks) c.args.place was refl low c.index.ensures)
    (c.is_left.ensures c.if-is_left.true) c.remove-known.ensures.items

pub returns-else-place-len : goal.returns-else-place-len
returns-else-place-len g c = none_gone c.args.self.now

pub invariant_of-self : goal.invariant_of-self
invariant_of-self g c =
    let was = c.index.result.now in
    let ks = c.self.inside.hosted.items in
    let low : c.args.place < length ks = grind arith in
    after g.row.L.Denot g.row.L-Session.Denot g.row.L-Tree.Denot g.row.L-Machine.Denot (states_of ks) Event.Go _ c.self.invariant
    (gone_at (states_of ks) ks c.remove-known.new.self.items c.args.place was refl (slice_get_read ks (length ks) c.args.place was refl low c.index.ensures)
    (c.is_left.ensures c.if-is_left.true) c.remove-known.ensures.items)
