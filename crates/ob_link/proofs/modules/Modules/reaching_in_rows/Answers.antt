use Rattle.std.proofs.Common.{◌≡◌, ◌≤◌, length, sym, ◌∙◌, ap, arith}
use Rattle.ob_link.proofs.ReachRows.{reach_after, reach_settled}
use Rattle.ob_link.proofs.modules.Modules.reaching_in_rows.Goals as goal

pub loop-length-init : goal.loop-length-init
loop-length-init c = c.requires

pub loop-length-preserved : goal.loop-length-preserved
loop-length-preserved c =
    c.in_ok-next.ensures ∙ reach_after c.args.self.now c.as_slice.result.now c.loop-length._length c.args.name.now (c.as_slice.ensures.value ∙ c.loop-length.invariant)

pub returns-then-same_flags : goal.returns-then-same_flags
returns-then-same_flags c =
    let inside : c.loop-length._length ≤ length c.args.self.now = omega (arith, c.loop-length-test.true, ap length c.as_slice-length-end.ensures) in
    let same : c.as_slice.result.now ≡ c.in_ok-next.next.items =
    c.as_slice.ensures.value ∙ sym c.as_slice-in-loop-length.ensures.value ∙ c.same_flags.ensures c.if-same_flags.true ∙ c.as_slice-in-loop-length-2.ensures.value in
    reach_settled c.args.self.now c.as_slice.result.now c.in_ok-next.next.items c.loop-length._length c.args.name.now (c.as_slice.ensures.value ∙ c.loop-length.invariant) c.in_ok-next.ensures same inside
