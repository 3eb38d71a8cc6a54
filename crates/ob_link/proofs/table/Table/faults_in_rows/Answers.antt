use Rattle.std.proofs.Common.{◌≡◌, ◌≤◌, length, sym, ◌∙◌, ap, arith}
use Rattle.ob_link.proofs.Faults.{row_after, row_settled}
use Rattle.ob_link.proofs.table.Table.faults_in_rows.Goals as goal

pub loop-length-init : goal.loop-length-init
loop-length-init c = c.in_ok-behind.ensures

pub loop-length-preserved : goal.loop-length-preserved
loop-length-preserved c =
    c.in_ok-next.ensures ∙ row_after c.args.self.now c.as_slice.result.now c.loop-length._length (c.as_slice.ensures.value ∙ c.loop-length.invariant)

pub returns-then-same_faults : goal.returns-then-same_faults
returns-then-same_faults c =
    let inside : c.loop-length._length ≤ length c.args.self.now = omega (arith, c.loop-length-test.true, ap length c.as_slice-length-end.ensures) in
    let same : c.as_slice.result.now ≡ c.in_ok-next.next.items =
    c.as_slice.ensures.value ∙ sym c.as_slice-in-loop-length.ensures.value ∙ c.same_faults.ensures c.if-same_faults.true ∙ c.as_slice-in-loop-length-2.ensures.value in
    row_settled c.args.self.now c.as_slice.result.now c.in_ok-next.next.items c.loop-length._length (c.as_slice.ensures.value ∙ c.loop-length.invariant) c.in_ok-next.ensures same inside
