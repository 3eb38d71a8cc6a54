use Rattle.std.proofs.Common.{sym}
use Rattle.ob_check_operand.proofs.Chains.{field_by_base, answer_as}
use Rattle.ob_check_operand.proofs.selecting.+field_along.Goals as goal

pub returns-in_ok-new-in-Some-base_of : goal.returns-in_ok-new-in-Some-base_of
returns-in_ok-new-in-Some-base_of t c =
    answer_as c.field_along.result _ _ _
    (field_by_base c.args.of.now c.in-Some-base_of.base.now c.args.name.now c.args.place c.in_ok-new-in-Some-base_of.field-0 (sym c.in-None.ensures) (sym c.in-Some-base_of.ensures) c.in_ok-new-in-Some-base_of.ensures)
    c.field_along.ensures
