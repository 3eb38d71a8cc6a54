use Rattle.std.proofs.Common.{sym, ◌∙◌}
use Rattle.ob_check_operand.proofs.Chains.{part_by_base, answer_as}
use Rattle.ob_check_operand.proofs.selecting.+part_as.Goals as goal

pub returns-in_ok-new-in-Some : goal.returns-in_ok-new-in-Some
returns-in_ok-new-in-Some t c =
    answer_as c.part_as.result _ _ _
    (part_by_base c.args.to.now c.args.of.now c.in-Some.base.now c.args.place c.in_ok-new-in-Some.field-0 (sym c.same.ensures ∙ c.if-same.false) (sym c.in-Some.ensures) c.in_ok-new-in-Some.ensures)
    c.part_as.ensures
