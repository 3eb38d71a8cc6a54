use Rattle.std.proofs.Common.{ap, sym, ◌∙◌}
use Rattle.ob_types.proofs.SameType.{same_true}
use Rattle.ob_check_kinds.proofs.kept.find.Goals as goal

pub returns-then-same : goal.returns-then-same
returns-then-same g c =
    c.in_ok-more.ensures ∙ c.made.ensures ∙ ap g.W.MadeOf.made_of (sym c.of.ensures)
    ∙ ap g.W.MadeOf.made_of (same_true c.of.result.now c.args.of.now (sym c.same.ensures ∙ c.if-same.true))
