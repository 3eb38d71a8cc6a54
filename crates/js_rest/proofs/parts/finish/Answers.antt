use Rattle.std.proofs.Common.{sym, subst}
use Rattle.js_rest.specs.declared.parts.Outcome.{Outcome}
use Rattle.js_rest.specs.Parts.{Finishes}
use Rattle.js_rest.proofs.parts.finish.Goals as goal

pub returns-in-Shown : goal.returns-in-Shown
returns-in-Shown c =
    subst (λ (o : Outcome). Finishes o c.answer_of.result) (sym c.in-Shown.is) (c.opening_plan.result, c.opening_plan.ensures, c.answer_of.ensures)
