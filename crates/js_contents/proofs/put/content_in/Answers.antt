use Rattle.std.proofs.Common.{◌≤◌, Ok, codes, ap, sym, subst, ◌∙◌}
use Rattle.serde_json.specs.Data.{depth}
use Rattle.serde_json.specs.Read.{max_depth}
use Rattle.serde_json.specs.Find.{get}
use Rattle.serde_json.specs.View.{view}
use Rattle.js_contents.proofs.Parts.{missing_part, null_part, given_part, part_shallow}
use Rattle.js_contents.proofs.put.content_in.Goals as goal

pub returns-in-None-clause-exact : goal.returns-in-None-clause-exact
returns-in-None-clause-exact c =
    missing_part (codes "content") c.args.body (ap (get (codes "content")) (sym c.into_value.ensures.value) ∙ sym c.in-None.ensures.found)

pub returns-then-is_null-clause-exact : goal.returns-then-is_null-clause-exact
returns-then-is_null-clause-exact c =
    null_part (codes "content") c.args.body (view c.in-Some.content) (ap (get (codes "content")) (sym c.into_value.ensures.value) ∙ sym c.in-Some.ensures.found)
    (sym c.is_null.ensures ∙ c.if-is_null.true)

pub returns-else-is_null-clause-exact : goal.returns-else-is_null-clause-exact
returns-else-is_null-clause-exact c =
    given_part (codes "content") c.args.body (view c.in-Some.content) (ap (get (codes "content")) (sym c.into_value.ensures.value) ∙ sym c.in-Some.ensures.found)
    (sym c.is_null.ensures ∙ c.if-is_null.false)
    ∙ ap (λ d. Ok d) (sym c.of_whole.ensures)

pub returns-else-is_null-clause-shallow : goal.returns-else-is_null-clause-shallow
returns-else-is_null-clause-shallow c =
    subst (λ d. depth d ≤ max_depth) (sym c.of_whole.ensures)
    (part_shallow (codes "content") c.args.body (view c.in-Some.content) (ap (get (codes "content")) (sym c.into_value.ensures.value) ∙ sym c.in-Some.ensures.found) c.requires)
