use Rattle.std.proofs.Common.{◌≡◌, ◌++◌, ◌∷◌, [], ℕ, ap, ◌∙◌, subst}
use Rattle.std.specs.Str.Iter.{split_inclusive_text}
use Rattle.std.specs.Str.Pattern.{FindsChar, EndsAtFirstMatch}
use Rattle.serde_json.specs.Data.{string}
use Rattle.nb_doc.specs.Writing.{array_of, lines_form, texts_form}
use Rattle.nb_doc.proofs.LineEnds.{one_line, lines_step, lines_end}
use Rattle.nb_doc.proofs.Rows.{string_view}
use Rattle.nb_doc.proofs.lines.lines_value.Goals as goal

pub loop-line-preserved : goal.loop-line-preserved
loop-line-preserved c =
    let w = split_inclusive_text c.loop-line.line-iterator in
    let P : ℕ → Type 0 = λ p. EndsAtFirstMatch (FindsChar p) w c.in-Some.line.now in
    let first = one_line w c.in-Some.line.now (split_inclusive_text c.next.new.self) c.in-Some.ensures.steps.1.0 (subst P c.loop-line.invariant.pattern c.in-Some.ensures.steps.1.1) in
    let pushed : c.push.new.self ≡ c.loop-line.row ++ string c.in-Some.line.now ∷ [] = c.in_ok-push.ensures.ok ∙ ap (λ d. c.loop-line.row ++ d ∷ []) (string_view c.in_ok-from_str.field-0 ∙ ap string c.in_ok-from_str.ensures.ok) in
    record {
      pattern = c.in-Some.ensures.steps.0 ∙ c.loop-line.invariant.pattern;
      lines = lines_step c.loop-line.row c.push.new.self _ c.in-Some.line.now w (split_inclusive_text c.next.new.self) pushed first c.loop-line.invariant.lines;
    }

pub returns-clause-form : goal.returns-clause-form
unfolding lines_form texts_form
returns-clause-form c =
    c.into_value.ensures.form ∙ ap array_of (lines_end c.loop-line.row _ (split_inclusive_text c.loop-line.line-iterator) c.in-None.ensures.steps.1.0 c.loop-line.invariant.lines)
