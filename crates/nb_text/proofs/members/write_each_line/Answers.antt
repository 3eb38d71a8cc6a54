use Rattle.std.proofs.Common.{◌≡◌, ◌++◌, ◌∷◌, [], ℕ, ap, ◌∙◌, subst, rules}
use Rattle.std.proofs.lemmas.Result.{on_ok_weaker}
use Rattle.std.specs.Str.Iter.{split_inclusive_text}
use Rattle.std.specs.Str.Pattern.{FindsChar, EndsAtFirstMatch}
use Rattle.json.specs.Token.{end_array, string as text_token}
use Rattle.nb_doc.specs.Writing.{lines_of}
use Rattle.nb_doc.proofs.LineEnds.{one_line, no_lines}
use Rattle.nb_text.proofs.Steps.{line_step, line_end}
use Rattle.nb_text.proofs.members.write_each_line.Goals as goal

pub loop-line-preserved : goal.loop-line-preserved
loop-line-preserved g c =
    let w = split_inclusive_text c.loop-line.line-iterator in
    let line = c.in-Some.line.now in
    let P : ℕ → Type 0 = λ p. EndsAtFirstMatch (FindsChar p) w line in
    let first : lines_of w ≡ line ∷ lines_of (split_inclusive_text c.next.new.self) =
    one_line w line (split_inclusive_text c.next.new.self) c.in-Some.ensures.steps.1.0 (subst P c.loop-line.invariant.pattern c.in-Some.ensures.steps.1.1) in
    let added : (g.W.Tokens.written c.token.new.self) ≡ (g.W.Tokens.written c.loop-line.out) ++ text_token line ∷ [] = search rules in
    record {
      pattern = c.in-Some.ensures.steps.0 ∙ c.loop-line.invariant.pattern;
      lines = line_step (g.W.Tokens.written c.loop-line.out) (g.W.Tokens.written c.token.new.self) _ line (lines_of w) (lines_of (split_inclusive_text c.next.new.self)) added first c.loop-line.invariant.lines;
    }

pub returns : goal.returns
returns g c =
    let w = split_inclusive_text c.loop-line.line-iterator in
    on_ok_weaker c.token-2.result (λ (e : (g.W.Tokens.written c.token-2.new.self) ≡ (g.W.Tokens.written c.loop-line.out) ++ end_array ∷ []).
    line_end (g.W.Tokens.written c.loop-line.out) (g.W.Tokens.written c.token-2.new.self) _ (lines_of w) (no_lines w c.in-None.ensures.steps.1.0) e c.loop-line.invariant.lines) c.token-2.ensures
