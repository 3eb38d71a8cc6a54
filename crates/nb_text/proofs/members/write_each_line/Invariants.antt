use Rattle.std.proofs.Common.{◌≡◌, ◌++◌}
use Rattle.std.specs.Str.Iter.{split_inclusive_text, split_inclusive_pattern}
use Rattle.serde_json.specs.Data.{string}
use Rattle.nb_doc.specs.Writing.{lines_of}
use Rattle.nb_text.proofs.Steps.{each_tokens}
use Rattle.nb_text.proofs.members.write_each_line.Given as goal

-- what is written, before the lines of what is left, is all of it
abbrev pub invariant-loop-line : goal.invariant-loop-line
invariant-loop-line g l = record {
  pattern : split_inclusive_pattern l.line-iterator ≡ 10;
  lines : (g.W.Tokens.written l.out) ++ each_tokens (λ t. string t) (lines_of (split_inclusive_text l.line-iterator)) ≡ (g.W.Tokens.written l.initial.out) ++ each_tokens (λ t. string t) (lines_of l.text);
}
