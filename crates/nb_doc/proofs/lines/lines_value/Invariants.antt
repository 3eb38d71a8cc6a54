use Rattle.std.proofs.Common.{◌≡◌, ◌++◌, map}
use Rattle.std.specs.Str.Iter.{split_inclusive_text, split_inclusive_pattern}
use Rattle.serde_json.specs.Data.{string}
use Rattle.nb_doc.specs.Writing.{lines_of}
use Rattle.nb_doc.proofs.lines.lines_value.Given as goal

-- the lines so far, before those of what is left, are those of the text
abbrev pub invariant-loop-line : goal.invariant-loop-line
invariant-loop-line l = record {
  pattern : split_inclusive_pattern l.line-iterator ≡ 10;
  lines : l.row ++ map (λ t. string t) (lines_of (split_inclusive_text l.line-iterator)) ≡ map (λ t. string t) (lines_of l.text);
}
