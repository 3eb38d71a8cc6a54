-- To be believed.
-- The grammar of statements. The number says how many more constructs may nest in one.
use Rattle.std.specs.Prelude.{◌≡◌, ℕ, zero, suc, List, [], ◌∷◌, Some, None}
use Rattle.ob_scan.specs.declared.token.Symbol.{Symbol}
use Rattle.ob_scan.specs.declared.token.Symbol.TheVariants as s
use Rattle.ob_tree.specs.declared.tree.Expr.{Expr}
use Rattle.ob_tree.specs.declared.tree.Designator.{Designator}
use Rattle.ob_tree.specs.declared.tree.Statement.{Statement, out-Statement}
use Rattle.ob_tree.specs.declared.tree.Branch.{Branch, out-Branch}
use Rattle.ob_tree.specs.declared.tree.Case.{Case, out-Case}
use Rattle.ob_tree.specs.declared.tree.ForHead.{ForHead}
use Rattle.ob_tree.specs.declared.tree.LabelRange.{LabelRange}
use Rattle.ob_tree.specs.declared.tree.Statement.TheOpen.{Statement-F}
use Rattle.ob_tree.specs.Phrase.{Phrase, ◌⨾◌, nothing, symbol_at, symbol, ident, each, maybe, separated, optional}
use Rattle.ob_tree.specs.Name.{label_range}
use Rattle.ob_tree.specs.Expression as expression

abbrev pub StatementLayer : Type 0
StatementLayer = Statement-F Statement Branch Case

abbrev pub designator : ℕ → Designator → Phrase
designator levels = expression.designator levels (expression.inner levels) (expression.inner_factor levels)

abbrev pub actuals : ℕ → List Expr → Phrase
actuals levels = expression.actuals levels (expression.inner levels) (expression.inner_factor levels)

-- ident ":=" expr TO expr [BY expr]
abbrev pub for_head : ℕ → ForHead → Phrase
for_head levels h = ident h.variable ⨾ symbol s.Becomes ⨾ expression.expr levels h.first ⨾ symbol s.To ⨾ expression.expr levels h.last ⨾ maybe (λ e. symbol s.By ⨾ expression.expr levels e) h.step

module _ (levels : ℕ) (body : List Statement → Phrase) where
  -- expr THEN statements, or expr DO statements
  abbrev pub branch : Symbol → Branch → Phrase
  branch word b = expression.expr levels (out-Branch b).guard ⨾ symbol word ⨾ body (out-Branch b).body

  abbrev pub elsif : Symbol → Branch → Phrase
  elsif word b = symbol s.Elsif ⨾ branch word b

  -- [range {"," range} ":" statements]
  abbrev pub case_parts : List LabelRange → List Statement → Phrase
  case_parts [] [] tokens rest = tokens ≡ rest
  case_parts [] (x ∷ b) tokens rest = ⊥
  case_parts (l ∷ ls) b tokens rest = (separated s.Comma label_range (l ∷ ls) ⨾ symbol s.Colon ⨾ body b) tokens rest

  abbrev pub case_phrase : Case → Phrase
  case_phrase c = case_parts (out-Case c).labels (out-Case c).body

  abbrev pub statement_layer : StatementLayer → Phrase
  statement_layer Statement-F.Empty = nothing
  statement_layer (Statement-F.Assign d e) = designator levels d ⨾ symbol s.Becomes ⨾ expression.expr levels e
  statement_layer (Statement-F.Call d None) = designator levels d
  statement_layer (Statement-F.Call d (Some es)) = designator levels d ⨾ actuals levels es
  statement_layer (Statement-F.If first others rest) = symbol s.If ⨾ branch s.Then first ⨾ each (elsif s.Then) others ⨾ optional s.Else body rest ⨾ symbol s.End
  statement_layer (Statement-F.Case span e cases) = symbol_at s.Case span ⨾ expression.expr levels e ⨾ symbol s.Of ⨾ separated s.Bar case_phrase cases ⨾ symbol s.End
  statement_layer (Statement-F.While first others) = symbol s.While ⨾ branch s.Do first ⨾ each (elsif s.Do) others ⨾ symbol s.End
  statement_layer (Statement-F.Repeat b e) = symbol s.Repeat ⨾ body b ⨾ symbol s.Until ⨾ expression.expr levels e
  statement_layer (Statement-F.For h b) = symbol s.For ⨾ for_head levels h ⨾ symbol s.Do ⨾ body b ⨾ symbol s.End

  abbrev pub statement : Statement → Phrase
  statement x = statement_layer (out-Statement x)

-- statements in a sequence that opens among that many
abbrev pub statements : ℕ → List Statement → Phrase
statements zero ss tokens rest = ⊥
statements (suc n) ss tokens rest = separated s.Semicolon (statement n (statements n)) ss tokens rest
