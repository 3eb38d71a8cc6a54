-- Reading statements.
use Rattle.std.specs.Prelude.{ℕ, zero, suc, Bool, true, false, List, [], ◌∷◌, Option, Some, None, Ok, if◌then◌else◌}
use Rattle.ob_base.specs.declared.fault.Code.TheVariants as codes
use Rattle.ob_scan.specs.declared.token.Kind.{Kind}
use Rattle.ob_scan.specs.declared.token.Span.{Span}
use Rattle.ob_scan.specs.declared.token.Kind.TheVariants as kinds
use Rattle.ob_scan.specs.declared.token.Symbol.{Symbol}
use Rattle.ob_scan.specs.declared.token.Symbol.TheVariants as s
use Rattle.ob_scan.specs.declared.token.Token.{Token}
use Rattle.ob_tree.specs.declared.tree.Expr.{Expr}
use Rattle.ob_tree.specs.declared.tree.Designator.{Designator}
use Rattle.ob_tree.specs.declared.tree.Statement.{Statement, roll-Statement}
use Rattle.ob_tree.specs.declared.tree.Branch.{Branch, roll-Branch}
use Rattle.ob_tree.specs.declared.tree.Case.{Case, roll-Case}
use Rattle.ob_tree.specs.declared.tree.ForHead.{ForHead}
use Rattle.ob_tree.specs.declared.tree.Statement.TheOpen.{Statement-F}
use Rattle.ob_parse_expression.specs.Reading.{Reader, ◌>>=◌, ◌>>◌, pure, refuse, eat, expect, ident, many, where_some, not_there, separated, optional}
use Rattle.ob_parse_expression.specs.NameReading.{label_range}
use Rattle.ob_parse_expression.specs.ExpressionReading as expression

abbrev pub designator : ℕ → Reader Designator
designator levels = expression.designator levels (expression.inner levels)

abbrev pub actuals : ℕ → Reader (List Expr)
actuals levels = expression.actuals levels (expression.inner levels)

-- what stands after BY, if BY comes
unfoldable pub step : ℕ → Reader (Option Expr)
step levels = eat s.By >>= where_some (λ _. expression.expr levels)

unfoldable pub for_head : ℕ → Reader ForHead
for_head levels = do
  variable ← ident
  expect s.Becomes
  first ← expression.expr levels
  expect s.To
  last ← expression.expr levels
  by ← step levels
  pure (record { variable = variable; first = first; last = last; step = by })

abbrev pub ends_case : Kind → Bool
ends_case (kinds.Symbol s.Bar) = true
ends_case (kinds.Symbol s.End) = true
ends_case _ = false

abbrev pub at_case_end : List Token → Bool
at_case_end [] = false
at_case_end (t ∷ ts) = ends_case t.kind

module _ (levels : ℕ) (body : Reader (List Statement)) where
  unfoldable pub branch : Symbol → Reader Branch
  branch word = do
    guard ← expression.expr levels
    expect word
    b ← body
    pure (roll-Branch (record { guard = guard; body = b }))

  unfoldable pub elsif : Symbol → Reader (Option Branch)
  elsif word = eat s.Elsif >>= where_some (λ _. branch word)

  unfoldable pub if_statement : Reader Statement
  if_statement = do
    first ← branch s.Then
    others ← many (elsif s.Then)
    rest ← optional s.Else body
    expect s.End
    pure (roll-Statement (Statement-F.If first others rest))

  unfoldable pub while_statement : Reader Statement
  while_statement = do
    first ← branch s.Do
    others ← many (elsif s.Do)
    expect s.End
    pure (roll-Statement (Statement-F.While first others))

  unfoldable pub repeat_statement : Reader Statement
  repeat_statement = do
    b ← body
    expect s.Until
    e ← expression.expr levels
    pure (roll-Statement (Statement-F.Repeat b e))

  unfoldable pub for_statement : Reader Statement
  for_statement = do
    head ← for_head levels
    expect s.Do
    b ← body
    expect s.End
    pure (roll-Statement (Statement-F.For head b))

  unfoldable pub labelled : Reader Case
  labelled = do
    labels ← separated s.Comma label_range
    expect s.Colon
    b ← body
    pure (roll-Case (record { labels = labels; body = b }))

  -- a case is empty where a bar or END comes next
  unfoldable pub case_phrase : Reader Case
  case_phrase tokens = if at_case_end tokens then Ok (roll-Case (record { labels = []; body = [] }), tokens) else labelled tokens

  unfoldable pub case_statement : Span → Reader Statement
  case_statement span = do
    e ← expression.expr levels
    expect s.Of
    cases ← separated s.Bar case_phrase
    expect s.End
    pure (roll-Statement (Statement-F.Case span e cases))

  unfoldable pub assign_or_call : Reader Statement
  assign_or_call = do
    d ← designator levels
    becomes ← eat s.Becomes
    not_there becomes (do
      paren ← eat s.LeftParen
      not_there paren (pure (roll-Statement (Statement-F.Call d None))) (λ _. do
        es ← actuals levels
        pure (roll-Statement (Statement-F.Call d (Some es))))) (λ _. do
          e ← expression.expr levels
          pure (roll-Statement (Statement-F.Assign d e)))

  abbrev pub statement_by : Kind → Span → List Token → Reader Statement
  statement_by (kinds.Ident name) span all = λ _. assign_or_call all
  statement_by (kinds.Symbol s.If) span all = if_statement
  statement_by (kinds.Symbol s.Case) span all = case_statement span
  statement_by (kinds.Symbol s.While) span all = while_statement
  statement_by (kinds.Symbol s.Repeat) span all = repeat_statement
  statement_by (kinds.Symbol s.For) span all = for_statement
  statement_by _ span all = λ _. Ok (roll-Statement Statement-F.Empty, all)

  unfoldable pub statement : Reader Statement
  statement [] = Ok (roll-Statement Statement-F.Empty, [])
  statement (t ∷ ts) = statement_by t.kind t.span (t ∷ ts) ts

-- statements in a sequence that opens among that many
unfoldable pub statements : ℕ → Reader (List Statement)
statements zero = refuse codes.Nesting
statements (suc n) = separated s.Semicolon (statement n (statements n))
