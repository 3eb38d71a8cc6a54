-- Reading expressions.
use Rattle.std.specs.Prelude.{ℕ, zero, suc, List, [], ◌∷◌, true, false, Option, Some, None, Ok, Err, if◌then◌else◌}
use Rattle.ob_base.specs.declared.fault.Code.TheVariants as codes
use Rattle.ob_scan.specs.declared.token.Kind.{Kind}
use Rattle.ob_scan.specs.declared.token.Kind.TheVariants as kinds
use Rattle.ob_scan.specs.declared.token.Span.{Span}
use Rattle.ob_scan.specs.declared.token.Symbol.TheVariants as s
use Rattle.ob_scan.specs.declared.token.Token.{Token}
use Rattle.ob_tree.specs.declared.tree.Sign.{Sign}
use Rattle.ob_tree.specs.declared.tree.Sign.TheVariants as sign
use Rattle.ob_tree.specs.declared.tree.Relation.{Relation}
use Rattle.ob_tree.specs.declared.tree.Relation.TheVariants as relation
use Rattle.ob_tree.specs.declared.tree.AddOperator.{AddOperator}
use Rattle.ob_tree.specs.declared.tree.AddOperator.TheVariants as add
use Rattle.ob_tree.specs.declared.tree.MulOperator.{MulOperator}
use Rattle.ob_tree.specs.declared.tree.MulOperator.TheVariants as mul
use Rattle.ob_tree.specs.declared.tree.Expr.{Expr, roll-Expr}
use Rattle.ob_tree.specs.declared.tree.Related.{Related, roll-Related}
use Rattle.ob_tree.specs.declared.tree.Simple.{Simple, roll-Simple}
use Rattle.ob_tree.specs.declared.tree.AddedTerm.{AddedTerm, roll-AddedTerm}
use Rattle.ob_tree.specs.declared.tree.Term.{Term, roll-Term}
use Rattle.ob_tree.specs.declared.tree.NextFactor.{NextFactor, roll-NextFactor}
use Rattle.ob_tree.specs.declared.tree.Factor.{Factor, roll-Factor}
use Rattle.ob_tree.specs.declared.tree.Designator.{Designator, roll-Designator}
use Rattle.ob_tree.specs.declared.tree.Selector.{Selector, roll-Selector}
use Rattle.ob_tree.specs.declared.tree.Factor.TheOpen.{Factor-F, Selector-F, Related-F}
use Rattle.ob_tree.specs.Ahead.{at_guard}
use Rattle.ob_parse_expression.specs.NameReading.{qualident}
use Rattle.ob_parse_expression.specs.Reading.{Reader, ◌>>=◌, ◌>>◌, pure, refuse, eat, expect, ident, operator, opens, many, where_some, not_there}

abbrev pub sign_of : Kind → Option Sign
sign_of (kinds.Symbol s.Plus) = Some sign.Plus
sign_of (kinds.Symbol s.Minus) = Some sign.Minus
sign_of _ = None

abbrev pub relation_of : Kind → Option Relation
relation_of (kinds.Symbol s.Equal) = Some relation.Equal
relation_of (kinds.Symbol s.NotEqual) = Some relation.NotEqual
relation_of (kinds.Symbol s.Less) = Some relation.Less
relation_of (kinds.Symbol s.LessEqual) = Some relation.LessEqual
relation_of (kinds.Symbol s.Greater) = Some relation.Greater
relation_of (kinds.Symbol s.GreaterEqual) = Some relation.GreaterEqual
relation_of _ = None

abbrev pub add_of : Kind → Option AddOperator
add_of (kinds.Symbol s.Plus) = Some add.Plus
add_of (kinds.Symbol s.Minus) = Some add.Minus
add_of (kinds.Symbol s.Or) = Some add.Or
add_of _ = None

abbrev pub mul_of : Kind → Option MulOperator
mul_of (kinds.Symbol s.Times) = Some mul.Times
mul_of (kinds.Symbol s.Div) = Some mul.Div
mul_of (kinds.Symbol s.Mod) = Some mul.Mod
mul_of (kinds.Symbol s.And) = Some mul.And
mul_of _ = None

-- ---- productions. Inside one more construct an expression is read by inner, and a factor by inner_factor.

-- an expression after a comma, if a comma comes next
unfoldable pub next_expr : Reader Expr → Reader (Option Expr)
next_expr inner = eat s.Comma >>= where_some (λ _. inner)

-- one or more, with commas between
unfoldable pub exprs : Reader Expr → Reader (List Expr)
exprs inner = do
  first ← inner
  others ← many (next_expr inner)
  pure (first ∷ others)

-- a name in parentheses
unfoldable pub guard_name : Reader (Option Selector)
guard_name = do
  expect s.LeftParen
  q ← qualident
  expect s.RightParen
  pure (Some (roll-Selector (Selector-F.Guard q)))

-- one that is a selector, if it comes next
unfoldable pub guard : Reader (Option Selector)
guard tokens = if at_guard tokens then guard_name tokens else Ok (None, tokens)

-- IS and the name of a type, if IS comes next
unfoldable pub asked : Reader (Option Related)
asked = eat s.Is >>= where_some (λ span. do
  q ← qualident
  pure (roll-Related (Related-F.Is span q)))

module _ (levels : ℕ) (inner : Reader Expr) where
  -- what follows the opening parenthesis
  unfoldable pub actuals : Reader (List Expr)
  actuals = do
    opens levels
    closed ← eat s.RightParen
    not_there closed (do es ← exprs inner; expect s.RightParen; pure es) (λ _. pure [])

  -- a selector, if one comes next
  unfoldable pub selector : Reader (Option Selector)
  selector = do
    period ← eat s.Period
    not_there period (do
      bracket ← eat s.LeftBracket
      not_there bracket guard (λ _. do
        opens levels
        es ← exprs inner
        expect s.RightBracket
        pure (Some (roll-Selector (Selector-F.Index es))))) (λ _. do
          name ← ident
          pure (Some (roll-Selector (Selector-F.Field name))))

  unfoldable pub designator : Reader Designator
  designator = do
    name ← ident
    selectors ← many selector
    pure (roll-Designator (record { name = name; selectors = selectors }))

  unfoldable pub value_or_call : Reader Factor
  value_or_call = do
    d ← designator
    paren ← eat s.LeftParen
    not_there paren (pure (roll-Factor (Factor-F.Value d))) (λ _. do
      es ← actuals
      pure (roll-Factor (Factor-F.Call d es)))

  -- what follows an opening parenthesis
  unfoldable pub parens : Span → Reader Factor
  parens span = do
    opens levels
    e ← inner
    expect s.RightParen
    pure (roll-Factor (Factor-F.Parens span e))

-- what follows ~
unfoldable pub negated : ℕ → Reader Factor → Span → Reader Factor
negated levels inner_factor span = do
  opens levels
  f ← inner_factor
  pure (roll-Factor (Factor-F.Not span f))

module _ (levels : ℕ) (inner : Reader Expr) (inner_factor : Reader Factor) where
  abbrev pub factor_by : Kind → Span → List Token → Reader Factor
  factor_by (kinds.Ident name) span all = λ _. value_or_call levels inner all
  factor_by (kinds.Integer n) span all = pure (roll-Factor (Factor-F.Integer n span))
  factor_by (kinds.Text t) span all = pure (roll-Factor (Factor-F.Text t span))
  factor_by (kinds.Symbol s.True) span all = pure (roll-Factor (Factor-F.Truth true span))
  factor_by (kinds.Symbol s.False) span all = pure (roll-Factor (Factor-F.Truth false span))
  factor_by (kinds.Symbol s.LeftParen) span all = parens levels inner span
  factor_by (kinds.Symbol s.Not) span all = negated levels inner_factor span
  factor_by _ span all = refuse codes.Token

  unfoldable pub factor_of : Reader Factor
  factor_of [] = Err codes.Token
  factor_of (t ∷ ts) = factor_by t.kind t.span (t ∷ ts) ts

  -- an operator and a factor, if an operator comes next
  unfoldable pub next_factor : Reader (Option NextFactor)
  next_factor = do
    found ← operator mul_of
    where_some (λ o. do
      f ← factor_of
      pure (roll-NextFactor (record { operator = o.0; span = o.1; factor = f }))) found

  unfoldable pub term : Reader Term
  term = do
    first ← factor_of
    others ← many next_factor
    pure (roll-Term (record { first = first; others = others }))

  unfoldable pub added_term : Reader (Option AddedTerm)
  added_term = do
    found ← operator add_of
    where_some (λ o. do
      t ← term
      pure (roll-AddedTerm (record { operator = o.0; span = o.1; term = t }))) found

  unfoldable pub simple : Reader Simple
  simple = do
    found ← operator sign_of
    first ← term
    others ← many added_term
    pure (roll-Simple (record { sign = found; first = first; others = others }))

  unfoldable pub related : Reader (Option Related)
  related = do
    found ← operator relation_of
    not_there found asked (λ o. do
      x ← simple
      pure (Some (roll-Related (Related-F.By o.0 o.1 x))))

  unfoldable pub expr_of : Reader Expr
  expr_of = do
    left ← simple
    right ← related
    pure (roll-Expr (record { left = left; right = right }))

abbrev mutual
  pub inner : ℕ → Reader Expr
  inner zero = refuse codes.Nesting
  inner (suc n) = expr_of n (inner n) (inner_factor n)

  pub inner_factor : ℕ → Reader Factor
  inner_factor zero = refuse codes.Nesting
  inner_factor (suc n) = factor_of n (inner n) (inner_factor n)

-- an expression in which that many more constructs may nest
abbrev pub expr : ℕ → Reader Expr
expr levels = expr_of levels (inner levels) (inner_factor levels)
