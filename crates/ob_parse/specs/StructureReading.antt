-- Reading types.
use Rattle.std.specs.Prelude.{ℕ, zero, suc, List, [], ◌∷◌, Option, Err}
use Rattle.ob_base.specs.declared.fault.Code.TheVariants as codes
use Rattle.ob_scan.specs.declared.token.Kind.{Kind}
use Rattle.ob_scan.specs.declared.token.Kind.TheVariants as kinds
use Rattle.ob_scan.specs.declared.token.Span.{Span}
use Rattle.ob_scan.specs.declared.token.Symbol.TheVariants as s
use Rattle.ob_scan.specs.declared.token.Token.{Token}
use Rattle.ob_tree.specs.declared.tree.TypeExpr.{TypeExpr, roll-TypeExpr}
use Rattle.ob_tree.specs.declared.tree.TypedNames.{TypedNames, roll-TypedNames}
use Rattle.ob_tree.specs.declared.tree.TypeExpr.TheOpen.{TypeExpr-F}
use Rattle.ob_parse_expression.specs.Reading.{Reader, ◌>>=◌, ◌>>◌, pure, refuse, expect, opens, eat, where_some, separated, closed_by}
use Rattle.ob_tree.specs.declared.tree.Qualident.{Qualident}
use Rattle.ob_parse_expression.specs.NameReading.{ident_def, qualident}
use Rattle.ob_parse_expression.specs.ExpressionReading as expression

unfoldable pub names_of : Reader TypeExpr → Reader TypedNames
names_of type = do
  names ← separated s.Comma ident_def
  expect s.Colon
  t ← type
  pure (roll-TypedNames (record { names = names; of = t }))

unfoldable pub named : Reader TypeExpr
named = do
  q ← qualident
  pure (roll-TypeExpr (TypeExpr-F.Named q))

-- after an opening parenthesis
unfoldable pub base_name : Reader Qualident
base_name = do
  q ← qualident
  expect s.RightParen
  pure q

-- the name of a base, if a parenthesis comes next
unfoldable pub base : Reader (Option Qualident)
base = eat s.LeftParen >>= where_some (λ _. base_name)

module _ (levels : ℕ) (inner : Reader TypeExpr) where
  -- what stands after ARRAY
  unfoldable pub array : Span → Reader TypeExpr
  array span = do
    opens levels
    lengths ← expression.exprs (expression.inner levels)
    expect s.Of
    element ← inner
    pure (roll-TypeExpr (TypeExpr-F.Array span lengths element))

  -- what stands after RECORD
  unfoldable pub record_type : Span → Reader TypeExpr
  record_type span = do
    opens levels
    extended ← base
    fields ← closed_by s.End (separated s.Semicolon (names_of inner))
    pure (roll-TypeExpr (TypeExpr-F.Record span extended fields))

  abbrev pub type_by : Kind → Span → List Token → Reader TypeExpr
  type_by (kinds.Ident name) span all = λ _. named all
  type_by (kinds.Symbol s.Array) span all = array span
  type_by (kinds.Symbol s.Record) span all = record_type span
  type_by _ span all = refuse codes.Token

  unfoldable pub type_of : Reader TypeExpr
  type_of [] = Err codes.Token
  type_of (t ∷ ts) = type_by t.kind t.span (t ∷ ts) ts

abbrev pub inner : ℕ → Reader TypeExpr
inner zero = refuse codes.Nesting
inner (suc n) = type_of n (inner n)

-- a type in which that many more constructs may nest
abbrev pub type_expr : ℕ → Reader TypeExpr
type_expr levels = type_of levels (inner levels)

abbrev pub typed_names : ℕ → Reader TypedNames
typed_names levels = names_of (type_expr levels)
