-- To be believed.
-- The grammar of expressions, a clause for each production. The number says how many more constructs may nest in one.
use Rattle.std.specs.Prelude.{◌≡◌, ℕ, zero, suc, List, ◌∷◌, true, false}
use Rattle.ob_scan.specs.declared.token.Kind.TheVariants as kinds
use Rattle.ob_scan.specs.declared.token.Span.{Span}
use Rattle.ob_scan.specs.declared.token.Symbol.{Symbol}
use Rattle.ob_scan.specs.declared.token.Symbol.TheVariants as s
use Rattle.ob_tree.specs.declared.tree.Sign.{Sign}
use Rattle.ob_tree.specs.declared.tree.Sign.TheVariants as sign
use Rattle.ob_tree.specs.declared.tree.Relation.{Relation}
use Rattle.ob_tree.specs.declared.tree.Relation.TheVariants as relation
use Rattle.ob_tree.specs.declared.tree.AddOperator.{AddOperator}
use Rattle.ob_tree.specs.declared.tree.AddOperator.TheVariants as add
use Rattle.ob_tree.specs.declared.tree.MulOperator.{MulOperator}
use Rattle.ob_tree.specs.declared.tree.MulOperator.TheVariants as mul
use Rattle.ob_tree.specs.declared.tree.Expr.{Expr, out-Expr}
use Rattle.ob_tree.specs.declared.tree.Related.{Related, out-Related}
use Rattle.ob_tree.specs.declared.tree.Simple.{Simple, out-Simple}
use Rattle.ob_tree.specs.declared.tree.AddedTerm.{AddedTerm, out-AddedTerm}
use Rattle.ob_tree.specs.declared.tree.Term.{Term, out-Term}
use Rattle.ob_tree.specs.declared.tree.NextFactor.{NextFactor, out-NextFactor}
use Rattle.ob_tree.specs.declared.tree.Factor.{Factor, out-Factor}
use Rattle.ob_tree.specs.declared.tree.Designator.{Designator, out-Designator}
use Rattle.ob_tree.specs.declared.tree.Selector.{Selector, out-Selector}
use Rattle.ob_tree.specs.declared.tree.Factor.TheOpen.{Factor-F, Selector-F, Related-F}
use Rattle.ob_tree.specs.Ahead.{ahead}
use Rattle.ob_tree.specs.Name.{qualident}
use Rattle.ob_tree.specs.Phrase.{Phrase, ◌⨾◌, symbol_at, symbol, ident, each, maybe, separated, listed, opens}

abbrev pub FactorLayer : Type 0
FactorLayer = Factor-F Factor Related Selector AddedTerm Designator Expr NextFactor Simple Term

abbrev pub SelectorLayer : Type 0
SelectorLayer = Selector-F Factor Related Selector AddedTerm Designator Expr NextFactor Simple Term

abbrev pub RelatedLayer : Type 0
RelatedLayer = Related-F Factor Related Selector AddedTerm Designator Expr NextFactor Simple Term

-- ---- operators

abbrev pub sign_symbol : Sign → Symbol
sign_symbol sign.Plus = s.Plus
sign_symbol sign.Minus = s.Minus

abbrev pub relation_symbol : Relation → Symbol
relation_symbol relation.Equal = s.Equal
relation_symbol relation.NotEqual = s.NotEqual
relation_symbol relation.Less = s.Less
relation_symbol relation.LessEqual = s.LessEqual
relation_symbol relation.Greater = s.Greater
relation_symbol relation.GreaterEqual = s.GreaterEqual

abbrev pub add_symbol : AddOperator → Symbol
add_symbol add.Plus = s.Plus
add_symbol add.Minus = s.Minus
add_symbol add.Or = s.Or

abbrev pub mul_symbol : MulOperator → Symbol
mul_symbol mul.Times = s.Times
mul_symbol mul.Div = s.Div
mul_symbol mul.Mod = s.Mod
mul_symbol mul.And = s.And

abbrev pub sign_phrase : Sign × Span → Phrase
sign_phrase p = symbol_at (sign_symbol p.0) p.1

-- ---- productions

module _ (levels : ℕ) (inner : Expr → Phrase) (inner_factor : Factor → Phrase) where
  -- "(" [expr {"," expr}] ")", but a name that is a selector
  abbrev pub actuals : List Expr → Phrase
  actuals es = ahead false ⨾ symbol s.LeftParen ⨾ opens levels ⨾ listed s.Comma inner es ⨾ symbol s.RightParen

  abbrev pub selector_layer : SelectorLayer → Phrase
  selector_layer (Selector-F.Field name) = symbol s.Period ⨾ ident name
  selector_layer (Selector-F.Index indexes) = symbol s.LeftBracket ⨾ opens levels ⨾ separated s.Comma inner indexes ⨾ symbol s.RightBracket
  selector_layer (Selector-F.Guard q) = ahead true ⨾ symbol s.LeftParen ⨾ qualident q ⨾ symbol s.RightParen

  abbrev pub selector : Selector → Phrase
  selector x = selector_layer (out-Selector x)

  -- ident {selector}
  abbrev pub designator : Designator → Phrase
  designator d = ident (out-Designator d).name ⨾ each selector (out-Designator d).selectors

  abbrev pub factor_layer : FactorLayer → Phrase
  factor_layer (Factor-F.Integer n span) tokens rest = tokens ≡ record { kind = kinds.Integer n; span = span } ∷ rest
  factor_layer (Factor-F.Text t span) tokens rest = tokens ≡ record { kind = kinds.Text t; span = span } ∷ rest
  factor_layer (Factor-F.Truth true span) tokens rest = symbol_at s.True span tokens rest
  factor_layer (Factor-F.Truth false span) tokens rest = symbol_at s.False span tokens rest
  factor_layer (Factor-F.Value d) tokens rest = designator d tokens rest
  factor_layer (Factor-F.Call d es) tokens rest = (designator d ⨾ actuals es) tokens rest
  factor_layer (Factor-F.Parens span e) tokens rest = (symbol_at s.LeftParen span ⨾ opens levels ⨾ inner e ⨾ symbol s.RightParen) tokens rest
  factor_layer (Factor-F.Not span f) tokens rest = (symbol_at s.Not span ⨾ opens levels ⨾ inner_factor f) tokens rest

  abbrev pub factor_phrase : Factor → Phrase
  factor_phrase f = factor_layer (out-Factor f)

  -- factor {operator factor}
  abbrev pub next_factor : NextFactor → Phrase
  next_factor n = symbol_at (mul_symbol (out-NextFactor n).operator) (out-NextFactor n).span ⨾ factor_phrase (out-NextFactor n).factor

  abbrev pub term : Term → Phrase
  term t = factor_phrase (out-Term t).first ⨾ each next_factor (out-Term t).others

  -- [sign] term {operator term}
  abbrev pub added_term : AddedTerm → Phrase
  added_term a = symbol_at (add_symbol (out-AddedTerm a).operator) (out-AddedTerm a).span ⨾ term (out-AddedTerm a).term

  abbrev pub simple : Simple → Phrase
  simple x = maybe sign_phrase (out-Simple x).sign ⨾ term (out-Simple x).first ⨾ each added_term (out-Simple x).others

  -- relation simple, or IS qualident
  abbrev pub related_layer : RelatedLayer → Phrase
  related_layer (Related-F.By relation span x) = symbol_at (relation_symbol relation) span ⨾ simple x
  related_layer (Related-F.Is span q) = symbol_at s.Is span ⨾ qualident q

  abbrev pub related : Related → Phrase
  related r = related_layer (out-Related r)

  -- simple [relation simple | IS qualident]

  abbrev pub expr_phrase : Expr → Phrase
  expr_phrase e = simple (out-Expr e).left ⨾ maybe related (out-Expr e).right

abbrev mutual
  pub inner : ℕ → Expr → Phrase
  inner zero e tokens rest = ⊥
  inner (suc n) e tokens rest = expr_phrase n (inner n) (inner_factor n) e tokens rest

  pub inner_factor : ℕ → Factor → Phrase
  inner_factor zero f tokens rest = ⊥
  inner_factor (suc n) f tokens rest = factor_phrase n (inner n) (inner_factor n) f tokens rest

-- an expression in which that many more constructs may nest
abbrev pub expr : ℕ → Expr → Phrase
expr levels = expr_phrase levels (inner levels) (inner_factor levels)
