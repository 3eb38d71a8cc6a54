-- To be believed.
-- The place of the first token of an expression.
use Rattle.std.specs.Prelude.{◌≡◌, List, [], ◌∷◌, Option, Some, None}
use Rattle.ob_scan.specs.declared.token.Span.{Span}
use Rattle.ob_scan.specs.declared.token.Token.{Token}
use Rattle.ob_tree.specs.declared.tree.Sign.{Sign}
use Rattle.ob_tree.specs.declared.tree.Expr.{Expr, out-Expr}
use Rattle.ob_tree.specs.declared.tree.Simple.{Simple, out-Simple}
use Rattle.ob_tree.specs.declared.tree.Term.{Term, out-Term}
use Rattle.ob_tree.specs.declared.tree.Factor.{out-Factor}
use Rattle.ob_tree.specs.declared.tree.Designator.{Designator, out-Designator}
use Rattle.ob_tree.specs.declared.tree.Factor.TheOpen.{Factor-F}
use Rattle.ob_tree.specs.Expression.{FactorLayer}

abbrev pub first_of_designator : Designator → Span
first_of_designator d = (out-Designator d).name.span

abbrev pub first_of_factor : FactorLayer → Span
first_of_factor (Factor-F.Integer n span) = span
first_of_factor (Factor-F.Text t span) = span
first_of_factor (Factor-F.Truth b span) = span
first_of_factor (Factor-F.Value d) = first_of_designator d
first_of_factor (Factor-F.Call d es) = first_of_designator d
first_of_factor (Factor-F.Parens span e) = span
first_of_factor (Factor-F.Not span f) = span

abbrev pub first_of_term : Term → Span
first_of_term t = first_of_factor (out-Factor (out-Term t).first)

abbrev pub first_of_signed : Option (Sign × Span) → Term → Span
first_of_signed None t = first_of_term t
first_of_signed (Some sign) t = sign.1

abbrev pub first_of_simple : Simple → Span
first_of_simple x = first_of_signed (out-Simple x).sign (out-Simple x).first

abbrev pub first_of : Expr → Span
first_of e = first_of_simple (out-Expr e).left

-- the first of these tokens stands there
abbrev pub BeginsAt : Span → List Token → Type 0
BeginsAt span [] = ⊥
BeginsAt span (t ∷ ts) = t.span ≡ span
