-- Reading names and labels.
use Rattle.std.specs.Prelude.{List, [], ◌∷◌, Option, Err}
use Rattle.ob_base.specs.declared.fault.Code.TheVariants as codes
use Rattle.ob_scan.specs.declared.token.Kind.{Kind}
use Rattle.ob_scan.specs.declared.token.Kind.TheVariants as kinds
use Rattle.ob_scan.specs.declared.token.Span.{Span}
use Rattle.ob_scan.specs.declared.token.Symbol.TheVariants as s
use Rattle.ob_scan.specs.declared.token.Token.{Token}
use Rattle.ob_tree.specs.declared.tree.Ident.{Ident}
use Rattle.ob_tree.specs.declared.tree.IdentDef.{IdentDef}
use Rattle.ob_tree.specs.declared.tree.Qualident.{Qualident}
use Rattle.ob_tree.specs.declared.tree.Label.{Label}
use Rattle.ob_tree.specs.declared.tree.Label.TheVariants as labels
use Rattle.ob_tree.specs.declared.tree.LabelRange.{LabelRange}
use Rattle.ob_parse_expression.specs.Reading.{Reader, and_then, ◌>>=◌, pure, refuse, eat, ident, where_some}

unfoldable pub ident_def : Reader IdentDef
ident_def = do
  name ← ident
  mark ← eat s.Times
  pure (record { name = name; mark = mark })

unfoldable pub member : Reader (Option Ident)
member = eat s.Period >>= where_some (λ _. ident)

unfoldable pub qualident : Reader Qualident
qualident = do
  first ← ident
  second ← member
  pure (record { first = first; second = second })

abbrev pub label_by : Kind → Span → List Token → Reader Label
label_by (kinds.Ident name) span all = λ _. and_then (qualident all) (λ q. pure (labels.Name q))
label_by (kinds.Integer n) span all = pure (labels.Integer n span)
label_by (kinds.Text t) span all = pure (labels.Text t span)
label_by _ span all = refuse codes.Token

unfoldable pub label : Reader Label
label [] = Err codes.Token
label (t ∷ ts) = label_by t.kind t.span (t ∷ ts) ts

unfoldable pub last_label : Reader (Option Label)
last_label = eat s.DotDot >>= where_some (λ _. label)

unfoldable pub label_range : Reader LabelRange
label_range = do
  first ← label
  last ← last_label
  pure (record { first = first; last = last })
