-- To be believed.
-- The grammar of types. The number says how many more constructs may nest in one.
use Rattle.std.specs.Prelude.{ℕ, zero, suc}
use Rattle.ob_scan.specs.declared.token.Symbol.TheVariants as s
use Rattle.ob_tree.specs.declared.tree.TypeExpr.{TypeExpr, out-TypeExpr}
use Rattle.ob_tree.specs.declared.tree.TypedNames.{TypedNames, out-TypedNames}
use Rattle.ob_tree.specs.declared.tree.TypeExpr.TheOpen.{TypeExpr-F}
use Rattle.ob_tree.specs.declared.tree.Qualident.{Qualident}
use Rattle.ob_tree.specs.Phrase.{Phrase, ◌⨾◌, symbol_at, symbol, maybe, separated, listed, opens}
use Rattle.ob_tree.specs.Name.{ident_list, qualident}
use Rattle.ob_tree.specs.Expression as expression

abbrev pub TypeLayer : Type 0
TypeLayer = TypeExpr-F TypeExpr TypedNames

-- IdentList ":" type
abbrev pub names_of : (TypeExpr → Phrase) → TypedNames → Phrase
names_of type t = ident_list (out-TypedNames t).names ⨾ symbol s.Colon ⨾ type (out-TypedNames t).of

-- "(" qualident ")"
abbrev pub base_name : Qualident → Phrase
base_name q = symbol s.LeftParen ⨾ qualident q ⨾ symbol s.RightParen

module _ (levels : ℕ) (inner : TypeExpr → Phrase) where
  abbrev pub type_layer : TypeLayer → Phrase
  type_layer (TypeExpr-F.Named q) = qualident q
  type_layer (TypeExpr-F.Array span lengths element) = symbol_at s.Array span ⨾ opens levels ⨾ separated s.Comma (expression.inner levels) lengths ⨾ symbol s.Of ⨾ inner element
  type_layer (TypeExpr-F.Record span base fields) = symbol_at s.Record span ⨾ opens levels ⨾ maybe base_name base ⨾ listed s.Semicolon (names_of inner) fields ⨾ symbol s.End

  abbrev pub type_phrase : TypeExpr → Phrase
  type_phrase t = type_layer (out-TypeExpr t)

-- a type inside one more construct
abbrev pub inner : ℕ → TypeExpr → Phrase
inner zero t tokens rest = ⊥
inner (suc n) t tokens rest = type_phrase n (inner n) t tokens rest

-- a type in which that many more constructs may nest
abbrev pub type_expr : ℕ → TypeExpr → Phrase
type_expr levels = type_phrase levels (inner levels)

abbrev pub typed_names : ℕ → TypedNames → Phrase
typed_names levels = names_of (type_expr levels)
