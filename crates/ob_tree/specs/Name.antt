-- To be believed.
-- The grammar of names and labels.
use Rattle.std.specs.Prelude.{◌≡◌, List, ◌∷◌}
use Rattle.ob_scan.specs.declared.token.Kind.TheVariants as kinds
use Rattle.ob_scan.specs.declared.token.Symbol.TheVariants as s
use Rattle.ob_tree.specs.declared.tree.IdentDef.{IdentDef}
use Rattle.ob_tree.specs.declared.tree.Qualident.{Qualident}
use Rattle.ob_tree.specs.declared.tree.Label.{Label}
use Rattle.ob_tree.specs.declared.tree.Label.TheVariants as labels
use Rattle.ob_tree.specs.declared.tree.LabelRange.{LabelRange}
use Rattle.ob_tree.specs.Phrase.{Phrase, ◌⨾◌, symbol_at, symbol, ident, maybe, separated}

-- ident ["*"]
abbrev pub ident_def : IdentDef → Phrase
ident_def d = ident d.name ⨾ maybe (symbol_at s.Times) d.mark

-- identdef {"," identdef}
abbrev pub ident_list : List IdentDef → Phrase
ident_list = separated s.Comma ident_def

-- ident ["." ident]
abbrev pub qualident : Qualident → Phrase
qualident q = ident q.first ⨾ maybe (λ i. symbol s.Period ⨾ ident i) q.second

-- integer | string | qualident
abbrev pub label : Label → Phrase
label (labels.Integer n span) tokens rest = tokens ≡ record { kind = kinds.Integer n; span = span } ∷ rest
label (labels.Text t span) tokens rest = tokens ≡ record { kind = kinds.Text t; span = span } ∷ rest
label (labels.Name q) tokens rest = qualident q tokens rest

-- label [".." label]
abbrev pub label_range : LabelRange → Phrase
label_range r = label r.first ⨾ maybe (λ l. symbol s.DotDot ⨾ label l) r.last
