-- The functions that find trees.
use Rattle.std.proofs.Common.{◌≡◌, ℕ, List, Option, Some, None, Ok, Err, refl, ap, subst, ◌∙◌}
use Rattle.ob_scan.specs.declared.token.Token.{Token}
use Rattle.ob_scan.specs.TokensOf.{tokens_of}
use Rattle.ob_scan.proofs.TokenReading.{tokens_of-sound, tokens_of-complete}
use Rattle.ob_tree.specs.declared.tree.Cell.{Cell}
use Rattle.ob_parse.specs.Grammar.{Derives}
use Rattle.ob_parse_expression.specs.Reading.{Outcome}
use Rattle.ob_parse.specs.GrammarReading.{whole}
use Rattle.ob_parse.specs.CellText.{IsCellOf}
use Rattle.ob_parse.specs.TreeOf.{tree_of, tree_read, tree_where, cell_of}
use Rattle.ob_parse.proofs.Cells.{whole_derives, derives_whole}

some_is : {A : Type 0} (x y : A) → Some x ≡ Some y → x ≡ y
some_is x y e = cc

read_sound : (o : Outcome Cell) (tokens : List Token) (c : Cell) → whole tokens ≡ o → tree_read o ≡ Some c → Derives tokens c
read_sound (Ok p) tokens c e h = subst (λ x. Derives tokens x) (some_is p.0 c h) (whole_derives p.0 tokens p.1 e)
read_sound (Err code) tokens c e h = absurd cc

pub tree_sound : (tokens : List Token) (c : Cell) → tree_of tokens ≡ Some c → Derives tokens c
unfolding tree_of
tree_sound tokens c h = read_sound (whole tokens) tokens c refl h

pub tree_complete : (tokens : List Token) (c : Cell) → Derives tokens c → tree_of tokens ≡ Some c
unfolding tree_of
tree_complete tokens c h = ap tree_read (derives_whole c tokens h)

where_sound : (text : List ℕ) (o : Option (List Token)) (c : Cell) → tokens_of text ≡ o → tree_where o ≡ Some c → IsCellOf text c
where_sound text None c e h = absurd cc
where_sound text (Some tokens) c e h = (tokens, tokens_of-sound text tokens e, tree_sound tokens c h)

pub cell_sound : (text : List ℕ) (c : Cell) → cell_of text ≡ Some c → IsCellOf text c
unfolding cell_of
cell_sound text c h = where_sound text (tokens_of text) c refl h

pub cell_complete : (text : List ℕ) (c : Cell) → IsCellOf text c → cell_of text ≡ Some c
unfolding cell_of
cell_complete text c h = ap tree_where (tokens_of-complete text h.0 h.1) ∙ tree_complete h.0 c h.2
