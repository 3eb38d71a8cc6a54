-- The tree as a function of tokens and of a text. It finds the tree that the grammar speaks of, where there is one.
use Rattle.std.specs.Prelude.{ℕ, List, Option, Some, None, Ok, Err}
use Rattle.ob_scan.specs.declared.token.Token.{Token}
use Rattle.ob_scan.specs.TokensOf.{tokens_of}
use Rattle.ob_tree.specs.declared.tree.Cell.{Cell}
use Rattle.ob_parse_expression.specs.Reading.{Outcome}
use Rattle.ob_parse.specs.GrammarReading.{whole}

abbrev pub tree_read : Outcome Cell → Option Cell
tree_read (Ok p) = Some p.0
tree_read (Err code) = None

unfoldable pub tree_of : List Token → Option Cell
tree_of tokens = tree_read (whole tokens)

abbrev pub tree_where : Option (List Token) → Option Cell
tree_where None = None
tree_where (Some tokens) = tree_of tokens

unfoldable pub cell_of : List ℕ → Option Cell
cell_of text = tree_where (tokens_of text)
