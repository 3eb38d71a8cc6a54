-- To be believed.
-- The grammar of cells, and which tree is that of a list of tokens: that of Wirth, The Programming Language Oberon
-- (Oberon-07), with a list of commands as a second kind of cell.
use Rattle.std.specs.Prelude.{◌≡◌, ℕ, List, [], Result, Ok, Err}
use Rattle.ob_base.specs.declared.fault.Refused.{Refused}
use Rattle.ob_base.specs.declared.fault.Refused.TheVariants as refused
use Rattle.ob_scan.specs.declared.token.Span.{Span}
use Rattle.ob_scan.specs.declared.token.Symbol.TheVariants as s
use Rattle.ob_scan.specs.declared.token.Token.{Token}
use Rattle.ob_tree.specs.declared.tree.Import.{Import}
use Rattle.ob_tree.specs.declared.tree.Module.{Module}
use Rattle.ob_tree.specs.declared.tree.Command.{Command}
use Rattle.ob_tree.specs.declared.tree.Cell.{Cell}
use Rattle.ob_tree.specs.declared.tree.Cell.TheVariants as cells
use Rattle.ob_tree.specs.Phrase.{Phrase, ◌⨾◌, symbol_at, symbol, ident, each, maybe, separated, optional}
use Rattle.ob_tree.specs.Statement.{statements}
use Rattle.ob_tree.specs.Declaration.{declarations, name_again}
use Rattle.ob_parse_expression.specs.Reading.{IsParseCode}

-- how many constructs nest
abbrev pub max_nesting : ℕ
max_nesting = 200

-- ident [":=" ident]
abbrev pub import_phrase : Import → Phrase
import_phrase i = ident i.name ⨾ maybe (λ m. symbol s.Becomes ⨾ ident m) i.module_name

-- import {"," import} ";"
abbrev pub import_list : List Import → Phrase
import_list xs = separated s.Comma import_phrase xs ⨾ symbol s.Semicolon

abbrev pub module_phrase : Module → Phrase
module_phrase m = symbol s.Module ⨾ ident m.name ⨾ symbol s.Semicolon ⨾ optional s.Import import_list m.imports ⨾ declarations max_nesting m.declarations
    ⨾ optional s.Begin (statements max_nesting) m.body ⨾ symbol s.End ⨾ name_again m.name.name ⨾ symbol s.Period

-- ident "." ident
abbrev pub command : Command → Phrase
command c = ident c.module_name ⨾ symbol s.Period ⨾ ident c.procedure

-- {";"}
abbrev pub semicolons : Phrase
semicolons tokens rest = (spans : List Span) × each (symbol_at s.Semicolon) spans tokens rest

-- {";"} {command {";"}}
abbrev pub commands : List Command → Phrase
commands xs = semicolons ⨾ each (λ c. command c ⨾ semicolons) xs

abbrev pub cell : Cell → Phrase
cell (cells.Module m) = module_phrase m
cell (cells.Commands xs) = commands xs

-- the tree of a list of tokens
abbrev pub Derives : List Token → Cell → Type 0
Derives tokens c = cell c tokens []

-- What is answered where this is the tree: the tree, unless memory runs out.
abbrev pub AnswersTree : Cell → Result Cell Refused → Type 0
AnswersTree c (Ok x) = x ≡ c
AnswersTree c (Err refused.Memory) = Unit {0}
AnswersTree c (Err (refused.Fault f)) = ⊥

-- a fault of 5 to 7 comes only where there is no tree
abbrev pub FaultsOnly : List Token → Result Cell Refused → Type 0
FaultsOnly tokens (Ok x) = Unit {0}
FaultsOnly tokens (Err refused.Memory) = Unit {0}
FaultsOnly tokens (Err (refused.Fault f)) = IsParseCode f.code × ((c : Cell) → Derives tokens c → ⊥)
