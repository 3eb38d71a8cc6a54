-- Reading cells.
use Rattle.std.specs.Prelude.{Bool, true, false, List, [], ◌∷◌, Option, Ok, Err, if◌then◌else◌}
use Rattle.ob_base.specs.declared.fault.Code.TheVariants as codes
use Rattle.ob_scan.specs.declared.token.Kind.{Kind}
use Rattle.ob_scan.specs.declared.token.Kind.TheVariants as kinds
use Rattle.ob_scan.specs.declared.token.Symbol.TheVariants as s
use Rattle.ob_scan.specs.declared.token.Token.{Token}
use Rattle.ob_tree.specs.declared.tree.Ident.{Ident}
use Rattle.ob_tree.specs.declared.tree.Import.{Import}
use Rattle.ob_tree.specs.declared.tree.Module.{Module}
use Rattle.ob_tree.specs.declared.tree.Command.{Command}
use Rattle.ob_tree.specs.declared.tree.Cell.{Cell}
use Rattle.ob_tree.specs.declared.tree.Cell.TheVariants as cells
use Rattle.ob_parse_expression.specs.Reading.{Reader, ◌>>=◌, ◌>>◌, pure, eat, expect, ident, many, where_some, not_there, separated, optional, if_ident}
use Rattle.ob_parse.specs.StatementReading.{statements}
use Rattle.ob_parse.specs.DeclarationReading.{declarations, name_again}
use Rattle.ob_parse.specs.Grammar.{max_nesting}

-- the name after `:=`, if that sign comes
unfoldable pub own_name : Reader (Option Ident)
own_name = eat s.Becomes >>= where_some (λ _. ident)

unfoldable pub import_of : Reader Import
import_of = do
  name ← ident
  own ← own_name
  pure (record { name = name; module_name = own })

unfoldable pub import_list : Reader (List Import)
import_list = do
  imports ← separated s.Comma import_of
  expect s.Semicolon
  pure imports

-- what stands after MODULE
unfoldable pub module_of : Reader Module
module_of = do
  name ← ident
  expect s.Semicolon
  imports ← optional s.Import import_list
  d ← declarations max_nesting
  b ← optional s.Begin (statements max_nesting)
  expect s.End
  name_again name.name
  expect s.Period
  pure (record { name = name; imports = imports; declarations = d; body = b })

abbrev pub is_semicolon : Kind → Bool
is_semicolon (kinds.Symbol s.Semicolon) = true
is_semicolon _ = false

abbrev pub at_semicolon : List Token → Bool
at_semicolon [] = false
at_semicolon (t ∷ ts) = is_semicolon t.kind

-- the tokens after the semicolons that come next
abbrev pub behind_semicolons : List Token → List Token
behind_semicolons [] = []
behind_semicolons (t ∷ ts) = if is_semicolon t.kind then behind_semicolons ts else t ∷ ts

abbrev pub semicolons : Reader (Unit {0})
semicolons tokens = Ok (tt, behind_semicolons tokens)

unfoldable pub command : Reader Command
command = do
  module_name ← ident
  expect s.Period
  procedure ← ident
  semicolons
  pure (record { module_name = module_name; procedure = procedure })

unfoldable pub commands : Reader (List Command)
commands = do
  semicolons
  many (if_ident command)

unfoldable pub cell : Reader Cell
cell = do
  word ← eat s.Module
  not_there word (do xs ← commands; pure (cells.Commands xs)) (λ _. do
    m ← module_of
    pure (cells.Module m))

-- no token is left
unfoldable pub ended : Reader (Unit {0})
ended [] = Ok (tt, [])
ended (t ∷ ts) = Err codes.Token

unfoldable pub whole : Reader Cell
whole = do
  c ← cell
  ended
  pure c
