-- To be believed.
-- The meaning of a cell of Oberon, from its text: it is read by the tokens and the grammar, judged by the static
-- rules over the modules that are loaded, linked, and run by what its typed tree means (Wirth, The Programming Language Oberon,
-- Oberon-07; In and Out after the Oakwood Guidelines).
use Rattle.std.specs.Prelude.{◌≡◌, ℕ, List, [], ◌∷◌, ◌++◌, map, Option, Some, None, Result, Ok, Err, if◌then◌else◌}
use Rattle.ob_base.specs.declared.fault.Code.{Code}
use Rattle.ob_check_scope.specs.declared.rule.RuleCode.{RuleCode}
use Rattle.ob_inout.specs.Reading.{Line}
use Rattle.ob_tree.specs.declared.tree.Cell.{Cell}
use Rattle.ob_tree.specs.declared.tree.Cell.TheVariants as cells
use Rattle.ob_tree.specs.declared.tree.Command.{Command}
use Rattle.ob_parse.specs.TreeOf.{cell_of}
use Rattle.ob_check_scope.specs.LoadedTree.{LoadedTree}
use Rattle.ob_check_scope.specs.Rule.{Rule, Given, Then, answer}
use Rattle.ob_check_scope.specs.RuleCodes.{code_of}
use Rattle.ob_check_module.specs.CheckedTree.{CheckedTree}
use Rattle.ob_check_module.specs.declared.checked.Imported.{Imported}
use Rattle.ob_check_module.specs.Modules.{module_at}
use Rattle.ob_session.specs.Session.{Session, Module, Import}
use Rattle.ob_session.specs.Reaches.{reached_by}
use Rattle.ob_session.specs.Cells.{CellMeaning, Checked, OfModule, OfCommands, CommandName, checked_meaning}
use Rattle.ob_session.specs.Laws.{IsLawful, IsFed}

-- ---- the modules that are loaded, as the static rules see them

-- The rules for a module of this name ask of what others reach nothing but whether that is among it.
abbrev pub loaded_as : List Module → List ℕ → Module → LoadedTree
loaded_as modules name m = record { interface = m.interface; reached = if reached_by modules name m then name ∷ [] else [] }

abbrev pub loaded : Session → List ℕ → List LoadedTree
loaded s name = map (loaded_as s.modules name) s.modules

-- ---- a cell that keeps the static rules

abbrev pub import_of : Imported → Import
import_of i = record { name = i.name; key = i.key }

abbrev pub module_of : CheckedTree → Module
module_of c = record { interface = c.interface; tree = c.tree; imports = map import_of c.imports }

abbrev pub command_of : Command → CommandName
command_of c = record { home = c.module_name.name; name = c.procedure.name }

abbrev pub cell_rule : Session → Cell → Rule Checked
cell_rule s (cells.Module m) = Then (module_at (loaded s m.name.name) m) (λ c. Given (OfModule (module_of c)))
cell_rule s (cells.Commands cs) = Given (OfCommands (map command_of cs))

-- somebody who goes through the rules of a cell from left to right finds a rule of this code broken
abbrev pub breaks_first : Session → Cell → Code → Type 0
breaks_first s c code = (broken : RuleCode) × (answer (cell_rule s c) ≡ Err broken) × (code ≡ code_of broken)

abbrev pub checked_by : Result Checked RuleCode → Option Checked
checked_by (Ok c) = Some c
checked_by (Err code) = None

abbrev pub checked_in : Session → Option Cell → Option Checked
checked_in s None = None
checked_in s (Some c) = checked_by (answer (cell_rule s c))

-- what a text is, if it is a cell that keeps the static rules
unfoldable pub checked_text : Session → List ℕ → Option Checked
checked_text s text = checked_in s (cell_of text)

-- ---- from session, text, lines and n turns to what the cell has come to; nothing, where the text is refused by compiling

abbrev pub meaning_by : Option Checked → Session → List Line → ℕ → Option CellMeaning
meaning_by None s lines n = None
meaning_by (Some c) s lines n = Some (checked_meaning s c lines n)

unfoldable pub cell : Session → List ℕ → List Line → ℕ → Option CellMeaning
cell s text lines n = meaning_by (checked_text s text) s lines n

-- ---- laws

-- what a text has come to, at any number of turns and with any lines: nothing, or a lawful cell's
abbrev pub IsLawfulText : Session → List ℕ → Option Checked → Type 0
IsLawfulText s text None = (lines : List Line) (n : ℕ) → cell s text lines n ≡ None
IsLawfulText s text (Some c) =
    ((lines : List Line) (n : ℕ) → cell s text lines n ≡ Some (checked_meaning s c lines n))
    × ((lines : List Line) → IsLawful (λ n. checked_meaning s c lines n))
    × ((lines : List Line) (line : Line) → IsFed (λ n. checked_meaning s c lines n) (λ n. checked_meaning s c (lines ++ line ∷ []) n))

abbrev pub EachTextIsLawful : Type 0
EachTextIsLawful = (s : Session) (text : List ℕ) → IsLawfulText s text (checked_text s text)
