-- To be believed.
-- The meaning of the texts of Oberon, as a kernel speaks of a language (Wirth, The Programming Language Oberon, Oberon-07).
use Rattle.std.specs.Prelude.{◌≡◌, ◌⊎◌, ℕ, List, Option, Some, None}
use Rattle.ob_base.specs.declared.fault.Code.{Code}
use Rattle.ob_tree.specs.declared.tree.Cell.{Cell}
use Rattle.ob_parse.specs.CellText.{IsCellOf, Breaks}
use Rattle.ob_check_scope.specs.Rule.{gives}
use Rattle.ob_session.specs.Session.{Session, opening}
use Rattle.ob_session.specs.Cells as cells
use Rattle.ob_session.specs.Cells.{CellMeaning, Checked, checked_meaning, unlinked}
use Rattle.ob_cell.specs.Texts as meaning
use Rattle.ob_cell.specs.Texts.{cell_rule, breaks_first}
use Rattle.jk_language.specs.declared.outcome.LinkFault.{LinkFault}
use Rattle.jk_language.specs.declared.outcome.Outcome.TheVariants.{Unreadable}
use Rattle.jk_language.specs.declared.outcome.Refusal.{Refusal}
use Rattle.jk_language.specs.declared.outcome.Refusal.TheVariants.{Compile, Link}
use Rattle.jk_language.specs.Parts.{Line, Meaning}
use Rattle.jk_language.specs.Spoken.{Spoken, standing}
use Rattle.ob_load.specs.Parts.{told, told_fault}
use Rattle.ob_cell.specs.Codes.{code_number}

-- ---- what a text comes to

-- a text that is refused changes nothing
abbrev pub told_in : Session → Option CellMeaning → Meaning Session
told_in session None = standing session Unreadable
told_in session (Some m) = told m

-- from session, text, lines and n turns to what the cell has come to
unfoldable pub cell : Session → List ℕ → List Line → ℕ → Meaning Session
cell session text lines n = told_in session (meaning.cell session text lines n)

-- ---- its tree, and why it does not run

-- this tree is the text's: that of its tokens, by the grammar
unfoldable pub IsTreeOf : List ℕ → Cell → Type 0
IsTreeOf text tree = IsCellOf text tree

-- The text breaks a rule of this code: it has no tokens, or they have no tree, or that is the first of the static rules that
-- its tree breaks, over the modules that are loaded and from left to right.
unfoldable pub IsBroken : Session → List ℕ → Code → Type 0
IsBroken session text code = Breaks text code ⊎ ((tree : Cell) × IsCellOf text tree × breaks_first session tree code)

-- a cell that keeps the static rules and does not link, for this
abbrev pub DoesNotLink : Session → Checked → cells.LinkFault → Type 0
DoesNotLink session checked fault = (lines : List Line) (n : ℕ) → checked_meaning session checked lines n ≡ unlinked session fault

-- The text's tree keeps the static rules, and the cell does not link, for this.
unfoldable pub IsUnlinked : Session → List ℕ → LinkFault → Type 0
IsUnlinked session text fault =
    (tree : Cell) × IsCellOf text tree
    × (checked : Checked) × gives (cell_rule session tree) checked
    × (why : cells.LinkFault) × DoesNotLink session checked why × (fault ≡ told_fault why)

-- the cell does not run for this; a fault's number is that of the code that is broken
abbrev pub IsRefusedFor : Session → List ℕ → Refusal → Type 0
IsRefusedFor session text (Compile fault) = (code : Code) × (fault.number ≡ code_number code) × IsBroken session text code
IsRefusedFor session text (Link fault) = IsUnlinked session text fault

-- ---- the language

abbrev pub spoken_oberon : Spoken Session Cell
spoken_oberon = record { opening = opening; cell = cell; IsTree = IsTreeOf; IsRefusedFor = IsRefusedFor }
