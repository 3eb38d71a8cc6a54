-- To be believed.
-- The meaning of a cell that keeps the static rules: a module, or commands, in a session.
use Rattle.std.specs.Prelude.{ℕ, suc, ◌-◌, ◌&&◌, ◌||◌, codes, Bool, true, false, List, [], ◌∷◌, length, Option, Some, None, if◌then◌else◌, slice_get, slice_index}
use Rattle.std.specs.Str.{bytes_eq}
use Rattle.ob_inout.specs.Reading.{Line}
use Rattle.ob_types.specs.declared.exports.Exported.{Exported}
use Rattle.ob_types.specs.declared.exports.Object.{Object}
use Rattle.ob_types.specs.declared.exports.Object.TheVariants as object
use Rattle.ob_types.specs.declared.exports.Formal.{Formal}
use Rattle.ob_types.specs.declared.structure.Basic.{Basic}
use Rattle.ob_mean.specs.declared.outcome.TrapKind.{TrapKind}
use Rattle.ob_mean.specs.declared.outcome.TurnKind.{TurnKind}
use Rattle.ob_mean.specs.declared.outcome.Outcome.{Outcome}
use Rattle.ob_mean.specs.declared.outcome.Outcome.TheVariants as why
use Rattle.ob_mean.specs.Programs.{Command, body_meaning, commands_meaning, kept_store, world_before}
use Rattle.ob_mean.specs.Runs.{World, Supply, supply, Run, Goes, Stands, Done}
use Rattle.ob_session.specs.Session.{Session, Module, name_of, find_module, place_of, link_fault, installed, program_of}

-- why a cell does not link
pub data LinkFault : Type 0 where
  -- 30: no module of this name is loaded
  NotLoaded : (name : List ℕ) → LinkFault
  -- 31: the module has no such command
  NoCommand : (home : List ℕ) → (name : List ℕ) → LinkFault
  -- 32: a module that is reached through imports is not loaded with the recorded key
  OtherKey : (name : List ℕ) → LinkFault

pub data CellOutcome : Type 0 where
  Ended : CellOutcome
  Trapped : TrapKind → (home : List ℕ) → (line : ℕ) → CellOutcome
  -- no turn was left for what comes next
  Stopped : TurnKind → CellOutcome
  NeedsLine : CellOutcome
  Unlinked : LinkFault → CellOutcome

-- what a cell has come to after a number of turns, with a number of lines
pub record CellMeaning : Type 0 where
  pub session : Session
  pub output : List ℕ
  pub lines_used : ℕ
  pub turns : ℕ
  pub outcome : CellOutcome

-- M.P
pub record CommandName : Type 0 where
  pub home : List ℕ
  pub name : List ℕ

-- a cell that keeps the static rules: a module, with its interface and what it imports, or commands
pub data Checked : Type 0 where
  OfModule : Module → Checked
  OfCommands : List CommandName → Checked

-- ---- how a run ends

abbrev pub name_in : Option Module → List ℕ
name_in None = []
name_in (Some m) = name_of m

abbrev pub outcome_of : List Module → Outcome → CellOutcome
outcome_of modules why.Ended = Ended
outcome_of modules (why.Trapped kind home line) = Trapped kind (name_in (slice_get modules home)) line
outcome_of modules (why.Stopped kind) = Stopped kind
outcome_of modules why.NeedsLine = NeedsLine

-- what a run over these modules has come to: what it has used of its supply, and the modules' variables. Those of calls are
-- gone
abbrev pub standing : List Module → Supply → CellOutcome → Supply → World → CellMeaning
standing modules n outcome left w = record {
  session = record { modules = modules; store = kept_store (program_of modules) w.store };
  output = w.written;
  lines_used = length n.lines - length left.lines;
  turns = n.turns - left.turns;
  outcome = outcome;
}

abbrev pub ran : List Module → Supply → Run Done → CellMeaning
ran modules n (Goes d left w) = standing modules n Ended left w
ran modules n (Stands why left w) = standing modules n (outcome_of modules why) left w

-- a cell that does not link changes nothing, and uses no turn
abbrev pub unlinked : Session → LinkFault → CellMeaning
unlinked s fault = record { session = s; output = []; lines_used = 0; turns = 0; outcome = Unlinked fault }

-- ---- a module: each import is linkable, it is loaded, and its body runs. It stays loaded however that ends

abbrev pub run_module : Session → List ℕ → List Line → ℕ → CellMeaning
run_module s name lines n =
    ran s.modules (supply n lines) (body_meaning (program_of s.modules) (place_of s.modules name) (supply n lines) (world_before s.store))

abbrev pub module_meaning : Option (List ℕ) → Session → Module → List Line → ℕ → CellMeaning
module_meaning (Some name) s m lines n = unlinked s (OtherKey name)
module_meaning None s m lines n = run_module (installed s m) (name_of m) lines n

-- ---- commands: all are looked up before the first runs

-- a command has no parameters and no result
abbrev pub is_plain : List Formal → Option Basic → Bool
is_plain [] None = true
is_plain [] (Some b) = false
is_plain (f ∷ fs) result = false

abbrev pub is_command : Object → Bool
is_command (object.Procedure s) = is_plain s.formals s.result
is_command (object.Constant c) = false
is_command (object.TypeName t) = false
is_command (object.Variable t) = false

-- the place after this one, where it is an exported procedure
abbrev pub place_behind : Object → ℕ → ℕ
place_behind (object.Procedure s) place = suc place
place_behind (object.Constant c) place = place
place_behind (object.TypeName t) place = place
place_behind (object.Variable t) place = place

-- the place of the command of this name among the exported procedures
abbrev pub command_place : List Exported → List ℕ → ℕ → Option ℕ
command_place [] name place = None
command_place (e ∷ es) name place =
    if bytes_eq e.name name && is_command e.object then Some place else command_place es name (place_behind e.object place)

-- In and Out have no commands
abbrev pub is_given : List ℕ → Bool
is_given name = bytes_eq name (codes "In") || bytes_eq name (codes "Out")

-- a command that was looked up, or why it can't run
pub data Looked : Type 0 where
  Found : Command → Looked
  Missing : LinkFault → Looked

abbrev pub linked : Option (List ℕ) → Command → Looked
linked None command = Found command
linked (Some name) command = Missing (OtherKey name)

abbrev pub looked_in : Session → Module → CommandName → Option ℕ → Looked
looked_in s m c None = Missing (NoCommand c.home c.name)
looked_in s m c (Some place) =
    linked (link_fault s.modules m.imports)
    (record { home = place_of s.modules c.home; procedure = slice_index m.tree.exported place })

abbrev pub looked_by : Session → CommandName → Option Module → Looked
looked_by s c None = if is_given c.home then Missing (NoCommand c.home c.name) else Missing (NotLoaded c.home)
looked_by s c (Some m) = looked_in s m c (command_place m.interface.exports c.name 0)

abbrev pub looked_up : Session → CommandName → Looked
looked_up s c = looked_by s c (find_module s.modules c.home)

-- commands that can run, or the first fault
pub data Ready : Type 0 where
  Runs : List Command → Ready
  Faulty : LinkFault → Ready

abbrev pub ready_with : Looked → Ready → Ready
ready_with (Missing fault) rest = Faulty fault
ready_with (Found c) (Faulty fault) = Faulty fault
ready_with (Found c) (Runs cs) = Runs (c ∷ cs)

abbrev pub all_ready : Session → List CommandName → Ready
all_ready s [] = Runs []
all_ready s (c ∷ cs) = ready_with (looked_up s c) (all_ready s cs)

abbrev pub commands_by : Ready → Session → List Line → ℕ → CellMeaning
commands_by (Faulty fault) s lines n = unlinked s fault
commands_by (Runs cs) s lines n =
    ran s.modules (supply n lines) (commands_meaning (program_of s.modules) cs (supply n lines) (world_before s.store))

-- ---- from session, checked cell, lines and n turns to what the cell has come to

unfoldable pub checked_meaning : Session → Checked → List Line → ℕ → CellMeaning
checked_meaning s (OfModule m) lines n = module_meaning (link_fault s.modules m.imports) s m lines n
checked_meaning s (OfCommands cs) lines n = commands_by (all_ready s cs) s lines n
