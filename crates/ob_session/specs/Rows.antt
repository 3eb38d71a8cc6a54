-- Worked cells, with what they come to.
use Rattle.std.specs.Prelude.{◌≡◌, ℕ, ℤ, pos, List, [], ◌∷◌, Some, None, codes}
use Rattle.ob_inout.specs.Reading.{Line}
use Rattle.ob_types.specs.declared.structure.Basic.TheVariants as basic
use Rattle.ob_types.specs.declared.structure.ObType.TheVariants as type
use Rattle.ob_types.specs.declared.exports.Exported.{Exported}
use Rattle.ob_types.specs.declared.exports.Object.TheVariants as object
use Rattle.ob_mean.specs.declared.expression.Callee.TheVariants as callee
use Rattle.ob_mean.specs.declared.expression.Designator.TheVariants as designator
use Rattle.ob_mean.specs.declared.expression.TypedExpr.TheVariants.{Constant, Read}
use Rattle.ob_mean.specs.declared.expression.Variable.{Variable}
use Rattle.ob_mean.specs.declared.expression.Variable.TheVariants as variable
use Rattle.ob_mean.specs.declared.module.ModuleVariable.TheVariants.{Declared}
use Rattle.ob_mean.specs.declared.module.TypedProcedure.{TypedProcedure}
use Rattle.ob_mean.specs.declared.outcome.TrapKind.TheVariants as trap
use Rattle.ob_mean.specs.declared.outcome.TurnKind.TheVariants as kind
use Rattle.ob_mean.specs.declared.shape.Shape.TheVariants as shape
use Rattle.ob_mean.specs.declared.statement.Action.TheVariants.{Adjust, Assert, Call, Input, Output}
use Rattle.ob_mean.specs.declared.statement.Adjustment.TheVariants.{Increase}
use Rattle.ob_mean.specs.declared.statement.InputCall.TheVariants as incoming
use Rattle.ob_mean.specs.declared.statement.OutputCall.TheVariants as outgoing
use Rattle.ob_mean.specs.declared.statement.Reader.TheVariants as reader
use Rattle.ob_mean.specs.declared.statement.TypedStatement.{TypedStatement}
use Rattle.ob_mean.specs.declared.statement.TypedStatement.TheVariants.{Simple}
use Rattle.ob_session.specs.Session.{Session, Module, opening, key_of}
use Rattle.ob_session.specs.Cells.{CellMeaning, CellOutcome, Ended, Trapped, Stopped, NeedsLine, Unlinked, NotLoaded, NoCommand, OtherKey, CommandName, OfModule, OfCommands, checked_meaning}

-- ---- statements

-- Out.Int(v, 0); Out.Ln
abbrev pub shows : Variable → List TypedStatement
shows v = Simple (Output (outgoing.Int (Read (designator.Whole v)) (Constant (pos 0)))) ∷ Simple (Output outgoing.Ln) ∷ []

-- INC(v, step), where v is the first variable of its module
abbrev pub increases : ℤ → List TypedStatement
increases step = Simple (Adjust Increase (designator.Whole (variable.OfModule 0)) (Constant step)) ∷ []

-- a procedure without parameters, variables and result
abbrev pub plain : List TypedStatement → TypedProcedure
plain body = record { parameters = []; variables = []; body = body; result = None }

-- ---- modules

-- VAR v*: INTEGER, and PROCEDURE Inc*
abbrev pub exported_v : Exported
exported_v = record { name = codes "v"; object = object.Variable (type.Basic basic.Integer) }

abbrev pub exported_inc : Exported
exported_inc = record { name = codes "Inc"; object = object.Procedure (record { formals = []; result = None }) }

-- MODULE N; VAR v: INTEGER; PROCEDURE Inc*; BEGIN INC(v, step) END Inc; END N., with these exports
abbrev pub counter : List Exported → ℤ → Module
counter exports step = record {
  interface = record { name = codes "N"; exports = exports };
  tree = record { name = codes "N"; variables = Declared shape.Basic ∷ []; procedures = plain (increases step) ∷ []; exported = 0 ∷ []; body = [] };
  imports = [];
}

-- with v exported, and without
abbrev pub open_counter : ℤ → Module
open_counter step = counter (exported_v ∷ exported_inc ∷ []) step

abbrev pub closed_counter : ℤ → Module
closed_counter step = counter (exported_inc ∷ []) step

-- MODULE M; IMPORT N, Out; PROCEDURE P*; BEGIN N.Inc; Out.Int(N.v, 0); Out.Ln END P; END M.
abbrev pub reporter : Module
reporter = record {
  interface = record { name = codes "M"; exports = record { name = codes "P"; object = object.Procedure (record { formals = []; result = None }) } ∷ [] };
  tree = record {
    name = codes "M";
    variables = [];
    procedures = plain (Simple (Call (callee.OfImport 0 0) 1 []) ∷ shows (variable.OfImport 0 0)) ∷ [];
    exported = 0 ∷ [];
    body = [];
  };
  imports = record { name = codes "N"; key = key_of (open_counter (pos 1)) } ∷ [];
}

-- MODULE L; IMPORT M; END L.
abbrev pub client : Module
client = record {
  interface = record { name = codes "L"; exports = [] };
  tree = record { name = codes "L"; variables = []; procedures = []; exported = []; body = [] };
  imports = record { name = codes "M"; key = key_of reporter } ∷ [];
}

-- MODULE H; IMPORT In, Out; VAR a: INTEGER; BEGIN In.Int(a); Out.Int(a, 0); Out.Ln; ASSERT(FALSE) END H.
abbrev pub asker : Module
asker = record {
  interface = record { name = codes "H"; exports = [] };
  tree = record {
    name = codes "H";
    variables = Declared shape.Basic ∷ [];
    procedures = [];
    exported = [];
    body = Simple (Input (incoming.Read reader.Int (designator.Whole (variable.OfModule 0)))) ∷ Simple (Output (outgoing.Int (Read (designator.Whole (variable.OfModule 0))) (Constant (pos 0)))) ∷ Simple (Output outgoing.Ln) ∷ Simple (Assert 1 (Constant (pos 0))) ∷ [];
  };
  imports = [];
}

-- ---- cells

abbrev pub Comes : CellMeaning → List ℕ → ℕ → CellOutcome → Type 0
Comes cell output turns outcome = (cell.output ≡ output) × (cell.turns ≡ turns) × (cell.outcome ≡ outcome)

-- a module whose body is empty is loaded
abbrev pub with_loaded : Session → Module → Session
with_loaded s m = (checked_meaning s (OfModule m) [] 0).session

-- M.P
abbrev pub command : List ℕ → List ℕ → CommandName
command home name = record { home = home; name = name }

abbrev pub m_p : CommandName
m_p = command (codes "M") (codes "P")

-- N and M
abbrev pub both : Session
both = with_loaded (with_loaded opening (open_counter (pos 1))) reporter

-- after M.P M.P
abbrev pub twice : Session → List Line → ℕ → CellMeaning
twice s lines turns = checked_meaning s (OfCommands (m_p ∷ m_p ∷ [])) lines turns

pub record WorkedRows : Type 0 where
  -- commands, one after the other: each a call, and in it a call of N, Out.Int and Out.Ln
  pub counts : Comes (twice both [] 100) (codes "1\n2\n") 8 Ended
  -- without turns they stand before what comes next
  pub stands : Comes (twice both [] 0) [] 0 (Stopped kind.ProcedureCall)
  pub stands_later : Comes (twice both [] 7) (codes "1\n2") 7 (Stopped kind.Output)
  -- variables stay from cell to cell
  pub goes_on : Comes (twice (twice both [] 8).session [] 8) (codes "3\n4\n") 8 Ended
  -- a module that takes the place of another has its variables at zero, and its key is the same
  pub replaced : Comes (twice (with_loaded (twice both [] 8).session (open_counter (pos 10))) [] 8) (codes "10\n20\n") 8 Ended
  -- 32: with another key M does not link, nor does what imports M
  pub other_key : Comes (twice (with_loaded both (closed_counter (pos 1))) [] 8) [] 0 (Unlinked (OtherKey (codes "N")))
  pub reached_key : Comes (checked_meaning (with_loaded both (closed_counter (pos 1))) (OfModule client) [] 8) [] 0 (Unlinked (OtherKey (codes "N")))
  -- 30 and 31, before anything runs
  pub not_loaded : Comes (checked_meaning both (OfCommands (m_p ∷ command (codes "Q") (codes "P") ∷ [])) [] 8) [] 0 (Unlinked (NotLoaded (codes "Q")))
  pub no_command : Comes (checked_meaning both (OfCommands (m_p ∷ command (codes "N") (codes "v") ∷ [])) [] 8) [] 0 (Unlinked (NoCommand (codes "N") (codes "v")))
  pub given_module : Comes (checked_meaning opening (OfCommands (command (codes "Out") (codes "Ln") ∷ [])) [] 8) [] 0 (Unlinked (NoCommand (codes "Out") (codes "Ln")))
  -- a line that is asked for, given, and none to be had; and a trap in the module's body
  pub asks : Comes (checked_meaning opening (OfModule asker) [] 9) [] 2 NeedsLine
  pub given : Comes (checked_meaning opening (OfModule asker) (Some (codes "-12 34") ∷ []) 9) (codes "-12\n") 4 (Trapped trap.Assertion (codes "H") 1)
  pub none : Comes (checked_meaning opening (OfModule asker) (None ∷ []) 9) (codes "0\n") 4 (Trapped trap.Assertion (codes "H") 1)
