-- To be believed.
-- Calls, and what the body of a module and a list of commands do (Wirth, The Programming Language Oberon, Oberon-07).
use Rattle.std.specs.Prelude.{ℕ, zero, suc, ℤ, List, [], ◌∷◌, Option, Some, None, slice_get, slice_index, length}
use Rattle.ob_inout.specs.Reading.{opened}
use Rattle.ob_mean.specs.declared.expression.TypedExpr.{TypedExpr}
use Rattle.ob_mean.specs.declared.expression.Callee.{Callee}
use Rattle.ob_mean.specs.declared.expression.Callee.TheVariants as callee
use Rattle.ob_mean.specs.declared.statement.TypedStatement.{TypedStatement}
use Rattle.ob_mean.specs.declared.module.TypedProcedure.{TypedProcedure}
use Rattle.ob_mean.specs.declared.module.Loaded.{Loaded}
use Rattle.ob_mean.specs.declared.outcome.Outcome.TheVariants.{Trapped}
use Rattle.ob_mean.specs.declared.outcome.TrapKind.TheVariants as trap
use Rattle.ob_mean.specs.declared.outcome.TurnKind.TheVariants.{ProcedureCall}
use Rattle.ob_mean.specs.Values.{Value, Nothing, Beside, count, first, append}
use Rattle.ob_mean.specs.Shapes.{zeros, opening_row}
use Rattle.ob_mean.specs.Runs.{World, Goes, Stands, Done, done, Piece, and_then, turn, with_store, ended}
use Rattle.ob_mean.specs.Expressions.{Scope, value_of}
use Rattle.ob_mean.specs.Statements.{list_meaning}

-- the loaded modules, by their numbers
abbrev pub Program : Type 0
Program = List Loaded

-- ---- what a called name stands for

abbrev pub imports_in : Option Loaded → List ℕ
imports_in None = []
imports_in (Some m) = m.imports

abbrev pub imports_of : Program → ℕ → List ℕ
imports_of program home = imports_in (slice_get program home)

abbrev pub procedure_in : Option Loaded → ℕ → Option TypedProcedure
procedure_in None p = None
procedure_in (Some m) p = slice_get m.tree.procedures p

-- the procedure at a place among the exported ones
abbrev pub exported_in : Option Loaded → ℕ → Option TypedProcedure
exported_in None place = None
exported_in (Some m) place = slice_get m.tree.procedures (slice_index m.tree.exported place)

-- the module of a procedure that is called in a module
abbrev pub home_of : Program → ℕ → Callee → ℕ
home_of program home (callee.OfModule p) = home
home_of program home (callee.OfImport i place) = slice_index (imports_of program home) i

abbrev pub procedure_of : Program → ℕ → Callee → Option TypedProcedure
procedure_of program home (callee.OfModule p) = procedure_in (slice_get program home) p
procedure_of program home (callee.OfImport i place) = exported_in (slice_get program (slice_index (imports_of program home) i)) place

-- ---- calls

-- the value after RETURN, if there is one
abbrev pub result_of : Scope → Option TypedExpr → Piece (List ℤ)
result_of scope None n w = Goes [] n w
result_of scope (Some e) n w = and_then (value_of scope e n w) (λ v n1 w1. Goes (v ∷ []) n1 w1)

-- the store with the variables of one more call: what is passed, and zeros
abbrev pub entered : Value → Value → TypedProcedure → Value
entered s passed f = append s (Beside (append passed (zeros f.variables)) Nothing)

-- A procedure has variables of its own, which go when it returns.
abbrev pub procedure_meaning : Scope → TypedProcedure → Value → Piece (List ℤ)
procedure_meaning scope f passed n w =
    and_then (list_meaning scope f.body n (with_store w (entered w.store passed f))) (λ _ n1 w1.
    and_then (result_of scope f.result n1 w1) (λ vs n2 w2.
    Goes vs n2 (with_store w2 (first scope.frame w2.store))))

abbrev pub found_meaning : Scope → Option TypedProcedure → Value → Piece (List ℤ)
found_meaning scope None passed n w = Goes [] n w
found_meaning scope (Some f) passed n w = procedure_meaning scope f passed n w

-- A call in a module, where so many more calls may be open: first the test of the depth, then the turn.
unfoldable pub call_at : Program → ℕ → ℕ → Callee → Value → ℕ → Piece (List ℤ)
call_at program zero home f passed line n w = Stands (Trapped trap.CallDepth home line) n w
call_at program (suc depth) home f passed line n w = turn ProcedureCall n w (λ n1.
    let there = home_of program home f in
    found_meaning (record { home = there; imports = imports_of program there; frame = count w.store; call = call_at program depth there })
    (procedure_of program home f) passed n1 w)

-- the scope of a module's body or procedure, where so many more calls may be open
abbrev pub scope_at : Program → ℕ → ℕ → ℕ → Scope
scope_at program depth home frame =
    record { home = home; imports = imports_of program home; frame = frame; call = call_at program depth home }

-- how many calls may be open
abbrev pub max_depth : ℕ
max_depth = 1000

-- ---- a cell

abbrev pub body_in : Option Loaded → List TypedStatement
body_in None = []
body_in (Some m) = m.tree.body

-- the body of a module, with no call open
unfoldable pub body_meaning : Program → ℕ → Piece Done
body_meaning program home n w =
    ended (list_meaning (scope_at program max_depth home (count w.store)) (body_in (slice_get program home)) n w)

-- a command: a module, and the number of its procedure there
pub record Command : Type 0 where
  pub home : ℕ
  pub procedure : ℕ

abbrev pub in_turn : Program → List Command → Piece Done
in_turn program [] n w = Goes done n w
in_turn program (c ∷ cs) n w =
    and_then (call_at program max_depth c.home (callee.OfModule c.procedure) Nothing 0 n w) (λ _ n1 w1. in_turn program cs n1 w1)

-- commands, one after the other: each is a call at depth 1
unfoldable pub commands_meaning : Program → List Command → Piece Done
commands_meaning program cs n w = ended (in_turn program cs n w)

-- the variables of all modules as they begin
abbrev pub opening_store : Program → Value
opening_store [] = Nothing
opening_store (m ∷ ms) = Beside (opening_row m.tree.variables) (opening_store ms)

-- what stays of a store after a cell, however it ended: the modules' variables
abbrev pub kept_store : Program → Value → Value
kept_store program s = first (length program) s

-- the world before a cell: nothing is written, and In has no line
abbrev pub world_before : Value → World
world_before s = record { store = s; written = []; input = opened }
