-- Calls, bodies and commands.
use Rattle.std.proofs.Common.{◌≡◌, ℕ, zero, suc, List, [], ◌∷◌, Option, Some, None, refl}
use Rattle.std.specs.Prelude.{slice_get}
use Rattle.ob_mean.specs.declared.expression.TypedExpr.{TypedExpr}
use Rattle.ob_mean.specs.declared.expression.Callee.{Callee}
use Rattle.ob_mean.specs.declared.expression.Callee.TheVariants as callee
use Rattle.ob_mean.specs.declared.module.TypedProcedure.{TypedProcedure}
use Rattle.ob_mean.specs.declared.outcome.Outcome.TheVariants.{Ended, Trapped}
use Rattle.ob_mean.specs.declared.outcome.TrapKind.TheVariants as trap
use Rattle.ob_mean.specs.declared.outcome.TurnKind.TheVariants.{ProcedureCall}
use Rattle.ob_mean.specs.Values.{Value, Nothing, count, first}
use Rattle.ob_mean.specs.Runs.{World, Supply, Run, Goes, Stands, Done, done, Piece, and_then, turn, with_store, ended}
use Rattle.ob_mean.specs.Expressions.{Scope}
use Rattle.ob_mean.specs.Statements.{list_meaning}
use Rattle.ob_mean.specs.Programs.{Program, imports_of, home_of, procedure_of, result_of, entered, procedure_meaning, found_meaning, call_at, scope_at, max_depth, body_in, body_meaning, Command, in_turn, commands_meaning}
use Rattle.ob_session.proofs.Courses.{Good, goes_at, stands_at, bind_at, turn_within, same_at}
use Rattle.ob_session.proofs.Expressions.{value_good}
use Rattle.ob_session.proofs.Statements.{list_good}

-- ---- calls

module _ (scope : Scope) (calls : (f : Callee) (a : Value) (line : ℕ) → Good (scope.call f a line)) where
  result_good : (e : Option TypedExpr) → Good (result_of scope e)
  result_good None b w = goes_at b w.written [] w refl
  result_good (Some e) b w = bind_at (value_good scope calls e b w) (λ v w1. goes_at b w1.written _ w1 refl)

  procedure_good : (f : TypedProcedure) (a : Value) → Good (procedure_meaning scope f a)
  procedure_good f a b w =
      bind_at (list_good scope calls f.body b (with_store w (entered w.store a f))) (λ d w1.
      bind_at (result_good f.result b w1) (λ vs w2. goes_at b w2.written vs (with_store w2 (first scope.frame w2.store)) refl))

  found_good : (f : Option TypedProcedure) (a : Value) → Good (found_meaning scope f a)
  found_good None a b w = goes_at b w.written [] w refl
  found_good (Some f) a b w = procedure_good f a b w

-- the scope of a procedure that is called
abbrev there : Program → ℕ → ℕ → ℕ → Scope
there program depth home frame = record { home = home; imports = imports_of program home; frame = frame; call = call_at program depth home }

no_depth : (program : Program) (home : ℕ) (f : Callee) (a : Value) (line : ℕ) → Good (call_at program zero home f a line)
unfolding call_at
no_depth program home f a line b w = stands_at b w.written (Trapped trap.CallDepth home line) w tt refl

call_once : (program : Program) (depth home : ℕ) (f : Callee) (a : Value) (line : ℕ) (n : Supply) (w : World) → call_at program (suc depth) home f a line n w ≡ turn ProcedureCall n w (λ n1. found_meaning (there program depth (home_of program home f) (count w.store)) (procedure_of program home f) a n1 w)
unfolding call_at
call_once program depth home f a line n w = refl

pub call_good : (program : Program) (depth home : ℕ) (f : Callee) (a : Value) (line : ℕ) → Good (call_at program depth home f a line)
call_good program zero home f a line = no_depth program home f a line
call_good program (suc depth) home f a line = λ b w.
    same_at (λ n. call_once program depth home f a line n w)
    (turn_within b ProcedureCall w (λ n1. found_meaning (there program depth (home_of program home f) (count w.store)) (procedure_of program home f) a n1 w)
    (found_good (there program depth (home_of program home f) (count w.store)) (call_good program depth (home_of program home f)) (procedure_of program home f) a b w))

-- ---- bodies and commands

ended_then : (r : Run Done) → ended r ≡ and_then r (λ d n w. Stands Ended n w)
ended_then (Goes d n w) = refl
ended_then (Stands why n w) = refl

ended_good : (e : Piece Done) → Good e → Good (λ n w. ended (e n w))
ended_good e x b w = same_at (λ n. ended_then (e n w)) (bind_at (x b w) (λ d w1. stands_at b w1.written Ended w1 tt refl))

pub body_good : (program : Program) (home : ℕ) → Good (body_meaning program home)
unfolding body_meaning
body_good program home b w =
    ended_good (list_meaning (scope_at program max_depth home (count w.store)) (body_in (slice_get program home)))
    (list_good (scope_at program max_depth home (count w.store)) (call_good program max_depth home) (body_in (slice_get program home))) b w

in_turn_good : (program : Program) (cs : List Command) → Good (in_turn program cs)
in_turn_good program [] b w = goes_at b w.written done w refl
in_turn_good program (c ∷ cs) b w =
    bind_at (call_good program max_depth c.home (callee.OfModule c.procedure) Nothing 0 b w) (λ vs w1. in_turn_good program cs b w1)

pub commands_good : (program : Program) (cs : List Command) → Good (commands_meaning program cs)
unfolding commands_meaning
commands_good program cs b w = ended_good (in_turn program cs) (in_turn_good program cs) b w
