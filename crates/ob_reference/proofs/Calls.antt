-- A call, by the depth that is left.
use Rattle.std.proofs.Common.{◌≡◌, ℕ, zero, suc, ◌-◌, ◌<◌, arith, List, [], Some, None, refl, sym, ap, ◌∙◌}
use Rattle.ob_mean.specs.declared.expression.Callee.{Callee}
use Rattle.ob_mean.specs.declared.module.TypedProcedure.{TypedProcedure}
use Rattle.ob_mean.specs.declared.module.Loaded.{Loaded}
use Rattle.ob_mean.specs.declared.outcome.Outcome.TheVariants.{Stopped, Trapped}
use Rattle.ob_mean.specs.declared.outcome.TrapKind.TheVariants.{CallDepth}
use Rattle.ob_mean.specs.declared.outcome.TurnKind.TheVariants.{ProcedureCall}
use Rattle.ob_mean.specs.Values.{Value, count}
use Rattle.ob_mean.specs.Runs.{World, Supply, Goes, Stands, supply, spend}
use Rattle.ob_mean.specs.Programs.{call_at, scope_at, home_of, procedure_of, found_meaning, procedure_meaning}
use Rattle.ob_reference_store.specs.declared.state.State.{State}
use Rattle.ob_reference_store.specs.States.{supply_in, world_in}

pub call_none : (program : List Loaded) (depth home : ℕ) (f : Callee) (passed : Value) (line : ℕ) (n : Supply) (w : World) → depth ≡ 0 → call_at program depth home f passed line n w ≡ Stands (Trapped CallDepth home line) n w
unfolding call_at
call_none program zero home f passed line n w e = refl
call_none program (suc depth) home f passed line n w e = absurd (omega (arith, e))

call_spends : (program : List Loaded) (depth home : ℕ) (f : Callee) (passed : Value) (line : ℕ) (n : Supply) (w : World) → 0 < depth → call_at program depth home f passed line n w ≡ spend n.turns n.lines ProcedureCall w (λ n1. found_meaning (scope_at program (depth - 1) (home_of program home f) (count w.store)) (procedure_of program home f) passed n1 w)
unfolding call_at
call_spends program zero home f passed line n w lt = absurd (omega (arith, lt))
call_spends program (suc depth) home f passed line n w lt =
    ap (λ k. spend n.turns n.lines ProcedureCall w (λ n1. found_meaning (scope_at program k (home_of program home f) (count w.store)) (procedure_of program home f) passed n1 w)) (omega arith)

pub call_waits : (program : List Loaded) (depth home : ℕ) (f : Callee) (passed : Value) (line : ℕ) (s : State) → 0 < depth → s.turns ≡ 0 → call_at program depth home f passed line (supply_in s) (world_in s) ≡ Stands (Stopped ProcedureCall) (supply_in s) (world_in s)
call_waits program depth home f passed line s lt e =
    call_spends program depth home f passed line (supply_in s) (world_in s) lt
    ∙ ap (λ t. spend t (supply_in s).lines ProcedureCall (world_in s) (λ n1. found_meaning (scope_at program (depth - 1) (home_of program home f) (count (world_in s).store)) (procedure_of program home f) passed n1 (world_in s))) e
    ∙ ap (λ t. Stands (Stopped ProcedureCall) (supply t (supply_in s).lines) (world_in s)) (sym e)

-- the turn is taken
call_goes : (program : List Loaded) (depth home : ℕ) (f : Callee) (passed : Value) (line : ℕ) (s s1 : State) → 0 < depth → s.turns ≡ suc s1.turns → s1 ≡ record s { turns = s1.turns } → call_at program depth home f passed line (supply_in s) (world_in s) ≡ found_meaning (scope_at program (depth - 1) (home_of program home f) (count (world_in s1).store)) (procedure_of program home f) passed (supply_in s1) (world_in s1)
call_goes program depth home f passed line s s1 lt e same =
    call_spends program depth home f passed line (supply_in s) (world_in s) lt
    ∙ ap (λ t. spend t (supply_in s).lines ProcedureCall (world_in s) (λ n1. found_meaning (scope_at program (depth - 1) (home_of program home f) (count (world_in s).store)) (procedure_of program home f) passed n1 (world_in s))) e
    ∙ ap (λ x. found_meaning (scope_at program (depth - 1) (home_of program home f) (count (world_in x).store)) (procedure_of program home f) passed (supply_in x) (world_in x)) (sym same)

pub call_missing : (program : List Loaded) (depth home : ℕ) (f : Callee) (passed : Value) (line : ℕ) (s s1 : State) → 0 < depth → s.turns ≡ suc s1.turns → s1 ≡ record s { turns = s1.turns } → procedure_of program home f ≡ None → call_at program depth home f passed line (supply_in s) (world_in s) ≡ Goes [] (supply_in s1) (world_in s1)
call_missing program depth home f passed line s s1 lt e same none =
    call_goes program depth home f passed line s s1 lt e same
    ∙ ap (λ o. found_meaning (scope_at program (depth - 1) (home_of program home f) (count (world_in s1).store)) o passed (supply_in s1) (world_in s1)) none

pub call_found : (program : List Loaded) (depth home : ℕ) (f : Callee) (passed : Value) (line : ℕ) (s s1 : State) (g : TypedProcedure) → 0 < depth → s.turns ≡ suc s1.turns → s1 ≡ record s { turns = s1.turns } → procedure_of program home f ≡ Some g → call_at program depth home f passed line (supply_in s) (world_in s) ≡ procedure_meaning (scope_at program (depth - 1) (home_of program home f) (count (world_in s1).store)) g passed (supply_in s1) (world_in s1)
call_found program depth home f passed line s s1 g lt e same found =
    call_goes program depth home f passed line s s1 lt e same
    ∙ ap (λ o. found_meaning (scope_at program (depth - 1) (home_of program home f) (count (world_in s1).store)) o passed (supply_in s1) (world_in s1)) found
