-- Loops, one round at a time.
use Rattle.std.proofs.Common.{◌≡◌, ℕ, zero, suc, ◌-◌, ◌<◌, arith, List, Err, sym, ap, ◌∙◌}
use Rattle.ob_mean.specs.declared.outcome.Outcome.TheVariants.{Stopped}
use Rattle.ob_mean.specs.declared.outcome.TurnKind.TheVariants.{BodyEntry}
use Rattle.ob_mean.specs.declared.statement.Branch.{Branch}
use Rattle.ob_mean.specs.declared.statement.TypedStatement.{TypedStatement}
use Rattle.ob_mean.specs.Runs.{World, Supply, Run, Goes, Stands, Done, done, Piece, and_then, supply, spend}
use Rattle.ob_mean.specs.Expressions.{Scope}
use Rattle.ob_mean.specs.Control.{Guarded, looping}
use Rattle.ob_mean.specs.Statements.{list_meaning}
use Rattle.ob_reference_store.specs.declared.state.State.{State}
use Rattle.ob_reference_store.specs.declared.stop.Stop.{Stop}
use Rattle.ob_reference_store.specs.declared.stop.Stop.TheVariants as stop
use Rattle.ob_reference.specs.Branches.{branch_pieces, EntersFirst, PassesAll, BranchStops}
use Rattle.ob_reference_store.specs.States.{Follows, supply_in, world_in}

pub loop_passes : (scope : Scope) (bs : List Branch) (most : ℕ) (n : Supply) (w : World) (s : State) → PassesAll scope bs n w s → looping (branch_pieces scope bs) most n w ≡ Goes done (supply_in s) (world_in s)
loop_passes scope bs zero n w s h = h _ _
loop_passes scope bs (suc most) n w s h = h _ _

pub loop_halts : {X : Type 0} (view : X → Done) (scope : Scope) (bs : List Branch) (most : ℕ) (n : Supply) (w : World) (e : Stop) (s : State) → BranchStops scope bs n w e s → Follows view (Err e) s (looping (branch_pieces scope bs) most n w)
loop_halts view scope bs zero n w (stop.Stands why) s h = h _ _
loop_halts view scope bs (suc most) n w (stop.Stands why) s h = h _ _
loop_halts view scope bs most n w stop.Unanswered s h = tt

pub loop_out : (scope : Scope) (bs : List Branch) (n : Supply) (w : World) (body : List TypedStatement) (s : State) → EntersFirst scope bs n w body s → looping (branch_pieces scope bs) 0 n w ≡ Stands (Stopped BodyEntry) (supply 0 (supply_in s).lines) (world_in s)
loop_out scope bs n w body s h = h _ _

-- a round, where the turns are known
abbrev round : Piece Done → List Guarded → ℕ → Supply → World → Run Done
round body bs most n w = and_then (body n w) (λ _ n2 w2. looping bs most n2 w2)

loop_enters : (scope : Scope) (bs : List Branch) (most : ℕ) (n : Supply) (w : World) (body : List TypedStatement) (s : State) → 0 < most → EntersFirst scope bs n w body s → looping (branch_pieces scope bs) most n w ≡ spend s.turns (supply_in s).lines BodyEntry (world_in s) (λ n1. round (list_meaning scope body) (branch_pieces scope bs) (most - 1) n1 (world_in s))
loop_enters scope bs zero n w body s lt h = absurd (omega (arith, lt))
loop_enters scope bs (suc most) n w body s lt h =
    h _ _ ∙ ap (λ k. spend s.turns (supply_in s).lines BodyEntry (world_in s) (λ n1. round (list_meaning scope body) (branch_pieces scope bs) k n1 (world_in s))) (omega arith)

pub loop_waits : (scope : Scope) (bs : List Branch) (most : ℕ) (n : Supply) (w : World) (body : List TypedStatement) (s : State) → 0 < most → EntersFirst scope bs n w body s → s.turns ≡ 0 → looping (branch_pieces scope bs) most n w ≡ Stands (Stopped BodyEntry) (supply_in s) (world_in s)
loop_waits scope bs most n w body s lt h e =
    loop_enters scope bs most n w body s lt h
    ∙ ap (λ t. spend t (supply_in s).lines BodyEntry (world_in s) (λ n1. round (list_meaning scope body) (branch_pieces scope bs) (most - 1) n1 (world_in s))) e
    ∙ ap (λ t. Stands (Stopped BodyEntry) (supply t (supply_in s).lines) (world_in s)) (sym e)

-- the turn is taken
pub loop_round : (scope : Scope) (bs : List Branch) (most : ℕ) (n : Supply) (w : World) (body : List TypedStatement) (s s1 : State) → 0 < most → EntersFirst scope bs n w body s → s.turns ≡ suc s1.turns → s1 ≡ record s { turns = s1.turns } → looping (branch_pieces scope bs) most n w ≡ round (list_meaning scope body) (branch_pieces scope bs) (most - 1) (supply_in s1) (world_in s1)
loop_round scope bs most n w body s s1 lt h e same =
    loop_enters scope bs most n w body s lt h
    ∙ ap (λ t. spend t (supply_in s).lines BodyEntry (world_in s) (λ n1. round (list_meaning scope body) (branch_pieces scope bs) (most - 1) n1 (world_in s))) e
    ∙ ap (λ x. round (list_meaning scope body) (branch_pieces scope bs) (most - 1) (supply_in x) (world_in x)) (sym same)
