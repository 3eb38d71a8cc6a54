-- Loops that make a round after the other.
use Rattle.std.proofs.Common.{◌≡◌, ℕ, suc, ◌+◌, ◌-◌, ◌<◌, ◌≤◌, arith, Bool, true, false, Result, Ok, Err, ap, ◌∙◌, subst}
use Rattle.ob_mean.specs.Runs.{World, Supply, Run, Goes, Done, done, Piece}
use Rattle.ob_reference_store.specs.declared.state.State.{State}
use Rattle.ob_reference_store.specs.declared.stop.Stop.{Stop}
use Rattle.ob_reference_store.specs.declared.stop.Stop.TheVariants as stop
use Rattle.ob_reference.specs.Rounds.{Round}
use Rattle.ob_reference_store.specs.States.{Follows, supply_in, world_in}

module _ (loop : ℕ → Piece Done) where
  pub begins : (n : Supply) (w : World) (most : ℕ) → loop most n w ≡ loop (most - 0) n w
  begins n w most = ap (λ k. loop k n w) (omega arith)

  one_less : (n : Supply) (w : World) (most i : ℕ) → i < most → loop (most - i) n w ≡ loop (suc (most - (i + 1))) n w
  one_less n w most i lt = ap (λ k. loop k n w) (omega arith)

  pub again : (run : Run Done) (most i : ℕ) (s s1 : State) (r : Result Bool Stop) → i < most → run ≡ loop (most - i) (supply_in s) (world_in s) → r ≡ Ok true → Round loop (supply_in s) (world_in s) r s1 → run ≡ loop (most - (i + 1)) (supply_in s1) (world_in s1)
  again run most i s s1 r lt e is h =
      e ∙ one_less (supply_in s) (world_in s) most i lt ∙ subst (λ x. Round loop (supply_in s) (world_in s) x s1) is h (most - (i + 1))

  pub over : (run : Run Done) (most i : ℕ) (s s1 : State) (r : Result Bool Stop) → i < most → run ≡ loop (most - i) (supply_in s) (world_in s) → r ≡ Ok false → Round loop (supply_in s) (world_in s) r s1 → run ≡ Goes done (supply_in s1) (world_in s1)
  over run most i s s1 r lt e is h =
      e ∙ one_less (supply_in s) (world_in s) most i lt ∙ subst (λ x. Round loop (supply_in s) (world_in s) x s1) is h (most - (i + 1))

  fails_by : {X : Type 0} (view : X → Done) (run : Run Done) (most i : ℕ) (s s1 : State) (e : Stop) → i < most → run ≡ loop (most - i) (supply_in s) (world_in s) → Round loop (supply_in s) (world_in s) (Err e) s1 → Follows view (Err e) s1 run
  fails_by view run most i s s1 (stop.Stands why) lt e h = e ∙ one_less (supply_in s) (world_in s) most i lt ∙ h (most - (i + 1))
  fails_by view run most i s s1 stop.Unanswered lt e h = tt

  pub fails : {X : Type 0} (view : X → Done) (run : Run Done) (most i : ℕ) (s s1 : State) (e : Stop) (r : Result X Stop) → i < most → run ≡ loop (most - i) (supply_in s) (world_in s) → Round loop (supply_in s) (world_in s) (Err e) s1 → Err e ≡ r → Follows view r s1 run
  fails view run most i s s1 e r lt h g is = subst (λ x. Follows view x s1 run) is (fails_by view run most i s s1 e lt h g)

  pub ends : (run : Run Done) (most i : ℕ) (s : State) → most ≤ i → run ≡ loop (most - i) (supply_in s) (world_in s) → run ≡ loop 0 (supply_in s) (world_in s)
  ends run most i s le e = e ∙ ap (λ k. loop k (supply_in s) (world_in s)) (omega arith)
