-- A function that does what a piece means, and what is made of it.
use Rattle.std.proofs.Common.{◌≡◌, ℕ, ℤ, Result, Ok, Err, ap, ◌∙◌, subst, sym}
use Rattle.std.specs.Prelude.{Option, None, IfOk, MatchResult, MatchOption}
use Rattle.ob_mean.specs.declared.outcome.TrapKind.{TrapKind}
use Rattle.ob_mean.specs.declared.outcome.Outcome.TheVariants.{Trapped}
use Rattle.ob_mean.specs.Arithmetic.{Computed}
use Rattle.ob_mean.specs.Runs.{World, Supply, Run, and_then}
use Rattle.ob_mean.specs.Expressions.{Scope, computed}
use Rattle.ob_reference_store.specs.declared.state.State.{State}
use Rattle.ob_reference_store.specs.declared.stop.Stop.{Stop}
use Rattle.ob_reference_store.specs.declared.stop.Stop.TheVariants as stop
use Rattle.ob_mean.specs.Computing.{Computes}
use Rattle.ob_reference_store.specs.States.{Follows, supply_in, world_in}

-- what follows a run follows an equal one
pub carry : {X A : Type 0} (view : X → A) (r : Result X Stop) (s : State) (p q : Run A) → q ≡ p → Follows view r s p → Follows view r s q
carry view (Ok x) s p q e h = e ∙ h
carry view (Err (stop.Stands why)) s p q e h = e ∙ h
carry view (Err stop.Unanswered) s p q e h = tt

-- where the first piece gives no value, both give none
pub halts : {X Y A B : Type 0} (view : X → A) (again : Y → B) (e : Stop) (s : State) (p : Run A) (f : A → Supply → World → Run B) (q : Run B) → q ≡ and_then p f → Follows view (Err e) s p → Follows again (Err e) s q
halts view again (stop.Stands why) s p f q g h = g ∙ ap (λ r. and_then r f) h
halts view again stop.Unanswered s p f q g h = tt

-- a computed number, or a trap
pub finished : (scope : Scope) (c : Computed) (r : Result ℤ TrapKind) (result : Result ℤ Stop) (line : ℕ) (s : State) → Computes c r → MatchResult r (λ v. result ≡ Ok v) (λ kind. result ≡ Err (stop.Stands (Trapped kind scope.home line))) → Follows (λ (v : ℤ). v) result s (computed scope c line (supply_in s) (world_in s))
finished scope c (Ok v) result line s e f = subst (λ x. Follows (λ (v : ℤ). v) x s (computed scope c line (supply_in s) (world_in s))) (sym f) (ap (λ c. computed scope c line (supply_in s) (world_in s)) e)
finished scope c (Err kind) result line s e f = subst (λ x. Follows (λ (v : ℤ). v) x s (computed scope c line (supply_in s) (world_in s))) (sym f) (ap (λ c. computed scope c line (supply_in s) (world_in s)) e)

pub if_ok : {X E A : Type 0} (r : Result X E) (f : X → A) (a b : A) → a ≡ b → IfOk r (λ x. f x ≡ a) → IfOk r (λ x. f x ≡ b)
if_ok r f a b e h = subst (λ y. IfOk r (λ x. f x ≡ y)) e h

pub none_of : {X : Type 0} (o : Option X) (P : Type 0) (Q : X → Type 0) → o ≡ None → MatchOption o P Q → P
none_of o P Q e h = subst (λ x. MatchOption x P Q) e h
