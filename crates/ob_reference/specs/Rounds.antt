-- Loops, one round at a time.
use Rattle.std.specs.Prelude.{◌≡◌, ℕ, suc, Bool, true, false, Result, Ok, Err}
use Rattle.ob_mean.specs.Runs.{World, Supply, Goes, Stands, Done, done, Piece}
use Rattle.ob_reference_store.specs.declared.state.State.{State}
use Rattle.ob_reference_store.specs.declared.stop.Stop.{Stop}
use Rattle.ob_reference_store.specs.declared.stop.Stop.TheVariants as stop
use Rattle.ob_reference_store.specs.States.{supply_in, world_in}

-- A loop with so many rounds left made one and goes on from this state, is over there, or stands in it, unless there was
-- no answer.
abbrev pub Round : (ℕ → Piece Done) → Supply → World → Result Bool Stop → State → Type 0
Round loop n w (Ok true) s = (most : ℕ) → loop (suc most) n w ≡ loop most (supply_in s) (world_in s)
Round loop n w (Ok false) s = (most : ℕ) → loop (suc most) n w ≡ Goes done (supply_in s) (world_in s)
Round loop n w (Err (stop.Stands why)) s = (most : ℕ) → loop (suc most) n w ≡ Stands why (supply_in s) (world_in s)
Round loop n w (Err stop.Unanswered) s = Unit {0}
