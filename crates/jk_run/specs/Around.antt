-- To be believed.
-- The world round a driver.
use Rattle.std.specs.Prelude.{◌≡◌, ℕ, List, ◌∷◌, Some, slice_get}
use Rattle.jk_log.specs.declared.arrival.Arrival.{Arrival}
use Rattle.jk_world.specs.World.{World}
use Rattle.jk_run.specs.Acts.{DriverState, Act, Take, GiveJob, Hand, Work, Publish}

-- the world has the driver's kernel and board
pub record IsAround {T : Type 0} (w : World T) (d : DriverState T) : Type 0 where
  pub kernel : w.kernel ≡ d.kernel
  pub board : w.board ≡ d.board

-- an arrival that is taken stands first in the world's inbox, and a result that is handed in among its results
abbrev pub Offers : {T : Type 0} → World T → Act T → Type 0
Offers w (Take a) = (rest : List Arrival) × (w.inbox ≡ a ∷ rest)
Offers w (Hand p used) = (which : ℕ) × (slice_get w.results which ≡ Some p)
Offers w (GiveJob job) = Unit {0}
Offers w (Work turns answer) = Unit {0}
Offers w (Publish marks) = Unit {0}
