-- To be believed.
-- The rule of the word by which a pool is stopped.
use Rattle.std.specs.Prelude.{◌≡◌, ℕ, ◌==◌, Bool, true, false, List, slice_index}
use mathlib.Core.Option.{some}
use lib.ListN.{get_elem?}
use Rattle.jk_queues.specs.declared.stop.Known.{Known}

abbrev pub known : Bool → Bool → Known
known may is = record { stops = may; stopped = is }

abbrev pub is_set : List ℕ → Bool
is_set words = slice_index words 0 == 1

-- one pass at most may stop the pool; the word is not set before it has, and is set wherever a pass knows that the pool was stopped
abbrev pub Fits : ℕ → List ℕ → ℕ → Known → Type 0
Fits stopper words j v = (v.stops ≡ true → (j ≡ stopper) × (v.stopped ≡ false → is_set words ≡ false)) × (v.stopped ≡ true → is_set words ≡ true)

abbrev pub Stopping : List ℕ → List Known → Type 0
Stopping words views = (stopper : ℕ) × ((j : ℕ) (v : Known) → get_elem? views j ≡ some v → Fits stopper words j v)
