-- To be believed.
-- What becomes of that which is read for the recorders of kernels: it stays until its recorder was told, or until the reading ends.
use Rattle.std.specs.Prelude.{◌≡◌, ◌⊎◌, ◌||◌, if◌then◌else◌, ℕ, true, false, List, [], ◌∷◌, ◌++◌, Option, Some, None, slice_get, slice_set}
use Rattle.std.specs.List.{list_any}
use Rattle.jk_log.specs.declared.entry.Entry.{Entry}
use Rattle.js_tables.specs.Tables.{Rows, has_recorder}
use Rattle.js_ws.specs.Shutdowns.{is_last}
use Rattle.js_kernels.specs.Told.{HomeState, KernelState, Reading, place_in, unopened}

-- a reading begins: there was none, and now nothing is held
abbrev pub BeginsReading : Option Reading → Option Reading → Type 0
BeginsReading old new = (old ≡ None) × (now : Reading) × (new ≡ Some now) × (now.held ≡ []) × (now.over ≡ false) × (now.tried ≡ false)

-- A reading goes on. More was read, after what was read before. Of what was held and that, in order, a front has gone, and the rest is held. The front was told, or
-- its kernel has no recorder (`RecordsAt` of Recording)
pub record ReadsOn (old new : Option Reading) : Type 0 where
  pub was : Reading
  pub now : Reading
  pub there : old ≡ Some was
  pub still : new ≡ Some now
  pub more : List Entry
  pub gone : List Entry
  pub read : now.read ≡ was.read ++ more
  pub held : was.held ++ more ≡ gone ++ now.held
  pub over : now.over ≡ (was.over || list_any is_last more)

-- a reading ends, where there was one
abbrev pub EndsReading : Option Reading → Option Reading → Type 0
EndsReading old new = new ≡ None

-- a kernel of which this is read, and else the same
abbrev pub with_reading : Option Reading → KernelState → KernelState
with_reading reading k = record { id = k.id; home = k.home; reading = reading }

-- what is read of the first kernel of this identifier has changed as `So` says; nothing else of it has changed, and no other kernel
pub record ChangesReading (So : Option Reading → Option Reading → Type 0) (id : List ℕ) (old new : List KernelState) : Type 0 where
  pub place : ℕ
  pub first : place_in id old ≡ Some place
  pub was : KernelState
  pub there : slice_get old place ≡ Some was
  pub reading : Option Reading
  pub changed : So was.reading reading
  pub now : new ≡ slice_set old place (with_reading reading was)

-- a kernel with the same reading where it has a recorder, and else with none
abbrev pub if_recorded : Rows → KernelState → KernelState
if_recorded r k = if has_recorder k.id r then k else with_reading None k

-- some kernels have gone, and of none of them anything was read; the others are the same, in order
abbrev pub HaveGone : List KernelState → List KernelState → Type 0
HaveGone [] new = new ≡ []
HaveGone (k ∷ old) new = ((rest : List KernelState) × (new ≡ k ∷ rest) × HaveGone old rest) ⊎ ((k.reading ≡ None) × HaveGone old new)

-- the ends of the last kernel have not come
abbrev pub IsLastUnopened : List KernelState → List ℕ → List KernelState → Type 0
IsLastUnopened others id kernels = kernels ≡ others ++ unopened id ∷ []

-- the ends of the last kernel have come, with this home; where it had its ends before, and where no kernel is there, nothing has changed
abbrev pub EndsHaveCome : HomeState → List KernelState → List KernelState → Type 0
EndsHaveCome home old new =
    ((others : List KernelState) × (id : List ℕ) × IsLastUnopened others id old × (new ≡ others ++ record { id = id; home = Some home; reading = None } ∷ []))
    ⊎ ((new ≡ old) × ((others : List KernelState) (id : List ℕ) → ¬ (IsLastUnopened others id old)))

-- the last kernel has gone, whose ends had not come; where they had come, and where no kernel is there, nothing has changed
abbrev pub LastHasGone : List KernelState → List KernelState → Type 0
LastHasGone old new =
    ((id : List ℕ) × IsLastUnopened new id old)
    ⊎ ((new ≡ old) × ((others : List KernelState) (id : List ℕ) → ¬ (IsLastUnopened others id old)))

-- nothing is read; or all was read that the kernel will ever show, its recorder was told it, and then its save was tried, or none was due
abbrev pub IsDone : Option Reading → Type 0
IsDone None = Unit {0}
IsDone (Some reading) = (reading.held ≡ []) × (reading.over ≡ true) × (reading.tried ≡ true)

-- that is so of the first kernel of this identifier, where one is there
abbrev pub IsRead : List ℕ → List KernelState → Type 0
IsRead id kernels = (place : ℕ) (k : KernelState) → place_in id kernels ≡ Some place → slice_get kernels place ≡ Some k → IsDone k.reading
