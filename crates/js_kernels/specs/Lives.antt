-- To be believed.
-- What becomes of each kernel by the events of a list of calls: what its seat 0 has told is what was answered as told, and of what is read for its recorder nothing is
-- left out.
use Rattle.std.specs.Prelude.{◌≡◌, ◌⊎◌, ◌++◌, ◌||◌, if◌then◌else◌, ℕ, Bool, false, true, List, [], ◌∷◌, map, All, Option, None, Some, Ok, Err, slice_get, slice_set}
use Rattle.std.specs.List.{list_any}
use Rattle.jk_log.specs.declared.arrival.Sort.{Sort}
use Rattle.jk_log.specs.declared.entry.Entry.{Entry}
use Rattle.js_tables.specs.Tables.{Rows, has_recorder}
use Rattle.js_tables.specs.declared.plan.Command.{Command}
use Rattle.js_ws.specs.Shutdowns.{is_last}
use Rattle.js_kernels.specs.Told.{HomeState, KernelState, Reading, asked, place_in, told_more, unopened}
use Rattle.js_kernels.specs.Readings.{IsDone, with_reading}
use Rattle.js_kernels.specs.Events.{Event, Happens}

-- what is done with one kernel
pub data Deed : Type 0 where
  -- its ends come, with a home that has told nothing
  Opens : (home : HomeState) → Deed
  -- its seat 0 tells it this
  Tells : (command : Command) → Deed
  -- a reading begins for its recorder, after all this was shown
  Begins : (passed : List Entry) → Deed
  -- more is read, and of what was held and that its recorder is told these, which is in these tables where it is told anything; then its save is tried, or none is due
  Reads : (more told : List Entry) (tried : Bool) (r : Rows) → Deed
  -- its kernel has no recorder in these tables: more is read, so that all this has passed, and nothing is held
  Skips : (passed : List Entry) (r : Rows) → Deed
  -- the reading ends: its recorder was told all that the kernel will ever show, and then its save was tried, or none was due; or its kernel has no recorder in these tables
  Ends : Deed
  Stops : (r : Rows) → Deed

-- more was read, and this is held now
abbrev pub read_on : Reading → List Entry → List Entry → Bool → Reading
read_on was more held tried = record { read = was.read ++ more; held = held; over = was.over || list_any is_last more; tried = tried }

-- one deed, and nothing else
abbrev pub Does : Deed → KernelState → KernelState → Type 0
Does (Deed.Opens home) old new =
    (old.home ≡ None) × (old.reading ≡ None) × (home.told ≡ []) × (new ≡ record { id = old.id; home = Some home; reading = None })
Does (Deed.Tells command) old new =
    (home : HomeState) × (old.home ≡ Some home) × (new ≡ record { id = old.id; home = Some (told_more (asked command) home); reading = old.reading })
Does (Deed.Begins passed) old new =
    (old.reading ≡ None) × (new ≡ with_reading (Some (record { read = passed; held = []; over = false; tried = false })) old)
Does (Deed.Reads more told tried r) old new =
    (was : Reading) × (held : List Entry) × ((told ≡ []) ⊎ (has_recorder old.id r ≡ true)) × (old.reading ≡ Some was) × (was.held ++ more ≡ told ++ held)
    × (new ≡ with_reading (Some (read_on was more held tried)) old)
Does (Deed.Skips passed r) old new =
    (was : Reading) × (more : List Entry) × (has_recorder old.id r ≡ false) × (old.reading ≡ Some was) × (passed ≡ was.read ++ more)
    × (new ≡ with_reading (Some (read_on was more [] true)) old)
Does Deed.Ends old new = IsDone old.reading × (new ≡ with_reading None old)
Does (Deed.Stops r) old new = (has_recorder old.id r ≡ false) × (new ≡ with_reading None old)

-- a kernel that runs, and what was done with it since it was made, the last first
pub record Life : Type 0 where
  pub kernel : KernelState
  pub deeds : List Deed

abbrev pub kernels_of : List Life → List KernelState
kernels_of lives = map (λ l. l.kernel) lives

-- ---- which deeds an event is

abbrev pub HasDone : Deed → Life → Life → Type 0
HasDone deed old new = Does deed old.kernel new.kernel × (new.deeds ≡ deed ∷ old.deeds)

-- the first kernel of this identifier has done this, and no other has done anything
pub record DoesAt (id : List ℕ) (deed : Deed) (old new : List Life) : Type 0 where
  pub place : ℕ
  pub first : place_in id (kernels_of old) ≡ Some place
  pub was : Life
  pub there : slice_get old place ≡ Some was
  pub now : Life
  pub done : HasDone deed was now
  pub others : new ≡ slice_set old place now

-- a kernel that was just made
abbrev pub born : List ℕ → Life
born id = record { kernel = unopened id; deeds = [] }

-- a kernel whose reading stops where it has no recorder
abbrev pub stopped : Rows → Life → Life
stopped r l = if has_recorder l.kernel.id r then l else record { kernel = with_reading None l.kernel; deeds = Deed.Stops r ∷ l.deeds }

-- some have gone, for whose recorders nothing was read; the others are the same, in order
abbrev pub HaveLeft : List Life → List Life → Type 0
HaveLeft [] new = new ≡ []
HaveLeft (l ∷ old) new = ((rest : List Life) × (new ≡ l ∷ rest) × HaveLeft old rest) ⊎ ((l.kernel.reading ≡ None) × HaveLeft old new)

-- what an event is to the lives of the kernels: deeds of those that it changes
abbrev pub Moves : List Life → Event → List Life → Type 0
Moves old (Event.Begin id) new = new ≡ old ++ born id ∷ []
Moves old (Event.Open home) new =
    ((others : List Life) × (was : Life) × (now : Life) × (old ≡ others ++ was ∷ []) × HasDone (Deed.Opens home) was now × (new ≡ others ++ now ∷ []))
    ⊎ (new ≡ old)
Moves old Event.Fail new = ((last : Life) × (old ≡ new ++ last ∷ []) × (last.kernel ≡ unopened last.kernel.id)) ⊎ (new ≡ old)
Moves old (Event.Tell id command (Ok done)) new = DoesAt id (Deed.Tells command) old new
Moves old (Event.Tell id command (Err why)) new = new ≡ old
Moves old (Event.BeginReading id) new = (passed : List Entry) × DoesAt id (Deed.Begins passed) old new
Moves old (Event.Record id date c d f g r s) new =
    (new ≡ old) ⊎ (((more : List Entry) × (told : List Entry) × (tried : Bool) × DoesAt id (Deed.Reads more told tried r) old new)
    ⊎ ((passed : List Entry) × DoesAt id (Deed.Skips passed r) old new))
Moves old (Event.EndReading id) new = DoesAt id Deed.Ends old new
Moves old (Event.Unrecord r) new = new ≡ map (stopped r) old
Moves old Event.Go new = HaveLeft old new

-- ---- what a kernel's deeds say of it

-- by these deeds alone, the last first
abbrev pub Lives : KernelState → List Deed → KernelState → Type 0
Lives old [] new = new ≡ old
Lives old (deed ∷ deeds) new = (mid : KernelState) × Lives old deeds mid × Does deed mid new

-- the commands among them, in the order in which they were told
abbrev pub commands_in : List Deed → List Command
commands_in [] = []
commands_in (Deed.Tells command ∷ deeds) = commands_in deeds ++ command ∷ []
commands_in (_ ∷ deeds) = commands_in deeds

-- what the kernel had shown before its recorder was told anything: when the reading began, or when it had no recorder last
abbrev pub passed_in : List Deed → List Entry
passed_in [] = []
passed_in (Deed.Begins passed ∷ deeds) = passed
passed_in (Deed.Skips passed r ∷ deeds) = passed
passed_in (_ ∷ deeds) = passed_in deeds

-- what its recorder was told since then, in order
abbrev pub recorded_in : List Deed → List Entry
recorded_in [] = []
recorded_in (Deed.Begins passed ∷ deeds) = []
recorded_in (Deed.Skips passed r ∷ deeds) = []
recorded_in (Deed.Reads more told tried r ∷ deeds) = recorded_in deeds ++ told
recorded_in (_ ∷ deeds) = recorded_in deeds

-- what seat 0 of a kernel has told: nothing, until there is a home
abbrev pub told_of : Option HomeState → List Sort
told_of None = []
told_of (Some home) = home.told

-- Its state was reached from where it was made by its own deeds alone. What its seat 0 has told is the commands that it was told, in order. What was read for its
-- recorder is what had passed before, then what that was told, then what is held
pub record IsLived (l : Life) : Type 0 where
  pub lives : Lives (unopened l.kernel.id) l.deeds l.kernel
  pub told : told_of l.kernel.home ≡ map asked (commands_in l.deeds)
  pub read : (reading : Reading) → l.kernel.reading ≡ Some reading → reading.read ≡ passed_in l.deeds ++ (recorded_in l.deeds ++ reading.held)

-- L is the language, and S, T, M are its sessions, trees and machines
module _ (L S T M : Type 0) where
  -- these events, one after another, each of which happens to the kernels and moves their lives
  abbrev pub Lead : List Life → List Event → List Life → Type 0
  Lead old [] new = new ≡ old
  Lead old (e ∷ es) new = (mid : List Life) × Happens L S T M (kernels_of old) e (kernels_of mid) × Moves old e mid × Lead mid es new

  -- by these events, from no kernels, these have lived
  abbrev pub AreLived : List Event → List KernelState → Type 0
  AreLived es kernels = (lives : List Life) × (kernels_of lives ≡ kernels) × Lead [] es lives × All IsLived lives
