-- To be believed.
-- What happens to the kernels that run, call by call: each event is what the contract of its call says.
use Rattle.std.specs.Prelude.{◌≡◌, ℕ, List, [], ◌∷◌, map, Option, Result}
use Rattle.js_rest.specs.declared.untold.Untold.{Untold}
use Rattle.js_shelf.specs.Shelves.{Contents}
use Rattle.js_tables.specs.Tables.{Rows}
use Rattle.js_tables.specs.declared.plan.Command.{Command}
use Rattle.js_kernels.specs.Told.{HomeState, KernelState, Begins, Tells}
use Rattle.js_kernels.specs.Recording.{RecordsAt}
use Rattle.js_kernels.specs.Readings.{BeginsReading, EndsReading, ChangesReading, EndsHaveCome, HaveGone, IsRead, LastHasGone, if_recorded}

pub data Event : Type 0 where
  -- a kernel is made; the ends of the last one come; the last one goes, since it could not be started
  Begin : (id : List ℕ) → Event
  Open : (home : HomeState) → Event
  Fail : Event
  -- a command is to be told to a kernel, and this is answered
  Tell : (id : List ℕ) (command : Command) (answer : Result (Unit {0}) Untold) → Event
  -- for the recorder of a kernel: a reading begins; it goes on by one read, of which the recorder is told on this date, over files, their faults and tables, before
  -- and after; and it ends with the kernel
  BeginReading : (id : List ℕ) → Event
  Record : (id date : List ℕ) (c d : Option Contents) (f g : ℕ) (r s : Rows) → Event
  EndReading : (id : List ℕ) → Event
  -- the readings end whose recorders are gone from these tables
  Unrecord : (r : Rows) → Event
  -- kernels go that were shut down and that nobody follows any more
  Go : Event

-- L is the language, and S, T, M are its sessions, trees and machines
module _ (L S T M : Type 0) where
  abbrev pub Happens : List KernelState → Event → List KernelState → Type 0
  Happens old (Event.Begin id) new = Begins old id new
  Happens old (Event.Open home) new = (home.told ≡ []) × EndsHaveCome home old new
  Happens old Event.Fail new = LastHasGone old new
  Happens old (Event.Tell id command answer) new = Tells old id command answer new
  Happens old (Event.BeginReading id) new = ChangesReading BeginsReading id old new
  Happens old (Event.Record id date c d f g r s) new = RecordsAt L S T M c d f g id date old new r s
  Happens old (Event.EndReading id) new = IsRead id old × ChangesReading EndsReading id old new
  Happens old (Event.Unrecord r) new = new ≡ map (if_recorded r) old
  Happens old Event.Go new = HaveGone old new

  -- a list of events, one after another
  abbrev pub Run : List KernelState → List Event → List KernelState → Type 0
  Run old [] new = new ≡ old
  Run old (e ∷ es) new = (mid : List KernelState) × Happens old e mid × Run mid es new

  -- from no kernels
  abbrev pub IsReached : List KernelState → Type 0
  IsReached kernels = (es : List Event) × Run [] es kernels
