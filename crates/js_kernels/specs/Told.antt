-- To be believed.
-- The kernels that run, and what telling one a command does.
use Rattle.std.specs.Prelude.{◌≡◌, ◌⊎◌, ◌<◌, ◌^◌, ℕ, Bool, true, false, List, [], ◌∷◌, ◌++◌, map, length, Option, Some, None, Result, Ok, Err, position, slice_get, slice_set}
use Rattle.std.specs.Str.{bytes_eq}
use Rattle.atomic_table.specs.Seated.{TableId}
use Rattle.jk_log.specs.Asked.{sort_as}
use Rattle.jk_log.specs.declared.arrival.Arrival.{Arrival}
use Rattle.jk_log.specs.declared.arrival.Sort.{Sort}
use Rattle.jk_log.specs.declared.arrival.Sort.TheVariants as sort
use Rattle.jk_log.specs.declared.entry.Entry.{Entry}
use Rattle.jk_queues.specs.Inbox.{of}
use Rattle.js_tables.specs.declared.plan.Command.{Command}
use Rattle.js_tables.specs.declared.plan.Command.TheVariants as command
use Rattle.js_rest.specs.declared.untold.Untold.{Untold}
use Rattle.js_rest.specs.declared.untold.Untold.TheVariants.{Full, Memory}

-- what a kernel has to do for a command
abbrev pub asked : Command → Sort
asked command.Interrupt = sort.Interrupt
asked command.Restart = sort.Shutdown true
asked command.Shutdown = sort.Shutdown false

-- its ends at the server: the inbox to which seat 0 sends, and what that has told the kernel so far, in order
pub record HomeState : Type 0 where
  pub inbox : TableId
  pub told : List Sort

-- What is read for the recorder of its session: all that its follower has read so far, what of that the recorder was not told yet, and whether the last entry that
-- the kernel will ever show was read. And whether the recorder's save was tried after the last read, or none was due then
pub record Reading : Type 0 where
  pub read : List Entry
  pub held : List Entry
  pub over : Bool
  pub tried : Bool

-- a kernel that runs; there is no home until its thread has handed the ends out, and no reading where nothing is read for a recorder
pub record KernelState : Type 0 where
  pub id : List ℕ
  pub home : Option HomeState
  pub reading : Option Reading

-- what is answered to a command that was sent, or for which the inbox had no room
abbrev pub outcome : Bool → Result (Unit {0}) Untold
outcome true = Ok tt
outcome false = Err Full

-- At one moment 256 arrivals stood in the inbox. Of all that had come to it by then, what seat 0 sent is what that had told. Or seat 0
-- had told more than 2^62 things
abbrev pub WasFull : HomeState → Type 0
WasFull h =
    ((taken : List Arrival) × (standing : List Arrival) × (length standing ≡ 256) × (map (λ x. sort_as x.what) (of 0 (taken ++ standing)) ≡ h.told))
    ⊎ (2 ^ 62 < length h.told)

-- seat 0 has told one thing more
abbrev pub told_more : Sort → HomeState → HomeState
told_more s h = record { inbox = h.inbox; told = h.told ++ s ∷ [] }

-- the place of the first kernel of an identifier
abbrev pub place_in : List ℕ → List KernelState → Option ℕ
place_in id kernels = position (λ k. bytes_eq k.id id) kernels

-- a kernel whose ends have not come yet, and of which nothing is read
abbrev pub unopened : List ℕ → KernelState
unopened id = record { id = id; home = None; reading = None }

-- one more kernel runs, whose ends have not come yet
abbrev pub Begins : List KernelState → List ℕ → List KernelState → Type 0
Begins old id new = new ≡ old ++ unopened id ∷ []

-- the kernel of this identifier was told one thing more, and no other kernel was told anything; what is read for recorders stays
pub record IsToldOneMore (s : Sort) (id : List ℕ) (old new : List KernelState) : Type 0 where
  pub place : ℕ
  pub first : place_in id old ≡ Some place
  pub was : KernelState
  pub there : slice_get old place ≡ Some was
  pub home : HomeState
  pub opened : was.home ≡ Some home
  pub told : new ≡ slice_set old place (record { id = was.id; home = Some (told_more s home); reading = was.reading })

-- the inbox of the kernel of this identifier was full
pub record IsFoundFull (id : List ℕ) (kernels : List KernelState) : Type 0 where
  pub place : ℕ
  pub first : place_in id kernels ≡ Some place
  pub kernel : KernelState
  pub there : slice_get kernels place ≡ Some kernel
  pub home : HomeState
  pub opened : kernel.home ≡ Some home
  pub full : WasFull home

-- Where a command was told, the kernel of that identifier was sent it from seat 0, once; where it was not told, nothing was sent, and
-- it is answered that its inbox was full only where that is so
abbrev pub Tells : List KernelState → List ℕ → Command → Result (Unit {0}) Untold → List KernelState → Type 0
Tells old id command (Ok done) new = IsToldOneMore (asked command) id old new
Tells old id command (Err Full) new = (new ≡ old) × IsFoundFull id old
Tells old id command (Err Memory) new = new ≡ old
