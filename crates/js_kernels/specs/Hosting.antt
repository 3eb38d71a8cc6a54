-- To be believed.
-- What a clause sees of the kernels that the desk holds.
use Rattle.std.specs.Prelude.{◌≡◌, ◌<◌, ℕ, List, map, Option, Some, None, Result, Ok, Err, slice_get}
use Rattle.jk_log.specs.declared.arrival.Sort.{Sort}
use Rattle.jk_log.specs.Asked.{sort_as}
use Rattle.jk_board.specs.Ends.{board_of}
use Rattle.jk_queues.specs.Ends.{seat_inbox}
use Rattle.js_home.specs.Homes.{told_by}
use Rattle.js_home.specs.declared.home.Home.{Home}
use Rattle.js_rest.specs.declared.untold.Untold.{Untold}
use Rattle.js_rest.specs.declared.untold.Untold.TheVariants.{Full, Memory}
use Rattle.js_kernels.specs.Told.{HomeState, KernelState, Reading, WasFull, told_more, place_in}
use Rattle.js_kernels.specs.Recording.{reading_in}
use Rattle.js_drive.specs.declared.place.Place.{Place}
use Rattle.js_kernels.specs.declared.kernels.ends.Ends.{Ends}
use Rattle.js_kernels.specs.declared.kernels.hosted.Hosted.{Hosted}

-- the seat 0 of this home has told one thing more
abbrev pub HasTold : Sort → Option HomeState → Option HomeState → Type 0
HasTold s old new = (h : HomeState) × (old ≡ Some h) × (new ≡ Some (told_more s h))

-- It has told this; or it has not, since the inbox was full, or since there is no home yet
abbrev pub TellsHome : Sort → Result (Unit {0}) Untold → Option HomeState → Option HomeState → Type 0
TellsHome s (Ok done) old new = HasTold s old new
TellsHome s (Err Full) old new = (new ≡ old) × (h : HomeState) × (old ≡ Some h) × WasFull h
TellsHome s (Err Memory) old new = new ≡ old

module _ {L S T M : Type 0} where
  abbrev pub state_of : Home L S T M → HomeState
  state_of h = record { inbox = seat_inbox h.zero; told = map (λ x. sort_as x.what) (told_by h) }

  abbrev pub state_in : Option (Home L S T M) → Option HomeState
  state_in None = None
  state_in (Some h) = Some (state_of h)

  abbrev pub home_of : Ends L S T M → Option HomeState
  home_of e = state_in e.home

  -- what is read for the recorder of a kernel's session
  abbrev pub reading_of : Ends L S T M → Option Reading
  reading_of e = reading_in e.scribe

  abbrev pub kernel_of : Hosted L S T M → KernelState
  kernel_of k = record { id = k.id; home = home_of k.ends; reading = reading_of k.ends }

  abbrev pub states_of : List (Hosted L S T M) → List KernelState
  states_of ks = map kernel_of ks

  -- it is one of the places 1 to 7 of this home's inbox, and follows the board of the kernel that takes from there
  abbrev pub IsPlaceOf : Option HomeState → Place L S T M → Type 0
  IsPlaceOf home p =
      (h : HomeState) × (home ≡ Some h) × (seat_inbox p.lent.lease.value.seat ≡ h.inbox) × (board_of p.lent.lease.value.follower ≡ h.inbox)
      × (0 < p.lent.lease.value.seat.place) × (p.lent.lease.value.seat.place < 8)

  -- it is a place of the kernel of this identifier
  abbrev pub IsPlaceAt : List ℕ → List KernelState → Place L S T M → Type 0
  IsPlaceAt id kernels p = (place : ℕ) × (k : KernelState) × (place_in id kernels ≡ Some place) × (slice_get kernels place ≡ Some k) × IsPlaceOf k.home p
