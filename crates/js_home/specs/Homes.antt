-- What a home holds, and what its steps are.
use Rattle.std.specs.Prelude.{◌≡◌, ◌⊎◌, ◌<◌, ◌+◌, ◌^◌, ℕ, List, [], ◌∷◌, ◌++◌, map, length, Result, Ok, Err, slice_index_or}
use Rattle.std.specs.List.{remove}
use Rattle.crossbeam_queue.specs.Fifo.{Held}
use Rattle.jk_log.specs.declared.arrival.Arrival.{Arrival}
use Rattle.jk_log.specs.declared.arrival.What.{What}
use Rattle.jk_board.specs.Ends.{board_of}
use Rattle.jk_queues.specs.Ends.{seat_inbox, seat_view, sent_by}
use Rattle.jk_queues.specs.Inbox.{Stands}
use Rattle.jk_queues.specs.declared.inbox.Full.{Full}
use Rattle.js_lend.specs.Ends.{lent_to}
use Rattle.js_home.specs.Places.{place_of}
use Rattle.js_home.specs.Served.{HasServed}
use Rattle.js_home.specs.declared.free.Free.{Free}
use Rattle.js_home.specs.declared.home.Home.{Home}
use Rattle.js_home.specs.declared.place.Place.{Place}
use Rattle.js_home.specs.declared.refused.NoPlace.{NoPlace}
use Rattle.js_home.specs.declared.refused.NoPlace.TheVariants as no

-- what seat 0 sends after these
abbrev pub arrival_of : List Arrival → What → Arrival
arrival_of sent what = record { seat = 0; number = length sent + 1; what = what }

module _ {L S T M : Type 0} where
  -- what seat 0 has sent
  abbrev pub told_by : Home L S T M → List Arrival
  told_by h = sent_by h.zero

  abbrev pub free_of : Home L S T M → List (Free L S T M)
  free_of h = h.free.items

  -- the places that are lent, as they were then
  abbrev pub lent_of : Home L S T M → List (Free L S T M)
  lent_of h = map lent_to h.lent.items

  -- the same places are free and lent
  abbrev pub KeepsPlaces : Home L S T M → Home L S T M → Type 0
  KeepsPlaces old new = (free_of new ≡ free_of old) × (lent_of new ≡ lent_of old)

  abbrev pub IsSame : Home L S T M → Home L S T M → Type 0
  IsSame old new = (new.zero ≡ old.zero) × KeepsPlaces old new

  -- the inbox was full at one moment, or seat 0 has sent more than 2^62 arrivals
  abbrev pub WasFull : Home L S T M → Type 0
  WasFull h = Held 256 (Stands (seat_view h.zero)) ⊎ (2 ^ 62 < length (told_by h))

  -- seat 0 has sent it, once; or the inbox was full, and nothing was sent
  abbrev pub Tells : Home L S T M → What → Result (Unit {0}) Full → Home L S T M → Type 0
  Tells old what (Ok done) new =
      (told_by new ≡ told_by old ++ arrival_of (told_by old) what ∷ []) × (seat_inbox new.zero ≡ seat_inbox old.zero) × KeepsPlaces old new
  Tells old what (Err full) new =
      (told_by new ≡ told_by old) × (seat_inbox new.zero ≡ seat_inbox old.zero) × KeepsPlaces old new × (full.arrival ≡ arrival_of (told_by old) what)
      × WasFull old

  -- the last free place is lent
  abbrev pub Lends : Home L S T M → Free L S T M → Home L S T M → Type 0
  Lends old x new = (free_of old ≡ free_of new ++ x ∷ []) × (lent_of new ≡ lent_of old ++ x ∷ []) × (new.zero ≡ old.zero)

  abbrev pub LendsPlace : Home L S T M → Place L S T M → Home L S T M → Type 0
  LendsPlace old place new = Lends old place.lease.value new

  -- a place of this home's inbox, one of 1 to 7, with a follower of the board of the kernel that takes from that inbox
  abbrev pub IsPlaceOf : Home L S T M → Place L S T M → Type 0
  IsPlaceOf home place =
      (seat_inbox place.lease.value.seat ≡ seat_inbox home.zero) × (board_of place.lease.value.follower ≡ seat_inbox home.zero)
      × (0 < place_of place.lease.value) × (place_of place.lease.value < 8)

  abbrev pub WasRefused : NoPlace → Home L S T M → Type 0
  WasRefused no.Lent h = free_of h ≡ []
  WasRefused no.Memory h = Unit {0}

  -- a place that was lent came back as what its connection made of it; it is free, and the other loans stay
  pub record TakesBackAt (place : ℕ) (old new : Home L S T M) : Type 0 where
    pub was : Free L S T M
    pub now : Free L S T M
    pub low : place < length (lent_of old)
    pub lent : was ≡ slice_index_or (lent_of old) place was
    pub served : HasServed was now
    pub free : free_of new ≡ free_of old ++ now ∷ []
    pub others : lent_of new ≡ remove (lent_of old) place
    pub zero : new.zero ≡ old.zero

  abbrev pub HasTakenBack : Home L S T M → Home L S T M → Type 0
  HasTakenBack old new = (place : ℕ) × TakesBackAt place old new
