-- To be believed.
-- What a connection sends to the inbox of its kernel.
use Rattle.std.specs.Prelude.{◌⊎◌, ℕ, ◌+◌, ◌<◌, ◌^◌, Bool, true, false, ◌&&◌, not, List, [], ◌∷◌, ◌++◌, length, Option, None, Some, if◌then◌else◌}
use Rattle.jk_log.specs.declared.arrival.Arrival.{Arrival}
use Rattle.jk_log.specs.declared.arrival.What.{What}
use Rattle.jk_log.specs.declared.arrival.What.TheVariants.{Leave}
use Rattle.crossbeam_queue.specs.Fifo.{Held}
use Rattle.jk_queues.specs.declared.inbox.Seat.{Seat}
use Rattle.jk_queues.specs.Ends.{seat_view, sent_by}
use Rattle.jk_queues.specs.Inbox.{Stands}
use Rattle.js_ws.specs.declared.hearing.Heard.{Heard}
use Rattle.js_ws.specs.declared.hearing.Heard.TheVariants as heard
use Rattle.js_ws.specs.declared.outbox.Outbox.{Outbox}

-- the arrival that the seat at a place sends after these
abbrev pub next_arrival : ℕ → List Arrival → What → Arrival
next_arrival place sent w = record { seat = place; number = length sent + 1; what = w }

abbrev pub in_hand : ℕ → List Arrival → Option What → List Arrival
in_hand place sent None = []
in_hand place sent (Some w) = next_arrival place sent w ∷ []

-- all that the seat sent, and then what is held for it
abbrev pub sent_or_held : Outbox → List Arrival
sent_or_held o = sent_by o.seat ++ in_hand o.seat.place (sent_by o.seat) o.hand

-- what was heard is one arrival after these, where it is something that a seat sends, and none otherwise
abbrev pub arrivals_of : ℕ → List Arrival → Heard → List Arrival
arrivals_of place sent (heard.Said w) = next_arrival place sent w ∷ []
arrivals_of place sent heard.Other = []
arrivals_of place sent heard.Quiet = []
arrivals_of place sent heard.Fault = []

-- a `Leave` is to be made: the stream has failed, the kernel's last entry was not found, none was made yet, and nothing is in hand
abbrev pub is_due : Bool → Bool → Bool → Option What → Bool
is_due failed ended leaving (Some w) = false
is_due failed ended leaving None = failed && not ended && not leaving

abbrev pub leave_of : Bool → ℕ → List Arrival → List Arrival
leave_of due place sent = if due then next_arrival place sent Leave ∷ [] else []

-- the inbox had no room for what this seat sends next: at one moment it held 256 arrivals, by what the seat has sent, or the seat has sent
-- nearly all that can be numbered
abbrev pub WasFull : Seat → Type 0
WasFull s = Held 256 (Stands (seat_view s)) ⊎ (2 ^ 62 < length (sent_by s))
