-- To be believed.
-- What a clause sees of the ends of an inbox.
use Rattle.std.specs.Prelude.{◌≡◌, ℕ, false, List, [], ◌∷◌}
use Rattle.atomic_table.specs.Seated.{TableId}
use Rattle.crossbeam_queue.specs.Passes.{view}
use Rattle.jk_queues.specs.Inbox.{own, of, part, sender}
use Rattle.jk_log.specs.declared.arrival.Arrival.{Arrival}
use Rattle.jk_queues.specs.declared.part.Part.{Part}
use Rattle.jk_queues.specs.declared.inbox.Seat.{Seat}
use Rattle.jk_queues.specs.declared.inbox.Seats.{Seats}
use Rattle.jk_queues.specs.declared.inbox.Taker.{Taker}

-- what the seat stands for, and which inbox it is of
abbrev pub seat_view : Seat → Part
seat_view s = view s.pass

abbrev pub seat_inbox : Seat → TableId
seat_inbox s = s.pass.table_id

-- all that this seat sent, in order
abbrev pub sent_by : Seat → List Arrival
sent_by s = (own (view s.pass)).sent

abbrev pub taker_view : Taker → Part
taker_view t = view t.pass

abbrev pub taker_inbox : Taker → TableId
taker_inbox t = t.pass.table_id

-- all that was taken, in order
abbrev pub taken_by : Taker → List Arrival
taken_by t = (view t.pass).taken

-- the seat has this place at the inbox
abbrev pub IsAt : TableId → ℕ → Seat → Type 0
IsAt id p s = (seat_inbox s ≡ id) × (s.place ≡ p)

-- these are the eight seats of the inbox
abbrev pub AreAllOf : TableId → Seats → Type 0
AreAllOf id s = IsAt id 0 s.zero × IsAt id 1 s.one × IsAt id 2 s.two × IsAt id 3 s.three × IsAt id 4 s.four × IsAt id 5 s.five × IsAt id 6 s.six × IsAt id 7 s.seven

-- nothing was sent, and the seat stands for itself alone
abbrev pub IsNew : Seat → Type 0
IsNew s = seat_view s ≡ part (sender s.place [] ∷ []) false []

abbrev pub AreNew : Seats → Type 0
AreNew s = IsNew s.zero × IsNew s.one × IsNew s.two × IsNew s.three × IsNew s.four × IsNew s.five × IsNew s.six × IsNew s.seven

-- of each seat, these arrivals are all that it sent, in order
abbrev pub AreAllSent : Seats → List Arrival → Type 0
AreAllSent s all = (sent_by s.zero ≡ of 0 all) × (sent_by s.one ≡ of 1 all) × (sent_by s.two ≡ of 2 all) × (sent_by s.three ≡ of 3 all)
    × (sent_by s.four ≡ of 4 all) × (sent_by s.five ≡ of 5 all) × (sent_by s.six ≡ of 6 all) × (sent_by s.seven ≡ of 7 all)
