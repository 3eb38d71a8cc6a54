-- To be believed.
-- The rule of the inbox: of each seat, what was taken and then what stands in the queue is what the seat sent, in order.
use Rattle.std.specs.Prelude.{◌≡◌, ℕ, ◌-◌, ◌<◌, ◌≤◌, ◌==◌, Bool, true, List, [], ◌∷◌, ◌++◌, map, length, slice_index_or, zero, suc}
use Rattle.std.specs.List.{AllByRecursion, filter}
use mathlib.Core.Option.{some}
use lib.ListN.{get_elem?}
use Rattle.jk_log.specs.declared.arrival.Arrival.{Arrival}
use Rattle.jk_queues.specs.declared.part.Part.{Part}
use Rattle.jk_queues.specs.declared.part.Sender.{Sender}

abbrev pub sender : ℕ → List Arrival → Sender
sender p xs = record { place = p; sent = xs }

abbrev pub part : List Sender → Bool → List Arrival → Part
part ss t xs = record { senders = ss; takes = t; taken = xs }

-- the arrivals of one seat
abbrev pub of : ℕ → List Arrival → List Arrival
of p = filter (λ x. x.seat == p)

-- what the seat of this sender sent is what these lists hold of it
abbrev pub SentIn : List Arrival → Sender → Type 0
SentIn all s = s.sent ≡ of s.place all

abbrev pub IsSeated : Arrival → Type 0
IsSeated x = x.seat < 8

-- the pass j has these seats for its own, and with the taker all that was taken
abbrev pub Fits : (ℕ → ℕ) → ℕ → List Arrival → List Arrival → ℕ → Part → Type 0
Fits owner reader taken items j v = AllByRecursion (λ s. (owner s.place ≡ j) × SentIn (taken ++ items) s) v.senders × (v.takes ≡ true → (reader ≡ j) × (v.taken ≡ taken))

abbrev pub InOrder : List Arrival → List Part → Type 0
InOrder items views = (owner : ℕ → ℕ) × (reader : ℕ) × (taken : List Arrival) × AllByRecursion IsSeated (taken ++ items) × (length items ≤ 256)
    × ((j : ℕ) (v : Part) → get_elem? views j ≡ some v → Fits owner reader taken items j v)

-- what the view of a pass says of the arrivals that stand in the queue
abbrev pub Stands : Part → List Arrival → Type 0
Stands v items = (taken : List Arrival) × AllByRecursion (SentIn (taken ++ items)) v.senders × (v.takes ≡ true → v.taken ≡ taken) × AllByRecursion IsSeated (taken ++ items) × (length items ≤ 256)

-- the view after this arrival was pushed; after it was popped
abbrev pub sends : Part → Arrival → Part
sends v x = part (map (λ s. sender s.place (s.sent ++ of s.place (x ∷ []))) v.senders) v.takes v.taken

abbrev pub takes : Part → Arrival → Part
takes v x = part v.senders v.takes (v.taken ++ x ∷ [])

abbrev pub nobody : Sender
nobody = sender 255 []

-- the first sender of a view
abbrev pub own : Part → Sender
own v = slice_index_or v.senders 0 nobody

-- the last n of the eight seats, of which nothing was sent
abbrev pub fresh : ℕ → List Sender
fresh zero = []
fresh (suc n) = sender (7 - n) [] ∷ fresh n

abbrev pub whole : Part
whole = part (fresh 8) true []
