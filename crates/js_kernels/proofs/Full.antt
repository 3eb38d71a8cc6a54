-- What a full inbox of a home is to those who see what its seat 0 has told.
use Rattle.std.proofs.Common.{◌≡◌, inl, inr, ℕ, List, [], ◌∷◌, ◌++◌, map, slice_index_or, sym, ap, ◌∙◌, arith}
use Rattle.std.specs.List.{AllByRecursion}
use Rattle.std.proofs.lemmas.List.{length-map}
use Rattle.jk_log.specs.Asked.{sort_as}
use Rattle.jk_log.specs.declared.arrival.Arrival.{Arrival}
use Rattle.jk_queues.specs.Ends.{seat_view}
use Rattle.jk_queues.specs.Inbox.{SentIn, nobody, of}
use Rattle.jk_queues.specs.declared.part.Sender.{Sender}
use Rattle.js_home.specs.Homes.{told_by, WasFull as HomeWasFull}
use Rattle.js_home.specs.declared.home.Home.{Home}
use Rattle.js_kernels.specs.Told.{WasFull}
use Rattle.js_kernels.specs.Hosting.{state_of}

-- what the first seat of a pass sent, where that has the place 0
first_sent : (all : List Arrival) (ss : List Sender) → AllByRecursion (SentIn all) ss → (slice_index_or ss 0 nobody).place ≡ 0 → of 0 all ≡ (slice_index_or ss 0 nobody).sent
first_sent all [] each zero = absurd (omega arith)
first_sent all (s ∷ ss) each zero = ap (λ (p : ℕ). of p all) (sym zero) ∙ sym each.0

module _ {L S T M : Type 0} where
  -- the inbox of a home was full
  pub was_full : (h : Home L S T M) → HomeWasFull h → WasFull (state_of h)
  was_full h (inl (standing, count, held)) = inl (
    held.0,
    standing,
    count,
    ap (map (λ (x : Arrival). sort_as x.what)) (first_sent (held.0 ++ standing) (seat_view h.zero).senders held.1 (h.zero.own_place ∙ h.first)),
  )
  was_full h (inr many) = inr (let same = length-map (told_by h) (λ (x : Arrival). sort_as x.what) in omega arith)
