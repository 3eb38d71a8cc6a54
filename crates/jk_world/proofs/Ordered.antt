-- Requests are answered in the order in which they were taken.
use Rattle.std.proofs.Common.{◌≡◌, ℕ, suc, ◌≤◌, ◌<◌, List, [], ◌∷◌, ◌++◌, length, drop, sym, subst, arith, Some}
use Rattle.std.specs.Prelude.{slice_get}
use Rattle.std.proofs.lemmas.List.{append-nil}
use Rattle.jk_language.specs.Spoken.{Spoken}
use Rattle.jk_log.specs.declared.arrival.Arrival.{Arrival}
use Rattle.jk_log.specs.declared.mark.Item.TheVariants.{Took, Marked}
use Rattle.jk_log.specs.declared.mark.Kind.{Kind}
use Rattle.jk_log.specs.declared.mark.Kind.TheVariants.{Begin, Refuse, Abort, Answer}
use Rattle.jk_log.specs.Asked.{sort_as}
use Rattle.jk_log.specs.Log.{Log, waiting, waits_as}
use Rattle.jk_log.specs.Legal.{EachFollows, MayMark, owed}
use Rattle.jk_log.proofs.Logs.{by_sort}
use Rattle.jk_world.specs.Order.{AllBelow, IsFalling, answered_places}
use Rattle.jk_world.proofs.Once.{answers_first, from_first}

pub below_less : (n m : ℕ) (ns : List ℕ) → n ≤ m → AllBelow n ns → AllBelow m ns
below_less n m [] h all = tt
below_less n m (k ∷ ks) h all = (let less = all.0 in omega (arith, h, less), below_less n m ks h all.1)

abbrev AllAbove : ℕ → List ℕ → Type 0
AllAbove n [] = Unit {0}
AllAbove n (m ∷ ms) = (n < m) × AllAbove n ms

abbrev IsRising : List ℕ → Type 0
IsRising [] = Unit {0}
IsRising (n ∷ ns) = AllAbove n ns × IsRising ns

-- each of these that wait is above all that were answered
abbrev ComeAfter : List ℕ → List ℕ → Type 0
ComeAfter answered [] = Unit {0}
ComeAfter answered (w ∷ ws) = AllBelow w answered × ComeAfter answered ws

above_snoc : (p n : ℕ) (ps : List ℕ) → p < n → AllAbove p ps → AllAbove p (ps ++ n ∷ [])
above_snoc p n [] less h = (less, tt)
above_snoc p n (q ∷ ps) less h = (h.0, above_snoc p n ps less h.1)

rising_snoc : (n : ℕ) (ps : List ℕ) → AllBelow n ps → IsRising ps → IsRising (ps ++ n ∷ [])
rising_snoc n [] below h = (tt, tt)
rising_snoc n (p ∷ ps) below h = (above_snoc p n ps below.0 h.0, rising_snoc n ps below.1 h.1)

below_snoc : (n m : ℕ) (ps : List ℕ) → m < n → AllBelow n ps → AllBelow n (ps ++ m ∷ [])
below_snoc n m [] less h = (less, tt)
below_snoc n m (p ∷ ps) less h = (h.0, below_snoc n m ps less h.1)

after_snoc : (n : ℕ) (answered ps : List ℕ) → AllBelow n answered → ComeAfter answered ps → ComeAfter answered (ps ++ n ∷ [])
after_snoc n answered [] below h = (below, tt)
after_snoc n answered (p ∷ ps) below h = (h.0, after_snoc n answered ps below h.1)

after_more : (at : ℕ) (answered ps : List ℕ) → AllAbove at ps → ComeAfter answered ps → ComeAfter (at ∷ answered) ps
after_more at answered [] above h = tt
after_more at answered (p ∷ ps) above h = ((above.0, h.0), after_more at answered ps above.1 h.1)

-- what was answered, and what waits, before the next place
record AreInOrder (next : ℕ) (answered waits : List ℕ) : Type 0 where
  falls : IsFalling answered
  rises : IsRising waits
  after : ComeAfter answered waits
  past : AllBelow next answered
  within : AllBelow next waits

one_more : (next : ℕ) (answered waits : List ℕ) → AreInOrder next answered waits → AreInOrder (suc next) answered waits
one_more next answered waits h = record {
  falls = h.falls;
  rises = h.rises;
  after = h.after;
  past = below_less next (suc next) answered (omega arith) h.past;
  within = below_less next (suc next) waits (omega arith) h.within;
}

-- one more waits
waits_more : (next : ℕ) (answered waits : List ℕ) → AreInOrder next answered waits → AreInOrder (suc next) answered (waits ++ next ∷ [])
waits_more next answered waits h = record {
  falls = h.falls;
  rises = rising_snoc next waits h.within h.rises;
  after = after_snoc next answered waits h.past h.after;
  past = below_less next (suc next) answered (omega arith) h.past;
  within = below_snoc (suc next) next waits (omega arith) (below_less next (suc next) waits (omega arith) h.within);
}

waits_same : (next : ℕ) (answered waits : List ℕ) → AreInOrder next answered waits → AreInOrder (suc next) answered (waits ++ [])
waits_same next answered waits h = subst (AreInOrder (suc next) answered) (sym (append-nil waits)) (one_more next answered waits h)

-- the first that waits is answered
answers_one : (next at : ℕ) (answered rest : List ℕ) → AreInOrder next answered (at ∷ rest) → AreInOrder (suc next) (at ∷ answered) rest
answers_one next at answered rest h = record {
  falls = (h.after.0, h.falls);
  rises = h.rises.1;
  after = after_more at answered rest h.rises.0 h.after.1;
  past = (let less = h.within.0 in omega (arith, less), below_less next (suc next) answered (omega arith) h.past);
  within = below_less next (suc next) rest (omega arith) h.within.1;
}

answers_next : (next at : ℕ) (answered waits : List ℕ) → slice_get waits 0 ≡ Some at → AreInOrder next answered waits → AreInOrder (suc next) (at ∷ answered) (drop 1 waits)
answers_next next at answered waits first h =
    let places = from_first waits at first in
    subst (λ (ws : List ℕ). AreInOrder (suc next) (at ∷ answered) (drop 1 ws)) (sym places.1)
    (answers_one next at answered places.0 (subst (AreInOrder next answered) places.1 h))

abbrev IsInOrder : Log → Type 0
IsInOrder log = AreInOrder (length log) (answered_places log) (waiting log)

took_order : (past : Log) (a : Arrival) → IsInOrder past → IsInOrder (Took a ∷ past)
took_order past a h =
    by_sort (λ s. AreInOrder (suc (length past)) (answered_places past) (waiting past ++ waits_as s (length past)))
    (waits_same _ _ _ h) (waits_same _ _ _ h) (waits_more _ _ _ h) (waits_more _ _ _ h) (waits_same _ _ _ h) (waits_same _ _ _ h) (waits_same _ _ _ h) (λ restart. waits_same _ _ _ h) (waits_same _ _ _ h) (sort_as a.what)

module _ {S T : Type 0} (spoken : Spoken S T) where
  mark_order : (past : Log) (at : ℕ) (kind : Kind) → EachFollows spoken past → MayMark spoken past (owed past) (record { at = at; kind = kind }) → IsInOrder past → IsInOrder (Marked (record { at = at; kind = kind }) ∷ past)
  mark_order past at (Begin n) each may h = answers_next (length past) at (answered_places past) (waiting past) (answers_first spoken past at (Begin n) each may tt) h
  mark_order past at (Refuse n) each may h = answers_next (length past) at (answered_places past) (waiting past) (answers_first spoken past at (Refuse n) each may tt) h
  mark_order past at Abort each may h = answers_next (length past) at (answered_places past) (waiting past) (answers_first spoken past at Abort each may tt) h
  mark_order past at (Answer status) each may h = answers_next (length past) at (answered_places past) (waiting past) (answers_first spoken past at (Answer status) each may tt) h
  mark_order past at other each may h = one_more (length past) (answered_places past) (waiting past) h

  in_order : (log : Log) → EachFollows spoken log → IsInOrder log
  in_order [] each = record { falls = tt; rises = tt; after = tt; past = tt; within = tt }
  in_order (Took a ∷ past) each = took_order past a (in_order past each.0)
  in_order (Marked m ∷ past) each = mark_order past m.at m.kind each.0 each.1 (in_order past each.0)

  pub answered_in_order : (log : Log) → EachFollows spoken log → IsFalling (answered_places log)
  answered_in_order log each = (in_order log each).falls
