-- How many arrivals stand in an inbox of which all seats are known.
use Rattle.std.proofs.Common.{◌≡◌, ℕ, zero, suc, ◌+◌, ◌<◌, ◌≤◌, ◌==◌, Bool, true, false, cond, List, [], ◌∷◌, ◌++◌, length, sym, refl, ap, ◌∙◌, subst, arith, lit<}
use Rattle.std.specs.List.{AllByRecursion}
use Rattle.std.proofs.lemmas.List.{length-append}
use Rattle.jk_log.specs.declared.arrival.Arrival.{Arrival}
use Rattle.jk_queues.specs.declared.part.Part.{Part}
use Rattle.jk_queues.specs.declared.part.Sender.{Sender}
use Rattle.crossbeam_queue.specs.Fifo.{Held}
use Rattle.jk_queues.specs.Inbox.{part, own, of, SentIn, IsSeated, Stands}
use Rattle.jk_queues.proofs.Each.{append_none, All-left, All-right}
use Rattle.jk_queues.proofs.Inboxes.{own_first}

abbrev hit : ℕ → ℕ → ℕ
hit s p = cond (s == p) 1 0

one_hit : (s : ℕ) → s < 8 → hit s 0 + (hit s 1 + (hit s 2 + (hit s 3 + (hit s 4 + (hit s 5 + (hit s 6 + hit s 7)))))) ≡ 1
one_hit zero low = refl
one_hit (suc zero) low = refl
one_hit (suc (suc zero)) low = refl
one_hit (suc (suc (suc zero))) low = refl
one_hit (suc (suc (suc (suc zero)))) low = refl
one_hit (suc (suc (suc (suc (suc zero))))) low = refl
one_hit (suc (suc (suc (suc (suc (suc zero)))))) low = refl
one_hit (suc (suc (suc (suc (suc (suc (suc zero))))))) low = refl
one_hit (suc (suc (suc (suc (suc (suc (suc (suc s)))))))) low = absurd (omega arith)

longer : {X : Type 0} (b : Bool) (x : X) (xs : List X) → length (cond b (x ∷ xs) xs) ≡ cond b 1 0 + length xs
longer true x xs = omega arith
longer false x xs = omega arith

count : ℕ → List Arrival → ℕ
count p xs = length (of p xs)

count-cons : (p : ℕ) (x : Arrival) (xs : List Arrival) → count p (x ∷ xs) ≡ hit x.seat p + count p xs
unfolding count
count-cons p x xs = longer (x.seat == p) x (of p xs)

count-none : (p : ℕ) → count p [] ≡ 0
unfolding count
count-none p = refl

count_all : (xs : List Arrival) → AllByRecursion IsSeated xs → length xs ≡ count 0 xs + (count 1 xs + (count 2 xs + (count 3 xs + (count 4 xs + (count 5 xs + (count 6 xs + count 7 xs))))))
count_all [] low = omega (arith, count-none 0, count-none 1, count-none 2, count-none 3, count-none 4, count-none 5, count-none 6, count-none 7)
count_all (x ∷ xs) low =
    let rest = count_all xs low.1 in
    let one = one_hit x.seat low.0 in
    omega (arith, count-cons 0 x xs, count-cons 1 x xs, count-cons 2 x xs, count-cons 3 x xs, count-cons 4 x xs, count-cons 5 x xs, count-cons 6 x xs, count-cons 7 x xs)

abbrev pub Few : List Sender → List Arrival → Type 0
Few ss taken = (all : List Arrival) → AllByRecursion IsSeated all → AllByRecursion (SentIn all) ss → length all ≤ length taken + 256

pub few_left : (v : Part) (items : List Arrival) (n : ℕ) → v.takes ≡ true → Stands v items → ((all : List Arrival) → AllByRecursion IsSeated all → AllByRecursion (SentIn all) v.senders → length all ≡ n) → Few v.senders v.taken
few_left v items n may h counted all seated each =
    let here = counted all seated each in
    let then = counted (h.0 ++ items) h.3 h.1 in
    let is = ap length (h.2 may) in
    let few = h.4 in
    omega (arith, length-append h.0 items)

pub room_for : (v : Part) (ss : List Sender) (taken left : List Arrival) (x : Arrival) (items : List Arrival) → v ≡ part ss true (taken ++ left) → Stands v (x ∷ items) → Few ss taken → length left < 256
room_for v ss taken left x items is h few =
    let sums = few (h.0 ++ (x ∷ items)) h.3 (subst (λ (u : Part). AllByRecursion (SentIn (h.0 ++ (x ∷ items))) u.senders) is h.1) in
    let t : h.0 ≡ taken ++ left = sym (h.2 (ap (λ (u : Part). u.takes) is)) ∙ ap (λ (u : Part). u.taken) is in
    let len = ap length t in
    omega (arith, length-append h.0 (x ∷ items), length-append taken left)

none : {X : Type 0} (xs : List X) → length xs ≡ 0 → xs ≡ []
none [] e = refl
none (x ∷ xs) e = absurd (omega arith)

pub all_left : (v : Part) (ss : List Sender) (taken left : List Arrival) → v ≡ part ss true (taken ++ left) → Held 0 (Stands v) → AllByRecursion (SentIn (taken ++ left)) ss
all_left v ss taken left is h =
    let t : h.2.0 ≡ taken ++ left = sym (h.2.2 (ap (λ (u : Part). u.takes) is)) ∙ ap (λ (u : Part). u.taken) is in
    let all : h.2.0 ++ h.0 ≡ taken ++ left = append_none h.2.0 h.0 (none h.0 h.1) ∙ t in
    subst (λ (all : List Arrival). AllByRecursion (SentIn all) ss) all (subst (λ (u : Part). AllByRecursion (SentIn (h.2.0 ++ h.0)) u.senders) is h.2.1)

own_sent : (v : Part) (p : ℕ) (all : List Arrival) → p < 8 → (own v).place ≡ p → AllByRecursion (SentIn all) v.senders → (own v).sent ≡ of p all
own_sent v p all low is each = subst (λ q. (own v).sent ≡ of q all) is (own_first (SentIn all) v.senders each (subst (λ q. q < 8) (sym is) low))

count_of : Part → ℕ
count_of v = length (own v).sent

same_count : (v : Part) (p : ℕ) (all : List Arrival) → (own v).sent ≡ of p all → count_of v ≡ count p all
unfolding count_of count
same_count v p all e = ap length e

module _ (t : List Sender) (v0 v1 v2 v3 v4 v5 v6 v7 : Part) (p0 : (own v0).place ≡ 0) (p1 : (own v1).place ≡ 1) (p2 : (own v2).place ≡ 2) (p3 : (own v3).place ≡ 3) (p4 : (own v4).place ≡ 4) (p5 : (own v5).place ≡ 5) (p6 : (own v6).place ≡ 6) (p7 : (own v7).place ≡ 7) where
  abbrev pub gathered : List Sender
  gathered = t ++ v0.senders ++ v1.senders ++ v2.senders ++ v3.senders ++ v4.senders ++ v5.senders ++ v6.senders ++ v7.senders

  -- each seat is among the gathered
  pub all_sent : (all : List Arrival) → AllByRecursion (SentIn all) gathered
      → ((own v0).sent ≡ of 0 all) × ((own v1).sent ≡ of 1 all) × ((own v2).sent ≡ of 2 all) × ((own v3).sent ≡ of 3 all) × ((own v4).sent ≡ of 4 all) × ((own v5).sent ≡ of 5 all) × ((own v6).sent ≡ of 6 all) × ((own v7).sent ≡ of 7 all)
  all_sent all h8 =
      let h7 = All-left (SentIn all) (t ++ v0.senders ++ v1.senders ++ v2.senders ++ v3.senders ++ v4.senders ++ v5.senders ++ v6.senders) v7.senders h8 in
      let h6 = All-left (SentIn all) (t ++ v0.senders ++ v1.senders ++ v2.senders ++ v3.senders ++ v4.senders ++ v5.senders) v6.senders h7 in
      let h5 = All-left (SentIn all) (t ++ v0.senders ++ v1.senders ++ v2.senders ++ v3.senders ++ v4.senders) v5.senders h6 in
      let h4 = All-left (SentIn all) (t ++ v0.senders ++ v1.senders ++ v2.senders ++ v3.senders) v4.senders h5 in
      let h3 = All-left (SentIn all) (t ++ v0.senders ++ v1.senders ++ v2.senders) v3.senders h4 in
      let h2 = All-left (SentIn all) (t ++ v0.senders ++ v1.senders) v2.senders h3 in
      let h1 = All-left (SentIn all) (t ++ v0.senders) v1.senders h2 in (
        own_sent v0 0 all (lit< tt) p0 (All-right (SentIn all) (t) v0.senders h1),
        own_sent v1 1 all (lit< tt) p1 (All-right (SentIn all) (t ++ v0.senders) v1.senders h2),
        own_sent v2 2 all (lit< tt) p2 (All-right (SentIn all) (t ++ v0.senders ++ v1.senders) v2.senders h3),
        own_sent v3 3 all (lit< tt) p3 (All-right (SentIn all) (t ++ v0.senders ++ v1.senders ++ v2.senders) v3.senders h4),
        own_sent v4 4 all (lit< tt) p4 (All-right (SentIn all) (t ++ v0.senders ++ v1.senders ++ v2.senders ++ v3.senders) v4.senders h5),
        own_sent v5 5 all (lit< tt) p5 (All-right (SentIn all) (t ++ v0.senders ++ v1.senders ++ v2.senders ++ v3.senders ++ v4.senders) v5.senders h6),
        own_sent v6 6 all (lit< tt) p6 (All-right (SentIn all) (t ++ v0.senders ++ v1.senders ++ v2.senders ++ v3.senders ++ v4.senders ++ v5.senders) v6.senders h7),
        own_sent v7 7 all (lit< tt) p7 (All-right (SentIn all) (t ++ v0.senders ++ v1.senders ++ v2.senders ++ v3.senders ++ v4.senders ++ v5.senders ++ v6.senders) v7.senders h8),
      )

  pub counted : (n : ℕ) × ((all : List Arrival) → AllByRecursion IsSeated all → AllByRecursion (SentIn all) gathered → length all ≡ n)
  counted = (
    count_of v0 + (count_of v1 + (count_of v2 + (count_of v3 + (count_of v4 + (count_of v5 + (count_of v6 + count_of v7)))))),
    λ all seated each.
        let s = all_sent all each in
        let n = count_all all seated in
        omega (arith, same_count v0 0 all s.0, same_count v1 1 all s.1, same_count v2 2 all s.2, same_count v3 3 all s.3, same_count v4 4 all s.4, same_count v5 5 all s.5, same_count v6 6 all s.6, same_count v7 7 all s.7),
  )

-- the view of a pass that took in eight others, one after the other
pub all_in : (t r1 r2 r3 r4 r5 r6 r7 r8 v0 v1 v2 v3 v4 v5 v6 v7 : Part) → r1 ≡ part (t.senders ++ v0.senders) t.takes t.taken → r2 ≡ part (r1.senders ++ v1.senders) r1.takes r1.taken → r3 ≡ part (r2.senders ++ v2.senders) r2.takes r2.taken → r4 ≡ part (r3.senders ++ v3.senders) r3.takes r3.taken → r5 ≡ part (r4.senders ++ v4.senders) r4.takes r4.taken → r6 ≡ part (r5.senders ++ v5.senders) r5.takes r5.taken → r7 ≡ part (r6.senders ++ v6.senders) r6.takes r6.taken → r8 ≡ part (r7.senders ++ v7.senders) r7.takes r7.taken
    → r8 ≡ part (t.senders ++ v0.senders ++ v1.senders ++ v2.senders ++ v3.senders ++ v4.senders ++ v5.senders ++ v6.senders ++ v7.senders) t.takes t.taken
all_in t r1 r2 r3 r4 r5 r6 r7 r8 v0 v1 v2 v3 v4 v5 v6 v7 e1 e2 e3 e4 e5 e6 e7 e8 =
    let with : Part → Part → Part = λ w v. part (v.senders ++ w.senders) v.takes v.taken in
    let f2 : r2 ≡ part (t.senders ++ v0.senders ++ v1.senders) t.takes t.taken = e2 ∙ ap (with v1) e1 in
    let f3 : r3 ≡ part (t.senders ++ v0.senders ++ v1.senders ++ v2.senders) t.takes t.taken = e3 ∙ ap (with v2) f2 in
    let f4 : r4 ≡ part (t.senders ++ v0.senders ++ v1.senders ++ v2.senders ++ v3.senders) t.takes t.taken = e4 ∙ ap (with v3) f3 in
    let f5 : r5 ≡ part (t.senders ++ v0.senders ++ v1.senders ++ v2.senders ++ v3.senders ++ v4.senders) t.takes t.taken = e5 ∙ ap (with v4) f4 in
    let f6 : r6 ≡ part (t.senders ++ v0.senders ++ v1.senders ++ v2.senders ++ v3.senders ++ v4.senders ++ v5.senders) t.takes t.taken = e6 ∙ ap (with v5) f5 in
    let f7 : r7 ≡ part (t.senders ++ v0.senders ++ v1.senders ++ v2.senders ++ v3.senders ++ v4.senders ++ v5.senders ++ v6.senders) t.takes t.taken = e7 ∙ ap (with v6) f6 in
    let f8 : r8 ≡ part (t.senders ++ v0.senders ++ v1.senders ++ v2.senders ++ v3.senders ++ v4.senders ++ v5.senders ++ v6.senders ++ v7.senders) t.takes t.taken = e8 ∙ ap (with v7) f7 in
    f8
