-- Each step keeps the rule of the inbox.
use Rattle.std.specs.Prelude.{Option, Some, None, IfSome, MatchOption}
use Rattle.std.specs.List.{AllByRecursion}
use Rattle.std.proofs.Common.{◌≡◌, ◌≢◌, ℕ, zero, suc, ◌+◌, ◌-◌, ◌<◌, ◌≤◌, ◌==◌, true, false, true≢false, cond, List, [], ◌∷◌, ◌++◌, length, take, drop, slice_index_or, set, sym, refl, ap, ◌∙◌, subst, ◌⊎◌, inl, inr, ⊎_elim, append_assoc, arith, eq-eqb, ne_eqb, lit≤}
use mathlib.Core.Option.{some, some-ne-none, some-injective}
use lib.ListN.{get_elem?}
use Rattle.crossbeam_queue.specs.Fifo.{Pushes, Pops, Forks, Merges, Learns}
use Rattle.crossbeam_queue.proofs.Lists.{at_set}
use Rattle.std.proofs.lemmas.List.{length-append}
use Rattle.jk_log.specs.declared.arrival.Arrival.{Arrival}
use Rattle.jk_queues.specs.declared.part.Part.{Part}
use Rattle.jk_queues.specs.declared.part.Sender.{Sender}
use Rattle.jk_queues.specs.Inbox.{sender, part, of, SentIn, IsSeated, Fits, InOrder, Stands, sends, takes, nobody, own, fresh, whole}
use Rattle.jk_queues.proofs.Each.{All-right, All-append, All-map, All-weaker, of-snoc, of_other, append_none}

-- what holds of each sender holds of the first
pub own_first : (P : Sender → Type 0) (ss : List Sender) → AllByRecursion P ss → (slice_index_or ss 0 nobody).place < 8 → P (slice_index_or ss 0 nobody)
own_first P [] all low = absurd (omega arith)
own_first P (s ∷ ss) all low = all.0

All : (ℕ → Part → Type 0) → List Part → Type 0
All F views = (j : ℕ) (v : Part) → get_elem? views j ≡ some v → F j v

all_set : (F : ℕ → Part → Type 0) (views : List Part) (port : ℕ) (w : Part) → F port w → ((j : ℕ) (u : Part) → j ≢ port → get_elem? views j ≡ some u → F j u) → (j : ℕ) (u : Part) → get_elem? (set views port w) j ≡ some u → F j u
all_set F views port w mine others j u e = ⊎_elim (λ (x : (j ≡ port) × (w ≡ u)). subst (λ (y : ℕ × Part). F y.0 y.1) (λ i. (sym x.0 i, x.1 i)) mine)
    (λ (x : (j ≢ port) × (get_elem? views j ≡ some u)). others j u x.0 x.1) (at_set views port j w u e)

module _ (owner : ℕ → ℕ) (reader : ℕ) (taken items : List Arrival) (x : Arrival) (port : ℕ) (mine : owner x.seat ≡ port) where
  -- the seats of another pass sent none of it
  beside : (j : ℕ) (u : Part) → j ≢ port → Fits owner reader taken items j u → Fits owner reader taken (items ++ x ∷ []) j u
  beside j u other f = (
    All-weaker _ _ u.senders
        (λ s (h : (owner s.place ≡ j) × SentIn (taken ++ items) s).
        let apart : x.seat ≢ s.place = λ e. other (sym h.0 ∙ ap owner (sym e) ∙ mine) in
        let none = of_other s.place x apart in
        let more : of s.place (taken ++ (items ++ x ∷ [])) ≡ of s.place (taken ++ items) = of-snoc s.place taken items x ∙ append_none (of s.place (taken ++ items)) (of s.place (x ∷ [])) none in
        (h.0, h.1 ∙ sym more))
        f.0,
    f.1,
  )

  joined : (v : Part) → Fits owner reader taken items port v → Fits owner reader taken (items ++ x ∷ []) port (sends v x)
  joined v f = (
    All-map _ _ (λ s. sender s.place (s.sent ++ of s.place (x ∷ []))) v.senders
        (λ s (h : (owner s.place ≡ port) × SentIn (taken ++ items) s). (h.0, ap (λ l. l ++ of s.place (x ∷ [])) h.1 ∙ sym (of-snoc s.place taken items x)))
        f.0,
    f.1,
  )

pub pushes : (n port : ℕ) (v : Part) (x : Arrival) → n ≡ 256 → (own v).place ≡ x.seat → x.seat < 8 → Pushes InOrder n port v x (λ w. w ≡ sends v x)
pushes n port v x full place low items views room h at =
    let owner = h.0 in
    let mine = h.5 port v at in
    let first = own_first (λ s. owner s.place ≡ port) v.senders (All-weaker _ _ v.senders (λ s (e : (owner s.place ≡ port) × SentIn (h.2 ++ items) s). e.0) mine.0) (subst (λ n. n < 8) (sym place) low) in
    let is : owner x.seat ≡ port = ap owner (sym place) ∙ first in
    let fits = λ (w : Part) (f : Fits h.0 h.1 h.2 (items ++ x ∷ []) port w). all_set (Fits h.0 h.1 h.2 (items ++ x ∷ [])) views port w f (λ j u other e. beside h.0 h.1 h.2 items x port is j u other (h.5 j u e)) in (
      sends v x,
      (
        h.0,
        h.1,
        h.2,
        subst (AllByRecursion IsSeated) (append_assoc h.2 items (x ∷ [])) (All-append IsSeated (h.2 ++ items) (x ∷ []) h.3 (low, tt)),
        (let l = length-append items (x ∷ []) in omega arith),
        fits (sends v x) (joined h.0 h.1 h.2 items x port is v mine),
      ),
      refl,
    )

-- the front moves over
moved : (taken items : List Arrival) (x : Arrival) → taken ++ (x ∷ items) ≡ (taken ++ x ∷ []) ++ items
moved taken items x = sym (append_assoc taken (x ∷ []) items)

pub pops : (port : ℕ) (v : Part) → v.takes ≡ true → Pops InOrder port v (λ x w. (w ≡ takes v x) × ((items : List Arrival) × Stands v (x ∷ items)))
pops port v may x items views h at =
    let mine = h.5 port v at in
    let is = mine.1 may in
    let after = h.2 ++ x ∷ [] in
    let over = moved h.2 items x in
    let seats = λ (j : ℕ) (u : Part) (f : Fits h.0 h.1 h.2 (x ∷ items) j u).
    let each : AllByRecursion (λ s. (h.0 s.place ≡ j) × SentIn (after ++ items) s) u.senders = subst (λ all. AllByRecursion (λ s. (h.0 s.place ≡ j) × SentIn all s) u.senders) over f.0 in each in (
      takes v x,
      (
        h.0,
        h.1,
        after,
        subst (AllByRecursion IsSeated) over h.3,
        (let few = h.4 in omega arith),
        all_set (Fits h.0 h.1 after items) views port (takes v x) (seats port v mine, λ _. (is.0, ap (λ l. l ++ x ∷ []) is.1))
            (λ j u other e. (seats j u (h.5 j u e), λ t. absurd (other (sym ((h.5 j u e).1 t).0 ∙ is.0)))),
      ),
      (
        refl,
        (items, (h.2, All-weaker _ _ v.senders (λ s (e : (h.0 s.place ≡ port) × SentIn (h.2 ++ (x ∷ items)) s). e.1) mine.0, (λ t. (mine.1 t).1), h.3, h.4)),
      ),
    )

pub learns : (port : ℕ) (v : Part) → Learns InOrder port v (Stands v)
learns port v items views h at =
    let mine = h.5 port v at in
    (h.2, All-weaker _ _ v.senders (λ s (e : (h.0 s.place ≡ port) × SentIn (h.2 ++ items) s). e.1) mine.0, (λ t. (mine.1 t).1), h.3, h.4)

-- the places of these are above n
abbrev pub Above : ℕ → List Sender → Type 0
Above n = AllByRecursion (λ s. n < s.place)

fresh_above : (n m : ℕ) → n ≤ 8 → m + n < 8 → Above m (fresh n)
fresh_above zero m low sum = tt
fresh_above (suc n) m low sum = ((omega arith), fresh_above n m (omega arith) (omega arith))

pub fresh_first : (n : ℕ) → n < 8 → Above (7 - n) (fresh n)
fresh_first n low = fresh_above n (7 - n) (omega arith) (omega arith)

-- nothing was sent: an empty queue and one pass
fresh_sent : (n j : ℕ) → AllByRecursion (λ s. (j ≡ j) × SentIn [] s) (fresh n)
fresh_sent zero j = tt
fresh_sent (suc n) j = ((refl, refl), fresh_sent n j)

only : (F : ℕ → Part → Type 0) (w : Part) → F 0 w → (j : ℕ) (u : Part) → get_elem? (w ∷ []) j ≡ some u → F j u
only F w mine zero u e = subst (F 0) (some-injective w u e) mine
only F w mine (suc j) u e = absurd (some-ne-none u (sym e))

pub begins : InOrder [] (whole ∷ [])
begins = ((λ p. 0), 0, [], tt, lit≤ tt, only (Fits (λ p. 0) 0 [] []) whole (fresh_sent 8 0, λ t. (refl, refl)))

-- who has a seat after it moved to another pass
abbrev moves_to : (ℕ → ℕ) → ℕ → ℕ → ℕ → ℕ
moves_to owner place to p = cond (p == place) to (owner p)

to_there : (owner : ℕ → ℕ) (place to p : ℕ) → p ≡ place → moves_to owner place to p ≡ to
to_there owner place to p e = ap (λ b. cond b to (owner p)) (eq-eqb p place e)

as_before : (owner : ℕ → ℕ) (place to p : ℕ) → p ≢ place → moves_to owner place to p ≡ owner p
as_before owner place to p n = ap (λ b. cond b to (owner p)) (ne_eqb p place n)

at_end : (l : List Part) (a b : Part) (j : ℕ) → get_elem? (l ++ a ∷ []) j ≡ some b → (get_elem? l j ≡ some b) ⊎ ((j ≡ length l) × (a ≡ b))
at_end [] a b zero e = inr (refl, some-injective a b e)
at_end [] a b (suc j) e = absurd (some-ne-none b (sym e))
at_end (x ∷ xs) a b zero e = inl e
at_end (x ∷ xs) a b (suc j) e = ⊎_elim (λ t. inl t) (λ (t : (j ≡ length xs) × (a ≡ b)). inr (ap suc t.0, t.1)) (at_end xs a b j e)

within : (l : List Part) (j : ℕ) (b : Part) → get_elem? l j ≡ some b → j < length l
within [] j b e = absurd (some-ne-none b (sym e))
within (x ∷ xs) zero b e = omega arith
within (x ∷ xs) (suc j) b e = let h = within xs j b e in omega arith

-- the other seats of the pass stay with it
stays : (owner : ℕ → ℕ) (place to port : ℕ) (all : List Arrival) (rest : List Sender) → Above place rest → AllByRecursion (λ s. (owner s.place ≡ port) × SentIn all s) rest
    → AllByRecursion (λ s. (moves_to owner place to s.place ≡ port) × SentIn all s) rest
stays owner place to port all [] above each = tt
stays owner place to port all (s ∷ rest) above each =
    let high = above.0 in ((as_before owner place to s.place (λ e. absurd (omega arith)) ∙ each.0.0, each.0.1), stays owner place to port all rest above.1 each.1)

-- the first seat gets a pass of its own
pub forks : (port : ℕ) (v : Part) (s : Sender) (rest : List Sender) → v.senders ≡ s ∷ rest → Above s.place rest → Forks InOrder port v (part (drop 1 v.senders) v.takes v.taken) (part (take 1 v.senders) false [])
forks port v s rest is above items views h at =
    let mine = h.5 port v at in
    let each : AllByRecursion (λ s. (h.0 s.place ≡ port) × SentIn (h.2 ++ items) s) (s ∷ rest) = subst (AllByRecursion (λ s. (h.0 s.place ≡ port) × SentIn (h.2 ++ items) s)) is mine.0 in
    let l : Part = part rest v.takes v.taken in
    let r : Part = part (s ∷ []) false [] in
    let vs : List Part = set views port l in
    let to = length vs in
    let owner : ℕ → ℕ = moves_to h.0 s.place to in
    let F = Fits owner h.1 h.2 items in
    let left : F port l = (stays h.0 s.place to port (h.2 ++ items) rest above each.1, mine.1) in
    let others : (j : ℕ) (u : Part) → j ≢ port → get_elem? views j ≡ some u → F j u = λ j u other e. (
      All-weaker _ _ u.senders
          (λ t (k : (h.0 t.place ≡ j) × SentIn (h.2 ++ items) t).
          (as_before h.0 s.place to t.place (λ same. other (sym k.0 ∙ ap h.0 same ∙ each.0.0)) ∙ k.0, k.1))
          (h.5 j u e).0,
      (h.5 j u e).1,
    ) in
    let old = all_set F views port l left others in
    let right : F to r = (((to_there h.0 s.place to s.place refl, each.0.1), tt), λ t. absurd (true≢false (sym t))) in
    subst (λ (ss : List Sender). InOrder items (set views port (part (drop 1 ss) v.takes v.taken) ++ part (take 1 ss) false [] ∷ [])) (sym is) (
      owner,
      h.1,
      h.2,
      h.3,
      h.4,
      λ j u e. ⊎_elim (old j u) (λ (t : (j ≡ to) × (r ≡ u)). subst (λ (y : ℕ × Part). F y.0 y.1) (λ i. (sym t.0 i, t.1 i)) right) (at_end vs r u j e),
    )

-- who has a seat after all seats of a pass moved to another
abbrev passes_to : (ℕ → ℕ) → ℕ → ℕ → ℕ → ℕ
passes_to owner other to p = cond (owner p == other) to (owner p)

pub merges : (port : ℕ) (v : Part) (other : ℕ) (w : Part) → Merges InOrder port v other w (part (v.senders ++ w.senders) v.takes v.taken) (part [] false [])
merges port v other w items views h at apart at' =
    let both : Part = part (v.senders ++ w.senders) v.takes v.taken in
    let vs : List Part = set views port both in
    let was : get_elem? views other ≡ some w = ⊎_elim (λ (t : (other ≡ port) × (both ≡ w)). absurd (apart t.0)) (λ (t : (other ≢ port) × (get_elem? views other ≡ some w)). t.1) (at_set views port other both w at') in
    let mine = h.5 port v at in
    let theirs = h.5 other w was in
    let owner : ℕ → ℕ = passes_to h.0 other port in
    let F = Fits owner h.1 h.2 items in
    let kept : (j : ℕ) (u : Part) → j ≢ other → Fits h.0 h.1 h.2 items j u → F j u = λ j u differs f. (
      All-weaker _ _ u.senders
          (λ t (k : (h.0 t.place ≡ j) × SentIn (h.2 ++ items) t). (ap (λ b. cond b port (h.0 t.place)) (ne_eqb (h.0 t.place) other (λ e. differs (sym k.0 ∙ e))) ∙ k.0, k.1))
          f.0,
      f.1,
    ) in
    let joins : F port both = (
      All-append _ v.senders w.senders (kept port v (λ e. apart (sym e)) mine).0
          (All-weaker _ _ w.senders
          (λ t (k : (h.0 t.place ≡ other) × SentIn (h.2 ++ items) t). (ap (λ b. cond b port (h.0 t.place)) (eq-eqb (h.0 t.place) other k.0), k.1))
          theirs.0),
      mine.1,
    ) in
    let Now : ℕ → Part → Type 0 = λ j u. j ≢ other → F j u in
    let now = all_set Now views port both (λ _. joins) (λ j u _ e differs. kept j u differs (h.5 j u e)) in
    (owner, h.1, h.2, h.3, h.4, all_set F vs other (part [] false []) (tt, λ t. absurd (true≢false (sym t))) (λ j u differs e. now j u e differs))

pub next_seat : (place : ℕ) → place < 8 → fresh (8 - place) ≡ sender (7 - (7 - place)) [] ∷ fresh (7 - place)
next_seat place low = let e : 8 - place ≡ suc (7 - place) = omega arith in ap fresh e

-- what was popped has a seat
pub popped_seated : (o : Option Arrival) (A : Type 0) (v : Part) (w : Part) → MatchOption o A (λ x. (w ≡ takes v x) × ((items : List Arrival) × Stands v (x ∷ items))) → IfSome o (λ x. x.seat < 8)
popped_seated None A v w h = tt
popped_seated (Some x) A v w h = let s = h.1.1 in (All-right IsSeated s.0 (x ∷ h.1.0) s.3).0
