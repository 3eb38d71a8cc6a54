-- What each step of a home keeps.
use Rattle.std.proofs.Common.{◌≡◌, ◌<◌, ◌==◌, ◌+◌, ℕ, zero, suc, cond, List, [], ◌∷◌, ◌++◌, map, length, take, drop, All, slice_index_or, set, sym, refl, ap, ◌∙◌, subst, append_assoc, append-nil, arith}
use Rattle.std.proofs.lemmas.List.{map-append, take-set, drop-set-lt}
use Rattle.std.proofs.lemmas.List.Elements.{All-nil, All-cons, All-head, All-tail}
use Rattle.std.proofs.lemmas.List.Sorted.{IsPermutation-refl, IsPermutation-sym, IsPermutation-more, IsPermutation-to_front, IsPermutation-append_right, All-permutation, length_permutation, sum_by-IsPermutation}
use Rattle.std.proofs.lemmas.List.Sums.{sum_by-append, sum_by_push}
use Rattle.std.specs.List.{remove, sum_by}
use Rattle.std.specs.List.Sorted.{IsPermutation}
use Rattle.atomic_table.specs.Seated.{TableId}
use Rattle.jk_queues.specs.Ends.{seat_inbox}
use Rattle.js_lend.specs.Ends.{lent_to}
use Rattle.js_lend.specs.declared.loan.Loan.{Loan}
use Rattle.js_home.specs.Places.{place_of, times, AreOneToSeven, AreOf, all_of}
use Rattle.js_home.specs.declared.free.Free.{Free}

-- ---- lists

-- an element that was changed and then removed
remove_set : {X : Type 0} (xs : List X) (i : ℕ) (x : X) → remove (set xs i x) i ≡ remove xs i
remove_set xs i x = ap (λ l. l ++ drop (suc i) (set xs i x)) (take-set xs i x) ∙ ap (λ l. take i xs ++ l) (drop-set-lt (suc i) xs i x (omega arith))

map_take : {X Y : Type 0} (f : X → Y) (xs : List X) (n : ℕ) → map f (take n xs) ≡ take n (map f xs)
map_take f xs zero = refl
map_take f [] (suc n) = refl
map_take f (x ∷ xs) (suc n) = ap (λ l. f x ∷ l) (map_take f xs n)

map_drop : {X Y : Type 0} (f : X → Y) (xs : List X) (n : ℕ) → map f (drop n xs) ≡ drop n (map f xs)
map_drop f xs zero = refl
map_drop f [] (suc n) = refl
map_drop f (x ∷ xs) (suc n) = map_drop f xs n

map_remove : {X Y : Type 0} (f : X → Y) (xs : List X) (i : ℕ) → map f (remove xs i) ≡ remove (map f xs) i
map_remove f xs i = map-append f (take i xs) (drop (suc i) xs) ∙ ap (λ l. l ++ map f (drop (suc i) xs)) (map_take f xs i) ∙ ap (λ l. take i (map f xs) ++ l) (map_drop f xs (suc i))

at_map : {X Y : Type 0} (f : X → Y) (xs : List X) (i : ℕ) (d : X) → slice_index_or (map f xs) i (f d) ≡ f (slice_index_or xs i d)
at_map f [] i d = refl
at_map f (x ∷ xs) zero d = refl
at_map f (x ∷ xs) (suc i) d = at_map f xs i d

-- a list that is set where the view does not change
map_set : {X Y : Type 0} (f : X → Y) (xs : List X) (i : ℕ) (x d : X) → f x ≡ f (slice_index_or xs i d) → map f (set xs i x) ≡ map f xs
map_set f [] i x d e = refl
map_set f (y ∷ xs) zero x d e = ap (λ z. z ∷ map f xs) e
map_set f (y ∷ xs) (suc i) x d e = ap (λ l. f y ∷ l) (map_set f xs i x d e)

replaced : {X : Type 0} (P : X → Type 0) (xs ys : List X) (was now : X) → (P was → P now) → All P ((xs ++ was ∷ []) ++ ys) → All P ((xs ++ now ∷ []) ++ ys)
replaced P [] ys was now f h = All-cons P now ys (f (All-head P was ys h)) (All-tail P was ys h)
replaced P (x ∷ xs) ys was now f h = All-cons P x ((xs ++ now ∷ []) ++ ys) (All-head P x ((xs ++ was ∷ []) ++ ys) h) (replaced P xs ys was now f (All-tail P x ((xs ++ was ∷ []) ++ ys) h))

to_back : {X : Type 0} (xs ys : List X) (x : X) → IsPermutation ((xs ++ x ∷ []) ++ ys) (xs ++ (ys ++ x ∷ []))
to_back xs ys x =
    subst (λ l. IsPermutation l (xs ++ (ys ++ x ∷ []))) (sym (append_assoc xs (x ∷ []) ys))
    (IsPermutation-append_right xs (x ∷ ys) (ys ++ x ∷ []) (IsPermutation-sym (ys ++ x ∷ []) (x ∷ ys) (IsPermutation-to_front ys x)))

length_replaced : {X : Type 0} (xs ys : List X) (was now : X) → length ((xs ++ now ∷ []) ++ ys) ≡ length ((xs ++ was ∷ []) ++ ys)
length_replaced [] ys was now = refl
length_replaced (x ∷ xs) ys was now = ap suc (length_replaced xs ys was now)

-- how often p stands among seven numbers
among : ℕ → ℕ → ℕ → ℕ → ℕ → ℕ → ℕ → ℕ → ℕ
among p a b c d e f g =
    ((((((0 + cond (a == p) 1 0) + cond (b == p) 1 0) + cond (c == p) 1 0) + cond (d == p) 1 0) + cond (e == p) 1 0) + cond (f == p) 1 0) + cond (g == p) 1 0

once : (p : ℕ) → 0 < p → p < 8 → among p 7 6 5 4 3 2 1 ≡ 1
unfolding among
once zero low high = absurd (omega arith)
once (suc zero) low high = refl
once (suc (suc zero)) low high = refl
once (suc (suc (suc zero))) low high = refl
once (suc (suc (suc (suc zero)))) low high = refl
once (suc (suc (suc (suc (suc zero))))) low high = refl
once (suc (suc (suc (suc (suc (suc zero)))))) low high = refl
once (suc (suc (suc (suc (suc (suc (suc zero))))))) low high = refl
once (suc (suc (suc (suc (suc (suc (suc (suc n)))))))) low high = absurd (omega arith)

module _ {L S T M : Type 0} where
  -- ---- the same places in another order

  pub moved_places : (xs ys : List (Free L S T M)) → IsPermutation xs ys → AreOneToSeven xs → AreOneToSeven ys
  moved_places xs ys h a = (
    length_permutation xs ys h ∙ a.0,
    λ p low high. sum_by-IsPermutation (λ f. cond (place_of f == p) 1 0) xs ys h ∙ a.1 p low high,
  )

  pub moved_own : (inbox : TableId) (xs ys : List (Free L S T M)) → IsPermutation xs ys → AreOf inbox xs → AreOf inbox ys
  moved_own inbox xs ys h a = All-permutation (λ (f : Free L S T M). seat_inbox f.seat ≡ inbox) xs ys h a

  -- ---- a place that came back stands for the one that was lent

  times_replaced : (p : ℕ) (xs ys : List (Free L S T M)) (was now : Free L S T M) → place_of now ≡ place_of was
      → times p ((xs ++ now ∷ []) ++ ys) ≡ times p ((xs ++ was ∷ []) ++ ys)
  times_replaced p xs ys was now e =
      let f : Free L S T M → ℕ = λ x. cond (place_of x == p) 1 0 in
      let same : f now ≡ f was = ap (λ n. cond (n == p) 1 0) e in
      sum_by-append f (xs ++ now ∷ []) ys
      ∙ (ap (λ n. n + sum_by f ys) (sum_by_push f xs now ∙ (ap (λ n. sum_by f xs + n) same ∙ sym (sum_by_push f xs was)))
      ∙ sym (sum_by-append f (xs ++ was ∷ []) ys))

  pub replaced_places : (xs ys : List (Free L S T M)) (was now : Free L S T M) → place_of now ≡ place_of was
      → AreOneToSeven ((xs ++ was ∷ []) ++ ys) → AreOneToSeven ((xs ++ now ∷ []) ++ ys)
  replaced_places xs ys was now e a = (length_replaced xs ys was now ∙ a.0, λ p low high. times_replaced p xs ys was now e ∙ a.1 p low high)

  pub replaced_own : (inbox : TableId) (xs ys : List (Free L S T M)) (was now : Free L S T M) → seat_inbox now.seat ≡ seat_inbox was.seat
      → AreOf inbox ((xs ++ was ∷ []) ++ ys) → AreOf inbox ((xs ++ now ∷ []) ++ ys)
  replaced_own inbox xs ys was now e a = replaced (λ (f : Free L S T M). seat_inbox f.seat ≡ inbox) xs ys was now (λ o. e ∙ o) a

  -- ---- steps

  pub keeps_places : (xs ys : List (Free L S T M)) → xs ≡ ys → AreOneToSeven xs → AreOneToSeven ys
  keeps_places xs ys e a = subst (λ (l : List (Free L S T M)). AreOneToSeven l) e a

  pub keeps_own : (inbox : TableId) (xs ys : List (Free L S T M)) → xs ≡ ys → AreOf inbox xs → AreOf inbox ys
  keeps_own inbox xs ys e a = subst (λ (l : List (Free L S T M)). AreOf inbox l) e a

  pub none_lent : (fs : List (Free L S T M)) (ks : List (Loan (Free L S T M))) → ks ≡ [] → fs ≡ all_of fs ks
  none_lent fs ks none = sym (ap (λ (k : List (Loan (Free L S T M))). all_of fs k) none ∙ append-nil fs)

  pub same_all : (fs gs : List (Free L S T M)) (ls ks : List (Loan (Free L S T M))) → fs ≡ gs → map lent_to ls ≡ map lent_to ks → all_of fs ls ≡ all_of gs ks
  same_all fs gs ls ks e f i = e i ++ f i

  -- the last free place was popped and lent
  pub lent_more : (ls ks : List (Loan (Free L S T M))) (loan : Loan (Free L S T M)) (x : Free L S T M) → ks ≡ ls ++ loan ∷ [] → lent_to loan ≡ x
      → map lent_to ks ≡ map lent_to ls ++ x ∷ []
  lent_more ls ks loan x lent is = ap (map lent_to) lent ∙ map-append lent_to ls (loan ∷ []) ∙ ap (λ y. map lent_to ls ++ y ∷ []) is

  pub lends_moves : (fs gs : List (Free L S T M)) (ls ks : List (Loan (Free L S T M))) (loan : Loan (Free L S T M)) (x : Free L S T M)
      → fs ≡ gs ++ x ∷ [] → ks ≡ ls ++ loan ∷ [] → lent_to loan ≡ x → IsPermutation (all_of fs ls) (all_of gs ks)
  lends_moves fs gs ls ks loan x free lent is =
      let P : List (Free L S T M) × List (Free L S T M) → Type 0 = λ q. IsPermutation (q.0 ++ map lent_to ls) (gs ++ q.1) in
      let more = lent_more ls ks loan x lent is in
      let there : P (gs ++ x ∷ [], map lent_to ls ++ x ∷ []) = to_back gs (map lent_to ls) x in
      subst P (λ i. (sym free i, sym more i)) there

  -- a loan that was asked is of the same value
  pub asked : (ls : List (Loan (Free L S T M))) (place : ℕ) (at after : Loan (Free L S T M)) → at ≡ slice_index_or ls place at → lent_to after ≡ lent_to at
      → map lent_to (set ls place after) ≡ map lent_to ls
  asked ls place at after here same = map_set lent_to ls place after at (same ∙ ap lent_to here)

  pub lent_at : (ls : List (Loan (Free L S T M))) (place : ℕ) (at : Loan (Free L S T M)) → at ≡ slice_index_or ls place at
      → lent_to at ≡ slice_index_or (map lent_to ls) place (lent_to at)
  lent_at ls place at here = ap lent_to here ∙ sym (at_map lent_to ls place at)

  pub taken_rest : (ls ks : List (Loan (Free L S T M))) (place : ℕ) (after : Loan (Free L S T M)) → ks ≡ remove (set ls place after) place
      → map lent_to ks ≡ remove (map lent_to ls) place
  taken_rest ls ks place after lent = ap (map lent_to) (lent ∙ remove_set ls place after) ∙ map_remove lent_to ls place

  takes_moves : (fs : List (Free L S T M)) (ls : List (Loan (Free L S T M))) (place : ℕ) (at : Loan (Free L S T M)) → place < length (map lent_to ls)
      → at ≡ slice_index_or ls place at → IsPermutation (all_of fs ls) ((fs ++ lent_to at ∷ []) ++ remove (map lent_to ls) place)
  takes_moves fs ls place at low here =
      IsPermutation-more (all_of fs ls) fs (map lent_to ls) place (lent_to at) low (lent_at ls place at here) (IsPermutation-refl (all_of fs ls))

  pub takes_places : (fs gs : List (Free L S T M)) (ls ks : List (Loan (Free L S T M))) (place : ℕ) (at after : Loan (Free L S T M)) (x : Free L S T M)
      → place < length (map lent_to ls) → at ≡ slice_index_or ls place at → place_of x ≡ place_of (lent_to at) → gs ≡ fs ++ x ∷ [] → ks ≡ remove (set ls place after) place
      → AreOneToSeven (all_of fs ls) → AreOneToSeven (all_of gs ks)
  takes_places fs gs ls ks place at after x low here same free lent a =
      let rest = remove (map lent_to ls) place in
      let Q : List (Free L S T M) × List (Free L S T M) → Type 0 = λ q. AreOneToSeven (q.0 ++ q.1) in
      let now : Q (fs ++ x ∷ [], rest) = replaced_places fs rest (lent_to at) x same (moved_places (all_of fs ls) ((fs ++ lent_to at ∷ []) ++ rest) (takes_moves fs ls place at low here) a) in
      let others = taken_rest ls ks place after lent in
      subst Q (λ i. (sym free i, sym others i)) now

  pub takes_own : (inbox : TableId) (fs gs : List (Free L S T M)) (ls ks : List (Loan (Free L S T M))) (place : ℕ) (at after : Loan (Free L S T M)) (x : Free L S T M)
      → place < length (map lent_to ls) → at ≡ slice_index_or ls place at → seat_inbox x.seat ≡ seat_inbox (lent_to at).seat → gs ≡ fs ++ x ∷ [] → ks ≡ remove (set ls place after) place
      → AreOf inbox (all_of fs ls) → AreOf inbox (all_of gs ks)
  takes_own inbox fs gs ls ks place at after x low here same free lent a =
      let rest = remove (map lent_to ls) place in
      let Q : List (Free L S T M) × List (Free L S T M) → Type 0 = λ q. AreOf inbox (q.0 ++ q.1) in
      let now : Q (fs ++ x ∷ [], rest) = replaced_own inbox fs rest (lent_to at) x same (moved_own inbox (all_of fs ls) ((fs ++ lent_to at ∷ []) ++ rest) (takes_moves fs ls place at low here) a) in
      let others = taken_rest ls ks place after lent in
      subst Q (λ i. (sym free i, sym others i)) now

  -- ---- the first row

  pub seven_places : (fs : List (Free L S T M)) (a b c d e f g : Free L S T M) → fs ≡ a ∷ (b ∷ (c ∷ (d ∷ (e ∷ (f ∷ (g ∷ []))))))
      → place_of a ≡ 7 → place_of b ≡ 6 → place_of c ≡ 5 → place_of d ≡ 4 → place_of e ≡ 3 → place_of f ≡ 2 → place_of g ≡ 1 → AreOneToSeven fs
  unfolding among
  seven_places fs a b c d e f g is a7 b6 c5 d4 e3 f2 g1 = (
    ap length is,
    λ p low high. ap (times p) is ∙ ((λ i. among p (a7 i) (b6 i) (c5 i) (d4 i) (e3 i) (f2 i) (g1 i)) ∙ once p low high),
  )

  pub seven_own : (inbox : TableId) (fs : List (Free L S T M)) (a b c d e f g : Free L S T M) → fs ≡ a ∷ (b ∷ (c ∷ (d ∷ (e ∷ (f ∷ (g ∷ []))))))
      → seat_inbox a.seat ≡ inbox → seat_inbox b.seat ≡ inbox → seat_inbox c.seat ≡ inbox → seat_inbox d.seat ≡ inbox → seat_inbox e.seat ≡ inbox
      → seat_inbox f.seat ≡ inbox → seat_inbox g.seat ≡ inbox → AreOf inbox fs
  seven_own inbox fs a b c d e f g is ha hb hc hd he hf hg =
      let P : Free L S T M → Type 0 = λ x. seat_inbox x.seat ≡ inbox in
      subst (AreOf inbox) (sym is)
      (All-cons P a (b ∷ (c ∷ (d ∷ (e ∷ (f ∷ (g ∷ [])))))) ha
      (All-cons P b (c ∷ (d ∷ (e ∷ (f ∷ (g ∷ []))))) hb
      (All-cons P c (d ∷ (e ∷ (f ∷ (g ∷ [])))) hc
      (All-cons P d (e ∷ (f ∷ (g ∷ []))) hd
      (All-cons P e (f ∷ (g ∷ [])) he
      (All-cons P f (g ∷ []) hf
      (All-cons P g [] hg (All-nil P))))))))
