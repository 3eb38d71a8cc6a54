-- Where each of 1 to 7 stands once among seven places, none of them is another.
use Rattle.std.proofs.Common.{◌≡◌, ◌<◌, ◌≤◌, ◌+◌, ◌==◌, ℕ, Bool, true, false, cond, List, [], ◌∷◌, ◌++◌, length, All, refl, sym, ap, ◌∙◌, subst, arith}
use Rattle.std.specs.Prelude.{◌&&◌, nat_lt}
use Rattle.std.specs.List.{sum_by}
use Rattle.std.proofs.lemmas.List.Sums.{sum_by-cons}
use Rattle.std.proofs.lemmas.Bool.Decides.{nat_tests}
use Rattle.std.proofs.lemmas.List.Elements.{All-head, All-tail, All-cons, All-nil}
use Rattle.atomic_table.specs.Seated.{TableId}
use Rattle.jk_queues.specs.Ends.{seat_inbox}
use Rattle.js_home.specs.Places.{place_of, times, AreOneToSeven, AreOf}
use Rattle.js_home.specs.declared.free.Free.{Free}

-- whether a number is one of 1 to 7, as a number
inside : ℕ → ℕ
inside p = cond (nat_lt 0 p && nat_lt p 8) 1 0

is_one_of : (p : ℕ)
    → ((((((cond (p == 1) 1 0 + cond (p == 2) 1 0) + cond (p == 3) 1 0) + cond (p == 4) 1 0) + cond (p == 5) 1 0) + cond (p == 6) 1 0) + cond (p == 7) 1 0) ≡ inside p
unfolding inside
is_one_of p = grind (arith, nat_tests)

inside_most : (p : ℕ) → inside p ≤ 1
unfolding inside
inside_most p = grind (arith, nat_tests)

inside_is : (p : ℕ) → inside p ≡ 1 → (0 < p) × (p < 8)
unfolding inside
inside_is p e = (grind (arith, nat_tests), grind (arith, nat_tests))

module _ {L S T M : Type 0} where
  times_more : (p : ℕ) (f : Free L S T M) (fs : List (Free L S T M)) → times p (f ∷ fs) ≡ cond (place_of f == p) 1 0 + times p fs
  times_more p f fs = sum_by-cons (λ (x : Free L S T M). cond (place_of x == p) 1 0) f fs

  count : List (Free L S T M) → ℕ
  count fs = sum_by (λ f. inside (place_of f)) fs

  count_more : (f : Free L S T M) (fs : List (Free L S T M)) → count (f ∷ fs) ≡ inside (place_of f) + count fs
  unfolding count
  count_more f fs = sum_by-cons (λ (x : Free L S T M). inside (place_of x)) f fs

  counted : (fs : List (Free L S T M))
      → ((((((times 1 fs + times 2 fs) + times 3 fs) + times 4 fs) + times 5 fs) + times 6 fs) + times 7 fs) ≡ count fs
  unfolding count
  counted [] = refl
  counted (f ∷ fs) =
      let here = is_one_of (place_of f) in
      let rest = counted fs in
      let all = count_more f fs in
      let a = times_more 1 f fs in
      let b = times_more 2 f fs in
      let d = times_more 3 f fs in
      let e = times_more 4 f fs in
      let h = times_more 5 f fs in
      let i = times_more 6 f fs in
      let j = times_more 7 f fs in
      omega arith

  count_most : (fs : List (Free L S T M)) → count fs ≤ length fs
  unfolding count
  count_most [] = omega arith
  count_most (f ∷ fs) = let here = inside_most (place_of f) in let rest = count_most fs in let all = count_more f fs in omega arith

  abbrev IsInside : Free L S T M → Type 0
  IsInside f = (0 < place_of f) × (place_of f < 8)

  all_inside : (fs : List (Free L S T M)) → count fs ≡ length fs → All IsInside fs
  all_inside [] e = All-nil IsInside
  all_inside (f ∷ fs) e =
      let most = inside_most (place_of f) in
      let rest = count_most fs in
      let all = count_more f fs in
      All-cons IsInside f fs (inside_is (place_of f) (omega arith)) (all_inside fs (omega arith))

  pub are_inside : (fs : List (Free L S T M)) → AreOneToSeven fs → All IsInside fs
  are_inside fs a =
      let one = a.1 1 (omega arith) (omega arith) in
      let two = a.1 2 (omega arith) (omega arith) in
      let three = a.1 3 (omega arith) (omega arith) in
      let four = a.1 4 (omega arith) (omega arith) in
      let five = a.1 5 (omega arith) (omega arith) in
      let six = a.1 6 (omega arith) (omega arith) in
      let seven = a.1 7 (omega arith) (omega arith) in
      let sum = counted fs in
      let all = a.0 in
      all_inside fs (omega arith)

  -- what holds of all holds of the last of the first
  pub last_is : (P : Free L S T M → Type 0) (xs ys : List (Free L S T M)) (x : Free L S T M) → All P ((xs ++ x ∷ []) ++ ys) → P x
  last_is P [] ys x h = All-head P x ys h
  last_is P (y ∷ xs) ys x h = last_is P xs ys x (All-tail P y ((xs ++ x ∷ []) ++ ys) h)

  pub last_inside : (xs gs ys : List (Free L S T M)) (x : Free L S T M) → gs ≡ xs ++ x ∷ [] → AreOneToSeven (gs ++ ys) → IsInside x
  last_inside xs gs ys x e a = last_is IsInside xs ys x (are_inside ((xs ++ x ∷ []) ++ ys) (subst (λ (l : List (Free L S T M)). AreOneToSeven (l ++ ys)) e a))

  pub last_own : (xs gs ys : List (Free L S T M)) (x : Free L S T M) → gs ≡ xs ++ x ∷ [] → (inbox : TableId) → AreOf inbox (gs ++ ys) → seat_inbox x.seat ≡ inbox
  last_own xs gs ys x e inbox a =
      last_is (λ f. seat_inbox f.seat ≡ inbox) xs ys x (subst (λ (l : List (Free L S T M)). AreOf inbox (l ++ ys)) e a)
