-- Lists of lists, and beginnings.
use Rattle.std.proofs.Common.{◌≡◌, ℕ, zero, suc, ◌+◌, ◌-◌, ◌<◌, ◌≤◌, List, [], ◌∷◌, ◌++◌, take, drop, length, refl, sym, ap, ◌∙◌, arith, length-append, append-nil, append_assoc}
use Rattle.std.proofs.lemmas.List.{length-take, length-drop, drop-append-le}
use Rattle.std.proofs.Math.Seq.{drop-append-add}

module _ {A : Type 0} where
  pub take_none : (n : ℕ) → take {A = A} n [] ≡ []
  take_none zero = refl
  take_none (suc n) = refl

  pub take_both : (n : ℕ) (xs ys : List A) → take n (xs ++ ys) ≡ take n xs ++ take (n - length xs) ys
  take_both zero [] ys = let e : 0 ≡ 0 - 0 = omega arith in ap (λ k. take k ys) e
  take_both (suc n) [] ys = let e : suc n ≡ suc n - 0 = omega arith in ap (λ k. take k ys) e
  take_both zero (x ∷ xs) ys = let e : 0 ≡ 0 - suc (length xs) = omega arith in ap (λ k. take k ys) e
  take_both (suc n) (x ∷ xs) ys = let e : n - length xs ≡ suc n - suc (length xs) = omega arith in ap (λ l. x ∷ l) (take_both n xs ys) ∙ ap (λ k. x ∷ (take n xs ++ take k ys)) e

  pub drop_both : (n : ℕ) (xs ys : List A) → drop n (xs ++ ys) ≡ drop n xs ++ drop (n - length xs) ys
  drop_both zero [] ys = let e : 0 ≡ 0 - 0 = omega arith in ap (λ k. drop k ys) e
  drop_both (suc n) [] ys = let e : suc n ≡ suc n - 0 = omega arith in ap (λ k. drop k ys) e
  drop_both zero (x ∷ xs) ys = let e : 0 ≡ 0 - suc (length xs) = omega arith in ap (λ k. x ∷ (xs ++ drop k ys)) e
  drop_both (suc n) (x ∷ xs) ys = let e : n - length xs ≡ suc n - suc (length xs) = omega arith in drop_both n xs ys ∙ ap (λ k. drop n xs ++ drop k ys) e

  -- of a list and then another, the next ones from a place on
  pub window_both : (max place : ℕ) (xs ys found : List A) (skipped : ℕ) → found ≡ take max (drop place xs) → skipped ≡ place - length xs
      → found ++ take (max - length found) (drop skipped ys) ≡ take max (drop place (xs ++ ys))
  window_both max place xs ys found skipped is rest =
      let n = ap length is ∙ length-take max (drop place xs) in
      let left : max - length found ≡ max - length (drop place xs) = omega arith in
      ap (λ l. l ++ take (max - length found) (drop skipped ys)) is
      ∙ ap (λ k. take max (drop place xs) ++ take k (drop skipped ys)) left
      ∙ ap (λ k. take max (drop place xs) ++ take (max - length (drop place xs)) (drop k ys)) rest
      ∙ sym (take_both max (drop place xs) (drop (place - length xs) ys))
      ∙ ap (take max) (sym (drop_both place xs ys))

  -- of a list and then another, the next ones from a place on, after some that were found before
  pub window_after : (max place skipped : ℕ) (xs ys first found now : List A) → found ≡ first ++ take (max - length first) (drop place xs) → skipped ≡ place - length xs
      → now ≡ found ++ take (max - length found) (drop skipped ys) → now ≡ first ++ take (max - length first) (drop place (xs ++ ys))
  window_after max place skipped xs ys first found now so_far left is =
      let piece = take (max - length first) (drop place xs) in
      let long = ap length so_far ∙ length-append first piece in
      let rest : max - length found ≡ max - length first - length piece = omega (arith, long) in
      is
      ∙ ap (λ l. l ++ take (max - length found) (drop skipped ys)) so_far
      ∙ ap (λ k. (first ++ piece) ++ take k (drop skipped ys)) rest
      ∙ append_assoc first piece (take (max - length first - length piece) (drop skipped ys))
      ∙ ap (λ l. first ++ l) (window_both (max - length first) place xs ys piece skipped refl left)

  -- where enough are found, what follows adds none
  pub enough_after : (max place : ℕ) (xs ys first found : List A) → found ≡ first ++ take (max - length first) (drop place xs) → max ≤ length found
      → found ≡ first ++ take (max - length first) (drop place (xs ++ ys))
  enough_after max place xs ys first found so_far enough =
      let none : max - length found ≡ 0 = omega (arith, enough) in
      window_after max place (place - length xs) xs ys first found found so_far refl
      (sym (append-nil found) ∙ ap (λ k. found ++ take k (drop (place - length xs) ys)) (sym none))

  pub three_windows : (max place second third : ℕ) (xs ys zs none one two now : List A) → none ≡ [] → one ≡ none ++ take (max - length none) (drop place xs)
      → second ≡ place - length xs → two ≡ one ++ take (max - length one) (drop second ys)
      → third ≡ second - length ys → now ≡ two ++ take (max - length two) (drop third zs) → now ≡ take max (drop place ((xs ++ ys) ++ zs))
  three_windows max place second third xs ys zs none one two now start first_is left two_is left_then now_is =
      let both = window_after max place second xs ys none one two first_is left two_is in
      let skipped : third ≡ place - length (xs ++ ys) = omega (arith, left, left_then, length-append xs ys) in
      window_after max place third (xs ++ ys) zs none two now both skipped now_is
      ∙ ap (λ l. l ++ take (max - length l) (drop place ((xs ++ ys) ++ zs))) start
      ∙ ap (λ k. take k (drop place ((xs ++ ys) ++ zs))) (let e : max - 0 ≡ max = omega arith in e)

  pub take-add : (m n : ℕ) (xs : List A) → take (m + n) xs ≡ take m xs ++ take n (drop m xs)
  take-add zero n xs = let e : 0 + n ≡ n = omega arith in ap (λ k. take k xs) e
  take-add (suc m) n [] = let e : suc m + n ≡ suc (m + n) = omega arith in ap (λ k. take k []) e ∙ sym (take_none n)
  take-add (suc m) n (x ∷ xs) = let e : suc m + n ≡ suc (m + n) = omega arith in ap (λ k. take k (x ∷ xs)) e ∙ ap (λ l. x ∷ l) (take-add m n xs)

  pub drop_none : (n : ℕ) → drop {A = A} n [] ≡ []
  drop_none zero = refl
  drop_none (suc n) = refl

  pub drop-drop : (d k : ℕ) (xs : List A) → drop k (drop d xs) ≡ drop (d + k) xs
  drop-drop zero k xs = let e : k ≡ 0 + k = omega arith in ap (λ n. drop n xs) e
  drop-drop (suc d) k [] = drop_none k ∙ sym (drop_none (suc d + k))
  drop-drop (suc d) k (x ∷ xs) = let e : suc (d + k) ≡ suc d + k = omega arith in drop-drop d k xs ∙ ap (λ n. drop n (x ∷ xs)) e

  -- what follows a place in the first part decides all that follows that part
  pub same_all : (d : ℕ) (xs a b : List A) → d ≤ length xs → drop d (xs ++ a) ≡ drop d (xs ++ b) → xs ++ a ≡ xs ++ b
  same_all zero xs a b h e = e
  same_all (suc d) [] a b h e = absurd (let f : ⊥ = omega (arith, h) in f)
  same_all (suc d) (x ∷ xs) a b h e = ap (λ l. x ∷ l) (same_all d xs a b (omega (arith, h)) e)

  -- of a list and then another, the first ones dropped: some of the other are only where all of the first list are
  pub drop_pair : (f s : ℕ) (xs ys : List A) → f ≤ length xs → (0 < s → drop f xs ≡ []) → drop f xs ++ drop s ys ≡ drop (f + s) (xs ++ ys)
  drop_pair f zero xs ys within none = let e : f ≡ f + 0 = omega arith in sym (drop-append-le f xs ys within) ∙ ap (λ n. drop n (xs ++ ys)) e
  drop_pair f (suc s) xs ys within none =
      let left = length-drop f xs in
      let gone : drop f xs ≡ [] = none (omega arith) in
      let size : f ≡ length xs = omega (arith, within, left, ap length gone) in
      ap (λ l. l ++ drop (suc s) ys) gone
      ∙ sym (drop-append-add xs ys (suc s))
      ∙ ap (λ n. drop (n + suc s) (xs ++ ys)) (sym size)
