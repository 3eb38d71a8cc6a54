-- A range meets none of some ranges, if the nearest that begins before its end ends before its begin.
use Rattle.std.proofs.Common.{◌≡◌, ◌⊎◌, ℤ, ◌<ℤ◌, ◌≤ℤ◌, int_lt, int_eq, int_cmp, is_eq, is_lt, is_gt, Bool, true, false, cond, ◌||◌, ◌&&◌, List, [], ◌∷◌, Option, Some, None, IsSome, refl, sym, ◌∙◌, ap, subst, inl, inr, arith}
use Rattle.std.specs.declared.cmp.Ordering.TheVariants.{Less, Equal, Greater}
use Rattle.std.proofs.lemmas.Int.{ints}
use Rattle.std.proofs.lemmas.Bool.Decides.{Decides-int_eq}
use Rattle.ob_mean.specs.declared.statement.LabelRange.{LabelRange}
use Rattle.ob_check_stmt.specs.Labels.{are_apart, is_free}
use Rattle.ob_check_stmt.specs.LabelIndex.{last_from, AreApart}

split_or : (b c : Bool) → (b || c) ≡ true → (b ≡ true) ⊎ (c ≡ true)
split_or true c e = inl refl
split_or false c e = inr e

split_and : (b c : Bool) → (b && c) ≡ true → (b ≡ true) × (c ≡ true)
split_and true c e = (refl, e)
split_and false c e = absurd (let k : false ≡ true = e in cc)

join_and : (b c : Bool) → b ≡ true → c ≡ true → (b && c) ≡ true
join_and true c p q = q
join_and false c p q = absurd (let k : false ≡ true = p in cc)

join_left : (b c : Bool) → b ≡ true → (b || c) ≡ true
join_left true c p = refl
join_left false c p = absurd (let k : false ≡ true = p in cc)

join_right : (b c : Bool) → c ≡ true → (b || c) ≡ true
join_right true c p = refl
join_right false c p = p

below : (a b : ℤ) → int_lt a b ≡ true → a <ℤ b
below a b e = omega (arith, ints)

not_below : (a b : ℤ) → int_lt a b ≡ false → b ≤ℤ a
not_below a b e = omega (arith, ints)

tested : (a b : ℤ) → a <ℤ b → int_lt a b ≡ true
tested a b h = by (int_lt a b) refl
  where
    by : (t : Bool) → int_lt a b ≡ t → int_lt a b ≡ true
    by true e = e
    by false e = absurd (omega (arith, ints))

some_is : (a b : ℤ) → Some a ≡ Some b → a ≡ b
some_is a b e = cc

never : (a : ℤ) → None ≡ Some a → ⊥
never a e = cc

apart_facts : (x y : LabelRange) → are_apart x y ≡ true → (x.last <ℤ y.first) ⊎ (y.last <ℤ x.first)
apart_facts x y e =
    elim (split_or (int_lt x.last y.first) (int_lt y.last x.first) e) as (λ _. (x.last <ℤ y.first) ⊎ (y.last <ℤ x.first)) [
      | inl p ↦ inl (below x.last y.first p)
      | inr p ↦ inr (below y.last x.first p)
    ]

apart_from : (x y : LabelRange) → (x.last <ℤ y.first) ⊎ (y.last <ℤ x.first) → are_apart x y ≡ true
apart_from x y (inl p) = join_left (int_lt x.last y.first) (int_lt y.last x.first) (tested x.last y.first p)
apart_from x y (inr p) = join_right (int_lt x.last y.first) (int_lt y.last x.first) (tested y.last x.first p)

-- ---- ranges by their first labels

found_cases : (r : LabelRange) (rs : List LabelRange) (z l : ℤ) → last_from (r ∷ rs) z ≡ Some l → ((r.first ≡ z) × (r.last ≡ l)) ⊎ (last_from rs z ≡ Some l)
found_cases r rs z l e = by (int_eq r.first z) refl e
  where
    by : (t : Bool) → int_eq r.first z ≡ t → cond t (Some r.last) (last_from rs z) ≡ Some l → ((r.first ≡ z) × (r.last ≡ l)) ⊎ (last_from rs z ≡ Some l)
    by true p q = inl ((Decides-int_eq r.first z).0 p, some_is r.last l q)
    by false p q = inr q

found_apart : (rs : List LabelRange) (x : LabelRange) (z l : ℤ) → is_free rs x ≡ true → last_from rs z ≡ Some l → (x.last <ℤ z) ⊎ (l <ℤ x.first)
found_apart [] x z l f e = absurd (never l e)
found_apart (r ∷ rs) x z l f e =
    let parts = split_and (are_apart x r) (is_free rs x) f in
    elim (found_cases r rs z l e) as (λ _. (x.last <ℤ z) ⊎ (l <ℤ x.first)) [
      | inl p ↦ subst (λ k. (x.last <ℤ z) ⊎ (k <ℤ x.first)) p.1 (subst (λ k. (x.last <ℤ k) ⊎ (r.last <ℤ x.first)) p.0 (apart_facts x r parts.0))
      | inr p ↦ found_apart rs x z l parts.1 p
    ]

found_filled : (rs : List LabelRange) (z l : ℤ) → AreApart rs → last_from rs z ≡ Some l → z ≤ℤ l
found_filled [] z l h e = absurd (never l e)
found_filled (r ∷ rs) z l h e =
    elim (found_cases r rs z l e) as (λ _. z ≤ℤ l) [
      | inl p ↦ subst (λ k. z ≤ℤ k) p.1 (subst (λ k. k ≤ℤ r.last) p.0 h.0)
      | inr p ↦ found_filled rs z l h.2 p
    ]

-- one that begins before another ends before it
found_order : (rs : List LabelRange) (a k b l : ℤ) → AreApart rs → last_from rs a ≡ Some k → last_from rs b ≡ Some l → a <ℤ b → k <ℤ b
found_order [] a k b l h e f o = absurd (never k e)
found_order (r ∷ rs) a k b l h e f o =
    elim (found_cases r rs a k e) as (λ _. k <ℤ b) [
      | inl p ↦ elim (found_cases r rs b l f) as (λ _. k <ℤ b) [
        | inl q ↦ absurd (ordered r.first a b p.0 q.0 o)
        | inr q ↦ elim (found_apart rs r b l h.1 q) as (λ _. k <ℤ b) [
          | inl u ↦ subst (λ c. c <ℤ b) p.1 u
          | inr u ↦ absurd (around l r.first a b u p.0 o (found_filled rs b l h.2 q))
        ]
      ]
      | inr p ↦ elim (found_cases r rs b l f) as (λ _. k <ℤ b) [
        | inl q ↦ elim (found_apart rs r a k h.1 p) as (λ _. k <ℤ b) [
          | inl u ↦ absurd (round r.last a b r.first u o q.0 h.0)
          | inr u ↦ subst (λ c. k <ℤ c) q.0 u
        ]
        | inr q ↦ found_order rs a k b l h.2 p q o
      ]
    ]
  where
    ordered : (c a b : ℤ) → c ≡ a → c ≡ b → a <ℤ b → ⊥
    ordered c a b p q o = let o1 : c <ℤ b = subst (λ z. z <ℤ b) (sym p) o in let o2 : c <ℤ c = subst (λ z. c <ℤ z) (sym q) o1 in omega (arith, ints)

    around : (l c a b : ℤ) → l <ℤ c → c ≡ a → a <ℤ b → b ≤ℤ l → ⊥
    around l c a b u p o f = let u1 : l <ℤ a = subst (λ z. l <ℤ z) p u in omega (arith, ints)

    round : (m a b c : ℤ) → m <ℤ a → a <ℤ b → c ≡ b → c ≤ℤ m → ⊥
    round m a b c u o q h = let h1 : b ≤ℤ m = subst (λ z. z ≤ℤ m) q h in omega (arith, ints)

head_found : (r : LabelRange) (rs : List LabelRange) → last_from (r ∷ rs) r.first ≡ Some r.last
head_found r rs = ap (λ b. cond b (Some r.last) (last_from rs r.first)) ((Decides-int_eq r.first r.first).1 refl)

tail_found : (r : LabelRange) (rs : List LabelRange) (z l : ℤ) → AreApart (r ∷ rs) → last_from rs z ≡ Some l → last_from (r ∷ rs) z ≡ Some l
tail_found r rs z l h e = by (int_eq r.first z) refl
  where
    met : r.first ≡ z → (r.last <ℤ z) ⊎ (l <ℤ r.first) → ⊥
    met p (inl u) = let u1 : r.last <ℤ r.first = subst (λ k. r.last <ℤ k) (sym p) u in let k : r.first ≤ℤ r.last = h.0 in omega (arith, ints)
    met p (inr u) = let u1 : l <ℤ z = subst (λ k. l <ℤ k) p u in let k : z ≤ℤ l = found_filled rs z l h.2 e in omega (arith, ints)

    by : (t : Bool) → int_eq r.first z ≡ t → cond t (Some r.last) (last_from rs z) ≡ Some l
    by true p = absurd (met ((Decides-int_eq r.first z).0 p) (found_apart rs r z l h.1 e))
    by false p = e

all_free : (rs : List LabelRange) (x : LabelRange) → AreApart rs → ((z l : ℤ) → last_from rs z ≡ Some l → (x.last <ℤ z) ⊎ (l <ℤ x.first)) → is_free rs x ≡ true
all_free [] x h f = refl
all_free (r ∷ rs) x h f =
    join_and (are_apart x r) (is_free rs x) (apart_from x r (f r.first r.last (head_found r rs)))
    (all_free rs x h.2 (λ z l e. f z l (tail_found r rs z l h e)))

-- no range begins before the end of this one
pub none_below : (rs : List LabelRange) (x : LabelRange) → AreApart rs → ((z : ℤ) → z ≤ℤ x.last → last_from rs z ≡ None) → is_free rs x ≡ true
none_below rs x h none = all_free rs x h (λ z l e. by z l e (int_lt x.last z) refl)
  where
    by : (z l : ℤ) → last_from rs z ≡ Some l → (t : Bool) → int_lt x.last z ≡ t → (x.last <ℤ z) ⊎ (l <ℤ x.first)
    by z l e true p = inl (below x.last z p)
    by z l e false p = absurd (never l (sym (none z (not_below x.last z p)) ∙ e))

-- the last that begins before the end of this one
pub greatest_below : (rs : List LabelRange) (x : LabelRange) (b l : ℤ) → AreApart rs → last_from rs b ≡ Some l → b ≤ℤ x.last → ((z m : ℤ) → z ≤ℤ x.last → last_from rs z ≡ Some m → z ≤ℤ b) → is_free rs x ≡ int_lt l x.first
greatest_below rs x b l h found inside greatest = by (int_lt l x.first) refl
  where
    before : (z m : ℤ) → l <ℤ x.first → last_from rs z ≡ Some m → z ≤ℤ b → (t : Bool) → int_lt z b ≡ t → m <ℤ x.first
    before z m o e k true p =
        let u : m <ℤ b = found_order rs z m b l h e found (below z b p) in
        let v : b ≤ℤ l = found_filled rs b l h found in omega (arith, ints)
    before z m o e k false p =
        let w : z ≡ b = omega (arith, ints) in
        let same : l ≡ m = some_is l m (sym found ∙ ap (last_from rs) (sym w) ∙ e) in
        subst (λ c. c <ℤ x.first) same o

    apart : (z m : ℤ) → l <ℤ x.first → last_from rs z ≡ Some m → (t : Bool) → int_lt x.last z ≡ t → (x.last <ℤ z) ⊎ (m <ℤ x.first)
    apart z m o e true p = inl (below x.last z p)
    apart z m o e false p = let k = greatest z m (not_below x.last z p) e in inr (before z m o e k (int_lt z b) refl)

    met : x.first ≤ℤ l → (x.last <ℤ b) ⊎ (l <ℤ x.first) → ⊥
    met o (inl u) = omega (arith, ints)
    met o (inr u) = omega (arith, ints)

    none : int_lt l x.first ≡ false → (t : Bool) → is_free rs x ≡ t → is_free rs x ≡ false
    none p true q = absurd (met (not_below l x.first p) (found_apart rs x b l q found))
    none p false q = q

    by : (t : Bool) → int_lt l x.first ≡ t → is_free rs x ≡ t
    by true p = all_free rs x h (λ z m e. apart z m (below l x.first p) e (int_lt x.last z) refl)
    by false p = none p (is_free rs x) refl

-- ---- orders of numbers

not_gt : (a b : ℤ) (s t : Bool) → int_lt a b ≡ s → int_lt b a ≡ t → a ≤ℤ b → is_gt (cond s Less (cond t Greater Equal)) ≡ false
not_gt a b true t p q h = refl
not_gt a b false true p q h = absurd (omega (arith, ints))
not_gt a b false false p q h = refl

pub not_above : (a b : ℤ) → a ≤ℤ b → is_gt (int_cmp a b) ≡ false
not_above a b h = not_gt a b (int_lt a b) (int_lt b a) refl refl h

at_most : (a b : ℤ) (s t : Bool) → int_lt a b ≡ s → int_lt b a ≡ t → is_gt (cond s Less (cond t Greater Equal)) ≡ false → a ≤ℤ b
at_most a b true t p q h = omega (arith, ints)
at_most a b false true p q h = absurd (let k : true ≡ false = h in cc)
at_most a b false false p q h = omega (arith, ints)

pub from_not_above : (a b : ℤ) → is_gt (int_cmp a b) ≡ false → a ≤ℤ b
from_not_above a b h = at_most a b (int_lt a b) (int_lt b a) refl refl h

at_least : (a b : ℤ) (s t : Bool) → int_lt a b ≡ s → int_lt b a ≡ t → is_lt (cond s Less (cond t Greater Equal)) ≡ false → b ≤ℤ a
at_least a b true t p q h = absurd (let k : true ≡ false = h in cc)
at_least a b false t p q h = omega (arith, ints)

pub from_not_below : (a b : ℤ) → is_lt (int_cmp a b) ≡ false → b ≤ℤ a
from_not_below a b h = at_least a b (int_lt a b) (int_lt b a) refl refl h

equal_by : (a b : ℤ) (s t u : Bool) → int_lt a b ≡ s → int_lt b a ≡ t → int_eq a b ≡ u → is_eq (cond s Less (cond t Greater Equal)) ≡ u
equal_by a b true t true p q e = absurd (let k : a ≡ b = (Decides-int_eq a b).0 e in let o : a <ℤ a = subst (λ z. a <ℤ z) (sym k) (below a b p) in omega (arith, ints))
equal_by a b true t false p q e = refl
equal_by a b false true true p q e = absurd (let k : a ≡ b = (Decides-int_eq a b).0 e in let o : b <ℤ b = subst (λ z. b <ℤ z) k (below b a q) in omega (arith, ints))
equal_by a b false true false p q e = refl
equal_by a b false false true p q e = refl
equal_by a b false false false p q e = absurd (let k : a ≡ b = omega (arith, ints) in let o : true ≡ false = sym ((Decides-int_eq a b).1 k) ∙ e in cc)

pub equal_as : (a b : ℤ) → is_eq (int_cmp a b) ≡ int_eq a b
equal_as a b = equal_by a b (int_lt a b) (int_lt b a) (int_eq a b) refl refl refl

-- what the map has at a label isn't above its greatest
pub found_at_most : (b z m : ℤ) {o : Option ℤ} → o ≡ Some m → (IsSome o → is_lt (int_cmp b z) ≡ false) → z ≤ℤ b
found_at_most b z m e h = from_not_below b z (h (subst IsSome (sym e) refl))
