-- Fields that are spelled alike, and fields that end with the record of a field before them.
use Rattle.std.proofs.Common.{◌≡◌, ◌<◌, ◌≤◌, ◌+◌, ◌-◌, ◌⊎◌, inl, inr, ℕ, zero, suc, Bool, true, false, ◌&&◌, List, [], ◌∷◌, ◌++◌, length, get_or, drop, nat_lt, Option, Some, None, refl, ap, sym, subst, ◌∙◌, arith, ltb-true, ltb-false}
use Rattle.std.proofs.lemmas.Bool.Decides.{Decides-eqb}
use Rattle.std.proofs.lemmas.Slice.Eq.{slice_eq-Decides}
use Rattle.std.specs.Prelude.{eqb, is_some, option_map}
use Rattle.std.specs.Cmp.Lexicographic.{pointwise}
use Rattle.std.specs.Str.{bytes_eq}
use Rattle.ob_types.specs.declared.structure.Field.{Field}
use Rattle.ob_types.specs.declared.structure.ObType.{ObType, end_of-ObType, more_of-ObType}
use Rattle.ob_types.specs.declared.structure.ObType.TheVariants.{Basic as OfBasic, Array', Open', Record}
use Rattle.ob_types.specs.declared.structure.RecordType.{RecordType, out-RecordType}
use Rattle.ob_types.specs.declared.form.Ends.{Ends}
use Rattle.ob_types.specs.Spelling.{end_in, end_at, record_spelled, Alike, AreAlike, AreFirst, AreKept, AreWithin, AreEnds, AmongAlike, EndAlike, IsAmong, first_at}
use Rattle.ob_types.specs.Types.{same, same_field, same_record, same_truth}
use Rattle.ob_types.proofs.Equations.{fields_decide}
use Rattle.ob_types.proofs.SameType.{same_true, field_own, name_own}
use Rattle.ob_types.proofs.SpellingApart.{record_apart, whole}

pub alike_long : (xs ys : List Field) → AreAlike xs ys → length xs ≡ length ys
alike_long [] [] h = refl
alike_long [] (y ∷ ys) h = absurd h
alike_long (x ∷ xs) [] h = absurd h
alike_long (x ∷ xs) (y ∷ ys) h = ap suc (alike_long xs ys h.3)

end_here : (xs : List Field) (k : ℕ) (d : Field) → k < length xs → end_at xs k ≡ end_in (get_or xs k d).of
end_here [] k d lt = absurd (omega (arith, lt))
end_here (x ∷ xs) zero d lt = refl
end_here (x ∷ xs) (suc k) d lt = end_here xs k d (omega (arith, lt))

pub end_found : (xs : List Field) (k : ℕ) (f : Field) → k < length xs → f ≡ get_or xs k f → end_at xs k ≡ end_in f.of
end_found xs k f lt e = end_here xs k f lt ∙ ap (λ x. end_in x.of) (sym e)

pub none_mapped : {X Y : Type 0} → (f : X → Y) → (o : Option X) → is_some o ≡ false → option_map f o ≡ None
none_mapped f None e = refl
none_mapped f (Some x) e = let t : true ≡ false = e in cc

alike_here : (xs ys : List Field) (k : ℕ) (d e : Field) → AreAlike xs ys → k < length xs → ((get_or xs k d).name ≡ (get_or ys k e).name) × ((get_or xs k d).exported ≡ (get_or ys k e).exported) × Alike (get_or xs k d).of (get_or ys k e).of
alike_here [] [] k d e h lt = absurd (omega (arith, lt))
alike_here [] (y ∷ ys) k d e h lt = absurd h
alike_here (x ∷ xs) [] k d e h lt = absurd h
alike_here (x ∷ xs) (y ∷ ys) zero d e h lt = (h.0, h.1, h.2)
alike_here (x ∷ xs) (y ∷ ys) (suc k) d e h lt = alike_here xs ys k d e h.3 (omega (arith, lt))

pub ends_same : (xs ys : List Field) (k : ℕ) (d e : Field) → AreAlike xs ys → k < length xs → same (get_or xs k d).of (get_or ys k e).of ≡ true → end_at xs k ≡ end_at ys k
ends_same xs ys k d e h lt s =
    end_here xs k d lt ∙ ap end_in (same_true (get_or xs k d).of (get_or ys k e).of s) ∙ sym (end_here ys k e (omega (arith, lt, alike_long xs ys h)))

-- ---- whether all fields are the same

pub all_same : (xs ys : List Field) → AreAlike xs ys → EndAlike xs ys (length xs) → true ≡ pointwise same_field xs ys
all_same [] [] h ends = refl
all_same [] (y ∷ ys) h ends = absurd h
all_same (x ∷ xs) [] h ends = absurd h
all_same (x ∷ xs) (y ∷ ys) h ends =
    let of = whole x.of y.of h.2 (ends 0 (omega arith)) in
    let one : x ≡ y = λ i. record { name = h.0 i; exported = h.1 i; of = of i } in
    sym (ap (λ b. b && pointwise same_field xs ys) (ap (same_field x) (sym one) ∙ field_own x)
    ∙ sym (all_same xs ys h.3 (λ k lt. ends (suc k) (omega (arith, lt)))))

never : (a b : Bool) → false ≡ ((a && false) && b)
never true b = refl
never false b = refl

neither : (a : Bool) → false ≡ (a && false)
neither true = refl
neither false = refl

pub refuse_at : (xs ys : List Field) (k : ℕ) (d e : Field) → k < length xs → k < length ys → same (get_or xs k d).of (get_or ys k e).of ≡ false → false ≡ pointwise same_field xs ys
refuse_at [] ys k d e lx ly s = absurd (omega (arith, lx))
refuse_at (x ∷ xs) [] k d e lx ly s = absurd (omega (arith, ly))
refuse_at (x ∷ xs) (y ∷ ys) zero d e lx ly s =
    never (bytes_eq x.name y.name && same_truth x.exported y.exported) (pointwise same_field xs ys)
    ∙ ap (λ b. ((bytes_eq x.name y.name && same_truth x.exported y.exported) && b) && pointwise same_field xs ys) (sym s)
refuse_at (x ∷ xs) (y ∷ ys) (suc k) d e lx ly s =
    neither (same_field x y) ∙ ap (λ b. same_field x y && b) (refuse_at xs ys k d e (omega (arith, lx)) (omega (arith, ly)) s)

-- ---- the ends of the fields below a number

up : (j k : ℕ) → (j < k) ⊎ (j ≡ k) → (suc j < suc k) ⊎ (suc j ≡ suc k)
up j k (inl l) = inl (omega (arith, l))
up j k (inr e) = inr (ap suc e)

below : (j k : ℕ) → j < k + 1 → (j < k) ⊎ (j ≡ k)
below zero zero lt = inr refl
below zero (suc k) lt = inl (omega arith)
below (suc j) zero lt = absurd (omega (arith, lt))
below (suc j) (suc k) lt = up j k (below j k (omega (arith, lt)))

ends_at : (xs ys : List Field) (j k : ℕ) → EndAlike xs ys k → end_at xs k ≡ end_at ys k → (j < k) ⊎ (j ≡ k) → end_at xs j ≡ end_at ys j
ends_at xs ys j k h e (inl l) = h j l
ends_at xs ys j k h e (inr m) = ap (end_at xs) m ∙ e ∙ ap (end_at ys) (sym m)

pub ends_more : (xs ys : List Field) (k : ℕ) → EndAlike xs ys k → end_at xs k ≡ end_at ys k → EndAlike xs ys (k + 1)
ends_more xs ys k h e j lt = ends_at xs ys j k h e (below j k lt)

-- ---- a field that stands for another

beyond : (xs : List ℕ) (k d : ℕ) → length xs ≤ k → get_or xs k d ≡ d
beyond [] k d le = refl
beyond (x ∷ xs) zero d le = absurd (omega (arith, le))
beyond (x ∷ xs) (suc k) d le = beyond xs k d (omega (arith, le))

stands_by : (firsts : List ℕ) (fields : List Field) (k : ℕ) (b : Bool) → nat_lt k (length firsts) ≡ b → AreFirst firsts fields → end_at fields (first_at firsts k) ≡ end_at fields k
stands_by firsts fields k true e h = h k (ltb-true k (length firsts) e)
stands_by firsts fields k false e h =
    let own : k - 0 ≡ k = omega arith in
    ap (λ b. end_at fields (k - b)) (beyond firsts k 0 (ltb-false k (length firsts) e)) ∙ ap (end_at fields) own

pub stands : (firsts : List ℕ) (fields : List Field) (k : ℕ) → AreFirst firsts fields → end_at fields (first_at firsts k) ≡ end_at fields k
stands firsts fields k h = stands_by firsts fields k (nat_lt k (length firsts)) refl h

-- ---- fields that are kept

none_alike : (a b : ObType) → Alike a b → end_in a ≡ None → end_in b ≡ None
none_alike (OfBasic b) (OfBasic c) h e = refl
none_alike (OfBasic b) (Array' m q (more_of-ObType y end_of-ObType)) h e = absurd h
none_alike (OfBasic b) (Open' q (more_of-ObType y end_of-ObType)) h e = absurd h
none_alike (OfBasic b) (Record y) h e = absurd h
none_alike (Array' n p (more_of-ObType x end_of-ObType)) (OfBasic c) h e = absurd h
none_alike (Array' n p (more_of-ObType x end_of-ObType)) (Array' m q (more_of-ObType y end_of-ObType)) h e = none_alike x y h.1 e
none_alike (Array' n p (more_of-ObType x end_of-ObType)) (Open' q (more_of-ObType y end_of-ObType)) h e = absurd h
none_alike (Array' n p (more_of-ObType x end_of-ObType)) (Record y) h e = absurd h
none_alike (Open' p (more_of-ObType x end_of-ObType)) (OfBasic c) h e = absurd h
none_alike (Open' p (more_of-ObType x end_of-ObType)) (Array' m q (more_of-ObType y end_of-ObType)) h e = absurd h
none_alike (Open' p (more_of-ObType x end_of-ObType)) (Open' q (more_of-ObType y end_of-ObType)) h e = none_alike x y h e
none_alike (Open' p (more_of-ObType x end_of-ObType)) (Record y) h e = absurd h
none_alike (Record x) (OfBasic c) h e = absurd h
none_alike (Record x) (Array' m q (more_of-ObType y end_of-ObType)) h e = absurd h
none_alike (Record x) (Open' q (more_of-ObType y end_of-ObType)) h e = absurd h
none_alike (Record x) (Record y) h e = cc

none_at : (xs ys : List Field) (k : ℕ) → AreAlike xs ys → end_at xs k ≡ None → end_at ys k ≡ None
none_at [] [] k h e = refl
none_at [] (y ∷ ys) k h e = absurd h
none_at (x ∷ xs) [] k h e = absurd h
none_at (x ∷ xs) (y ∷ ys) zero h e = none_alike x.of y.of h.2 e
none_at (x ∷ xs) (y ∷ ys) (suc k) h e = none_at xs ys k h.3 e

end_kept : (firsts kept : List ℕ) (xs ys : List Field) (k : ℕ) → AreAlike xs ys → AreFirst firsts xs → AreFirst firsts ys → AmongAlike kept xs ys → EndAlike xs ys k → (end_at xs k ≡ None) ⊎ (first_at firsts k < k) ⊎ IsAmong k kept → end_at xs k ≡ end_at ys k
end_kept firsts kept xs ys k h fx fy among ends (inl none) = none ∙ sym (none_at xs ys k h none)
end_kept firsts kept xs ys k h fx fy among ends (inr (inl lower)) = sym (stands firsts xs k fx) ∙ ends (first_at firsts k) lower ∙ stands firsts ys k fy
end_kept firsts kept xs ys k h fx fy among ends (inr (inr is)) = among k is

ends_kept : (firsts kept : List ℕ) (xs ys : List Field) (n : ℕ) → AreAlike xs ys → AreFirst firsts xs → AreFirst firsts ys → AreKept n kept firsts xs → AmongAlike kept xs ys → EndAlike xs ys n
ends_kept firsts kept xs ys zero h fx fy all among k lt = absurd (omega (arith, lt))
ends_kept firsts kept xs ys (suc n) h fx fy all among k lt =
    let lower = ends_kept firsts kept xs ys n h fx fy (λ j l. all j (omega (arith, l))) among in
    ends_at xs ys k n lower (end_kept firsts kept xs ys n h fx fy among lower (all n (omega arith))) (below k n (omega (arith, lt)))

-- where both have the same fields that stand for others, those that are kept are enough
pub enough : (left right : Ends) (firsts others kept : List ℕ) (xs ys : List Field) → AreAlike xs ys → AreEnds left xs → AreEnds right ys → firsts ≡ left.backs.items → others ≡ right.backs.items → pointwise eqb firsts others ≡ true → kept ≡ left.kept.items → AmongAlike kept xs ys → EndAlike xs ys (length xs)
enough left right firsts others kept xs ys h l r f g e k among =
    let same_firsts : firsts ≡ others = (slice_eq-Decides Decides-eqb firsts others (pointwise eqb firsts others) refl).0 e in
    ends_kept left.backs.items left.kept.items xs ys (length xs) h l.0 (subst (λ n. AreFirst n ys) (sym g ∙ sym same_firsts ∙ f) r.0) l.1 (subst (λ n. AmongAlike n xs ys) k among)

pub among_at : (kept : List ℕ) (i : ℕ) → i < length kept → IsAmong (get_or kept i 0) kept
among_at [] i lt = absurd (omega (arith, lt))
among_at (n ∷ ns) zero lt = inl refl
among_at (n ∷ ns) (suc i) lt = inr (among_at ns i (omega (arith, lt)))

among_drop : (kept : List ℕ) (i k : ℕ) → i < length kept → IsAmong k (drop i kept) → (k ≡ get_or kept i 0) ⊎ IsAmong k (drop (suc i) kept)
among_drop [] i k lt h = absurd (omega (arith, lt))
among_drop (n ∷ ns) zero k lt h = h
among_drop (n ∷ ns) (suc i) k lt h = among_drop ns i k (omega (arith, lt)) h

one_less : (kept : List ℕ) (i k : ℕ) (xs ys : List Field) → end_at xs (get_or kept i 0) ≡ end_at ys (get_or kept i 0) → (k ≡ get_or kept i 0) ⊎ IsAmong k (drop (suc i) kept) → (end_at xs k ≡ end_at ys k) ⊎ IsAmong k (drop (i + 1) kept)
one_less kept i k xs ys e (inl is) = inl (ap (end_at xs) is ∙ e ∙ ap (end_at ys) (sym is))
one_less kept i k xs ys e (inr h) = let m : suc i ≡ i + 1 = omega arith in inr (subst (λ n. IsAmong k (drop n kept)) m h)

-- one of the fields that are kept less to look at
pub looked_at : (kept : List ℕ) (i k : ℕ) (xs ys : List Field) → i < length kept → end_at xs (get_or kept i 0) ≡ end_at ys (get_or kept i 0) → (end_at xs k ≡ end_at ys k) ⊎ IsAmong k (drop i kept) → (end_at xs k ≡ end_at ys k) ⊎ IsAmong k (drop (i + 1) kept)
looked_at kept i k xs ys lt e (inl done) = inl done
looked_at kept i k xs ys lt e (inr h) = one_less kept i k xs ys e (among_drop kept i k lt h)

none_left : (kept : List ℕ) (i k : ℕ) → length kept ≤ i → IsAmong k (drop i kept) → ⊥
none_left [] zero k le h = h
none_left [] (suc i) k le h = h
none_left (n ∷ ns) zero k le h = absurd (omega (arith, le))
none_left (n ∷ ns) (suc i) k le h = none_left ns i k (omega (arith, le)) h

pub all_looked : (kept : List ℕ) (i k : ℕ) (xs ys : List Field) → length kept ≤ i → (end_at xs k ≡ end_at ys k) ⊎ IsAmong k (drop i kept) → end_at xs k ≡ end_at ys k
all_looked kept i k xs ys le (inl done) = done
all_looked kept i k xs ys le (inr h) = absurd (none_left kept i k le h)

-- ---- one number kept more

among_front : (xs : List ℕ) (x k : ℕ) → IsAmong k xs → IsAmong k (xs ++ x ∷ [])
among_front [] x k h = absurd h
among_front (y ∷ xs) x k (inl e) = inl e
among_front (y ∷ xs) x k (inr h) = inr (among_front xs x k h)

among_last : (xs : List ℕ) (x : ℕ) → IsAmong x (xs ++ x ∷ [])
among_last [] x = inl refl
among_last (y ∷ xs) x = inr (among_last xs x)

kept_front : (kept firsts : List ℕ) (number k : ℕ) (fields : List Field) → (end_at fields k ≡ None) ⊎ (first_at firsts k < k) ⊎ IsAmong k kept → (end_at fields k ≡ None) ⊎ (first_at firsts k < k) ⊎ IsAmong k (kept ++ number ∷ [])
kept_front kept firsts number k fields (inl e) = inl e
kept_front kept firsts number k fields (inr (inl l)) = inr (inl l)
kept_front kept firsts number k fields (inr (inr h)) = inr (inr (among_front kept number k h))

kept_at : (kept firsts : List ℕ) (number k : ℕ) (fields : List Field) → AreKept number kept firsts fields → (k < number) ⊎ (k ≡ number) → (end_at fields k ≡ None) ⊎ (first_at firsts k < k) ⊎ IsAmong k (kept ++ number ∷ [])
kept_at kept firsts number k fields h (inl l) = kept_front kept firsts number k fields (h k l)
kept_at kept firsts number k fields h (inr e) = inr (inr (subst (λ n. IsAmong n (kept ++ number ∷ [])) (sym e) (among_last kept number)))

pub kept_more : (kept firsts : List ℕ) (number : ℕ) (fields : List Field) → AreKept number kept firsts fields → AreKept (number + 1) (kept ++ number ∷ []) firsts fields
kept_more kept firsts number fields h k lt = kept_at kept firsts number k fields h (below k number lt)

pub within_more : (kept : List ℕ) (number : ℕ) (fields : List Field) → AreWithin kept fields → number < length fields → AreWithin (kept ++ number ∷ []) fields
within_more [] number fields h lt k (inl e) = omega (arith, e, lt)
within_more [] number fields h lt k (inr never_there) = absurd never_there
within_more (x ∷ kept) number fields h lt k (inl e) = h k (inl e)
within_more (x ∷ kept) number fields h lt k (inr more) = within_more kept number fields (λ j is. h j (inr is)) lt k more

passed_at : (kept firsts : List ℕ) (number k : ℕ) (fields : List Field) → AreKept number kept firsts fields → (end_at fields number ≡ None) ⊎ (first_at firsts number < number) → (k < number) ⊎ (k ≡ number) → (end_at fields k ≡ None) ⊎ (first_at firsts k < k) ⊎ IsAmong k kept
passed_at kept firsts number k fields h n (inl l) = h k l
passed_at kept firsts number k fields h (inl none) (inr e) = inl (ap (end_at fields) e ∙ none)
passed_at kept firsts number k fields h (inr lower) (inr e) = inr (inl (subst (λ j. first_at firsts j < j) (sym e) lower))

pub passed_more : (kept firsts : List ℕ) (number : ℕ) (fields : List Field) → AreKept number kept firsts fields → (end_at fields number ≡ None) ⊎ (first_at firsts number < number) → AreKept (number + 1) kept firsts fields
passed_more kept firsts number fields h n k lt = passed_at kept firsts number k fields h n (below k number lt)

-- ---- one number more

get_front : (xs : List ℕ) (x k d : ℕ) → k < length xs → get_or (xs ++ x ∷ []) k d ≡ get_or xs k d
get_front [] x k d lt = absurd (omega (arith, lt))
get_front (y ∷ xs) x zero d lt = refl
get_front (y ∷ xs) x (suc k) d lt = get_front xs x k d (omega (arith, lt))

get_last : (xs : List ℕ) (x d : ℕ) → get_or (xs ++ x ∷ []) (length xs) d ≡ x
get_last [] x d = refl
get_last (y ∷ xs) x d = get_last xs x d

pub one_longer : (xs : List ℕ) (x : ℕ) → length (xs ++ x ∷ []) ≡ length xs + 1
one_longer [] x = omega arith
one_longer (y ∷ xs) x = let e = one_longer xs x in omega (arith, e)

back_at : (backs : List ℕ) (back k : ℕ) (fields : List Field) → AreFirst backs fields → end_at fields (length backs - back) ≡ end_at fields (length backs) → (k < length backs) ⊎ (k ≡ length backs) → end_at fields (first_at (backs ++ back ∷ []) k) ≡ end_at fields k
back_at backs back k fields h e (inl l) = ap (λ b. end_at fields (k - b)) (get_front backs back k 0 l) ∙ h k l
back_at backs back k fields h e (inr m) =
    subst (λ j. end_at fields (first_at (backs ++ back ∷ []) j) ≡ end_at fields j) (sym m)
    (ap (λ b. end_at fields (length backs - b)) (get_last backs back 0) ∙ e)

pub backs_more : (backs : List ℕ) (back : ℕ) (fields : List Field) → AreFirst backs fields → end_at fields (length backs - back) ≡ end_at fields (length backs) → AreFirst (backs ++ back ∷ []) fields
backs_more backs back fields h e k lt = back_at backs back k fields h e (below k (length backs) (omega (arith, lt, one_longer backs back)))

-- ---- records that are the same

abbrev spelled_in : ObType → List ℕ
spelled_in (OfBasic b) = []
spelled_in (Array' n p e) = []
spelled_in (Open' p e) = []
spelled_in (Record r) = record_spelled (out-RecordType r).name (out-RecordType r).fields

refused : (b : Bool) → (b ≡ true → ⊥) → false ≡ b
refused false f = refl
refused true f = absurd (f refl)

clash : (b : Bool) → b ≡ false → b ≡ true → ⊥
clash b e f = let k : false ≡ true = sym e ∙ f in cc

pub spelled_unequal : (l r : RecordType) (w v : List ℕ) → w ≡ spelled_in (Record l) → v ≡ spelled_in (Record r) → pointwise eqb w v ≡ false → false ≡ same (Record l) (Record r)
spelled_unequal l r w v e f u = refused (same (Record l) (Record r)) (λ h.
    clash (pointwise eqb w v) u ((slice_eq-Decides Decides-eqb w v (pointwise eqb w v) refl).1 (e ∙ ap spelled_in (same_true (Record l) (Record r) h) ∙ sym f)))

pub spelled_equal : (l r : RecordType) (w v : List ℕ) → w ≡ spelled_in (Record l) → v ≡ spelled_in (Record r) → pointwise eqb w v ≡ true → ((out-RecordType l).name ≡ (out-RecordType r).name) × AreAlike (out-RecordType l).fields (out-RecordType r).fields
spelled_equal l r w v e f u =
    record_apart (out-RecordType l).name (out-RecordType r).name (out-RecordType l).fields (out-RecordType r).fields
    (sym e ∙ (slice_eq-Decides Decides-eqb w v (pointwise eqb w v) refl).0 u ∙ f)

pub fields_same : (l r : RecordType) → (out-RecordType l).name ≡ (out-RecordType r).name → pointwise same_field (out-RecordType l).fields (out-RecordType r).fields ≡ same (Record l) (Record r)
fields_same l r e = fields_decide l r (ap (same_record (out-RecordType l).name) (sym e) ∙ name_own (out-RecordType l).name)

abbrev record_in : RecordType → ObType → RecordType
record_in r (OfBasic b) = r
record_in r (Array' n p e) = r
record_in r (Open' p e) = r
record_in r (Record s) = s

pub records_same : (r s : RecordType) → same (Record r) (Record s) ≡ true → Some r ≡ Some s
records_same r s h = ap (λ t. Some (record_in r t)) (same_true (Record r) (Record s) h)
