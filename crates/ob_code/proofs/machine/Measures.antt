-- Numbers and names of the kinds that are known of them.
use Rattle.std.proofs.Common.{◌≡◌, ℕ, zero, suc, ◌+◌, ◌*◌, ◌<◌, ◌≤◌, ℤ, pos, negsuc, ◌+ℤ◌, List, [], ◌∷◌, ◌++◌, length, take, drop, Some, None, Bool, true, false, refl, sym, ap, ◌∙◌, subst, arith, ◌⊎◌, inl, inr, ⊎_elim}
use Rattle.std.specs.Str.{bytes_eq}
use Rattle.std.specs.Prelude.{◌&&◌, ◌||◌, nat_eq, nat_lt, nat_le, if◌then◌else◌, slice_get, slice_index_or}
use Rattle.std.specs.Int.{w32, int_wrap}
use Rattle.std.proofs.lemmas.Int.{int_wrap_fits}
use Rattle.std.proofs.lemmas.Nat.{mul-le}
use Rattle.std.proofs.lemmas.Bool.Decides.{nat_tests}
use Rattle.ob_mean.specs.Arithmetic.{wrap}
use Rattle.ob_code.specs.declared.kinds.Kind.{Kind}
use Rattle.ob_code.specs.declared.kinds.Kind.TheVariants.{Number, UpTo, Inside, Guarded, Absent}
use Rattle.ob_code.specs.declared.instr.NameKind.{NameKind}
use Rattle.ob_code.specs.declared.instr.Name.{Name}
use Rattle.ob_mean.specs.declared.kind.TypeName.{TypeName}
use Rattle.ob_code.specs.declared.instr.Length.{Length}
use Rattle.ob_code.specs.declared.instr.Length.TheVariants.{Elements, OfName}
use Rattle.ob_mean.specs.RecordTypes.{TypeNames, same_name, is_among, extends, cells_of, AtMost}
use Rattle.ob_code.specs.Machine.{Code, Config, no_name, elements}
use Rattle.ob_code.specs.Places.{top_of, under_top}
use Rattle.ob_code.specs.Steady.{Held, held, Match, AreOf}
use Rattle.ob_code.specs.Kinds.{Kinds, NameKinds, Is, IsOf, Covers, CoverAll, first, second, literal, low, inside, in_record, moved, one_of, one_inside, one_in_record, element, guarded, results_kinds}

module _ (names : ℕ → Name) where
  -- ---- one kind and another

  covered_one : (e k : Kind) (v : ℤ) → Covers e k → Is names k v → Is names e v
  covered_one Number k v c h = tt
  covered_one (UpTo most) Number v c h = absurd c
  covered_one (UpTo most) (UpTo k) (pos n) c h = omega (arith, c, h)
  covered_one (UpTo most) (UpTo k) (negsuc n) c h = absurd h
  covered_one (UpTo most) (Inside y by k) v c h = absurd c
  covered_one (UpTo most) (Guarded y cells k) v c h = absurd c
  covered_one (UpTo most) Absent v c h = absurd h
  covered_one (Inside x size most) Number v c h = absurd c
  covered_one (Inside x size most) (UpTo k) v c h = absurd c
  covered_one (Inside x size most) (Inside y by k) v c h =
      subst (λ z. Is names (Inside z size most) v) c.0
      (subst (λ z. Is names (Inside y z most) v) c.1 (farther v h))
    where
      farther : (v : ℤ) → Is names (Inside y by k) v → Is names (Inside y by most) v
      farther (pos n) h = (omega (arith, c.2, h.0), h.1)
      farther (negsuc n) h = absurd h
  covered_one (Inside x size most) (Guarded y cells k) v c h = absurd c
  covered_one (Inside x size most) Absent v c h = absurd h
  covered_one (Guarded x cells most) Number v c h = absurd c
  covered_one (Guarded x cells most) (UpTo k) v c h = absurd c
  covered_one (Guarded x cells most) (Inside y by k) v c h = absurd c
  covered_one (Guarded x cells most) (Guarded y more k) v c h = subst (λ z. Is names (Guarded z cells most) v) c.0 (fewer v h)
    where
      fewer : (v : ℤ) → Is names (Guarded y more k) v → Is names (Guarded y cells most) v
      fewer (pos n) h = (omega (arith, c.2, h.0), omega (arith, c.1, h.1), h.2)
      fewer (negsuc n) h = absurd h
  covered_one (Guarded x cells most) Absent v c h = absurd h
  covered_one Absent Number v c h = absurd c
  covered_one Absent (UpTo k) v c h = absurd c
  covered_one Absent (Inside y by k) v c h = absurd c
  covered_one Absent (Guarded y cells k) v c h = absurd c
  covered_one Absent Absent v c h = h

  pub covered : (es ks : Kinds) (below : List Held) (vs : List ℤ) → CoverAll es ks → Match (held names ks ++ below) vs → Match (held names es ++ below) vs
  covered [] [] below vs c h = h
  covered [] (k ∷ ks) below vs c h = absurd c
  covered (e ∷ es) [] below vs c h = absurd c
  covered (e ∷ es) (k ∷ ks) below [] c h = absurd h
  covered (e ∷ es) (k ∷ ks) below (v ∷ vs) c h = (covered_one e k v c.0 h.0, covered es ks below vs c.1 h.1)

  -- ---- operands that are taken

  pub dropped : (d : ℕ) (ks : Kinds) (below : List Held) (vs : List ℤ) → d ≤ length ks → Match (held names ks ++ below) vs → Match (held names (drop d ks) ++ below) (drop d vs)
  dropped zero ks below vs le h = h
  dropped (suc d) [] below vs le h = absurd (omega (arith, le))
  dropped (suc d) (k ∷ ks) below [] le h = absurd h
  dropped (suc d) (k ∷ ks) below (v ∷ vs) le h = dropped d ks below vs (omega (arith, le)) h.1

  top_is : (ks : Kinds) (below : List Held) (v : ℤ) (vs : List ℤ) → 1 ≤ length ks → Match (held names ks ++ below) (v ∷ vs) → Is names (first ks) v
  top_is [] below v vs le h = absurd (omega (arith, le))
  top_is (k ∷ ks) below v vs le h = h.0

  second_is : (ks : Kinds) (below : List Held) (w v : ℤ) (vs : List ℤ) → 2 ≤ length ks → Match (held names ks ++ below) (w ∷ (v ∷ vs)) → Is names (second ks) v
  second_is [] below w v vs le h = absurd (omega (arith, le))
  second_is (k ∷ ks) below w v vs le h = top_is ks below v vs (omega (arith, le)) h.1

  -- the same of a stack that is known
  pub of_top : (ks : Kinds) (below : List Held) (stack : List ℤ) (v : ℤ) (rest : List ℤ) → Match (held names ks ++ below) stack → stack ≡ v ∷ rest → 1 ≤ length ks → Is names (first ks) v
  of_top ks below stack v rest h e le = top_is ks below v rest le (subst (Match (held names ks ++ below)) e h)

  pub of_second : (ks : Kinds) (below : List Held) (stack : List ℤ) (v w : ℤ) (rest : List ℤ) → Match (held names ks ++ below) stack → stack ≡ w ∷ (v ∷ rest) → 2 ≤ length ks → Is names (second ks) v
  of_second ks below stack v w rest h e le = second_is ks below w v rest le (subst (Match (held names ks ++ below)) e h)

  -- the same of what lies on top, and under it
  pub of_top_of : (ks : Kinds) (below : List Held) (vs : List ℤ) → 1 ≤ length ks → Match (held names ks ++ below) vs → Is names (first ks) (top_of vs)
  of_top_of [] below vs le h = absurd (omega (arith, le))
  of_top_of (k ∷ ks) below [] le h = absurd h
  of_top_of (k ∷ ks) below (v ∷ vs) le h = h.0

  pub of_under_top : (ks : Kinds) (below : List Held) (vs : List ℤ) → 2 ≤ length ks → Match (held names ks ++ below) vs → Is names (second ks) (under_top vs)
  of_under_top [] below vs le h = absurd (omega (arith, le))
  of_under_top (k ∷ ks) below [] le h = absurd h
  of_under_top (k ∷ ks) below (v ∷ vs) le h = of_top_of ks below vs (omega (arith, le)) h.1

  -- the topmost is of another kind too
  pub top_also : (ks : Kinds) (k : Kind) (below : List Held) (vs : List ℤ) → 1 ≤ length ks → ((v : ℤ) → Is names (first ks) v → Is names k v) → Match (held names ks ++ below) vs → Match (held names (k ∷ drop 1 ks) ++ below) vs
  top_also [] k below vs le also h = absurd (omega (arith, le))
  top_also (j ∷ ks) k below [] le also h = absurd h
  top_also (j ∷ ks) k below (v ∷ vs) le also h = (also v h.0, h.1)

  pub rest_one : (ks : Kinds) (below : List Held) (stack : List ℤ) (v : ℤ) (rest : List ℤ) → Match (held names ks ++ below) stack → stack ≡ v ∷ rest → 1 ≤ length ks → Match (held names (drop 1 ks) ++ below) rest
  rest_one ks below stack v rest h e le = subst (λ s. Match (held names (drop 1 ks) ++ below) (drop 1 s)) e (dropped 1 ks below stack le h)

  pub rest_two : (ks : Kinds) (below : List Held) (stack : List ℤ) (v w : ℤ) (rest : List ℤ) → Match (held names ks ++ below) stack → stack ≡ w ∷ (v ∷ rest) → 2 ≤ length ks → Match (held names (drop 2 ks) ++ below) rest
  rest_two ks below stack v w rest h e le = subst (λ s. Match (held names (drop 2 ks) ++ below) (drop 2 s)) e (dropped 2 ks below stack le h)

  -- a result of a call on top of what its caller has
  pub result_joined : (gives : Bool) (others : ℕ → Name) (own : Kinds) (rest : List Held) (vs : List ℤ) → Match (held others (results_kinds gives) ++ (held names own ++ rest)) vs → Match (held names (results_kinds gives ++ own) ++ rest) vs
  result_joined true others own rest [] h = absurd h
  result_joined true others own rest (v ∷ vs) h = h
  result_joined false others own rest vs h = h

  -- ---- places

  pub literal_is : (v : ℤ) → Is names (literal v) v
  literal_is (pos k) = omega arith
  literal_is (negsuc k) = tt

  wraps_low : (n : ℕ) → n < 2147483648 → int_wrap w32 (pos n) ≡ pos n
  wraps_low n lt = int_wrap_fits w32 (pos n) (omega arith)

  -- a low number doesn't wrap, and of another nothing is known
  low_is : (most n : ℕ) → n ≤ most → Is names (low most) (wrap (pos n))
  low_is most n le = of (nat_lt most 2147483648) refl
    where
      few : nat_lt most 2147483648 ≡ true → n < 2147483648
      few t = grind (arith, nat_tests, le)

      of : (b : Bool) → nat_lt most 2147483648 ≡ b → Is names (if b then UpTo most else Number) (wrap (pos n))
      of true t = subst (Is names (UpTo most)) (sym (wraps_low n (few t))) le
      of false t = tt

  -- nor does one in an element
  inside_is : (x size most n : ℕ) → n + size ≤ (names x).length * size + most → (names x).length * size < 2147483648 → Is names (inside x size most) (wrap (pos n))
  inside_is x size most n le bound = of (nat_le most size) refl
    where
      few : nat_le most size ≡ true → n < 2147483648
      few t = let lies : most ≤ size = grind (arith, nat_tests) in omega (arith, le, bound, lies)

      of : (b : Bool) → nat_le most size ≡ b → Is names (if b then Inside x size most else Number) (wrap (pos n))
      of true t = subst (Is names (Inside x size most)) (sym (wraps_low n (few t))) (le, bound)
      of false t = tt

  -- nor one in a record
  in_record_is : (x cells most n : ℕ) → n ≤ most → cells ≤ (names x).cells → (names x).cells < 2147483648 → Is names (in_record x cells most) (wrap (pos n))
  in_record_is x cells most n le has bound = of (nat_le most cells) refl
    where
      few : nat_le most cells ≡ true → n < 2147483648
      few t = let lies : most ≤ cells = grind (arith, nat_tests) in omega (arith, le, has, bound, lies)

      of : (b : Bool) → nat_le most cells ≡ b → Is names (if b then Guarded x cells most else Number) (wrap (pos n))
      of true t = subst (Is names (Guarded x cells most)) (sym (wraps_low n (few t))) (le, has, bound)
      of false t = tt

  pub moved_is : (n : ℕ) (k : Kind) (v : ℤ) → Is names k v → Is names (moved n k) (wrap (v +ℤ pos n))
  moved_is n Number v h = tt
  moved_is n (UpTo most) (pos k) h = low_is (most + n) (k + n) (omega (arith, h))
  moved_is n (UpTo most) (negsuc k) h = absurd h
  moved_is n (Inside x size most) (pos k) h = inside_is x size (most + n) (k + n) (omega (arith, h.0)) h.1
  moved_is n (Inside x size most) (negsuc k) h = absurd h
  moved_is n (Guarded x cells most) (pos k) h = in_record_is x cells (most + n) (k + n) (omega (arith, h.0)) h.1 h.2
  moved_is n (Guarded x cells most) (negsuc k) h = absurd h
  moved_is n Absent v h = absurd h

  one_is : (n size most k i : ℕ) → i < n → k ≤ most → Is names (one_of n size most) (wrap (pos (k + i * size)))
  one_is zero size most k i lt le = absurd (omega (arith, lt))
  one_is (suc n) size most k i lt le =
      let far = mul-le i size n size (omega (arith, lt)) (omega arith) in
      low_is (most + n * size) (k + i * size) (omega (arith, le, far))

  one_inside_is : (n by x size most k i : ℕ) → i < n → k + size ≤ (names x).length * size + most → (names x).length * size < 2147483648 → Is names (one_inside n by x size most) (wrap (pos (k + i * by)))
  one_inside_is zero by x size most k i lt le bound = absurd (omega (arith, lt))
  one_inside_is (suc n) by x size most k i lt le bound =
      let far = mul-le i by n by (omega (arith, lt)) (omega arith) in
      inside_is x size (most + n * by) (k + i * by) (omega (arith, le, far)) bound

  one_in_record_is : (n by x cells most k i : ℕ) → i < n → k ≤ most → cells ≤ (names x).cells → (names x).cells < 2147483648 → Is names (one_in_record n by x cells most) (wrap (pos (k + i * by)))
  one_in_record_is zero by x cells most k i lt le has bound = absurd (omega (arith, lt))
  one_in_record_is (suc n) by x cells most k i lt le has bound =
      let far = mul-le i by n by (omega (arith, lt)) (omega arith) in
      in_record_is x cells (most + n * by) (k + i * by) (omega (arith, le, far)) has bound

  -- an element of a name's array
  first_inside : (x size most k i : ℕ) → i < (names x).length → k ≤ most → (names x).length * size < 2147483648 → Is names (inside x size most) (wrap (pos (k + i * size)))
  first_inside x size most k i lt le bound =
      let far = mul-le (suc i) size (names x).length size (omega (arith, lt)) (omega arith) in
      let sum : suc i * size ≡ size + i * size = grind arith in
      inside_is x size most (k + i * size) (omega (arith, le, far, sum)) bound

  -- the arrays that names stand for have the names and elements that were known
  abbrev pub IsLengthOf : Config → Length → ℕ → Type 0
  IsLengthOf c (Elements n) size = Unit {0}
  IsLengthOf c (OfName x) size = (elements c (OfName x) ≡ (names x).length) × ((names x).length * size < 2147483648)

  pub element_is : (c : Config) (n : Length) (size : ℕ) (k : Kind) (v : ℤ) (i : ℕ) → IsLengthOf c n size → i < elements c n → Is names k v → Is names (element n size k) (wrap (v +ℤ pos (i * size)))
  element_is c (Elements n) size Number v i is lt h = tt
  element_is c (Elements n) size Absent v i is lt h = absurd h
  element_is c (Elements n) size (UpTo most) (pos k) i is lt h = one_is n size most k i lt h
  element_is c (Elements n) size (UpTo most) (negsuc k) i is lt h = absurd h
  element_is c (Elements n) size (Inside x whole most) (pos k) i is lt h = one_inside_is n size x whole most k i lt h.0 h.1
  element_is c (Elements n) size (Inside x whole most) (negsuc k) i is lt h = absurd h
  element_is c (Elements n) size (Guarded x cells most) (pos k) i is lt h = one_in_record_is n size x cells most k i lt h.0 h.1 h.2
  element_is c (Elements n) size (Guarded x cells most) (negsuc k) i is lt h = absurd h
  element_is c (OfName x) size Number v i is lt h = tt
  element_is c (OfName x) size Absent v i is lt h = absurd h
  element_is c (OfName x) size (UpTo most) (pos k) i is lt h = first_inside x size most k i (let same = is.0 in omega (arith, same, lt)) h is.1
  element_is c (OfName x) size (UpTo most) (negsuc k) i is lt h = absurd h
  element_is c (OfName x) size (Inside y whole most) v i is lt h = tt
  element_is c (OfName x) size (Guarded y cells most) v i is lt h = tt

  -- a place where what a name stands for has so many cells
  pub guarded_is : (x cells : ℕ) (k : Kind) (v : ℤ) → cells ≤ (names x).cells → (names x).cells < 2147483648 → Is names k v → Is names (guarded x cells k) v
  guarded_is x cells Number v has bound h = tt
  guarded_is x cells (UpTo most) (pos k) has bound h = (h, has, bound)
  guarded_is x cells (UpTo most) (negsuc k) has bound h = absurd h
  guarded_is x cells (Inside y size most) v has bound h = tt
  guarded_is x cells (Guarded y fewer most) (pos k) has bound h = (h.0, has, bound)
  guarded_is x cells (Guarded y fewer most) (negsuc k) has bound h = absurd h
  guarded_is x cells Absent v has bound h = absurd h

-- ---- record types

either_holds : (a b : Bool) → (a || b) ≡ true → (a ≡ true) ⊎ (b ≡ true)
either_holds true b e = inl refl
either_holds false b e = inr e

second_holds : (a b : Bool) → (a && b) ≡ true → b ≡ true
second_holds true b e = e
second_holds false b e = absurd (cc)

among_few : (most : ℕ) (x : TypeName) (told : TypeNames) → AtMost most told → is_among x told ≡ true → x.cells ≤ most
among_few most x [] h e = absurd (let differ : false ≡ true = e in cc)
among_few most x (y ∷ ys) h e = ⊎_elim (λ same. as_many (second_holds (bytes_eq x.text y.text) (nat_eq x.cells y.cells) same)) (λ among. among_few most x ys h.1 among) (either_holds (same_name x y) (is_among x ys) e)
  where
    as_many : nat_eq x.cells y.cells ≡ true → x.cells ≤ most
    as_many t = let le = h.0 in grind (arith, nat_tests, le)

-- a record of which it is told that it is of this type takes its cells
pub extends_few : (most : ℕ) (told type : TypeNames) → AtMost most told → extends told type ≡ true → cells_of type ≤ most
extends_few most told [] h e = omega arith
extends_few most told (x ∷ xs) h e = among_few most x told h e

-- ---- names

module _ (code : Code) where
  pub of_length : (ks : NameKinds) (ns : List Name) → AreOf code ks ns → length ns ≡ length ks
  of_length [] [] h = refl
  of_length [] (n ∷ ns) h = absurd h
  of_length (k ∷ ks) [] h = absurd h
  of_length (k ∷ ks) (n ∷ ns) h = ap suc (of_length ks ns h.1)

  pub of_more : (ks : NameKinds) (ns : List Name) (k : NameKind) (n : Name) → AreOf code ks ns → IsOf code k n → AreOf code (ks ++ k ∷ []) (ns ++ n ∷ [])
  of_more [] [] k n h is = (is, tt)
  of_more [] (m ∷ ns) k n h is = absurd h
  of_more (j ∷ ks) [] k n h is = absurd h
  of_more (j ∷ ks) (m ∷ ns) k n h is = (h.0, of_more ks ns k n h.1 is)

  pub of_front : (d : ℕ) (ks : NameKinds) (ns : List Name) → AreOf code ks ns → AreOf code (take d ks) (take d ns)
  of_front zero ks ns h = tt
  of_front (suc d) [] [] h = tt
  of_front (suc d) [] (n ∷ ns) h = absurd h
  of_front (suc d) (k ∷ ks) [] h = absurd h
  of_front (suc d) (k ∷ ks) (n ∷ ns) h = (h.0, of_front d ks ns h.1)

  pub of_back : (d : ℕ) (ks : NameKinds) (ns : List Name) → AreOf code ks ns → AreOf code (drop d ks) (drop d ns)
  of_back zero ks ns h = h
  of_back (suc d) [] [] h = tt
  of_back (suc d) [] (n ∷ ns) h = absurd h
  of_back (suc d) (k ∷ ks) [] h = absurd h
  of_back (suc d) (k ∷ ks) (n ∷ ns) h = of_back d ks ns h.1

  -- the one at a place
  pub of_at : (ks : NameKinds) (ns : List Name) (x : ℕ) (k : NameKind) → AreOf code ks ns → slice_get ks x ≡ Some k → (x < length ns) × IsOf code k (slice_index_or ns x no_name)
  of_at [] ns x k h e = absurd (let none : None ≡ Some k = e in cc)
  of_at (j ∷ ks) [] x k h e = absurd h
  of_at (j ∷ ks) (n ∷ ns) zero k h e = let same : j ≡ k = cc in (omega arith, subst (λ i. IsOf code i n) same h.0)
  of_at (j ∷ ks) (n ∷ ns) (suc x) k h e = let r = of_at ks ns x k h.1 e in (omega (arith, r.0), r.1)

pub at_behind : (outer own : List Name) (x : ℕ) → slice_index_or (outer ++ own) (length outer + x) no_name ≡ slice_index_or own x no_name
at_behind [] own x = let e : 0 + x ≡ x = omega arith in ap (λ y. slice_index_or own y no_name) e
at_behind (n ∷ outer) own x =
    let e : suc (length outer) + x ≡ suc (length outer + x) = omega arith in
    ap (λ y. slice_index_or (n ∷ (outer ++ own)) y no_name) e ∙ at_behind outer own x

pub at_front : (own pending : List Name) (x : ℕ) → x < length own → slice_index_or (own ++ pending) x no_name ≡ slice_index_or own x no_name
at_front [] pending x lt = absurd (omega (arith, lt))
at_front (n ∷ own) pending zero lt = refl
at_front (n ∷ own) pending (suc x) lt = at_front own pending x (omega (arith, lt))

pub parted : {A : Type 0} (d : ℕ) (xs : List A) → xs ≡ take d xs ++ drop d xs
parted zero xs = refl
parted (suc d) [] = refl
parted (suc d) (x ∷ xs) = ap (λ l. x ∷ l) (parted d xs)
