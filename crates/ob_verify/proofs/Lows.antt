-- What the tests of kinds rest on.
use Rattle.std.proofs.Common.{◌≡◌, ℕ, suc, ◌+◌, ◌<◌, ◌≤◌, [], ◌∷◌, Some, length, true, false, refl, ap, ◌∙◌, subst, ⊎_elim, arith}
use Rattle.std.specs.Prelude.{slice_get, nat_lt, nat_le, if◌then◌else◌}
use Rattle.std.proofs.lemmas.Bool.{cases_lt}
use Rattle.std.proofs.lemmas.Bool.Decides.{nat_tests}
use Rattle.ob_code.specs.declared.kinds.Kind.TheVariants.{Number, UpTo, Inside, Guarded}
use Rattle.ob_mean.specs.declared.kind.TypeName.{TypeName}
use Rattle.ob_mean.specs.RecordTypes.{TypeNames, AtMost}
use Rattle.ob_code.specs.Kinds.{Kinds, NameKinds, CoversAt, CoverAll, SameAt, low, inside, in_record}

pub low_fits : (n : ℕ) → n < 2147483648 → low n ≡ UpTo n
low_fits n lt = ap (λ b. if b then UpTo n else Number) yes
  where
    yes : nat_lt n 2147483648 ≡ true
    yes = grind (arith, nat_tests, lt)

pub low_high : (n : ℕ) → 2147483648 ≤ n → low n ≡ Number
low_high n le = ap (λ b. if b then UpTo n else Number) no
  where
    no : nat_lt n 2147483648 ≡ false
    no = grind (arith, nat_tests, le)

pub inside_near : (x size n : ℕ) → n ≤ size → inside x size n ≡ Inside x size n
inside_near x size n le = ap (λ b. if b then Inside x size n else Number) yes
  where
    yes : nat_le n size ≡ true
    yes = grind (arith, nat_tests, le)

pub inside_far : (x size n : ℕ) → size < n → inside x size n ≡ Number
inside_far x size n lt = ap (λ b. if b then Inside x size n else Number) no
  where
    no : nat_le n size ≡ false
    no = grind (arith, nat_tests, lt)

pub in_record_near : (x cells n : ℕ) → n ≤ cells → in_record x cells n ≡ Guarded x cells n
in_record_near x cells n le = ap (λ b. if b then Guarded x cells n else Number) yes
  where
    yes : nat_le n cells ≡ true
    yes = grind (arith, nat_tests, le)

pub in_record_far : (x cells n : ℕ) → cells < n → in_record x cells n ≡ Number
in_record_far x cells n lt = ap (λ b. if b then Guarded x cells n else Number) no
  where
    no : nat_le n cells ≡ false
    no = grind (arith, nat_tests, lt)

-- each takes no more cells
pub all_at_most : (most : ℕ) (ts : TypeNames) → ((k : ℕ) (x : TypeName) → slice_get ts k ≡ Some x → x.cells ≤ most) → AtMost most ts
all_at_most most [] h = tt
all_at_most most (x ∷ xs) h = (h 0 x refl, all_at_most most xs (λ k y e. h (suc k) y e))

-- each covers the one at its place
pub all_covered : (es ks : Kinds) → length es ≡ length ks → ((i : ℕ) → i < length es → CoversAt es ks i) → CoverAll es ks
all_covered [] [] same h = tt
all_covered [] (k ∷ ks) same h = absurd (omega (arith, same))
all_covered (e ∷ es) [] same h = absurd (omega (arith, same))
all_covered (e ∷ es) (k ∷ ks) same h = (h 0 (omega arith) e k refl refl, all_covered es ks (omega (arith, same)) (λ i lt. h (suc i) (omega (arith, lt))))

-- each is the one at its place
pub all_same : (es ks : NameKinds) → length es ≡ length ks → ((i : ℕ) → i < length es → SameAt es ks i) → es ≡ ks
all_same [] [] same h = refl
all_same [] (k ∷ ks) same h = absurd (omega (arith, same))
all_same (e ∷ es) [] same h = absurd (omega (arith, same))
all_same (e ∷ es) (k ∷ ks) same h =
    let first = h 0 (omega arith) e k refl refl in
    let rest = all_same es ks (omega (arith, same)) (λ i lt. h (suc i) (omega (arith, lt))) in
    ap (λ x. x ∷ es) first ∙ ap (λ l. k ∷ l) rest

-- one place more
pub one_more : (P : ℕ → Type 0) (n : ℕ) → ((i : ℕ) → i < n → P i) → P n → (i : ℕ) → i < n + 1 → P i
one_more P n below at i less =
    ⊎_elim
    (λ lt. below i lt)
    (λ le. let same : n ≡ i = omega arith in subst P same at)
    (cases_lt i n)
