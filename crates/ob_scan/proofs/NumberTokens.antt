-- A number is read exactly.
use Rattle.std.proofs.Common.{◌≡◌, ℕ, ◌+◌, ◌*◌, ◌<◌, ◌≤◌, ◌^◌, Bool, true, false, List, [], ◌∷◌, length, get_or, drop, Result, Ok, Err, ℤ, pos, sym, ap, subst, ◌∙◌, arith}
use Rattle.std.specs.Borrow.{Bor}
use Rattle.std.specs.List.{list_all}
use Rattle.std.specs.Char.{is_ascii_digit}
use Rattle.std.proofs.lemmas.List.{drop_more, drop_all}
use Rattle.ob_base.specs.declared.fault.Code.{Code}
use Rattle.ob_base.specs.declared.fault.Refused.{Refused}
use Rattle.ob_base.specs.declared.fault.Refused.TheVariants as refused
use Rattle.ob_scan.specs.declared.found.Found.{Found}
use Rattle.ob_scan.specs.declared.class.Alphabet.TheVariants as alphabets
use Rattle.ob_scan.specs.declared.class.Suffix.{Suffix}
use Rattle.ob_scan.specs.declared.class.Suffix.TheVariants as suffixes
use Rattle.ob_scan.specs.declared.token.Kind.{Kind}
use Rattle.ob_scan.specs.declared.token.Kind.TheVariants as kinds
use Rattle.ob_scan.specs.Exactly.{Exactly, IsFault, IsScanCode}
use Rattle.ob_scan.specs.Tokens.{IsRun, Number, NumberKind, NumberEnds, has, suffix_of, one_period, value_from, value_of, base_of, digit_of, wrapped}
use Rattle.ob_scan.proofs.Runs.{same_run}
use Rattle.ob_scan.proofs.WordTokens.{refuses}

-- ---- values

pub value_more : (base total : ℕ) (run : List ℕ) (i x : ℕ) → i < length run → x ≡ get_or run i x → value_from base total (drop i run) ≡ value_from base (base * total + digit_of x) (drop (i + 1) run)
value_more base total run i x lt is = ap (value_from base total) (drop_more run i x lt ∙ ap (λ y. y ∷ drop (i + 1) run) (sym is))

pub value_done : (base total : ℕ) (run : List ℕ) (i : ℕ) → length run ≤ i → value_from base total (drop i run) ≡ total
value_done base total run i le = ap (value_from base total) (drop_all i run le)

grows : (hexadecimal : Bool) (total digit : ℕ) → total ≤ base_of hexadecimal * total + digit
grows true total digit = omega arith
grows false total digit = omega arith

pub value_grows : (hexadecimal : Bool) (total : ℕ) (digits : List ℕ) → total ≤ value_from (base_of hexadecimal) total digits
value_grows hexadecimal total [] = omega arith
value_grows hexadecimal total (c ∷ cs) = omega (arith, grows hexadecimal total (digit_of c), value_grows hexadecimal (base_of hexadecimal * total + digit_of c) cs)

pub value_over : (hexadecimal : Bool) (total t d bound all : ℕ) (run : List ℕ) (i : ℕ) → i < length run → d ≡ digit_of (get_or run i 0) → t ≡ base_of hexadecimal * total + d → bound ≤ t → value_from (base_of hexadecimal) total (drop i run) ≡ all → bound ≤ all
value_over hexadecimal total t d bound all run i lt digit raised above same =
    let more : value_from (base_of hexadecimal) total (drop i run) ≡ value_from (base_of hexadecimal) (base_of hexadecimal * total + digit_of (get_or run i 0)) (drop (i + 1) run) = ap (value_from (base_of hexadecimal) total) (drop_more run i 0 lt) in
    let next : base_of hexadecimal * total + digit_of (get_or run i 0) ≡ t = ap (λ z. base_of hexadecimal * total + z) (sym digit) ∙ sym raised in
    let whole : value_from (base_of hexadecimal) t (drop (i + 1) run) ≡ all = ap (λ z. value_from (base_of hexadecimal) z (drop (i + 1) run)) (sym next) ∙ sym more ∙ same in
    omega (arith, whole, value_grows hexadecimal t (drop (i + 1) run))

-- ---- what the digits mean

module _ (run middle : List ℕ) where
  pub decimal_found : (number : ℕ) (rest : Bor (List ℕ)) → rest.now ≡ middle → one_period middle ≡ false → list_all is_ascii_digit run ≡ true → number ≡ value_of 10 run → number < 2 ^ 31
      → Exactly (NumberEnds suffixes.Plain run middle) (Ok (record { kind = kinds.Integer (pos number); rest = rest }))
  decimal_found number rest is no_period digits same small = (
    ((ap (λ n. kinds.Integer (pos n)) same, is, digits, subst (λ n. n < 2 ^ 31) same small), ap one_period is ∙ no_period),
    λ k r h. (h.0.0 ∙ ap (λ n. kinds.Integer (pos n)) (sym same), h.0.1 ∙ sym is),
  )

  pub hexadecimal_found : (number : ℕ) (taken : ℤ) (rest : Bor (List ℕ)) → rest.now ≡ drop 1 middle → one_period rest.now ≡ false → number ≡ value_of 16 run → number < 2 ^ 32 → taken ≡ wrapped number
      → Exactly (NumberEnds suffixes.Hexadecimal run middle) (Ok (record { kind = kinds.Integer taken; rest = rest }))
  hexadecimal_found number taken rest is no_period same small e =
      let whole : taken ≡ wrapped (value_of 16 run) = e ∙ ap wrapped same in (
        ((ap kinds.Integer whole, is, subst (λ n. n < 2 ^ 32) same small), no_period),
        λ k r h. (h.0.0 ∙ ap kinds.Integer (sym whole), h.0.1 ∙ sym is),
      )

  pub character_found : (number : ℕ) (chars : List ℕ) (rest : Bor (List ℕ)) → rest.now ≡ drop 1 middle → one_period rest.now ≡ false → number ≡ value_of 16 run → number ≤ 255 → chars ≡ number ∷ []
      → Exactly (NumberEnds suffixes.Character run middle) (Ok (record { kind = kinds.Text chars; rest = rest }))
  character_found number chars rest is no_period same small e =
      let whole : chars ≡ value_of 16 run ∷ [] = e ∙ ap (λ n. n ∷ []) same in
      let below : number < 256 = omega arith in (
        ((ap kinds.Text whole, is, subst (λ n. n < 256) same below), no_period),
        λ k r h. (h.0.0 ∙ ap kinds.Text (sym whole), h.0.1 ∙ sym is),
      )

  true_not_false : (b : Bool) → b ≡ true → b ≡ false → ⊥
  true_not_false b e f = let h : true ≡ false = sym e ∙ f in cc

  pub period_refused : (suffix : Suffix) (end : List ℕ) (code : Code) (r : Refused) → ((kind : Kind) (rest : List ℕ) → NumberKind suffix run middle kind rest → rest ≡ end) → one_period end ≡ true → IsFault code r → IsScanCode code → Exactly (NumberEnds suffix run middle) (Err r)
  period_refused suffix end code r ends period fault ok =
      refuses (NumberEnds suffix run middle) code r fault ok (λ k t h. true_not_false (one_period end) period (ap one_period (sym (ends k t h.0)) ∙ h.1))

  pub letters_refused : (code : Code) (r : Refused) → list_all is_ascii_digit run ≡ false → IsFault code r → IsScanCode code → Exactly (NumberEnds suffixes.Plain run middle) (Err r)
  letters_refused code r digits fault ok =
      refuses (NumberEnds suffixes.Plain run middle) code r fault ok (λ k t h. true_not_false (list_all is_ascii_digit run) h.0.2 digits)

  pub large_refused : (code : Code) (r : Refused) → 2 ^ 31 ≤ value_of 10 run → IsFault code r → IsScanCode code → Exactly (NumberEnds suffixes.Plain run middle) (Err r)
  large_refused code r large fault ok = refuses (NumberEnds suffixes.Plain run middle) code r fault ok (λ k t h. omega (arith, h.0.3))

  pub large_hexadecimal_refused : (code : Code) (r : Refused) → 2 ^ 32 ≤ value_of 16 run → IsFault code r → IsScanCode code → Exactly (NumberEnds suffixes.Hexadecimal run middle) (Err r)
  large_hexadecimal_refused code r large fault ok = refuses (NumberEnds suffixes.Hexadecimal run middle) code r fault ok (λ k t h. omega (arith, h.0.2))

  pub large_character_refused : (code : Code) (r : Refused) → 256 ≤ value_of 16 run → IsFault code r → IsScanCode code → Exactly (NumberEnds suffixes.Character run middle) (Err r)
  large_character_refused code r large fault ok = refuses (NumberEnds suffixes.Character run middle) code r fault ok (λ k t h. omega (arith, h.0.2))

-- ---- a number is its run and what that means

pub exactly_as : (p q : Kind → List ℕ → Type 0) (x : Result Found Refused) → ((kind : Kind) (rest : List ℕ) → p kind rest → q kind rest) → ((kind : Kind) (rest : List ℕ) → q kind rest → p kind rest) → Exactly p x → Exactly q x
exactly_as p q (Ok found) there back h = (there found.kind found.rest.now h.0, λ k r g. h.1 k r (back k r g))
exactly_as p q (Err refused.Memory) there back h = tt
exactly_as p q (Err (refused.Fault fault)) there back h = (h.0, λ k r g. h.1 k r (back k r g))

pub number_back : (text run middle : List ℕ) (suffix : Suffix) (k : Kind) (r : List ℕ) → IsRun (has alphabets.Number) run text middle → suffix_of middle ≡ suffix → Number text k r → NumberEnds suffix run middle k r
number_back text run middle suffix k r is e g =
    let same = same_run (has alphabets.Number) text g.run run g.middle middle g.longest is in
    let one : NumberEnds (suffix_of middle) g.run middle k r = subst (λ m. NumberEnds (suffix_of m) g.run m k r) same.1 g.ends in
    subst (λ s. NumberEnds s run middle k r) e (subst (λ a. NumberEnds (suffix_of middle) a middle k r) same.0 one)

pub number_as : (text run middle : List ℕ) (suffix : Suffix) (x : Result Found Refused) → IsRun (has alphabets.Number) run text middle → suffix_of middle ≡ suffix → Exactly (NumberEnds suffix run middle) x → Exactly (Number text) x
number_as text run middle suffix x is e h =
    exactly_as (NumberEnds suffix run middle) (Number text) x
    (λ k r g. record { run = run; middle = middle; longest = is; ends = subst (λ s. NumberEnds s run middle k r) (sym e) g })
    (λ k r g. number_back text run middle suffix k r is e g) h
