-- Paths, a segment at a time.
use Rattle.std.proofs.Common.{◌≡◌, ℕ, ◌+◌, ◌-◌, ◌<◌, ◌≤◌, Bool, true, false, not, cond, suc, List, [], ◌∷◌, ◌++◌, length, take, drop, arith, refl, sym, ap, ◌∙◌, zero, length-drop, get_or, Bor, Option, Some, None}
use Rattle.std.specs.Prelude.{nat_le, ◌&&◌, ◌||◌, ◌==◌, ◌≢◌, MatchOption}
use Rattle.std.specs.Option.{option_copied}
use Rattle.std.specs.Str.Pattern.{FindsTextPrefix}
use Rattle.std.specs.List.{slice_split, onto_first, position_or_len, list_all, list_any}
use Rattle.std.proofs.lemmas.List.{take_all, drop-drop}
use Rattle.std.proofs.lemmas.List.Splits.{slice_split_first, length-slice_split}
use Rattle.std.proofs.lemmas.Bool.Decides.{nat_tests}
use Rattle.js_shelf.specs.Paths.{is_slash, is_segment, segments, parent_of, behind}

-- where nothing passes, the list is the one part
one_part : (p : ℕ → Bool) (xs : List ℕ) → position_or_len p xs ≡ length xs → slice_split p xs ≡ xs ∷ []
one_part p [] none = refl
one_part p (x ∷ xs) none =
    elim (p x) as (λ b. cond (not b) (1 + position_or_len p xs) 0 ≡ suc (length xs) → cond b ([] ∷ slice_split p xs) (onto_first x (slice_split p xs)) ≡ (x ∷ xs) ∷ []) [
      | true ↦ λ e. absurd (omega (arith, e))
      | false ↦ λ e. ap (onto_first x) (one_part p xs (omega (arith, e)))
    ] none

-- the last segment
pub segments_end : (rest segment behind : List ℕ) (n : ℕ)
    → n ≡ position_or_len is_slash rest → n ≤ length rest → segment ≡ take n rest → behind ≡ drop n rest → length behind ≡ 0
    → segments rest ≡ segment ∷ []
segments_end rest segment behind n at within is left none =
    let whole : n ≡ length rest = omega (arith, within, length-drop n rest, ap length left, none) in
    one_part is_slash rest (sym at ∙ whole) ∙ ap (λ piece. piece ∷ []) (sym (is ∙ take_all n rest (omega (arith, whole))))

-- a segment with more after it
pub segments_more : (rest segment behind : List ℕ) (n : ℕ)
    → n ≡ position_or_len is_slash rest → segment ≡ take n rest → behind ≡ drop n rest → 0 < length behind
    → segments rest ≡ segment ∷ segments (take (length behind - 1) (drop 1 behind))
segments_more rest segment behind n at is left some =
    let within : n < length rest = omega (arith, length-drop n rest, ap length left, some) in
    let after : take (length behind - 1) (drop 1 behind) ≡ drop (n + 1) rest =
    take_all (length behind - 1) (drop 1 behind) (omega (arith, length-drop 1 behind)) ∙ ap (drop 1) left ∙ drop-drop 1 n rest in
    slice_split_first is_slash rest 0 (omega (arith, at, within))
    ∙ ap (λ k. take k rest ∷ segments (drop (k + 1) rest)) (sym at)
    ∙ ap (λ piece. piece ∷ segments (drop (n + 1) rest)) (sym is)
    ∙ ap (λ more. segment ∷ segments more) (sym after)

-- there is a first segment
pub segments_first : (rest segment behind : List ℕ) (n : ℕ)
    → n ≡ position_or_len is_slash rest → n ≤ length rest → segment ≡ take n rest → behind ≡ drop n rest
    → (more : List (List ℕ)) × (segments rest ≡ segment ∷ more)
segments_first rest segment [] n at within is left = ([], segments_end rest segment [] n at within is left refl)
segments_first rest segment (b ∷ bs) n at within is left =
    (segments (take (length (b ∷ bs) - 1) (drop 1 (b ∷ bs))), segments_more rest segment (b ∷ bs) n at is left (omega arith))

-- a text of segments, few enough and each one good
abbrev pub are_good : List ℕ → Bool
are_good path = nat_le (length (segments path)) 16 && list_all is_segment (segments path)

-- too many of them
pub too_many : (path rest : List ℕ) (count : ℕ) → count ≡ 16 → count + length (segments rest) ≡ length (segments path) → false ≡ are_good path
too_many path rest count full counted =
    let some = length-slice_split is_slash rest in
    let over : nat_le (length (segments path)) 16 ≡ false = grind (arith, nat_tests, some, full, counted) in
    sym (ap (λ b. b && list_all is_segment (segments path)) over)

-- one is bad
pub one_bad : (path rest segment : List ℕ) (more : List (List ℕ)) → segments rest ≡ segment ∷ more → false ≡ is_segment segment
    → list_all is_segment (segments path) ≡ list_all is_segment (segments rest) → false ≡ are_good path
one_bad path rest segment more is bad tested =
    let none : list_all is_segment (segments path) ≡ false =
    tested ∙ ap (list_all is_segment) is ∙ ap (λ b. b && list_all is_segment more) (sym bad) in
    sym (ap (λ b. nat_le (length (segments path)) 16 && b) none ∙ and-false (nat_le (length (segments path)) 16))
  where
    and-false : (b : Bool) → (b && false) ≡ false
    and-false true = refl
    and-false false = refl

-- the last is good
pub last_good : (path rest segment : List ℕ) (count : ℕ) → segments rest ≡ segment ∷ [] → true ≡ is_segment segment → count < 16
    → count + length (segments rest) ≡ length (segments path)
    → list_all is_segment (segments path) ≡ list_all is_segment (segments rest) → true ≡ are_good path
last_good path rest segment count is good few counted tested =
    let within : nat_le (length (segments path)) 16 ≡ true = grind (arith, nat_tests, ap length is, few, counted) in
    let all : list_all is_segment (segments path) ≡ true =
    tested ∙ ap (list_all is_segment) is ∙ ap (λ b. b && true) (sym good) in
    sym (ap (λ b. b && list_all is_segment (segments path)) within ∙ all)

-- the first is good
pub good_first : (segment : List ℕ) (more : List (List ℕ)) → true ≡ is_segment segment
    → list_all is_segment (segment ∷ more) ≡ list_all is_segment more
good_first segment more good = ap (λ b. b && list_all is_segment more) (sym good)

-- ---- parents

any_at : (bs : List ℕ) (k : ℕ) → k < length bs → get_or bs k 0 ≡ 47 → list_any is_slash bs ≡ true
any_at [] k within slash = absurd (omega (arith, within))
any_at (b ∷ bs) zero within slash = ap (λ c. c == 47 || list_any is_slash bs) slash
any_at (b ∷ bs) (suc k) within slash =
    ap (λ t. is_slash b || t) (any_at bs k (omega (arith, within)) slash) ∙ or-true (is_slash b)
  where
    or-true : (t : Bool) → (t || true) ≡ true
    or-true true = refl
    or-true false = refl

none_any : (bs : List ℕ) → ((i : ℕ) → i < length bs → get_or bs i 0 ≢ 47) → list_any is_slash bs ≡ false
none_any [] none = refl
none_any (b ∷ bs) none =
    let first : is_slash b ≡ false = grind (arith, nat_tests, none 0 (omega arith)) in
    ap (λ t. t || list_any is_slash bs) first ∙ none_any bs (λ i within. none (suc i) (omega (arith, within)))

-- what stands before the last slash
pub parent_at : (path : List ℕ) (k : ℕ) → k < length path → get_or path k 0 ≡ 47
    → ((i : ℕ) → k < i → i < length path → get_or path i 0 ≢ 47) → take k path ≡ parent_of path
parent_at [] k within slash last = absurd (omega (arith, within))
parent_at (b ∷ bs) zero within slash last =
    sym (ap (λ t. cond t (b ∷ parent_of bs) []) (none_any bs (λ i small. last (suc i) (omega arith) (omega (arith, small)))))
parent_at (b ∷ bs) (suc k) within slash last =
    let some = any_at bs k (omega (arith, within)) slash in
    ap (λ front. b ∷ front) (parent_at bs k (omega (arith, within)) slash (λ i after small. last (suc i) (omega (arith, after)) (omega (arith, small))))
    ∙ sym (ap (λ t. cond t (b ∷ parent_of bs) []) some)

-- no slash
pub parent_none : (path : List ℕ) → ((i : ℕ) → i < length path → get_or path i 0 ≢ 47) → [] ≡ parent_of path
parent_none [] none = refl
parent_none (b ∷ bs) none =
    sym (ap (λ t. cond t (b ∷ parent_of bs) []) (none_any bs (λ i small. none (suc i) (omega (arith, small)))))

-- ---- fronts

same : (b : ℕ) → (b == b) ≡ true
same b = grind (arith, nat_tests)

pub behind_some : (front rest : List ℕ) → behind front (front ++ rest) ≡ Some rest
behind_some [] rest = refl
behind_some (b ∷ front) rest = ap (λ t. cond t (behind front (front ++ rest)) None) (same b) ∙ behind_some front rest

alike : (b c : ℕ) → (b == c) ≡ true → c ≡ b
alike b c e = grind (arith, nat_tests)

pub behind_none : (front text : List ℕ) → ((rest : List ℕ) → text ≡ front ++ rest → ⊥) → behind front text ≡ None
behind_none [] text none = absurd (none text refl)
behind_none (b ∷ front) [] none = refl
behind_none (b ∷ front) (c ∷ text) none =
    elim (b == c) as (λ t. (b == c) ≡ t → cond t (behind front text) None ≡ None) [
      | true ↦ λ e. behind_none front text (λ rest is. none rest (λ i. alike b c e i ∷ is i))
      | false ↦ λ e. refl
    ] refl

-- the clause of `strip_prefix` at a text
pub behind_is : (front text : List ℕ) (r : Option (Bor (List ℕ)))
    → MatchOption r (FindsTextPrefix front text None) (λ x. (n : ℕ) × FindsTextPrefix front text (Some n) × (x.now ≡ drop n text) × (length x.now + n ≡ length text))
    → option_copied r ≡ behind front text
behind_is front text None lacks = sym (behind_none front text (λ rest is. lacks rest is))
behind_is front text (Some x) strips =
    ap (λ rest. Some rest) strips.2 ∙ sym (behind_some front (drop strips.0 text)) ∙ sym (ap (behind front) strips.1.1)

-- what follows a front, put after it, is the text
pub behind_some_is : (front text rest : List ℕ) → behind front text ≡ Some rest → text ≡ front ++ rest
behind_some_is [] text rest e = cc e
behind_some_is (b ∷ front) [] rest e = absurd (cc e)
behind_some_is (b ∷ front) (c ∷ text) rest e =
    elim (b == c) as (λ t. (b == c) ≡ t → cond t (behind front text) None ≡ Some rest → c ∷ text ≡ b ∷ (front ++ rest)) [
      | true ↦ λ t e. (let is = behind_some_is front text rest e in λ i. alike b c t i ∷ is i)
      | false ↦ λ t e. absurd (cc e)
    ] refl e
