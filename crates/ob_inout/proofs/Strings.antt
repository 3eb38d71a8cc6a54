-- A string is found between its quotes.
use Rattle.std.proofs.Common.{◌≡◌, ℕ, ◌+◌, ◌<◌, ◌≤◌, Bool, true, ◌&&◌, cond, nat_lt, List, length, take, drop, Option, Some, None, refl, sym, ap, ◌∙◌, arith}
use Rattle.std.specs.List.{prefix_len, take_while}
use Rattle.std.proofs.lemmas.List.{length-take-le, drop-drop}
use Rattle.ob_inout.specs.Reading.{begins, is_quoted, string_at}

below : (m n : ℕ) → m < n → nat_lt m n ≡ true
below m n h = search (arith, h)

by_tests : {A : Type 0} (a b d : Bool) (x : Option A) → a ≡ true → b ≡ true → d ≡ true → cond (a && (b && d)) x None ≡ x
by_tests a b d x ea eb ed = rw (ea, eb, ed) refl

behind_all : (n : ℕ) (chars : List ℕ) → drop 1 (drop n (drop 1 chars)) ≡ drop (n + 2) chars
behind_all n chars =
    let e : 1 + (n + 1) ≡ n + 2 = omega arith in
    drop-drop 1 n (drop 1 chars) ∙ drop-drop (n + 1) 1 chars ∙ ap (λ k. drop k chars) e

-- the characters that `take_while` takes, by their number
pub string_found : (size n : ℕ) (chars inside closing : List ℕ) → begins 34 chars ≡ true → inside ≡ drop 1 chars → n ≡ prefix_len is_quoted inside → n ≤ length inside → closing ≡ drop n inside → begins 34 closing ≡ true → n < size
    → string_at size chars ≡ Some (record { value = take n (drop 1 chars); rest = drop (n + 2) chars })
unfolding string_at
string_found size n chars inside closing opens is count within ends closes small =
    let text : inside ≡ drop 1 chars = is in
    let taken : take_while is_quoted (drop 1 chars) ≡ take n (drop 1 chars) = ap (λ t. take_while is_quoted t) (sym is) ∙ ap (λ k. take k inside) (sym count) ∙ ap (take n) is in
    let long : length (take_while is_quoted (drop 1 chars)) ≡ n = ap length taken ∙ length-take-le n (drop 1 chars) (omega (arith, ap length is)) in
    let end : drop (length (take_while is_quoted (drop 1 chars))) (drop 1 chars) ≡ closing = ap (λ k. drop k (drop 1 chars)) long ∙ ap (drop n) (sym is) ∙ sym ends in
    by_tests (begins 34 chars) (begins 34 (drop (length (take_while is_quoted (drop 1 chars))) (drop 1 chars))) (nat_lt (length (take_while is_quoted (drop 1 chars))) size) _
    opens (ap (begins 34) end ∙ closes) (ap (λ k. nat_lt k size) long ∙ below n size small)
    ∙ ap (λ (v : List ℕ). Some (record { value = v; rest = drop 1 (drop (length (take_while is_quoted (drop 1 chars))) (drop 1 chars)) })) taken
    ∙ ap (λ (r : List ℕ). Some (record { value = take n (drop 1 chars); rest = r })) (ap (drop 1) (ap (λ k. drop k (drop 1 chars)) long) ∙ behind_all n chars)
