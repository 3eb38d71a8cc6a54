-- A board that drops what was read.
use Rattle.std.proofs.Common.{◌≡◌, ℕ, ◌+◌, ◌-◌, ◌<◌, ◌≤◌, List, [], ◌++◌, take, drop, length, sym, ap, ◌∙◌, arith, length-append, append-nil}
use Rattle.std.proofs.lemmas.List.{take_all, length-drop, drop-append-le}
use Rattle.jk_log.specs.declared.entry.Entry.{Entry}
use Rattle.jk_board.specs.declared.posted.Posted.{Posted}
use Rattle.jk_board.specs.Posted.{held_of, Shows, Follows}
use Rattle.jk_board.proofs.Lists.{drop-drop, drop_pair}

-- three rows, of which the first ones are dropped
pub drop_three : (first second third : ℕ) (xs ys zs us vs ws : List Entry) → us ≡ drop first xs → vs ≡ drop second ys → ws ≡ drop third zs
    → first ≤ length xs → second ≤ length ys → (0 < second → us ≡ []) → (0 < third → us ++ vs ≡ [])
    → (us ++ vs) ++ ws ≡ drop (first + second + third) ((xs ++ ys) ++ zs)
drop_three first second third xs ys zs us vs ws one two three in_first in_second none none_yet =
    let front : us ++ vs ≡ drop (first + second) (xs ++ ys) =
    ap (λ l. l ++ vs) one ∙ ap (λ l. drop first xs ++ l) two ∙ drop_pair first second xs ys in_first (λ some. sym one ∙ none some) in
    ap (λ l. l ++ ws) front ∙ ap (λ l. drop (first + second) (xs ++ ys) ++ l) three
    ∙ drop_pair (first + second) third (xs ++ ys) zs (omega (arith, in_first, in_second, length-append xs ys)) (λ some. sym front ∙ none_yet some)

-- the same board in other rows, and then some entries more
pub follows_on : (place : ℕ) (entries : List Entry) (x y z : Posted) → Follows place [] x y → z.dropped ≡ y.dropped → held_of z ≡ held_of y ++ entries → Follows place entries x z
follows_on place entries x y z f same more = (
  f.0,
  f.1,
  f.2,
  same ∙ f.3,
  more ∙ ap (λ l. l ++ entries) (f.4 ∙ append-nil (drop f.0 (held_of x))),
)

-- the whole board and then the entries
pub shows_more : (place : ℕ) (seen entries : List Entry) (x y : Posted) → Shows seen x → Follows place entries x y → (y.dropped ≤ length seen) × Shows (seen ++ entries) y
shows_more place seen entries x y s f =
    let more = f.0 in
    let held : length (held_of x) ≡ length (drop x.dropped seen) = ap length (sym s.1) in
    let size : length (drop x.dropped seen) + x.dropped ≡ length seen = omega (arith, s.0, length-drop x.dropped seen) in
    let within : y.dropped ≤ length seen = omega (arith, s.0, f.1, f.3, held, size) in (
      within,
      (
        omega (arith, within, length-append seen entries),
        drop-append-le y.dropped seen entries within
            ∙ ap (λ n. drop n seen ++ entries) f.3
            ∙ ap (λ l. l ++ entries) (sym (drop-drop x.dropped more seen) ∙ ap (drop more) s.1)
            ∙ sym f.4,
      ),
    )

-- the number of all entries, where some more are dropped and these are put last
pub ended_on : (place : ℕ) (entries : List Entry) (x : Posted) (dropped end n : ℕ) (held : List Entry) → end ≡ x.end + n → n ≡ length entries
    → ((more : ℕ) × (more ≤ length (held_of x)) × (more ≤ place - x.dropped) × (dropped ≡ x.dropped + more) × (held ≡ drop more (held_of x) ++ entries)) → end ≡ dropped + length held
ended_on place entries x dropped end n held sum size f =
    let long = ap length f.4 ∙ length-append (drop f.0 (held_of x)) entries in
    let kept = length-drop f.0 (held_of x) in
    omega (arith, x.ended, sum, size, f.1, f.3, long, kept)

-- the next entries of the whole board
pub found_next : (all got : List Entry) (b : Posted) (place max : ℕ) → Shows all b → b.dropped ≤ place → got ≡ take max (drop (place - b.dropped) (held_of b)) → got ≡ take max (drop place all)
found_next all got b place max s within is =
    let e : b.dropped + (place - b.dropped) ≡ place = omega (arith, within) in
    is ∙ ap (λ l. take max (drop (place - b.dropped) l)) (sym s.1) ∙ ap (take max) (drop-drop b.dropped (place - b.dropped) all) ∙ ap (λ n. take max (drop n all)) e

-- all that is found is passed
pub all_passed : (all : List Entry) (b : Posted) (end : ℕ) → Shows all b → end ≡ b.dropped + length (held_of b) → take end all ≡ all
all_passed all b end s e =
    let held : length (held_of b) ≡ length (drop b.dropped all) = ap length (sym s.1) in
    let size : length (drop b.dropped all) + b.dropped ≡ length all = omega (arith, s.0, length-drop b.dropped all) in
    take_all end all (omega (arith, s.0, e, held, size))
