-- The longest gap is the only one that ends where none goes on.
use Rattle.std.proofs.Common.{◌≡◌, ℕ, Bool, true, false, eqb, ◌&&◌, List, [], ◌∷◌, length, drop, Option, Some, None, refl, sym, ap, subst, ◌∙◌, arith}
use Rattle.std.proofs.lemmas.Bool.{eqb-true}
use Rattle.std.specs.Borrow.{Bor}
use Rattle.std.specs.Option.{option_copied}
use Rattle.ob_scan.specs.Gap.{Comment, Gap, none, blank, comment, opens, is_blank, begins_blank, Stays}
use Rattle.ob_scan.proofs.Comments.{comment_end-complete}

pub gap_join : (a b c : List ℕ) → Gap a b → Gap b c → Gap a c
gap_join a _ c none h = h
gap_join _ b c (blank {text} is g) h = blank is (gap_join text b c g h)
gap_join _ b c (comment {text} {middle} is g) h = comment is (gap_join middle b c g h)

some_is : (x y : List ℕ) → Some x ≡ Some y → x ≡ y
some_is x y e = cc

-- a comment has one end
pub one_comment : (text a b : List ℕ) → Comment text a → Comment text b → a ≡ b
one_comment text a b g h = some_is a b (sym (comment_end-complete text a g) ∙ comment_end-complete text b h)

-- after a blank or a comment, the gap goes on as the gap from there does
behind_blank : (c : ℕ) (text rest : List ℕ) → is_blank c ≡ true → Gap (c ∷ text) rest → Stays rest → Gap text rest
behind_blank c text _ is none stays = subst (λ t. Gap t (c ∷ text)) (sym (stays text (blank is none))) none
behind_blank c text rest is (blank also g) stays = g
behind_blank _ _ rest is (comment first g) stays = absurd cc

behind_comment : (text middle rest : List ℕ) → Comment text middle → Gap (40 ∷ 42 ∷ text) rest → Stays rest → Gap middle rest
behind_comment text middle _ is none stays = subst (λ t. Gap t (40 ∷ 42 ∷ text)) (sym (stays middle (comment is none))) none
behind_comment text middle rest is (blank also g) stays = absurd cc
behind_comment text middle rest is (comment {middle = end} first g) stays = subst (λ t. Gap t rest) (one_comment text end middle first is) g

pub one_gap : (text a b : List ℕ) → Gap text a → Gap text b → Stays a → Stays b → a ≡ b
one_gap text _ b none h stay stays = sym (stay b h)
one_gap _ a b (blank {c} {text} is g) h stay stays = one_gap text a b g (behind_blank c text b is h stays) stay stays
one_gap _ a b (comment {text} {middle} is g) h stay stays = one_gap middle a b g (behind_comment text middle b is h stays) stay stays

-- ---- where no gap goes on

pub stays_empty : (text : List ℕ) → length text ≡ 0 → Stays text
stays_empty [] e _ none = refl
stays_empty (c ∷ text) e rest g = absurd (omega arith)

stays_plain : (c : ℕ) (text rest : List ℕ) → is_blank c ≡ false → opens (c ∷ text) ≡ false → Gap (c ∷ text) rest → rest ≡ c ∷ text
stays_plain c text _ no_blank no_comment none = refl
stays_plain c text rest no_blank no_comment (blank is g) = absurd cc
stays_plain _ _ rest no_blank no_comment (comment is g) = absurd cc

pub stays_settled : (text : List ℕ) → begins_blank text ≡ false → opens text ≡ false → Stays text
stays_settled [] no_blank no_comment _ none = refl
stays_settled (c ∷ text) no_blank no_comment rest g = stays_plain c text rest no_blank no_comment g

stays_open : (text rest : List ℕ) → ((end : List ℕ) → Comment text end → ⊥) → Gap (40 ∷ 42 ∷ text) rest → rest ≡ 40 ∷ 42 ∷ text
stays_open text _ no_end none = refl
stays_open text rest no_end (blank is g) = absurd cc
stays_open text rest no_end (comment {middle} is g) = absurd (no_end middle is)

and_true : (a b : Bool) → (a && b) ≡ true → (a ≡ true) × (b ≡ true)
and_true true true e = (refl, refl)
and_true true false e = absurd cc
and_true false b e = absurd cc

pub opened : (text : List ℕ) → opens text ≡ true → text ≡ 40 ∷ 42 ∷ drop 2 text
opened [] e = absurd cc
opened (c ∷ []) e = absurd cc
opened (c ∷ d ∷ text) e =
    let b = and_true (eqb c 40) (eqb d 42) e in
    let ec : c ≡ 40 = eqb-true c 40 b.0 in
    let ed : d ≡ 42 = eqb-true d 42 b.1 in
    cc

pub stays_stuck : (text inside : List ℕ) (end : Option (Bor (List ℕ))) → opens text ≡ true → inside ≡ drop 2 text → ((rest : List ℕ) → Comment inside rest → option_copied end ≡ Some rest) → end ≡ None → Stays text
stays_stuck text inside end opening is only absent rest g =
    let whole : text ≡ 40 ∷ 42 ∷ inside = opened text opening ∙ ap (λ t. 40 ∷ 42 ∷ t) (sym is) in
    let no_end : (r : List ℕ) → Comment inside r → ⊥ = λ r h. let e : None ≡ Some r = sym (ap option_copied absent) ∙ only r h in cc in
    stays_open inside rest no_end (subst (λ t. Gap t rest) whole g) ∙ sym whole

-- ---- one more blank or comment

pub blank_passed : (whole text rest : List ℕ) → Gap whole text → begins_blank text ≡ true → rest ≡ drop 1 text → Gap whole rest
blank_passed whole [] rest g is e = absurd cc
blank_passed whole (c ∷ text) rest g is e = subst (λ t. Gap whole t) (sym e) (gap_join whole (c ∷ text) text g (blank is none))

pub comment_passed : (whole text inside rest : List ℕ) → Gap whole text → opens text ≡ true → inside ≡ drop 2 text → Comment inside rest → Gap whole rest
comment_passed whole text inside rest g opening is h =
    let from : text ≡ 40 ∷ 42 ∷ inside = opened text opening ∙ ap (λ t. 40 ∷ 42 ∷ t) (sym is) in
    gap_join whole text rest g (subst (λ t. Gap t rest) (sym from) (comment h none))
