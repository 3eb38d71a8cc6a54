-- The function tokens_of finds the list of a text exactly where it has one.
use Rattle.std.proofs.Common.{◌≡◌, ℕ, zero, suc, ◌+◌, ◌<◌, ◌≤◌, Bool, true, false, cond, List, [], ◌∷◌, length, drop, Option, Some, None, refl, sym, ap, subst, ◌∙◌, arith}
use Rattle.std.specs.Option.{option_map}
use Rattle.ob_scan.specs.declared.place.Place.{Place}
use Rattle.ob_scan.specs.declared.token.Kind.{Kind}
use Rattle.ob_scan.specs.declared.token.Token.{Token}
use Rattle.ob_scan.specs.Gap.{Comment, ends, inner, other, Gap, none, Stays, begins_blank, opens}
use Rattle.ob_scan.specs.GapReading.{comment_end}
use Rattle.ob_scan.specs.Places.{past, start_of_text}
use Rattle.ob_scan.specs.Tokens.{Scans, done, next, Stands, Tokens}
use Rattle.ob_scan.specs.TokensOf.{Front, front_of, comment_then, gap_end, token_then, tokens_at, tokens_from, tokens_of}
use Rattle.ob_scan.proofs.Comments.{comment_end-sound, comment_end-complete}
use Rattle.ob_scan.proofs.FrontReading.{Reads, front_reads}
use Rattle.ob_scan.proofs.Gaps.{gap_join, opened, stays_settled, stays_empty, stays_stuck, blank_passed, comment_passed}
use Rattle.ob_scan.proofs.OneList.{one_list, one_token}
use Rattle.ob_scan.proofs.Shorter.{stands_shorter}
use Rattle.ob_scan.proofs.TokenLists.{token_of, first_only, none_stand}

true_not_false : (b : Bool) → b ≡ true → b ≡ false → ⊥
true_not_false b e f = let h : true ≡ false = sym e ∙ f in cc

-- ---- gaps

comment_shorter : (text rest : List ℕ) → Comment text rest → length rest < length text
comment_shorter _ rest ends = omega arith
comment_shorter _ rest (inner {text} {middle} first second) = omega (arith, comment_shorter text middle first, comment_shorter middle rest second)
comment_shorter _ rest (other {c} {text} o k h) = omega (arith, comment_shorter text rest h)

-- the longest gap, from a text to what it ends at
pub record Ends (text rest : List ℕ) : Type 0 where
  pub gap : Gap text rest
  pub stays : Stays rest
  pub no_blank : begins_blank rest ≡ false
  pub within : length rest ≤ length text

ends_here : (text : List ℕ) → begins_blank text ≡ false → Stays text → Ends text text
ends_here text e s = record { gap = none; stays = s; no_blank = e; within = omega arith }

blank_left : (text : List ℕ) → begins_blank text ≡ true → length text ≡ suc (length (drop 1 text))
blank_left [] e = absurd cc
blank_left (c ∷ text) e = refl

open_left : (text : List ℕ) → opens text ≡ true → length text ≡ suc (suc (length (drop 2 text)))
open_left text e = ap length (opened text e)

module _ (n : ℕ) (text : List ℕ) (more : (after : List ℕ) → length after ≤ n → Ends after (gap_end n after)) (fits : length text ≤ suc n) where
  behind_blank : begins_blank text ≡ true → Ends text (gap_end n (drop 1 text))
  behind_blank e =
      let left : length text ≡ suc (length (drop 1 text)) = blank_left text e in
      let h = more (drop 1 text) (omega arith) in
      record {
        gap = gap_join text (drop 1 text) (gap_end n (drop 1 text)) (blank_passed text text (drop 1 text) none e refl) h.gap;
        stays = h.stays;
        no_blank = h.no_blank;
        within = omega (arith, h.within);
      }

  comment_by : (x : Option (List ℕ)) → comment_end 0 (drop 2 text) ≡ x → begins_blank text ≡ false → opens text ≡ true → Ends text (comment_then (gap_end n) text x)
  comment_by None e no_blank opening =
      ends_here text no_blank (stays_stuck text (drop 2 text) None opening refl (λ rest h. sym e ∙ comment_end-complete (drop 2 text) rest h) refl)
  comment_by (Some rest) e no_blank opening =
      let is = comment_end-sound (drop 2 text) rest e in
      let left : length text ≡ suc (suc (length (drop 2 text))) = open_left text opening in
      let shorter : length rest < length (drop 2 text) = comment_shorter (drop 2 text) rest is in
      let h = more rest (omega arith) in
      record {
        gap = gap_join text rest (gap_end n rest) (comment_passed text text (drop 2 text) rest none opening refl is) h.gap;
        stays = h.stays;
        no_blank = h.no_blank;
        within = omega (arith, h.within);
      }

  open_by : (b : Bool) → opens text ≡ b → begins_blank text ≡ false → Ends text (cond b (comment_then (gap_end n) text (comment_end 0 (drop 2 text))) text)
  open_by true e no_blank = comment_by (comment_end 0 (drop 2 text)) refl no_blank e
  open_by false e no_blank = ends_here text no_blank (stays_settled text no_blank e)

  blank_by : (b : Bool) → begins_blank text ≡ b → Ends text (cond b (gap_end n (drop 1 text)) (cond (opens text) (comment_then (gap_end n) text (comment_end 0 (drop 2 text))) text))
  blank_by true e = behind_blank e
  blank_by false e = open_by (opens text) refl e

pub gap_ends : (n : ℕ) (text : List ℕ) → length text ≤ n → Ends text (gap_end n text)
unfolding gap_end
gap_ends zero [] fits = ends_here [] refl (stays_empty [] refl)
gap_ends zero (c ∷ text) fits = absurd (omega arith)
gap_ends (suc n) text fits = blank_by n text (gap_ends n) fits (begins_blank text) refl

-- ---- lists: the one answer, or that there is none

abbrev Lists : Place → List ℕ → Option (List Token) → Type 0
Lists p text None = (tokens : List Token) → Scans p text tokens → ⊥
Lists p text (Some tokens) = Scans p text tokens

module _ (p : Place) (text : List ℕ) where
  behind_token : (middle rest : List ℕ) (kind : Kind) → Ends text middle → opens middle ≡ false → Stands middle kind rest → (x : Option (List Token)) → Lists (past (past p text middle) middle rest) rest x
      → Lists p text (option_map (λ tokens. token_of p text middle kind rest ∷ tokens) x)
  behind_token middle rest kind e no_comment stands None h = λ tokens s.
      let first = first_only p text middle e.gap e.stays kind rest tokens stands (λ k r g. one_token middle k kind r rest g stands) s in
      h first.0 first.2
  behind_token middle rest kind e no_comment stands (Some tokens) h = next e.gap (record { no_blank = e.no_blank; no_comment = no_comment }) stands h

  module _ (others : Place → List ℕ → Option (List Token)) (n : ℕ) (more : (q : Place) (after : List ℕ) → length after < n → Lists q after (others q after)) (fits : length text ≤ n) where
    token_by : (middle : List ℕ) (x : Option Front) → Ends text middle → opens middle ≡ false → ([] ≡ middle → ⊥) → Reads (Stands middle) x → Lists p text (token_then others (past p text middle) middle x)
    token_by middle None e no_comment something h = λ tokens s. none_stand p text middle e.gap e.stays tokens something (λ k r settled g. h k r g) s
    token_by middle (Some front) e no_comment something h =
        let shorter : length front.rest < length middle = stands_shorter middle front.kind front.rest h in
        let within = e.within in
        let q = past (past p text middle) middle front.rest in
        behind_token middle front.rest front.kind e no_comment h (others q front.rest) (more q front.rest (omega arith))

    open_token_by : (c : ℕ) (cs : List ℕ) (b : Bool) → opens (c ∷ cs) ≡ b → Ends text (c ∷ cs) → Lists p text (cond b None (token_then others (past p text (c ∷ cs)) (c ∷ cs) (front_of (c ∷ cs))))
    open_token_by c cs true open_here e = λ tokens s.
        none_stand p text (c ∷ cs) e.gap e.stays tokens (λ f. cc) (λ k r settled g. true_not_false (opens (c ∷ cs)) open_here settled.no_comment) s
    open_token_by c cs false no_comment e = token_by (c ∷ cs) (front_of (c ∷ cs)) e no_comment (λ f. cc) (front_reads (c ∷ cs))

    at_reads : (middle : List ℕ) → Ends text middle → Lists p text (tokens_at others (past p text middle) middle)
    at_reads [] e = done e.gap
    at_reads (c ∷ cs) e = open_token_by c cs (opens (c ∷ cs)) refl e

from_reads : (n : ℕ) (p : Place) (text : List ℕ) → length text < n → Lists p text (tokens_from n p text)
unfolding tokens_from
from_reads zero p text fits = absurd (omega arith)
from_reads (suc n) p text fits = at_reads p text (tokens_from n) n (from_reads n) (omega arith) (gap_end (length text) text) (gap_ends (length text) text (omega arith))

of_reads : (text : List ℕ) → Lists start_of_text text (tokens_of text)
unfolding tokens_of
of_reads text = from_reads (length text + 1) start_of_text text (omega arith)

-- ---- both ways

list_by : (text : List ℕ) (x : Option (List Token)) → Lists start_of_text text x → (tokens : List Token) → x ≡ Some tokens → Tokens text tokens
list_by text None h tokens e = absurd cc
list_by text (Some found) h tokens e = subst (λ x. Lists start_of_text text x) e h

-- the list that the function finds is a list of the text
pub tokens_of-sound : (text : List ℕ) (tokens : List Token) → tokens_of text ≡ Some tokens → Tokens text tokens
tokens_of-sound text tokens e = list_by text (tokens_of text) (of_reads text) tokens e

found_by : (text : List ℕ) (x : Option (List Token)) → Lists start_of_text text x → (tokens : List Token) → Tokens text tokens → x ≡ Some tokens
found_by text None h tokens g = absurd (h tokens g)
found_by text (Some found) h tokens g = ap Some (one_list start_of_text text found tokens h g)

-- and the function finds each list of the text
pub tokens_of-complete : (text : List ℕ) (tokens : List Token) → Tokens text tokens → tokens_of text ≡ Some tokens
tokens_of-complete text tokens g = found_by text (tokens_of text) (of_reads text) tokens g

none_by : (text : List ℕ) (x : Option (List Token)) → Lists start_of_text text x → ((tokens : List Token) → Tokens text tokens → ⊥) → x ≡ None
none_by text None h absent = refl
none_by text (Some found) h absent = absurd (absent found h)

-- where a text has no list, the function finds none
pub tokens_of-none : (text : List ℕ) → ((tokens : List Token) → Tokens text tokens → ⊥) → tokens_of text ≡ None
tokens_of-none text absent = none_by text (tokens_of text) (of_reads text) absent
