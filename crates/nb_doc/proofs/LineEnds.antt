-- The lines of a text.
use Rattle.std.proofs.Common.{◌≡◌, ◌≢◌, ℕ, zero, suc, ◌+◌, ◌-◌, ◌<◌, ◌≤◌, ◌==◌, List, [], ◌∷◌, ◌++◌, length, take, drop, get_or, map, false, cond, Option, Some, None, MatchOption, refl, sym, ap, ◌∙◌, arith, lit<, append-nil, append_assoc}
use Rattle.std.proofs.lemmas.Bool.{ne_eqb}
use Rattle.std.proofs.lemmas.List.{length-append}
use Rattle.std.proofs.lemmas.Str.Pattern.{NoCharPasses-char, drop_at_char}
use Rattle.std.specs.Str.Pattern.{FindsChar, EndsAtFirstMatch}
use Rattle.serde_json.specs.Data.{Data, string}
use Rattle.nb_doc.specs.Writing.{lines_of, onto_first}

abbrev Lacks : List ℕ → Type 0
Lacks p = (i : ℕ) → i < length p → get_or p i 0 ≢ 10

lacks_rest : (b : ℕ) (p : List ℕ) → Lacks (b ∷ p) → Lacks p
lacks_rest b p h i below = h (suc i) (omega arith)

lacks_first : (b : ℕ) (p : List ℕ) → Lacks (b ∷ p) → (b == 10) ≡ false
lacks_first b p h = ne_eqb b 10 (h 0 (omega arith))

-- a line with its end, and what follows
first_line : (p q : List ℕ) → Lacks p → lines_of (p ++ 10 ∷ q) ≡ (p ++ 10 ∷ []) ∷ lines_of q
unfolding lines_of
first_line [] q h = refl
first_line (b ∷ p) q h =
    ap (λ t. cond t ((10 ∷ []) ∷ lines_of (p ++ 10 ∷ q)) (onto_first b (lines_of (p ++ 10 ∷ q)))) (lacks_first b p h) ∙ ap (onto_first b) (first_line p q (lacks_rest b p h))

-- a line without end
last_line : (b : ℕ) (p : List ℕ) → Lacks (b ∷ p) → lines_of (b ∷ p) ≡ (b ∷ p) ∷ []
unfolding lines_of
last_line b [] h = ap (λ t. cond t ((10 ∷ []) ∷ []) ((b ∷ []) ∷ [])) (lacks_first b [] h)
last_line b (a ∷ p) h =
    ap (λ t. cond t ((10 ∷ []) ∷ lines_of (a ∷ p)) (onto_first b (lines_of (a ∷ p)))) (lacks_first b (a ∷ p) h) ∙ ap (onto_first b) (last_line a p (lacks_rest b (a ∷ p) h))

only_line : (w : List ℕ) → 0 < length w → Lacks w → lines_of w ≡ w ∷ []
only_line [] some h = absurd (omega arith)
only_line (b ∷ p) some h = last_line b p h

pub no_lines : (w : List ℕ) → length w ≡ 0 → lines_of w ≡ []
unfolding lines_of
no_lines [] e = refl
no_lines (b ∷ p) e = absurd (omega arith)

same_rest : (a b : List ℕ) → a ≡ a ++ b → length b ≡ 0
same_rest a b e = omega (arith, ap length e, length-append a b)

cut_same : (j : ℕ) (w t : List ℕ) → j ≤ length w → w ≡ take j w ++ t → t ≡ drop j w
cut_same zero w t h e = sym e
cut_same (suc j) [] t h e = absurd (omega arith)
cut_same (suc j) (b ∷ w) t h e = let f : w ≡ take j w ++ t = cc in cut_same j w t (omega arith) f

more : (i b : ℕ) (w : List ℕ) → take (suc i + 1) (b ∷ w) ≡ b ∷ take (i + 1) w
more i b w = let e : suc i + 1 ≡ suc (i + 1) = omega arith in ap (λ n. take n (b ∷ w)) e

at_end : (i : ℕ) (w q : List ℕ) → drop i w ≡ 10 ∷ q → (w ≡ take i w ++ 10 ∷ q) × (take (i + 1) w ≡ take i w ++ 10 ∷ []) × (i < length w)
at_end zero w q e = (e, ap (take 1) e, omega (arith, ap length e))
at_end (suc i) [] q e = cc
at_end (suc i) (b ∷ w) q e = let r = at_end i w q e in (ap (λ l. b ∷ l) r.0, more i b w ∙ ap (λ l. b ∷ l) r.1, omega (arith, r.2))

-- a piece that ends at the first line end is the first line
pub one_line : (w x t : List ℕ) → w ≡ x ++ t → EndsAtFirstMatch (FindsChar 10) w x → lines_of w ≡ x ∷ lines_of t
one_line w x t e h = go h.0 h.1 h.2
  where
    last : (x ≡ w) → 0 < length w → ((i : ℕ) → i < length w → get_or w i 0 ≢ 10) → lines_of w ≡ x ∷ lines_of t
    last same some lacks =
        let none = no_lines t (same_rest w t (e ∙ ap (λ a. a ++ t) same)) in
        only_line w some lacks ∙ ap (λ l. l ∷ []) (sym same) ∙ ap (λ ls. x ∷ ls) (sym none)

    ended : (i : ℕ) → drop i w ≡ 10 ∷ drop (i + 1) w → x ≡ take (i + 1) w → Lacks (take i w) → lines_of w ≡ x ∷ lines_of t
    ended i split cut lacks =
        let r = at_end i w (drop (i + 1) w) split in
        let rest : t ≡ drop (i + 1) w = cut_same (i + 1) w t (omega (arith, r.2)) (e ∙ ap (λ a. a ++ t) cut) in
        ap lines_of r.0 ∙ first_line (take i w) (drop (i + 1) w) lacks ∙ ap (λ l. l ∷ lines_of (drop (i + 1) w)) (sym (cut ∙ r.1)) ∙ ap (λ q. x ∷ lines_of q) (sym rest)

    go : (o : Option (ℕ × ℕ)) → FindsChar 10 w o → MatchOption o ((x ≡ w) × (0 < length w)) (λ q. 0 < q.1 → x ≡ take q.1 w) → lines_of w ≡ x ∷ lines_of t
    go None f m = last m.0 m.1 (λ i below. NoCharPasses-char 10 w i f (lit< tt) below)
    go (Some p) f m =
        let next : p.1 ≡ p.0 + 1 = f.1.ends in
        let split : drop p.0 w ≡ 10 ∷ drop (p.0 + 1) w = drop_at_char 10 w p.0 p.1 f.1 (lit< tt) ∙ ap (λ j. 10 ∷ drop j w) next in
        let cut : x ≡ take (p.0 + 1) w = m (omega arith) ∙ ap (λ j. take j w) next in
        ended p.0 split cut (λ i below. NoCharPasses-char 10 (take p.0 w) i f.0 (lit< tt) below)

-- ---- as they are written

pub lines_step : (row now all : List Data) (line w t : List ℕ) → now ≡ row ++ string line ∷ [] → lines_of w ≡ line ∷ lines_of t → row ++ map (λ s. string s) (lines_of w) ≡ all
    → now ++ map (λ s. string s) (lines_of t) ≡ all
lines_step row now all line w t pushed first h =
    ap (λ r. r ++ map (λ s. string s) (lines_of t)) pushed ∙ append_assoc row (string line ∷ []) (map (λ s. string s) (lines_of t)) ∙ ap (λ ls. row ++ map (λ s. string s) ls) (sym first) ∙ h

pub lines_end : (row all : List Data) (w : List ℕ) → length w ≡ 0 → row ++ map (λ s. string s) (lines_of w) ≡ all → row ≡ all
lines_end row all w none h = sym (append-nil row) ∙ ap (λ ls. row ++ map (λ s. string s) ls) (sym (no_lines w none)) ∙ h
