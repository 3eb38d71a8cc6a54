-- The characters of a line, one after the other.
use Rattle.std.proofs.Common.{◌≡◌, ℕ, ◌+◌, ◌<◌, ◌≤◌, List, [], ◌∷◌, ◌++◌, length, get_or, drop, map, sym, ap, ◌∙◌, append_assoc}
use Rattle.std.proofs.lemmas.List.{at_drop_more, drop_all, length_push, append-nil}
use Rattle.ob_inout.specs.Reading.{char_of}

next_char : (cs : List ℕ) (n x : ℕ) → (n < length cs) × (x ≡ get_or cs n x) → map char_of (drop n cs) ≡ char_of x ∷ map char_of (drop (n + 1) cs)
next_char cs n x h = at_drop_more (map char_of) cs n x h.0 ∙ ap (λ y. char_of y ∷ map char_of (drop (n + 1) cs)) (sym h.1)

pub chars_more : (items whole cs ys new : List ℕ) (x r : ℕ) → items ++ map char_of (drop (length ys) cs) ≡ whole → (length ys < length cs) × (x ≡ get_or cs (length ys) x) → r ≡ char_of x → new ≡ items ++ r ∷ []
    → new ++ map char_of (drop (length (ys ++ x ∷ [])) cs) ≡ whole
chars_more items whole cs ys new x r before here is added =
    let others : List ℕ = map char_of (drop (length ys + 1) cs) in
    ap (λ k. new ++ map char_of (drop k cs)) (length_push ys x) ∙ ap (λ n. n ++ others) added ∙ append_assoc items (r ∷ []) others ∙ ap (λ z. items ++ z ∷ others) is ∙ ap (λ m. items ++ m) (sym (next_char cs (length ys) x here)) ∙ before

pub chars_end : (items whole cs : List ℕ) (n : ℕ) → items ++ map char_of (drop n cs) ≡ whole → length cs ≤ n → items ≡ whole
chars_end items whole cs n before le = sym (append-nil items) ∙ ap (λ d. items ++ map char_of d) (sym (drop_all n cs le)) ∙ before
