-- Rows of values, and rows of characters.
use Rattle.std.proofs.Common.{◌≡◌, ℕ, zero, suc, ◌-◌, ◌<◌, ◌≤◌, pos, arith, length, get_or, take, drop, List, [], ◌∷◌, ap, ◌∙◌}
use Rattle.std.proofs.lemmas.List.{take_all}
use Rattle.ob_mean.specs.Values.{Value, Cell, Beside, row}
use Rattle.ob_mean.specs.Texts.{text_row}

pub row_more : (n : ℕ) (v : Value) → 0 < n → row n v ≡ Beside v (row (n - 1) v)
row_more zero v h = absurd (omega (arith, h))
row_more (suc n) v h = ap (λ k. Beside v (row k v)) (omega arith)

pub text_none : (n : ℕ) → 0 < n → text_row n [] ≡ Beside (Cell (pos 0)) (text_row (n - 1) [])
text_none zero h = absurd (omega (arith, h))
text_none (suc n) h = ap (λ k. Beside (Cell (pos 0)) (text_row k [])) (omega arith)

pub text_front : (n : ℕ) (cs : List ℕ) → 0 < n → 1 ≤ length cs → Beside (Cell (pos (get_or cs 0 0))) (text_row (n - 1) (take (length cs - 1) (drop 1 cs))) ≡ text_row n cs
text_front zero cs h g = absurd (omega (arith, h))
text_front (suc n) [] h g = absurd (omega (arith, g))
text_front (suc n) (c ∷ cs) h g =
    ap (λ k. Beside (Cell (pos c)) (text_row k (take (length (c ∷ cs) - 1) cs))) (omega arith)
    ∙ ap (λ l. Beside (Cell (pos c)) (text_row n l)) (take_all (length (c ∷ cs) - 1) cs (omega arith))
