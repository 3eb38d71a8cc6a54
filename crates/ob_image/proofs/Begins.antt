-- The cells of variables as they begin, one variable after another.
use Rattle.std.proofs.Common.{◌≡◌, ℕ, zero, suc, ◌+◌, ◌<◌, ◌≤◌, ℤ, pos, List, [], ◌∷◌, ◌++◌, length, get_or, take, replicate, refl, sym, ap, ◌∙◌, append_assoc, append-nil, arith}
use Rattle.std.proofs.lemmas.List.{take_all, take_more}
use Rattle.ob_mean.specs.declared.shape.Shape.{Shape}
use Rattle.ob_mean.specs.declared.module.ModuleVariable.{ModuleVariable}
use Rattle.ob_mean.specs.Values.{image, size}
use Rattle.ob_mean.specs.Shapes.{zero_of, opening_value, opening_row}
use Rattle.ob_mean.specs.Texts.{text_row}
use Rattle.ob_code.specs.Machine.{text_cells}
use Rattle.ob_gen.proofs.machine.Zeros.{image-text_row, image-zeros, length-text_cells}

-- ---- zeros

-- each cell of a variable is 0
pub zeros_image : (t : Shape) → image (zero_of t) ≡ replicate (size (zero_of t)) (pos 0)
zeros_image t =
    let all : size (zero_of t) + 0 ≡ size (zero_of t) = omega arith in
    sym (append-nil (image (zero_of t))) ∙ image-zeros (t ∷ []) ∙ ap (λ k. replicate k (pos 0)) all

-- one cell more
pub zeros_more : (n : ℕ) (z : ℤ) → replicate (n + 1) z ≡ replicate n z ++ z ∷ []
zeros_more zero z = let one : 0 + 1 ≡ 1 = omega arith in ap (λ k. replicate k z) one
zeros_more (suc n) z = let more : suc n + 1 ≡ suc (n + 1) = omega arith in ap (λ k. replicate k z) more ∙ ap (λ l. z ∷ l) (zeros_more n z)

-- ---- texts

-- the characters of a text, and 0X after them
pub text_character : (n : ℕ) (cs : List ℕ) (i : ℕ) (z : ℤ) → i < n → i < length cs → get_or (text_cells n cs) i z ≡ pos (get_or cs i 0)
text_character zero cs i z lt inside = absurd (omega (arith, lt))
text_character (suc n) [] i z lt inside = absurd (omega (arith, inside))
text_character (suc n) (c ∷ cs) zero z lt inside = refl
text_character (suc n) (c ∷ cs) (suc i) z lt inside = text_character n cs i z (omega (arith, lt)) (omega (arith, inside))

pub text_zero : (n : ℕ) (cs : List ℕ) (i : ℕ) (z : ℤ) → i < n → length cs ≤ i → get_or (text_cells n cs) i z ≡ pos 0
text_zero zero cs i z lt past = absurd (omega (arith, lt))
text_zero (suc n) [] zero z lt past = refl
text_zero (suc n) [] (suc i) z lt past = text_zero n [] i z (omega (arith, lt)) (omega arith)
text_zero (suc n) (c ∷ cs) zero z lt past = absurd (omega (arith, past))
text_zero (suc n) (c ∷ cs) (suc i) z lt past = text_zero n cs i z (omega (arith, lt)) (omega (arith, past))

pub text_image : (n : ℕ) (cs : List ℕ) → image (text_row n cs) ≡ text_cells n cs
text_image = image-text_row

-- ---- variables

opening_behind : (vs : List ModuleVariable) (v : ModuleVariable) → image (opening_row (vs ++ v ∷ [])) ≡ image (opening_row vs) ++ image (opening_value v)
opening_behind [] v = append-nil (image (opening_value v))
opening_behind (x ∷ vs) v = ap (λ l. image (opening_value x) ++ l) (opening_behind vs v) ∙ sym (append_assoc (image (opening_value x)) (image (opening_row vs)) (image (opening_value v)))

-- one variable more
pub opening_image : (vs : List ModuleVariable) (i : ℕ) (v : ModuleVariable) → i < length vs → v ≡ get_or vs i v → image (opening_row (take (i + 1) vs)) ≡ image (opening_row (take i vs)) ++ image (opening_value v)
opening_image vs i v lt e =
    ap (λ l. image (opening_row l)) (take_more vs i v lt)
    ∙ opening_behind (take i vs) (get_or vs i v)
    ∙ ap (λ y. image (opening_row (take i vs)) ++ image (opening_value y)) (sym e)

-- ---- steps of a loop

-- what is put after cells that were put after others
pub put_more : (old cells new more each all : List ℤ) → cells ≡ old ++ more → new ≡ cells ++ each → all ≡ more ++ each → new ≡ old ++ all
put_more old cells new more each all a b e = b ∙ ap (λ l. l ++ each) a ∙ append_assoc old more each ∙ ap (λ l. old ++ l) (sym e)

-- one character more
pub text_more : (n : ℕ) (cs : List ℕ) (i : ℕ) (z : ℤ) → i < n → get_or (text_cells n cs) i (pos 0) ≡ z → take (i + 1) (text_cells n cs) ≡ take i (text_cells n cs) ++ z ∷ []
text_more n cs i z lt e =
    let size = length-text_cells n cs in
    let within : i < length (text_cells n cs) = omega (arith, lt, size) in
    take_more (text_cells n cs) i (pos 0) within ∙ ap (λ c. take i (text_cells n cs) ++ c ∷ []) e

-- all characters
pub text_all : (n : ℕ) (cs : List ℕ) (i : ℕ) → n ≤ i → take i (text_cells n cs) ≡ text_cells n cs
text_all n cs i le = let size = length-text_cells n cs in take_all i (text_cells n cs) (omega (arith, le, size))
