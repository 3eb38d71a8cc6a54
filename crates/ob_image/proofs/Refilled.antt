-- A value is what its shape and its cells say.
use Rattle.std.proofs.Common.{◌≡◌, ℤ, List, [], ◌∷◌, ◌++◌, length, take, drop, refl, sym, ap, ◌∙◌, arith}
use Rattle.std.proofs.lemmas.List.{length-take-le, length-drop, take-append-drop, take_at, drop_at}
use Rattle.ob_mean.specs.Values.{Value, Cell, Named, Open, Nothing, Beside, size, shape, image}
use Rattle.ob_gen.proofs.machine.Store.{length-image, size-shape}
use Rattle.ob_image.specs.Stores.{refilled}

pub shape-refilled : (v : Value) (cells : List ℤ) → shape (refilled v cells) ≡ shape v
shape-refilled (Cell z) cells = refl
shape-refilled (Named p t) cells = refl
shape-refilled (Open p k) cells = refl
shape-refilled Nothing cells = refl
shape-refilled (Beside v rest) cells =
    let a = shape-refilled v (take (size v) cells) in
    let b = shape-refilled rest (drop (size v) cells) in
    cc

pub image-refilled : (v : Value) (cells : List ℤ) → length cells ≡ size v → image (refilled v cells) ≡ cells
image-refilled (Cell z) [] e = absurd (omega (arith, e))
image-refilled (Cell z) (c ∷ []) e = refl
image-refilled (Cell z) (c ∷ (d ∷ cells)) e = absurd (omega (arith, e))
image-refilled (Named p t) [] e = refl
image-refilled (Named p t) (c ∷ cells) e = absurd (omega (arith, e))
image-refilled (Open p k) [] e = refl
image-refilled (Open p k) (c ∷ cells) e = absurd (omega (arith, e))
image-refilled Nothing [] e = refl
image-refilled Nothing (c ∷ cells) e = absurd (omega (arith, e))
image-refilled (Beside v rest) cells e =
    let front = image-refilled v (take (size v) cells) (length-take-le (size v) cells (omega (arith, e))) in
    let behind = image-refilled rest (drop (size v) cells) (omega (arith, e, length-drop (size v) cells)) in
    ap (λ l. l ++ image (refilled rest (drop (size v) cells))) front
    ∙ ap (λ l. take (size v) cells ++ l) behind
    ∙ take-append-drop (size v) cells

-- of the first value its shape alone matters
pub refilled-shape : (v : Value) (cells : List ℤ) → refilled (shape v) cells ≡ refilled v cells
refilled-shape (Cell z) cells = refl
refilled-shape (Named p t) cells = refl
refilled-shape (Open p k) cells = refl
refilled-shape Nothing cells = refl
refilled-shape (Beside v rest) cells =
    ap (λ n. Beside (refilled (shape v) (take n cells)) (refilled (shape rest) (drop n cells))) (size-shape v)
    ∙ ap (λ x. Beside x (refilled (shape rest) (drop (size v) cells))) (refilled-shape v (take (size v) cells))
    ∙ ap (Beside (refilled v (take (size v) cells))) (refilled-shape rest (drop (size v) cells))

-- a value, with its own cells
pub refilled-image : (v : Value) → refilled v (image v) ≡ v
refilled-image (Cell z) = refl
refilled-image (Named p t) = refl
refilled-image (Open p k) = refl
refilled-image Nothing = refl
refilled-image (Beside v rest) =
    ap (λ l. Beside (refilled v l) (refilled rest (drop (size v) (image v ++ image rest)))) (take_at (image v) (image rest) (size v) (length-image v))
    ∙ ap (λ l. Beside (refilled v (image v)) (refilled rest l)) (drop_at (image v) (image rest) (size v) (length-image v))
    ∙ ap (λ x. Beside x (refilled rest (image rest))) (refilled-image v)
    ∙ ap (Beside v) (refilled-image rest)

pub refilled_only : (v s : Value) (cells : List ℤ) → shape s ≡ shape v → image s ≡ cells → s ≡ refilled v cells
refilled_only v s cells same there =
    sym (refilled-image s)
    ∙ sym (refilled-shape s (image s))
    ∙ ap (λ x. refilled x (image s)) same
    ∙ refilled-shape v (image s)
    ∙ ap (refilled v) there

-- and as many cells as it has
pub many_cells : (v s : Value) → shape s ≡ shape v → length (image s) ≡ size v
many_cells v s same = length-image s ∙ sym (size-shape s) ∙ ap size same ∙ size-shape v
