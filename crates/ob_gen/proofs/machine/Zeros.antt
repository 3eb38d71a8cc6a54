-- Variables as they begin, and texts: their shapes and their cells.
use Rattle.std.proofs.Common.{◌≡◌, ℕ, zero, suc, ◌+◌, ◌*◌, ℤ, pos, List, [], ◌∷◌, ◌++◌, length, map, replicate, refl, ap, ◌∙◌, arith}
use Rattle.ob_mean.specs.declared.shape.Shape.{Shape, Row_of-Shape, end_of-Shape, more_of-Shape}
use Rattle.ob_mean.specs.declared.shape.Shape.TheVariants.{Basic, Array, Array', Record'}
use Rattle.ob_mean.specs.declared.module.ModuleVariable.{ModuleVariable}
use Rattle.ob_mean.specs.declared.module.ModuleVariable.TheVariants.{Declared, Text}
use Rattle.ob_mean.specs.Values.{Value, Cell, Named, Open, Nothing, Beside, size, shape, image, row}
use Rattle.ob_mean.specs.Shapes.{at_least_one, zero_of, zeros_in, zeros, opening_value, opening_row}
use Rattle.ob_mean.specs.Texts.{character, characters, text_row}
use Rattle.ob_code.specs.Machine.{text_cells}
use Rattle.ob_gen.proofs.machine.Store.{IsRow, shape-row_of, size-row}

-- ---- zeros

-- an array of strings' characters is an array like any other
pub zero-array : (n : ℕ) (element : Shape) → zero_of (Array n element) ≡ row n (zero_of element)
unfolding Rattle.ob_mean.specs.declared.shape.Shape.TheBlock.hidden-the_row-Shape-0 denote.Hole.Carrier.hidden
zero-array n element = refl

mutual
  pub shape-zero_of : (t : Shape) → shape (zero_of t) ≡ zero_of t
  shape-zero_of Basic = refl
  shape-zero_of (Array' n h (more_of-Shape element end_of-Shape)) = shape-row_of n (zero_of element) (shape-zero_of element)
  shape-zero_of (Record' k fields) = shape-record fields

  shape-record : {k : _} (fields : Row_of-Shape k) → shape (at_least_one (zeros_in fields)) ≡ at_least_one (zeros_in fields)
  shape-record end_of-Shape = refl
  shape-record (more_of-Shape field rest) = let a = shape-zero_of field in let b = shape-zeros_in rest in cc

  shape-zeros_in : {k : _} (fields : Row_of-Shape k) → shape (zeros_in fields) ≡ zeros_in fields
  shape-zeros_in end_of-Shape = refl
  shape-zeros_in (more_of-Shape field rest) = let a = shape-zero_of field in let b = shape-zeros_in rest in cc

pub shape-zeros : (ts : List Shape) → shape (zeros ts) ≡ zeros ts
shape-zeros [] = refl
shape-zeros (t ∷ ts) = let a = shape-zero_of t in let b = shape-zeros ts in cc

pub zeros-row : (ts : List Shape) → IsRow (zeros ts)
zeros-row [] = tt
zeros-row (t ∷ ts) = zeros-row ts

replicate-sum : (m n : ℕ) (z : ℤ) → replicate m z ++ replicate n z ≡ replicate (m + n) z
replicate-sum zero n z = let e : n ≡ 0 + n = omega arith in ap (λ k. replicate k z) e
replicate-sum (suc m) n z = let e : suc (m + n) ≡ suc m + n = omega arith in ap (λ l. z ∷ l) (replicate-sum m n z) ∙ ap (λ k. replicate k z) e

-- all cells are 0
abbrev pub AreZeros : Value → Type 0
AreZeros v = image v ≡ replicate (size v) (pos 0)

zeros-beside : (v rest : Value) → AreZeros v → AreZeros rest → AreZeros (Beside v rest)
zeros-beside v rest a b = ap (λ l. l ++ image rest) a ∙ ap (λ l. replicate (size v) (pos 0) ++ l) b ∙ replicate-sum (size v) (size rest) (pos 0)

zeros-row_of : (n : ℕ) (v : Value) → AreZeros v → AreZeros (row n v)
zeros-row_of zero v e = refl
zeros-row_of (suc n) v e = zeros-beside v (row n v) e (zeros-row_of n v e)

mutual
  image-zero_of : (t : Shape) → AreZeros (zero_of t)
  image-zero_of Basic = refl
  image-zero_of (Array' n h (more_of-Shape element end_of-Shape)) = zeros-row_of n (zero_of element) (image-zero_of element)
  image-zero_of (Record' k fields) = image-record fields

  image-record : {k : _} (fields : Row_of-Shape k) → AreZeros (at_least_one (zeros_in fields))
  image-record end_of-Shape = refl
  image-record (more_of-Shape field rest) = zeros-beside (zero_of field) (zeros_in rest) (image-zero_of field) (image-zeros_in rest)

  image-zeros_in : {k : _} (fields : Row_of-Shape k) → AreZeros (zeros_in fields)
  image-zeros_in end_of-Shape = refl
  image-zeros_in (more_of-Shape field rest) = zeros-beside (zero_of field) (zeros_in rest) (image-zero_of field) (image-zeros_in rest)

pub image-zeros : (ts : List Shape) → AreZeros (zeros ts)
image-zeros [] = refl
image-zeros (t ∷ ts) = zeros-beside (zero_of t) (zeros ts) (image-zero_of t) (image-zeros ts)

-- ---- texts

pub shape-text_row : (n : ℕ) (cs : List ℕ) → shape (text_row n cs) ≡ row n (Cell (pos 0))
shape-text_row zero cs = refl
shape-text_row (suc n) [] = let e = shape-text_row n [] in cc
shape-text_row (suc n) (c ∷ cs) = let e = shape-text_row n cs in cc

pub image-text_row : (n : ℕ) (cs : List ℕ) → image (text_row n cs) ≡ text_cells n cs
image-text_row zero cs = refl
image-text_row (suc n) [] = ap (λ l. pos 0 ∷ l) (image-text_row n [])
image-text_row (suc n) (c ∷ cs) = ap (λ l. pos c ∷ l) (image-text_row n cs)

pub length-text_cells : (n : ℕ) (cs : List ℕ) → length (text_cells n cs) ≡ n
length-text_cells zero cs = refl
length-text_cells (suc n) [] = ap suc (length-text_cells n [])
length-text_cells (suc n) (c ∷ cs) = ap suc (length-text_cells n cs)

pub size-text : (n : ℕ) → size (row n (Cell (pos 0))) ≡ n
size-text n = let e = size-row n (Cell (pos 0)) in let m : n * 1 ≡ n = omega arith in e ∙ m

front_of : (a b c d : Value) → Beside a b ≡ Beside c d → (a ≡ c) × (b ≡ d)
front_of a b c d e = (cc, cc)

-- the characters of an array are its cells
pub characters-image : (n : ℕ) (v : Value) → shape v ≡ row n (Cell (pos 0)) → map character (image v) ≡ characters v
characters-image zero (Cell z) e = absurd (let x : Cell (pos 0) ≡ Nothing = e in cc)
characters-image zero (Named p u) e = absurd (let x : Named p u ≡ Nothing = e in cc)
characters-image zero (Open p k) e = absurd (let x : Open p k ≡ Nothing = e in cc)
characters-image zero Nothing e = refl
characters-image zero (Beside a b) e = absurd (let x : Beside (shape a) (shape b) ≡ Nothing = e in cc)
characters-image (suc n) (Cell z) e = absurd (let x : Cell (pos 0) ≡ Beside (Cell (pos 0)) (row n (Cell (pos 0))) = e in cc)
characters-image (suc n) (Named p u) e = absurd (let x : Named p u ≡ Beside (Cell (pos 0)) (row n (Cell (pos 0))) = e in cc)
characters-image (suc n) (Open p k) e = absurd (let x : Open p k ≡ Beside (Cell (pos 0)) (row n (Cell (pos 0))) = e in cc)
characters-image (suc n) Nothing e = absurd (let x : Nothing ≡ Beside (Cell (pos 0)) (row n (Cell (pos 0))) = e in cc)
characters-image (suc n) (Beside (Cell z) b) e = ap (λ l. character z ∷ l) (characters-image n b (front_of _ _ _ _ e).1)
characters-image (suc n) (Beside (Named p u) b) e = absurd (let x : Named p u ≡ Cell (pos 0) = (front_of _ _ _ _ e).0 in cc)
characters-image (suc n) (Beside (Open p k) b) e = absurd (let x : Open p k ≡ Cell (pos 0) = (front_of _ _ _ _ e).0 in cc)
characters-image (suc n) (Beside Nothing b) e = absurd (let x : Nothing ≡ Cell (pos 0) = (front_of _ _ _ _ e).0 in cc)
characters-image (suc n) (Beside (Beside x y) b) e = absurd (let x : Beside (shape x) (shape y) ≡ Cell (pos 0) = (front_of _ _ _ _ e).0 in cc)

-- ---- a module's variables

-- what a variable of a module has the shape of
abbrev pub declared_shape : ModuleVariable → Value
declared_shape (Declared t) = zero_of t
declared_shape (Text cs n) = row n (Cell (pos 0))

abbrev pub declared_row : List ModuleVariable → Value
declared_row [] = Nothing
declared_row (v ∷ vs) = Beside (declared_shape v) (declared_row vs)

pub shape-opening_value : (v : ModuleVariable) → shape (opening_value v) ≡ declared_shape v
shape-opening_value (Declared t) = shape-zero_of t
shape-opening_value (Text cs n) = shape-text_row n cs

pub shape-opening : (vs : List ModuleVariable) → shape (opening_row vs) ≡ declared_row vs
shape-opening [] = refl
shape-opening (Declared t ∷ vs) = let a = shape-zero_of t in let b = shape-opening vs in cc
shape-opening (Text cs n ∷ vs) = let a = shape-text_row n cs in let b = shape-opening vs in cc

pub opening-row : (vs : List ModuleVariable) → IsRow (opening_row vs)
opening-row [] = tt
opening-row (v ∷ vs) = opening-row vs
