-- How many cells things have, and where they are.
use Rattle.std.proofs.Common.{◌≡◌, ℕ, zero, suc, ◌+◌, ◌*◌, ◌<◌, arith, length, get_or, min, List, [], ◌∷◌, refl, sym, ap, ◌∙◌}
use Rattle.ob_mean.specs.declared.shape.Shape.{Shape}
use Rattle.ob_mean.specs.declared.shape.Shape.TheVariants.{Array, Record}
use Rattle.ob_mean.specs.Values.{Value, Nothing, row, size, before}
use Rattle.ob_mean.specs.Shapes.{zero_of, zeros, at_least_one}
use Rattle.ob_mean.specs.Measured.{offsets}
use Rattle.ob_mean.proofs.Zeros.{array_zero, record_zero}

row_size : (n : ℕ) (v : Value) → size (row n v) ≡ n * size v
row_size zero v = omega arith
row_size (suc n) v = let e = row_size n v in omega (arith, e)

row_before : (n i : ℕ) (v : Value) → before (row n v) i ≡ min i n * size v
row_before zero i v = let m : min i 0 ≡ 0 = omega arith in let z : 0 * size v ≡ 0 = omega arith in sym (ap (λ k. k * size v) m ∙ z)
row_before (suc n) zero v = let m : min 0 (suc n) ≡ 0 = omega arith in let z : 0 * size v ≡ 0 = omega arith in sym (ap (λ k. k * size v) m ∙ z)
row_before (suc n) (suc i) v = let e = row_before n i v in let m : min (suc i) (suc n) ≡ suc (min i n) = omega arith in let f : size v + min i n * size v ≡ suc (min i n) * size v = omega arith in ap (λ k. size v + k) e ∙ f ∙ ap (λ k. k * size v) (sym m)

pub array_size : (n : ℕ) (element : Shape) → size (zero_of (Array n element)) ≡ n * size (zero_of element)
array_size n element = ap size (array_zero n element) ∙ row_size n (zero_of element)

pub record_size : (fields : List Shape) → size (zero_of (Record fields)) ≡ size (at_least_one (zeros fields))
record_size fields = ap size (record_zero fields)

pub array_before : (n i : ℕ) (element : Shape) → before (zero_of (Array n element)) i ≡ min i n * size (zero_of element)
array_before n i element = ap (λ v. before v i) (array_zero n element) ∙ row_before n i (zero_of element)

pub record_before : (i : ℕ) (fields : List Shape) → before (zero_of (Record fields)) i ≡ before (at_least_one (zeros fields)) i
record_before i fields = ap (λ v. before v i) (record_zero fields)

pub none_before : (i : ℕ) → before (at_least_one Nothing) i ≡ min i 1
none_before zero = refl
none_before (suc zero) = refl
none_before (suc (suc i)) = omega arith

-- ---- offsets

pub count_offsets : (n : ℕ) (ss : List Shape) → length (offsets n ss) ≡ length ss + 1
count_offsets n [] = refl
count_offsets n (s ∷ ss) = let e = count_offsets (n + size (zero_of s)) ss in omega (arith, e)

-- what stands before a field, or all of them
offset_in : (n i d : ℕ) (ss : List Shape) → get_or (offsets n ss) (min i (length ss)) d ≡ n + before (zeros ss) i
offset_in n zero d [] = let m : min 0 0 ≡ 0 = omega arith in ap (λ k. get_or (n ∷ []) k d) m ∙ omega arith
offset_in n (suc i) d [] = let m : min (suc i) 0 ≡ 0 = omega arith in ap (λ k. get_or (n ∷ []) k d) m ∙ omega arith
offset_in n zero d (s ∷ ss) = let m : min 0 (suc (length ss)) ≡ 0 = omega arith in ap (λ k. get_or (offsets n (s ∷ ss)) k d) m ∙ omega arith
offset_in n (suc i) d (s ∷ ss) =
    let m : min (suc i) (suc (length ss)) ≡ suc (min i (length ss)) = omega arith in
    ap (λ k. get_or (offsets n (s ∷ ss)) k d) m ∙ offset_in (n + size (zero_of s)) i d ss ∙ omega arith

some_fields : (ss : List Shape) → 0 < length ss → at_least_one (zeros ss) ≡ zeros ss
some_fields [] h = absurd (omega (arith, h))
some_fields (s ∷ ss) h = refl

-- the same as it is looked up
pub offset_at : (i m d r : ℕ) (all : List ℕ) (ss : List Shape) → 0 < length ss → all ≡ offsets 0 ss → m ≡ min i (length ss) → r ≡ get_or all m d → r ≡ before (at_least_one (zeros ss)) i
offset_at i m d r all ss h e k g =
    g ∙ ap (λ l. get_or l m d) e ∙ ap (λ j. get_or (offsets 0 ss) j d) k ∙ offset_in 0 i d ss ∙ omega arith ∙ ap (λ v. before v i) (sym (some_fields ss h))

before_all : (ss : List Shape) → before (zeros ss) (length ss) ≡ size (zeros ss)
before_all [] = refl
before_all (s ∷ ss) = ap (λ n. size (zero_of s) + n) (before_all ss)

pub last_offset : (m d r : ℕ) (all : List ℕ) (ss : List Shape) → 0 < length ss → all ≡ offsets 0 ss → m ≡ length ss → r ≡ get_or all m d → r ≡ size (at_least_one (zeros ss))
last_offset m d r all ss h e k g =
    let least : m ≡ min (length ss) (length ss) = omega (arith, k) in
    g ∙ ap (λ l. get_or l m d) e ∙ ap (λ j. get_or (offsets 0 ss) j d) least ∙ offset_in 0 (length ss) d ss ∙ omega arith ∙ before_all ss ∙ ap size (sym (some_fields ss h))
