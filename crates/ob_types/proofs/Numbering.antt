-- Numbers of types stay theirs, and equal numbers are of equal types.
use Rattle.std.proofs.Common.{◌≡◌, ◌<◌, ◌+◌, ℕ, zero, suc, true, List, [], ◌∷◌, ◌++◌, map, length, take, Some, slice_get, refl, sym, ap, ◌∙◌, subst, arith}
use Rattle.ob_types.specs.declared.exports.Exported.{Exported}
use Rattle.ob_types.specs.declared.exports.Formal.{Formal}
use Rattle.ob_types.specs.declared.structure.ObType.{ObType}
use Rattle.ob_types.specs.Numbered.{types_in, types_of, AreOf, AreNumbered, Keeps, SameBelow, are_below}

pub heads : {A : Type 0} (x y : A) (xs ys : List A) → x ∷ xs ≡ y ∷ ys → x ≡ y
heads x y xs ys e = grind arith

pub tails : {A : Type 0} (x y : A) (xs ys : List A) → x ∷ xs ≡ y ∷ ys → xs ≡ ys
tails x y xs ys e = grind arith

pub read_more : {A : Type 0} (xs ys : List A) (n : ℕ) (x : A) → slice_get xs n ≡ Some x → slice_get (xs ++ ys) n ≡ Some x
read_more [] ys n x h = grind arith
read_more (y ∷ xs) ys zero x h = h
read_more (y ∷ xs) ys (suc n) x h = read_more xs ys n x h

pub read_last : {A : Type 0} (xs : List A) (x : A) → slice_get (xs ++ x ∷ []) (length xs) ≡ Some x
read_last [] x = refl
read_last (y ∷ xs) x = read_last xs x

pub kept_more : (kinds : List ObType) (t : ObType) → Keeps kinds (kinds ++ t ∷ [])
kept_more kinds t = λ n u h. read_more kinds (t ∷ []) n u h

pub kept_row : (before kinds : List ObType) → Keeps before kinds → (ns : List ℕ) (ts : List ObType) → AreOf before ns ts → AreOf kinds ns ts
kept_row before kinds k [] [] e = refl
kept_row before kinds k [] (t ∷ ts) e = grind arith
kept_row before kinds k (n ∷ ns) [] e = grind arith
kept_row before kinds k (n ∷ ns) (t ∷ ts) e =
    let here = k n t (heads _ _ _ _ e) in
    let rest = kept_row before kinds k ns ts (tails _ _ _ _ e) in
    λ i. here i ∷ rest i

pub kept_rows : (before kinds : List ObType) → Keeps before kinds → (nss : List (List ℕ)) (es : List Exported) → AreNumbered before nss es → AreNumbered kinds nss es
kept_rows before kinds k [] [] e = refl
kept_rows before kinds k [] (x ∷ es) e = grind arith
kept_rows before kinds k (ns ∷ nss) [] e = grind arith
kept_rows before kinds k (ns ∷ nss) (x ∷ es) e =
    let here = kept_row before kinds k ns (types_in x.object) (heads _ _ _ _ e) in
    let rest = kept_rows before kinds k nss es (tails _ _ _ _ e) in
    λ i. here i ∷ rest i

map_more : {A B : Type 0} (f : A → B) (xs ys : List A) → map f (xs ++ ys) ≡ map f xs ++ map f ys
map_more f [] ys = refl
map_more f (x ∷ xs) ys = ap (λ l. f x ∷ l) (map_more f xs ys)

-- one more read of a list
pub take_read : {A : Type 0} (xs : List A) (i : ℕ) (x : A) → slice_get xs i ≡ Some x → take (suc i) xs ≡ take i xs ++ x ∷ []
take_read [] i x h = grind arith
take_read (y ∷ xs) zero x h = let e : y ≡ x = grind arith in λ k. e k ∷ []
take_read (y ∷ xs) (suc i) x h = ap (λ l. y ∷ l) (take_read xs i x h)

one_more : (i : ℕ) → suc i ≡ i + 1
one_more i = omega arith

-- the numbers of one parameter more
pub formals_more : (before kinds : List ObType) (ns : List ℕ) (fs : List Formal) (i n : ℕ) (f : Formal) → Keeps before kinds → AreOf before ns (types_of (take i fs)) → slice_get kinds n ≡ Some f.of → slice_get fs i ≡ Some f → AreOf kinds (ns ++ n ∷ []) (types_of (take (i + 1) fs))
formals_more before kinds ns fs i n f k e here there =
    subst (λ j. AreOf kinds (ns ++ n ∷ []) (types_of (take j fs))) (one_more i)
    (map_more (slice_get kinds) ns (n ∷ [])
    ∙ (λ j. kept_row before kinds k ns (types_of (take i fs)) e j ++ here j ∷ [])
    ∙ sym (map_more Some (types_of (take i fs)) (f.of ∷ []))
    ∙ ap (map Some) (sym (map_more (λ (g : Formal). g.of) (take i fs) (f ∷ [])))
    ∙ ap (λ l. map Some (types_of l)) (sym (take_read fs i f there)))

-- the numbers of one name more
pub names_more : (before kinds : List ObType) (nss : List (List ℕ)) (es : List Exported) (i : ℕ) (ns : List ℕ) (x : Exported) → Keeps before kinds → AreNumbered before nss (take i es) → AreOf kinds ns (types_in x.object) → slice_get es i ≡ Some x → AreNumbered kinds (nss ++ ns ∷ []) (take (i + 1) es)
names_more before kinds nss es i ns x k e here there =
    subst (λ j. AreNumbered kinds (nss ++ ns ∷ []) (take j es)) (one_more i)
    (map_more (map (slice_get kinds)) nss (ns ∷ [])
    ∙ (λ j. kept_rows before kinds k nss (take i es) e j ++ here j ∷ [])
    ∙ sym (map_more (λ (y : Exported). map Some (types_in y.object)) (take i es) (x ∷ []))
    ∙ ap (map (λ (y : Exported). map Some (types_in y.object))) (sym (take_read es i x there)))

somes : {A : Type 0} (xs ys : List A) → map Some xs ≡ map Some ys → xs ≡ ys
somes [] [] e = refl
somes [] (y ∷ ys) e = grind arith
somes (x ∷ xs) [] e = grind arith
somes (x ∷ xs) (y ∷ ys) e =
    let first : Some x ≡ Some y = heads _ _ _ _ e in
    let here : x ≡ y = grind arith in
    let rest = somes xs ys (tails _ _ _ _ e) in
    λ i. here i ∷ rest i

read_take : {A : Type 0} (xs : List A) (m n : ℕ) → n < m → slice_get (take m xs) n ≡ slice_get xs n
read_take xs zero n h = absurd (omega arith)
read_take [] (suc m) n h = refl
read_take (x ∷ xs) (suc m) zero h = refl
read_take (x ∷ xs) (suc m) (suc n) h = read_take xs m n (omega arith)

-- where all numbers are below a bound, their types are the same in both
same_row : (most : ℕ) (left right : List ObType) → SameBelow most left right → (ns : List ℕ) → are_below most ns ≡ true → map (slice_get left) ns ≡ map (slice_get right) ns
same_row most left right s [] h = refl
same_row most left right s (n ∷ ns) h =
    let small : n < most = grind arith in
    let others : are_below most ns ≡ true = grind arith in
    let here : slice_get left n ≡ slice_get right n = sym (read_take left most n small) ∙ ap (λ l. slice_get l n) s ∙ read_take right most n small in
    let rest = same_row most left right s ns others in
    λ i. here i ∷ rest i

same_types : (most : ℕ) (left right : List ObType) → SameBelow most left right → (ns ms : List ℕ) → ns ≡ ms → are_below most ns ≡ true → (ts us : List ObType) → AreOf left ns ts → AreOf right ms us → ts ≡ us
same_types most left right s ns ms e h ts us f g =
    somes ts us (sym f ∙ same_row most left right s ns h ∙ ap (map (slice_get right)) e ∙ g)

-- as many rows of numbers as names
pub rows_length : (kinds : List ObType) (nss : List (List ℕ)) (es : List Exported) → AreNumbered kinds nss es → length nss ≡ length es
rows_length kinds [] [] e = refl
rows_length kinds [] (x ∷ es) e = grind arith
rows_length kinds (ns ∷ nss) [] e = grind arith
rows_length kinds (ns ∷ nss) (x ∷ es) e = ap suc (rows_length kinds nss es (tails _ _ _ _ e))

-- the numbers in a place are those of the name there
row_read : (kinds : List ObType) (nss : List (List ℕ)) (es : List Exported) → AreNumbered kinds nss es → (i : ℕ) (ns : List ℕ) (x : Exported) → slice_get nss i ≡ Some ns → slice_get es i ≡ Some x → AreOf kinds ns (types_in x.object)
row_read kinds [] es e i ns x f g = grind arith
row_read kinds (ms ∷ nss) [] e i ns x f g = grind arith
row_read kinds (ms ∷ nss) (y ∷ es) e zero ns x f g =
    let numbers : ms ≡ ns = grind arith in
    let name : y ≡ x = grind arith in
    subst (λ l. AreOf kinds l (types_in x.object)) numbers (subst (λ z. AreOf kinds ms (types_in z.object)) name (heads _ _ _ _ e))
row_read kinds (ms ∷ nss) (y ∷ es) e (suc i) ns x f g = row_read kinds nss es (tails _ _ _ _ e) i ns x f g

pub renamed : (kinds more : List ObType) (nss others : List (List ℕ)) (es fs : List Exported) → more ≡ kinds → others ≡ nss → fs ≡ es → AreNumbered kinds nss es → AreNumbered more others fs
renamed kinds more nss others es fs k n e h =
    subst (λ l. AreNumbered l others fs) (sym k) (subst (λ l. AreNumbered kinds l fs) (sym n) (subst (λ l. AreNumbered kinds nss l) (sym e) h))

pub take_same : {A : Type 0} (xs ys : List A) (i : ℕ) (x y : A) → slice_get xs i ≡ Some x → slice_get ys i ≡ Some y → x ≡ y → take i xs ≡ take i ys → take (i + 1) xs ≡ take (i + 1) ys
take_same xs ys i x y f g e t =
    subst (λ j. take j xs ≡ take j ys) (one_more i)
    (take_read xs i x f ∙ (λ j. t j ++ e j ∷ []) ∙ sym (take_read ys i y g))

-- one name more is the same in both
pub next_same : (kl kr : List ObType) (nl nr : List (List ℕ)) (el er : List Exported) → AreNumbered kl nl el → AreNumbered kr nr er → (most : ℕ) → SameBelow most kl kr → (i : ℕ) (ns ms : List ℕ) (x y : Exported) → slice_get nl i ≡ Some ns → slice_get nr i ≡ Some ms → slice_get el i ≡ Some x → slice_get er i ≡ Some y → ns ≡ ms → are_below most ns ≡ true → (types_in x.object ≡ types_in y.object → x ≡ y) → take i el ≡ take i er → take (i + 1) el ≡ take (i + 1) er
next_same kl kr nl nr el er left right most s i ns ms x y a b f g e h same t =
    take_same el er i x y f g
    (same (same_types most kl kr s ns ms e h (types_in x.object) (types_in y.object) (row_read kl nl el left i ns x a f) (row_read kr nr er right i ms y b g)))
    t
