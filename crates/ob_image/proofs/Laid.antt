-- Modules put among others, and laid one after the other.
use Rattle.std.proofs.Common.{◌≡◌, ℕ, zero, suc, ◌+◌, ◌-◌, ◌<◌, ◌≤◌, List, [], ◌∷◌, ◌++◌, length, get_or, take, drop, refl, sym, ap, subst, ◌∙◌, add-one, append-nil, arith}
use Rattle.std.proofs.Math.ListN.{set}
use Rattle.std.proofs.lemmas.List.{drop_all, take-append-drop, take_all}
use Rattle.ob_code.specs.declared.instr.LinkedModule.{LinkedModule}
use Rattle.ob_code.specs.Linked.{all_cells, AreLaid}
use Rattle.ob_code.specs.Machine.{Code}
use Rattle.ob_image.specs.Compiled.{laid, put_at}

-- in the place of another
pub put_within : {A : Type 0} (xs : List A) (i : ℕ) (x : A) → i < length xs → set xs i x ≡ put_at xs i x
put_within [] i x h = absurd (omega (arith, h))
put_within (y ∷ xs) zero x h = refl
put_within (y ∷ xs) (suc i) x h = ap (λ l. y ∷ l) (put_within xs i x (omega (arith, h)))

-- after the others
pub put_behind : {A : Type 0} (xs : List A) (i : ℕ) (x : A) → i ≡ length xs → xs ++ x ∷ [] ≡ put_at xs i x
put_behind [] i x h = refl
put_behind (y ∷ xs) zero x h = absurd (omega (arith, h))
put_behind (y ∷ xs) (suc i) x h = ap (λ l. y ∷ l) (put_behind xs i x (omega (arith, h)))

-- ---- modules laid one after the other

laid_length : (from : ℕ) (code : Code) (i : ℕ) → length (laid from (take i code) ++ drop i code) ≡ length code
laid_length from code zero = refl
laid_length from [] (suc i) = refl
laid_length from (l ∷ ls) (suc i) = ap suc (laid_length (from + l.code.cells) ls i)

-- those after are as they were
pub laid_next : (from : ℕ) (code : Code) (i : ℕ) (d : LinkedModule) → get_or (laid from (take i code) ++ drop i code) i d ≡ get_or code i d
laid_next from code zero d = refl
laid_next from [] (suc i) d = refl
laid_next from (l ∷ ls) (suc i) d = laid_next (from + l.code.cells) ls i d

abbrev pub at_cell : LinkedModule → ℕ → LinkedModule
at_cell l from = record { code = l.code; imports = l.imports; cells = from }

laid_by : (from : ℕ) (code : Code) (i : ℕ) (d : LinkedModule) → i < length code → set (laid from (take i code) ++ drop i code) i (at_cell (get_or code i d) (from + all_cells (take i code))) ≡ laid from (take (suc i) code) ++ drop (suc i) code
laid_by from [] i d lt = absurd (omega (arith, lt))
laid_by from (l ∷ ls) zero d lt = ap (λ n. at_cell l n ∷ ls) (omega arith)
laid_by from (l ∷ ls) (suc i) d lt =
    let sum : from + (l.code.cells + all_cells (take i ls)) ≡ from + l.code.cells + all_cells (take i ls) = omega arith in
    ap (λ n. at_cell l from ∷ set (laid (from + l.code.cells) (take i ls) ++ drop i ls) i (at_cell (get_or ls i d) n)) sum
    ∙ ap (λ (xs : Code). at_cell l from ∷ xs) (laid_by (from + l.code.cells) ls i d (omega (arith, lt)))

-- one module more
pub laid_more : (old code : Code) (i from : ℕ) (l : LinkedModule) → i < length old → from ≡ all_cells (take i old) → code ≡ laid 0 (take i old) ++ drop i old → l ≡ get_or code i l → set code i (at_cell l from) ≡ laid 0 (take (i + 1) old) ++ drop (i + 1) old
laid_more old code i from l lt ef ec el =
    let same : l ≡ get_or old i l = el ∙ ap (λ (xs : Code). get_or xs i l) ec ∙ laid_next 0 old i l in
    let sum : from ≡ 0 + all_cells (take i old) = omega (arith, ef) in
    ap (λ (xs : Code). set xs i (at_cell l from)) ec
    ∙ ap (λ (x : LinkedModule). set (laid 0 (take i old) ++ drop i old) i (at_cell x from)) same
    ∙ ap (λ n. set (laid 0 (take i old) ++ drop i old) i (at_cell (get_or old i l) n)) sum
    ∙ laid_by 0 old i l lt
    ∙ ap (λ k. laid 0 (take k old) ++ drop k old) (sym (add-one i))

cells_by : (code : Code) (i : ℕ) (d : LinkedModule) → i < length code → all_cells (take (suc i) code) ≡ all_cells (take i code) + (get_or code i d).code.cells
cells_by [] i d lt = absurd (omega (arith, lt))
cells_by (l ∷ ls) zero d lt = omega arith
cells_by (l ∷ ls) (suc i) d lt = let e = cells_by ls i d (omega (arith, lt)) in omega (arith, e)

-- the next one's first cell
pub cells_more : (old code : Code) (i from : ℕ) (l : LinkedModule) → i < length old → from ≡ all_cells (take i old) → code ≡ laid 0 (take i old) ++ drop i old → l ≡ get_or code i l → from + l.code.cells ≡ all_cells (take (i + 1) old)
cells_more old code i from l lt ef ec el =
    let same : l ≡ get_or old i l = el ∙ ap (λ (xs : Code). get_or xs i l) ec ∙ laid_next 0 old i l in
    let e = cells_by old i l lt in
    let k = ap (λ n. all_cells (take n old)) (add-one i) in
    let s = ap (λ (x : LinkedModule). x.code.cells) same in
    omega (arith, e, k, s, ef)

pub cells_most : (code : Code) (i : ℕ) → all_cells (take i code) ≤ all_cells code
cells_most code zero = omega arith
cells_most [] (suc i) = omega arith
cells_most (l ∷ ls) (suc i) = let e = cells_most ls i in omega (arith, e)

-- as many as there were
pub laid_count : (old code : Code) (i : ℕ) → code ≡ laid 0 (take i old) ++ drop i old → length code ≡ length old
laid_count old code i e = ap (λ (xs : Code). length xs) e ∙ laid_length 0 old i

-- all modules
pub laid_all : (old : Code) (i : ℕ) → length old ≤ i → laid 0 (take i old) ++ drop i old ≡ laid 0 old
laid_all old i le =
    ap (λ (xs : Code). laid 0 xs ++ drop i old) (take_all i old le)
    ∙ ap (λ (xs : Code). laid 0 old ++ xs) (drop_all i old le)
    ∙ append-nil (laid 0 old)

-- ---- where those before a number lie so already

laid_same : (from : ℕ) (code : Code) → AreLaid from code → laid from code ≡ code
laid_same from [] h = refl
laid_same from (l ∷ ls) h =
    ap (λ n. at_cell l n ∷ laid (from + l.code.cells) ls) (sym h.0)
    ∙ ap (λ (xs : Code). l ∷ xs) (laid_same (from + l.code.cells) ls h.1)

-- laying them changes nothing
pub laid_before : (code : Code) (i : ℕ) → AreLaid 0 (take i code) → code ≡ laid 0 (take i code) ++ drop i code
laid_before code i h = sym (ap (λ (xs : Code). xs ++ drop i code) (laid_same 0 (take i code) h) ∙ take-append-drop i code)

last_by : (from : ℕ) (code : Code) (i : ℕ) (d : LinkedModule) → i < length code → AreLaid from (take (suc i) code) → (get_or code i d).cells + (get_or code i d).code.cells ≡ from + all_cells (take (suc i) code)
last_by from [] i d lt h = absurd (omega (arith, lt))
last_by from (l ∷ ls) zero d lt h = let e = h.0 in omega (arith, e)
last_by from (l ∷ ls) (suc i) d lt h = let e = last_by (from + l.code.cells) ls i d (omega (arith, lt)) h.1 in omega (arith, e)

zero_more : (n : ℕ) → 0 + n ≡ n
zero_more n = omega arith

-- where the last of them ends
pub last_ends : (code : Code) (number : ℕ) (l : LinkedModule) → 0 < number → number ≤ length code → l ≡ get_or code (number - 1) l → AreLaid 0 (take number code) → l.cells + l.code.cells ≡ all_cells (take number code)
last_ends code zero l some le e h = absurd (omega (arith, some))
last_ends code (suc i) l some le e h =
    let n : suc i - 1 ≡ i = omega arith in
    let same : l ≡ get_or code i l = e ∙ ap (λ k. get_or code k l) n in
    let ends = last_by 0 code i l (omega (arith, le)) h in
    ap (λ (x : LinkedModule). x.cells + x.code.cells) same ∙ ends ∙ zero_more (all_cells (take (suc i) code))

pub laid_front : (from : ℕ) (code : Code) (i : ℕ) → AreLaid from code → AreLaid from (take i code)
laid_front from code zero h = tt
laid_front from [] (suc i) h = tt
laid_front from (l ∷ ls) (suc i) h = (h.0, laid_front (from + l.code.cells) ls i h.1)

put_front : {A : Type 0} (xs : List A) (i : ℕ) (x : A) → i ≤ length xs → take i (put_at xs i x) ≡ take i xs
put_front xs zero x le = refl
put_front [] (suc i) x le = absurd (omega (arith, le))
put_front (y ∷ xs) (suc i) x le = ap (λ l. y ∷ l) (put_front xs i x (omega (arith, le)))

pub put_long : {A : Type 0} (xs : List A) (i : ℕ) (x : A) → i ≤ length xs → i ≤ length (put_at xs i x)
put_long xs zero x le = omega arith
put_long [] (suc i) x le = absurd (omega (arith, le))
put_long (y ∷ xs) (suc i) x le = let e = put_long xs i x (omega (arith, le)) in omega (arith, e)

-- those before the place where one is put lie as they did
pub laid_put : (code : Code) (i : ℕ) (l : LinkedModule) → i ≤ length code → AreLaid 0 code → AreLaid 0 (take i (put_at code i l))
laid_put code i l le h = subst (AreLaid 0) (sym (put_front code i l le)) (laid_front 0 code i h)

-- ---- what is so of modules that are laid

pub laid_lies : (from : ℕ) (code : Code) → AreLaid from (laid from code)
laid_lies from [] = tt
laid_lies from (l ∷ ls) = (refl, laid_lies (from + l.code.cells) ls)

pub laid_cells : (from : ℕ) (code : Code) → all_cells (laid from code) ≡ all_cells code
laid_cells from [] = refl
laid_cells from (l ∷ ls) = ap (λ n. l.code.cells + n) (laid_cells (from + l.code.cells) ls)
