-- Rows of cells and of names that are cut, made longer, and written to.
use Rattle.std.proofs.Common.{◌≡◌, ℕ, zero, suc, ◌+◌, ◌≤◌, ℤ, List, [], ◌∷◌, ◌++◌, length, take, drop, refl, ap, arith}
use Rattle.std.specs.Prelude.{slice_index_or}
use Rattle.std.proofs.lemmas.List.{length-append, length-take-le, length-drop}
use Rattle.ob_code.specs.declared.instr.Name.{Name}
use Rattle.ob_code.specs.Machine.{Memory, no_name, cells_at, overwritten, text_cells}
use Rattle.ob_code.specs.Sound.{AreWithin}

pub take_take : {A : Type 0} (i j : ℕ) (xs : List A) → i ≤ j → take i (take j xs) ≡ take i xs
take_take zero j xs le = refl
take_take (suc i) zero xs le = absurd (omega (arith, le))
take_take (suc i) (suc j) [] le = refl
take_take (suc i) (suc j) (x ∷ xs) le = ap (λ ys. x ∷ ys) (take_take i j xs (omega (arith, le)))

-- ---- names

pub within_more : (ns : List Name) (a b : ℕ) → a ≤ b → AreWithin ns a → AreWithin ns b
within_more [] a b le h = tt
within_more (n ∷ ns) a b le h = (omega (arith, le, h.0), within_more ns a b le h.1)

pub within_take : (k : ℕ) (ns : List Name) (cells : ℕ) → AreWithin ns cells → AreWithin (take k ns) cells
within_take zero ns cells h = tt
within_take (suc k) [] cells h = tt
within_take (suc k) (n ∷ ns) cells h = (h.0, within_take k ns cells h.1)

pub within_append : (ns : List Name) (n : Name) (cells : ℕ) → AreWithin ns cells → n.address + n.cells ≤ cells → AreWithin (ns ++ n ∷ []) cells
within_append [] n cells h le = (le, tt)
within_append (m ∷ ns) n cells h le = (h.0, within_append ns n cells h.1 le)

pub within_at : (ns : List Name) (x cells : ℕ) → AreWithin ns cells → (slice_index_or ns x no_name).address + (slice_index_or ns x no_name).cells ≤ cells
within_at [] x cells h = omega arith
within_at (n ∷ ns) zero cells h = h.0
within_at (n ∷ ns) (suc x) cells h = within_at ns x cells h.1

-- ---- cells

pub overwritten_length : (m : Memory) (a : ℕ) (row : List ℤ) → a + length row ≤ length m.cells → length (overwritten m a row).cells ≡ length m.cells
overwritten_length m a row le =
    let whole = length-append (take a m.cells) (row ++ drop (a + length row) m.cells) in
    let front = length-take-le a m.cells (omega (arith, le)) in
    let back = length-append row (drop (a + length row) m.cells) in
    let rest = length-drop (a + length row) m.cells in
    omega (arith, whole, front, back, rest, le)

pub cells_at_length : (m : Memory) (a n : ℕ) → a + n ≤ length m.cells → length (cells_at m a n) ≡ n
cells_at_length m a n le = let rest = length-drop a m.cells in length-take-le n (drop a m.cells) (omega (arith, le, rest))

pub text_cells_length : (n : ℕ) (cs : List ℕ) → length (text_cells n cs) ≡ n
text_cells_length zero cs = refl
text_cells_length (suc n) [] = let h = text_cells_length n [] in omega (arith, h)
text_cells_length (suc n) (c ∷ cs) = let h = text_cells_length n cs in omega (arith, h)
