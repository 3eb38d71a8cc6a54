-- The cells of modules, one after the other.
use Rattle.std.proofs.Common.{◌≡◌, ℕ, zero, suc, ◌+◌, ◌<◌, ◌≤◌, List, [], ◌∷◌, length, get_or, take, sym, ap, ◌∙◌, arith}
use Rattle.std.proofs.lemmas.List.{take_all}
use Rattle.ob_session.specs.Session.{Module}
use Rattle.ob_code.specs.declared.instr.LinkedModule.{LinkedModule}
use Rattle.ob_code.specs.Linked.{all_cells, AreLaid}
use Rattle.ob_code.specs.Machine.{Code}
use Rattle.ob_image.specs.Counted.{HaveCellsOf, CountsCells}
use Rattle.ob_image.proofs.StoreCells.{each_counts_cells}
use Rattle.ob_image.specs.Compiled.{Known, AreCompiledFrom}
use Rattle.ob_image.specs.Bounds.{AreBounds}

-- ---- code of modules

-- has as many cells as their variables take
pub compiled_cells : (all modules : List Module) (known : List Known) (code : Code) (from : ℕ) → AreCompiledFrom all modules known code from → HaveCellsOf modules code
compiled_cells all [] [] [] from h = tt
compiled_cells all [] [] (l ∷ ls) from h = absurd h
compiled_cells all [] (k ∷ ks) ls from h = absurd h
compiled_cells all (m ∷ ms) [] ls from h = absurd h
compiled_cells all (m ∷ ms) (k ∷ ks) [] from h = absurd h
compiled_cells all (m ∷ ms) (k ∷ ks) (l ∷ ls) from h = (h.0.ready.generated.cells, compiled_cells all ms ks ls (from + l.code.cells) h.1)

-- and lies one module after the other
pub compiled_laid : (all modules : List Module) (known : List Known) (code : Code) (from : ℕ) → AreCompiledFrom all modules known code from → AreLaid from code
compiled_laid all [] [] [] from h = tt
compiled_laid all [] [] (l ∷ ls) from h = absurd h
compiled_laid all [] (k ∷ ks) ls from h = absurd h
compiled_laid all (m ∷ ms) [] ls from h = absurd h
compiled_laid all (m ∷ ms) (k ∷ ks) [] from h = absurd h
compiled_laid all (m ∷ ms) (k ∷ ks) (l ∷ ls) from h = (h.0.cells, compiled_laid all ms ks ls (from + l.code.cells) h.1)

-- so it is counted as the modules' store is
pub compiled_counts : (modules : List Module) (known : List Known) (code : Code) → AreCompiledFrom modules modules known code 0 → CountsCells modules code
compiled_counts modules known code h = each_counts_cells modules code (compiled_cells modules modules known code 0 h)

-- ---- the first cell of a module

first_from : (from : ℕ) (code : Code) (i : ℕ) (d : LinkedModule) → i < length code → AreLaid from code → (get_or code i d).cells ≡ from + all_cells (take i code)
first_from from [] i d lt h = absurd (omega (arith, lt))
first_from from (l ∷ ls) zero d lt h = let e = h.0 in omega (arith, e)
first_from from (l ∷ ls) (suc i) d lt h = let e = first_from (from + l.code.cells) ls i d (omega (arith, lt)) h.1 in omega (arith, e)

pub cells_before : (code : Code) (i : ℕ) (l : LinkedModule) → i < length code → l ≡ get_or code i l → AreLaid 0 code → l.cells ≡ all_cells (take i code)
cells_before code i l lt e h = let first = first_from 0 code i l lt h in ap (λ (x : LinkedModule). x.cells) e ∙ omega (arith, first)

pub cells_beyond : (code : Code) (i : ℕ) → length code ≤ i → all_cells (take i code) ≡ all_cells code
cells_beyond code i le = ap all_cells (take_all i code le)

-- ---- its bounds

pub bounds_there : (modules : List Module) (known : List Known) (code : Code) (i from behind : ℕ) → AreCompiledFrom modules modules known code 0 → (AreLaid 0 code → from ≡ all_cells (take i code)) → (AreLaid 0 code → behind ≡ all_cells (take (i + 1) code)) → AreBounds modules i from behind
bounds_there modules known code i from behind h a b =
    let laid = compiled_laid modules modules known code 0 h in
    let counts = compiled_counts modules known code h in
    (a laid ∙ counts.first i, b laid ∙ counts.next i)

pub bounds_beyond : (modules : List Module) (known : List Known) (code : Code) (i cells : ℕ) → AreCompiledFrom modules modules known code 0 → length code ≤ i → cells ≡ all_cells code → AreBounds modules i cells cells
bounds_beyond modules known code i cells h le e =
    bounds_there modules known code i cells cells h (λ laid. e ∙ sym (cells_beyond code i le)) (λ laid. e ∙ sym (cells_beyond code (i + 1) (omega (arith, le))))
