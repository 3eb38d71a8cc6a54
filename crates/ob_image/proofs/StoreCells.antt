-- Where the cells of the modules' variables lie, counted by the modules' code.
use Rattle.std.proofs.Common.{◌≡◌, ℕ, zero, suc, ◌+◌, ℤ, List, [], ◌∷◌, ◌++◌, take, drop, refl, sym, ap, ◌∙◌, add-one, arith}
use Rattle.ob_mean.specs.Values.{Value, Cell, Named, Open, Nothing, Beside, before, image, item, size}
use Rattle.ob_mean.specs.Programs.{opening_store}
use Rattle.ob_mean.specs.Shapes.{opening_row}
use Rattle.ob_session.specs.Session.{Module, name_of, place_of, program_of}
use Rattle.ob_code.specs.Linked.{all_cells}
use Rattle.ob_code.specs.Machine.{Code}
use Rattle.ob_image.specs.Counted.{HaveCellsOf, EachCountsCells}
use Rattle.ob_image.proofs.OpeningStore.{rows, opening-rows}

before-first : (v : Value) → before v zero ≡ 0
before-first (Cell z) = refl
before-first (Named p t) = refl
before-first (Open p k) = refl
before-first Nothing = refl
before-first (Beside v rest) = refl

before-suc : (v : Value) (i : ℕ) → before v (suc i) ≡ before v i + size (item v i)
before-suc (Cell z) i = refl
before-suc (Named p t) i = refl
before-suc (Open p k) i = refl
before-suc Nothing i = refl
before-suc (Beside v rest) zero = omega (arith, before-first rest)
before-suc (Beside v rest) (suc i) = omega (arith, before-suc rest i)

all_by : (ms : List Module) (code : Code) → HaveCellsOf ms code → all_cells code ≡ size (rows ms)
all_by [] [] h = refl
all_by [] (l ∷ ls) h = absurd h
all_by (m ∷ ms) [] h = absurd h
all_by (m ∷ ms) (l ∷ ls) h = omega (arith, h.0, all_by ms ls h.1)

first_by : (ms : List Module) (code : Code) → HaveCellsOf ms code → (i : ℕ) → all_cells (take i code) ≡ before (rows ms) i
first_by ms code h zero = sym (before-first (rows ms))
first_by [] [] h (suc i) = refl
first_by [] (l ∷ ls) h (suc i) = absurd h
first_by (m ∷ ms) [] h (suc i) = absurd h
first_by (m ∷ ms) (l ∷ ls) h (suc i) = omega (arith, h.0, first_by ms ls h.1 i)

-- cut elsewhere, where the numbers are the same
cut_there : (cells own : List ℤ) (a b c d : ℕ) → a ≡ c → b ≡ d → take a cells ++ (own ++ drop b cells) ≡ take c cells ++ (own ++ drop d cells)
cut_there cells own a b c d first next = ap (λ k. take k cells ++ (own ++ drop b cells)) first ∙ ap (λ k. take c cells ++ (own ++ drop k cells)) next

pub each_counts_cells : EachCountsCells
each_counts_cells modules code h =
    let store = opening_store (program_of modules) in
    let same : rows modules ≡ store = sym (opening-rows modules) in
    let first : (i : ℕ) → all_cells (take i code) ≡ before store i = λ i. first_by modules code h i ∙ ap (λ v. before v i) same in
    let next : (i : ℕ) → all_cells (take (i + 1) code) ≡ before store i + size (item store i) =
    λ i. ap (λ k. all_cells (take k code)) (add-one i) ∙ first (suc i) ∙ before-suc store i in
    record {
      all = all_by modules code h ∙ ap size same;
      first = first;
      next = next;
      loaded = λ m cells. (
          let place = place_of modules (name_of m) in
          cut_there cells (image (opening_row m.tree.variables)) _ _ _ _ (sym (first place)) (sym (next place)));
    }

-- of all modules
pub all_cells_are : (modules : List Module) (code : Code) → HaveCellsOf modules code → all_cells code ≡ size (opening_store (program_of modules))
all_cells_are modules code h = (each_counts_cells modules code h).all
