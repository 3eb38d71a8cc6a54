-- Where the cells of the modules' variables lie, counted by the modules' code.
use Rattle.std.specs.Prelude.{◌≡◌, ℕ, ◌+◌, ℤ, List, [], ◌∷◌, ◌++◌, take, drop}
use Rattle.ob_mean.specs.Values.{before, image, item, size}
use Rattle.ob_mean.specs.Programs.{opening_store}
use Rattle.ob_mean.specs.Shapes.{opening_row}
use Rattle.ob_session.specs.Session.{Module, name_of, place_of, program_of}
use Rattle.ob_code.specs.Linked.{all_cells}
use Rattle.ob_code.specs.Machine.{Code}
use Rattle.ob_image.specs.Stores.{loaded_cells}

-- the code of each module has as many cells as its variables take
abbrev pub HaveCellsOf : List Module → Code → Type 0
HaveCellsOf [] [] = Unit {0}
HaveCellsOf [] (l ∷ ls) = ⊥
HaveCellsOf (m ∷ ms) [] = ⊥
HaveCellsOf (m ∷ ms) (l ∷ ls) = (l.code.cells ≡ size (opening_row m.tree.variables)) × HaveCellsOf ms ls

-- the cells with others in the place of a module's own
abbrev pub replaced : Code → ℕ → List ℤ → List ℤ → List ℤ
replaced code place own cells = take (all_cells (take place code)) cells ++ (own ++ drop (all_cells (take (place + 1) code)) cells)

-- where each module's cells are
pub record CountsCells (modules : List Module) (code : Code) : Type 0 where
  -- as many as the store has
  pub all : all_cells code ≡ size (opening_store (program_of modules))
  -- those before a module
  pub first : (i : ℕ) → all_cells (take i code) ≡ before (opening_store (program_of modules)) i
  -- and those before the next one
  pub next : (i : ℕ) → all_cells (take (i + 1) code) ≡ before (opening_store (program_of modules)) i + size (item (opening_store (program_of modules)) i)
  -- which is where loading a module puts its own
  pub loaded : (m : Module) (cells : List ℤ) → loaded_cells modules m cells ≡ replaced code (place_of modules (name_of m)) (image (opening_row m.tree.variables)) cells

abbrev pub EachCountsCells : Type 0
EachCountsCells = (modules : List Module) (code : Code) → HaveCellsOf modules code → CountsCells modules code
