-- Where things are that stand after one another, as a compiler keeps it.
use Rattle.std.specs.Prelude.{◌≡◌, ℕ, zero, suc, ◌+◌, List, [], ◌∷◌}
use Rattle.ob_mean.specs.Values.{Value, Cell, Named, Open, Nothing, Beside, size}
use Rattle.ob_code.specs.declared.instr.Extent.{Extent}

-- of so many cells each, from this cell on
abbrev pub extents : ℕ → List ℕ → List Extent
extents from [] = []
extents from (n ∷ ns) = record { from = from; cells = n } ∷ extents (from + n) ns

-- the one of a number
abbrev pub extent_in : ℕ → List ℕ → ℕ → Extent
extent_in from [] x = record { from = from; cells = 0 }
extent_in from (n ∷ ns) zero = record { from = from; cells = n }
extent_in from (n ∷ ns) (suc x) = extent_in (from + n) ns x

abbrev pub sizes_of : List Extent → List ℕ
sizes_of [] = []
sizes_of (e ∷ es) = e.cells ∷ sizes_of es

-- all of them
abbrev pub cells_in : List ℕ → ℕ
cells_in [] = 0
cells_in (n ∷ ns) = n + cells_in ns

-- they stand after one another, and there are so many cells
pub record AreBehind (es : List Extent) (cells : ℕ) : Type 0 where
  pub behind : es ≡ extents 0 (sizes_of es)
  pub total : cells ≡ cells_in (sizes_of es)

-- the cells of the values in a row
abbrev pub row_sizes : Value → List ℕ
row_sizes (Cell z) = []
row_sizes (Named p t) = []
row_sizes (Open p k) = []
row_sizes Nothing = []
row_sizes (Beside v rest) = size v ∷ row_sizes rest
