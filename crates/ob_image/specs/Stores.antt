-- A store and its picture: a value is what its shape and its cells say.
use Rattle.std.specs.Prelude.{◌≡◌, ◌+◌, ℤ, pos, List, ◌++◌, take, drop, length, slice_index_or}
use Rattle.ob_mean.specs.Values.{Value, Cell, Named, Open, Nothing, Beside, before, image, item, shape, size}
use Rattle.ob_mean.specs.Programs.{opening_store}
use Rattle.ob_mean.specs.Shapes.{opening_row}
use Rattle.ob_session.specs.Session.{Session, Module, name_of, place_of, with_module, installed, program_of}

-- a value of this shape whose cells these are
abbrev pub refilled : Value → List ℤ → Value
refilled (Cell z) cells = Cell (slice_index_or cells 0 (pos 0))
refilled (Named p t) cells = Named p t
refilled (Open p k) cells = Open p k
refilled Nothing cells = Nothing
refilled (Beside v rest) cells = Beside (refilled v (take (size v) cells)) (refilled rest (drop (size v) cells))

-- the cells of the modules' variables are those of a session whose modules these are
abbrev pub store_of : List Module → List ℤ → Value
store_of modules cells = refilled (opening_store (program_of modules)) cells

-- there are as many cells as the modules' variables take
abbrev pub AreCellsOf : List Module → List ℤ → Type 0
AreCellsOf modules cells = length cells ≡ size (opening_store (program_of modules))

-- a store is found again from its cells
pub record IsFoundAgain (modules : List Module) (cells : List ℤ) : Type 0 where
  pub shapes : shape (store_of modules cells) ≡ shape (opening_store (program_of modules))
  pub pictured : image (store_of modules cells) ≡ cells
  pub only : (s : Value) → shape s ≡ shape (opening_store (program_of modules)) → image s ≡ cells → s ≡ store_of modules cells

abbrev pub EachIsFoundAgain : Type 0
EachIsFoundAgain = (modules : List Module) (cells : List ℤ) → AreCellsOf modules cells → IsFoundAgain modules cells

-- ---- loading a module

-- the cells once a module is loaded: its own begin as its variables do, those of others stay where they are or move with them
abbrev pub loaded_cells : List Module → Module → List ℤ → List ℤ
loaded_cells modules m cells =
    let old = opening_store (program_of modules) in
    let place = place_of modules (name_of m) in
    take (before old place) cells ++ (image (opening_row m.tree.variables) ++ drop (before old place + size (item old place)) cells)

-- the session of these modules with these cells
abbrev pub session_of : List Module → List ℤ → Session
session_of modules cells = record { modules = modules; store = store_of modules cells }

-- loading a module gives the store of these
pub record LoadsCells (modules : List Module) (m : Module) (cells : List ℤ) : Type 0 where
  pub fits : AreCellsOf (with_module modules m) (loaded_cells modules m cells)
  pub store : (installed (session_of modules cells) m).store ≡ store_of (with_module modules m) (loaded_cells modules m cells)

abbrev pub EachLoadsCells : Type 0
EachLoadsCells = (modules : List Module) (m : Module) (cells : List ℤ) → AreCellsOf modules cells → LoadsCells modules m cells
