-- Cells before a run, and what stays of them after it.
use Rattle.std.specs.Prelude.{◌≡◌, ℤ, List, [], take}
use Rattle.ob_inout.specs.Reading.{opened}
use Rattle.ob_mean.specs.Values.{Value, image, size}
use Rattle.ob_mean.specs.Programs.{opening_store, kept_store, world_before}
use Rattle.ob_session.specs.Session.{Module, program_of}
use Rattle.ob_code.specs.Machine.{picture}
use Rattle.ob_gen.specs.Correct.{MayBegin, StaysOf}
use Rattle.ob_image.specs.Stores.{store_of, AreCellsOf}

-- ---- before a run

-- a run may begin with these cells, and they are what a machine has then
pub record MayBeginWith (modules : List Module) (cells : List ℤ) : Type 0 where
  pub pictured : picture (world_before (store_of modules cells)) ≡ record { cells = cells; written = []; input = opened }
  pub may : MayBegin (program_of modules) (world_before (store_of modules cells))

abbrev pub EachMayBegin : Type 0
EachMayBegin = (modules : List Module) (cells : List ℤ) → AreCellsOf modules cells → MayBeginWith modules cells

-- ---- after a run

-- the cells that stay: the modules', which come first
abbrev pub kept_cells : List Module → List ℤ → List ℤ
kept_cells modules cells = take (size (opening_store (program_of modules))) cells

-- what stays of a store is the store of the cells that stay of its picture
pub record KeepsCells (modules : List Module) (t : Value) : Type 0 where
  pub fits : AreCellsOf modules (kept_cells modules (image t))
  pub store : kept_store (program_of modules) t ≡ store_of modules (kept_cells modules (image t))

abbrev pub EachKeepsCells : Type 0
EachKeepsCells = (modules : List Module) (t : Value) → StaysOf (program_of modules) t → KeepsCells modules t
