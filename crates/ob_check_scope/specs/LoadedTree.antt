-- To be believed.
-- A module that is loaded, as data.
use Rattle.std.specs.Prelude.{ℕ, List}
use Rattle.ob_types.specs.InterfaceTree.{InterfaceTree}

-- its interface, and the names of the modules that it reaches by its imports and theirs
pub record LoadedTree : Type 0 where
  pub interface : InterfaceTree
  pub reached : List (List ℕ)
