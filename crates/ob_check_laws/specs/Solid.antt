-- Loaded modules that export types whose arrays have elements, and variables of fewer than 2^31 cells.
use Rattle.std.specs.Prelude.{[], ◌∷◌, Option, Some, None}
use Rattle.ob_types.specs.Solid.{ExportsSolid}
use Rattle.ob_check_scope.specs.LoadedTree.{LoadedTree}
use Rattle.ob_check_scope.specs.Exports.{Modules}

abbrev pub LoadedSolid : Option LoadedTree → Type 0
LoadedSolid None = Unit {0}
LoadedSolid (Some m) = ExportsSolid m.interface.exports

-- the types of all that is exported by the loaded modules
abbrev pub EachSolid : Modules → Type 0
EachSolid [] = Unit {0}
EachSolid (m ∷ ms) = ExportsSolid m.interface.exports × EachSolid ms
