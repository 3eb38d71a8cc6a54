-- To be believed.
-- A checked module, as data.
use Rattle.std.specs.Prelude.{List}
use Rattle.ob_types.specs.InterfaceTree.{InterfaceTree}
use Rattle.ob_mean.specs.declared.module.TypedModule.{TypedModule}
use Rattle.ob_check_module.specs.declared.checked.Imported.{Imported}

-- its typed tree, what it shows to others, and the modules that it imports, but for In and Out, in their order
pub record CheckedTree : Type 0 where
  pub tree : TypedModule
  pub interface : InterfaceTree
  pub imports : List Imported
