-- To be believed.
-- An interface as data.
use Rattle.std.specs.Prelude.{ℕ, List}
use Rattle.ob_types.specs.declared.exports.Exported.{Exported}

-- a module's name, and what it exports, in order of declaration
pub record InterfaceTree : Type 0 where
  pub name : List ℕ
  pub exports : List Exported
