-- Types whose arrays have elements, so that each value of them takes cells; and exported variables of so few cells that each of
-- them can be named.
use Rattle.std.specs.Prelude.{◌<◌, List, [], ◌∷◌}
use Rattle.ob_types.specs.declared.exports.Exported.{Exported}
use Rattle.ob_types.specs.declared.exports.Object.{Object}
use Rattle.ob_types.specs.declared.exports.Object.TheVariants as object
use Rattle.ob_types.specs.declared.structure.Field.{Field}
use Rattle.ob_types.specs.declared.structure.ObType.{ObType, end_of-ObType, more_of-ObType}
use Rattle.ob_types.specs.declared.structure.ObType.TheBlock.{Row_of-Field, end_of-Field, more_of-Field}
use Rattle.ob_types.specs.declared.structure.ObType.TheVariants.{Basic as OfBasic, Array', Open', Record}
use Rattle.ob_types.specs.declared.structure.RecordType.{RecordType'}
use Rattle.ob_types.specs.Types.{cells}

abbrev mutual
  pub IsSolid : ObType → Type 0
  IsSolid (OfBasic b) = Unit {0}
  IsSolid (Array' n p (more_of-ObType element end_of-ObType)) = (0 < n) × IsSolid element
  IsSolid (Open' p (more_of-ObType element end_of-ObType)) = IsSolid element
  IsSolid (Record (RecordType' name k fields)) = AreSolid fields

  pub AreSolid : {k : _} → Row_of-Field k → Type 0
  AreSolid end_of-Field = Unit {0}
  AreSolid (more_of-Field name exported of rest) = IsSolid of × AreSolid rest

-- the same of fields
abbrev pub FieldsSolid : List Field → Type 0
FieldsSolid [] = Unit {0}
FieldsSolid (f ∷ fs) = IsSolid f.of × FieldsSolid fs

-- what a module exports: a variable has fewer than 2^31 cells
abbrev pub ObjectSolid : Object → Type 0
ObjectSolid (object.Constant c) = Unit {0}
ObjectSolid (object.TypeName t) = IsSolid t
ObjectSolid (object.Variable t) = IsSolid t × (cells t < 2147483648)
ObjectSolid (object.Procedure s) = Unit {0}

abbrev pub ExportsSolid : List Exported → Type 0
ExportsSolid [] = Unit {0}
ExportsSolid (e ∷ es) = ObjectSolid e.object × ExportsSolid es
