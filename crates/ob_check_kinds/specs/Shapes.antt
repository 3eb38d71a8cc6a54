-- To be believed.
-- What a type is to its values, and what a formal parameter is to its procedure.
use Rattle.std.specs.Prelude.{List, [], ◌∷◌}
use Rattle.ob_types.specs.declared.exports.Formal.{Formal}
use Rattle.ob_types.specs.declared.exports.FormalKind.{FormalKind}
use Rattle.ob_types.specs.declared.exports.FormalKind.TheVariants as kind
use Rattle.ob_types.specs.declared.structure.Field.{Field}
use Rattle.ob_types.specs.declared.structure.ObType.{ObType, end_of-ObType, more_of-ObType}
use Rattle.ob_types.specs.declared.structure.ObType.TheBlock.{Row_of-Field, end_of-Field, more_of-Field}
use Rattle.ob_types.specs.declared.structure.ObType.TheVariants.{Basic as OfBasic, Array', Open', Record}
use Rattle.ob_types.specs.declared.structure.RecordType.{RecordType'}
use Rattle.ob_mean.specs.declared.module.Parameter.{Parameter}
use Rattle.ob_mean.specs.declared.module.Parameter.TheVariants as parameter
use Rattle.ob_mean.specs.declared.shape.Shape.{Shape}
use Rattle.ob_mean.specs.declared.shape.Shape.TheVariants as shape

-- How a type is made of basic ones. An open array has no length of its own, and nothing is ever passed that has open arrays as
-- elements: one element stands for them.
abbrev mutual
  pub shape_of : ObType → Shape
  shape_of (OfBasic b) = shape.Basic
  shape_of (Array' n p (more_of-ObType element end_of-ObType)) = shape.Array n (shape_of element)
  shape_of (Open' p (more_of-ObType element end_of-ObType)) = shape.Array 1 (shape_of element)
  shape_of (Record (RecordType' name k fields)) = shape.Record (shapes_of fields)

  pub shapes_of : {k : _} → Row_of-Field k → List Shape
  shapes_of end_of-Field = []
  shapes_of (more_of-Field name exported of rest) = shape_of of ∷ shapes_of rest

-- the shapes of fields
abbrev pub shapes_in : List Field → List Shape
shapes_in [] = []
shapes_in (f ∷ fs) = shape_of f.of ∷ shapes_in fs

-- A VAR parameter names a variable of its type, and so does a structured value; an open array one of any length. A record that is
-- VAR may be the base part of a record of an extension, so its type is told.
abbrev pub basic_parameter : FormalKind → Parameter
basic_parameter kind.Value = parameter.Value
basic_parameter kind.Variable = parameter.Place shape.Basic

abbrev pub record_parameter : FormalKind → Shape → Parameter
record_parameter kind.Value s = parameter.Place s
record_parameter kind.Variable s = parameter.Extended s

abbrev pub parameter_of : FormalKind → ObType → Parameter
parameter_of k (OfBasic b) = basic_parameter k
parameter_of k (Open' p (more_of-ObType element end_of-ObType)) = parameter.Open (shape_of element)
parameter_of k (Array' n p e) = parameter.Place (shape_of (Array' n p e))
parameter_of k (Record r) = record_parameter k (shape_of (Record r))

abbrev pub parameters_of : List Formal → List Parameter
parameters_of [] = []
parameters_of (f ∷ fs) = parameter_of f.kind f.of ∷ parameters_of fs
