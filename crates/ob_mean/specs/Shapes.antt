-- To be believed.
-- Variables before anything is assigned to them: a number is 0, a truth value FALSE, a character 0X.
use Rattle.std.specs.Prelude.{pos, List, [], ◌∷◌}
use Rattle.ob_mean.specs.declared.shape.Shape.{Shape, Row_of-Shape, end_of-Shape, more_of-Shape}
use Rattle.ob_mean.specs.declared.shape.Shape.TheVariants.{Basic, Array', Record'}
use Rattle.ob_mean.specs.declared.module.ModuleVariable.{ModuleVariable}
use Rattle.ob_mean.specs.declared.module.ModuleVariable.TheVariants.{Declared, Text}
use Rattle.ob_mean.specs.Values.{Value, Cell, Nothing, Beside, row}
use Rattle.ob_mean.specs.Texts.{text_row}

-- a record without fields takes a cell that nothing names
abbrev pub at_least_one : Value → Value
at_least_one (Beside v rest) = Beside v rest
at_least_one other = Beside (Cell (pos 0)) Nothing

abbrev mutual
  pub zero_of : Shape → Value
  zero_of Basic = Cell (pos 0)
  zero_of (Array' n h (more_of-Shape element end_of-Shape)) = row n (zero_of element)
  zero_of (Record' k fields) = at_least_one (zeros_in fields)

  pub zeros_in : {k : _} → Row_of-Shape k → Value
  zeros_in end_of-Shape = Nothing
  zeros_in (more_of-Shape field rest) = Beside (zero_of field) (zeros_in rest)

-- variables of these shapes
abbrev pub zeros : List Shape → Value
zeros [] = Nothing
zeros (shape ∷ shapes) = Beside (zero_of shape) (zeros shapes)

abbrev pub opening_value : ModuleVariable → Value
opening_value (Declared shape) = zero_of shape
opening_value (Text characters length) = text_row length characters

-- the variables of a module
abbrev pub opening_row : List ModuleVariable → Value
opening_row [] = Nothing
opening_row (v ∷ vs) = Beside (opening_value v) (opening_row vs)
