-- What a compiler keeps of the names of a text, and what it says of them.
use Rattle.std.specs.Prelude.{◌≡◌, ℕ, List, map, Option, Some, None}
use Rattle.ob_mean.specs.declared.face.Face.{Face}
use Rattle.ob_mean.specs.declared.shape.Shape.TheVariants.{Basic, Array}
use Rattle.ob_mean.specs.Shapes.{zeros, opening_row}
use Rattle.ob_mean.specs.WellFormed.{Object, Of, OpenOf, Names}
use Rattle.ob_gen.specs.declared.known.Known.{Known}
use Rattle.ob_gen.specs.declared.known.Object.{Object as Seen}
use Rattle.ob_gen.specs.declared.known.Object.TheVariants as seen
use Rattle.ob_gen.specs.Code.{own_row, named_one}
use Rattle.ob_table.specs.Tables.{row_sizes}

abbrev pub names_in : Known → Names
names_in k = record { faces = k.faces.now; variables = k.variables.now; procedures = k.procedures.now; parameters = k.parameters.now; own = k.own.now }

abbrev pub object_seen : Seen → Option Object
object_seen seen.Nothing = None
object_seen seen.Basic = Some (Of Basic)
object_seen (seen.Of shape) = Some (Of shape.now)
object_seen (seen.Characters n) = Some (Of (Array n Basic))
object_seen (seen.Open shape) = Some (OpenOf shape.now)

abbrev pub face_sizes : Face → List ℕ
face_sizes face = row_sizes (zeros face.variables)

-- the tables say where each variable is
pub record IsPlaced (k : Known) : Type 0 where
  pub faces : k.face_tables.now ≡ map face_sizes k.faces.now
  pub variables : k.variable_table.now ≡ row_sizes (opening_row k.variables.now)
  pub own : k.own_table.now ≡ row_sizes (own_row (names_in k))
  pub names : k.name_table.now ≡ map named_one k.parameters.now
