-- Each variable has so few cells that their numbers fit an operand.
use Rattle.std.proofs.Common.{ℕ, zero, suc, ◌<◌, List, [], ◌∷◌, slice_get, arith}
use Rattle.ob_mean.specs.declared.face.Face.{Face}
use Rattle.ob_mean.specs.declared.module.ModuleVariable.{ModuleVariable}
use Rattle.ob_mean.specs.declared.module.Parameter.{Parameter}
use Rattle.ob_mean.specs.declared.module.Parameter.TheVariants as parameter
use Rattle.ob_mean.specs.declared.shape.Shape.{Shape}
use Rattle.ob_mean.specs.Shapes.{zeros, opening_row}
use Rattle.ob_mean.specs.Values.{size, item, append}
use Rattle.ob_mean.specs.WellFormed.{cell_limit, ShapesFit, VariablesFit, FacesFit}
use Rattle.ob_gen.specs.Code.{parameter_row, face_row}

pub shapes_few : (ts : List Shape) (x : ℕ) → ShapesFit ts → size (item (zeros ts) x) < cell_limit
shapes_few [] x h = omega arith
shapes_few (t ∷ ts) zero h = h.0
shapes_few (t ∷ ts) (suc x) h = shapes_few ts x h.1

pub variables_few : (vs : List ModuleVariable) (x : ℕ) → VariablesFit vs → size (item (opening_row vs) x) < cell_limit
variables_few [] x h = omega arith
variables_few (v ∷ vs) zero h = h.0
variables_few (v ∷ vs) (suc x) h = variables_few vs x h.1

-- of a call: a parameter has one cell at most
pub own_few : (ps : List Parameter) (ts : List Shape) (x : ℕ) → ShapesFit ts → size (item (append (parameter_row ps) (zeros ts)) x) < cell_limit
own_few [] ts x h = shapes_few ts x h
own_few (parameter.Value ∷ ps) ts zero h = omega arith
own_few (parameter.Place t ∷ ps) ts zero h = omega arith
own_few (parameter.Open t ∷ ps) ts zero h = omega arith
own_few (parameter.Extended t ∷ ps) ts zero h = omega arith
own_few (p ∷ ps) ts (suc x) h = own_few ps ts x h

-- of an import, where there is one
pub faces_few : (faces : List Face) (i x : ℕ) → FacesFit faces → size (item (face_row (slice_get faces i)) x) < cell_limit
faces_few [] i x h = omega arith
faces_few (face ∷ rest) zero x h = shapes_few face.variables x h.0
faces_few (face ∷ rest) (suc i) x h = faces_few rest i x h.1
