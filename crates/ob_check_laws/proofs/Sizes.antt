-- Variables of few cells: those of declared types, strings, and what interfaces say.
use Rattle.std.proofs.Common.{◌≡◌, ◌≤◌, ◌<◌, ℕ, zero, suc, ◌+◌, ◌*◌, max, nat_le, ◌++◌, Bool, true, false, cond, List, [], ◌∷◌, Some, refl, sym, subst, arith}
use Rattle.std.proofs.Math.Nat.{le-max_right}
use Rattle.std.proofs.lemmas.Bool.Decides.{nat_tests}
use Rattle.std.specs.Str.{bytes_eq}
use Rattle.ob_types.specs.declared.exports.Exported.{Exported}
use Rattle.ob_types.specs.declared.exports.Object.{Object}
use Rattle.ob_types.specs.declared.exports.Object.TheVariants as object
use Rattle.ob_types.specs.declared.structure.ObType.{ObType, end_of-ObType, more_of-ObType}
use Rattle.ob_types.specs.declared.structure.ObType.TheVariants.{Basic as OfBasic, Array', Open', Record}
use Rattle.ob_types.specs.declared.structure.ObType.TheBlock.{Row_of-Field, end_of-Field, more_of-Field}
use Rattle.ob_types.specs.declared.structure.RecordType.{RecordType'}
use Rattle.ob_types.specs.Solid.{ObjectSolid, ExportsSolid}
use Rattle.ob_types.specs.Types.{cells, cells_of}
use Rattle.ob_mean.specs.declared.face.Face.{Face}
use Rattle.ob_mean.specs.declared.module.ModuleVariable.{ModuleVariable}
use Rattle.ob_mean.specs.declared.shape.Shape.{Shape}
use Rattle.ob_mean.specs.Shapes.{zero_of, zeros, at_least_one}
use Rattle.ob_mean.specs.Texts.{text_row}
use Rattle.ob_mean.specs.Values.{Value, size, row}
use Rattle.ob_mean.specs.WellFormed.{cell_limit, ShapesFit, VariablesFit, FacesFit}
use Rattle.ob_check_scope.specs.declared.rule.RuleCode.TheVariants as code
use Rattle.ob_check_decl.specs.Declarations.{most_cells, cells_behind}
use Rattle.ob_check_scope.specs.Exports.{Modules}
use Rattle.ob_check_scope.specs.Rule.{gives, there}
use Rattle.ob_check_module.specs.declared.checked.Imported.{Imported}
use Rattle.ob_check_kinds.specs.Shapes.{shape_of, shapes_of}
use Rattle.ob_check_laws.specs.Fitting.{variable_shape, variable_shapes, face_of_loaded, with_face, face_named, faces_of}
use Rattle.ob_check_laws.specs.Solid.{EachSolid}
use Rattle.ob_check_laws.proofs.Rules.{if_some, there_is}
use Rattle.ob_mean.proofs.Zeros.{array_zero, record_zero}

-- ---- types

row_most : (n : ℕ) (v : Value) (c : ℕ) → size v ≤ c → size (row n v) ≤ n * c
row_most zero v c h = omega arith
row_most (suc n) v c h =
    let rest = row_most n v c h in
    let sum : suc n * c ≡ c + n * c = grind arith in
    omega (arith, h, rest, sum)

-- a variable of a type has no more cells than are counted
mutual
  cells_most : (t : ObType) → size (zero_of (shape_of t)) ≤ cells t
  cells_most (OfBasic b) = omega arith
  cells_most (Array' n p (more_of-ObType e end_of-ObType)) =
      subst (λ v. size v ≤ n * cells e) (sym (array_zero n (shape_of e))) (row_most n (zero_of (shape_of e)) (cells e) (cells_most e))
  cells_most (Open' p (more_of-ObType e end_of-ObType)) =
      subst (λ v. size v ≤ cells e) (sym (array_zero 1 (shape_of e))) (let one = row_most 1 (zero_of (shape_of e)) (cells e) (cells_most e) in omega (arith, one))
  cells_most (Record (RecordType' name k fields)) =
      subst (λ v. size v ≤ max 1 (cells_of fields)) (sym (record_zero (shapes_of fields))) (record_most _ fields)

  record_most : (k : _) (fields : Row_of-Field k) → size (at_least_one (zeros (shapes_of fields))) ≤ max 1 (cells_of fields)
  record_most k end_of-Field = omega arith
  record_most k (more_of-Field name exported of rest) =
      let one = cells_most of in
      let others = fields_most _ rest in
      let most = le-max_right 1 (cells of + cells_of rest) in
      omega (arith, one, others, most)

  fields_most : (k : _) (fields : Row_of-Field k) → size (zeros (shapes_of fields)) ≤ cells_of fields
  fields_most k end_of-Field = omega arith
  fields_most k (more_of-Field name exported of rest) =
      let one = cells_most of in
      let others = fields_most _ rest in
      omega (arith, one, others)

pub few_of : (t : ObType) → cells t < 2147483648 → size (zero_of (shape_of t)) < cell_limit
few_of t h = let most = cells_most t in omega (arith, h, most)

-- ---- declared variables

under : (a b : ℕ) → nat_le a b ≡ true → a ≤ b
under a b h = grind (arith, nat_tests)

most_few : (b : Bool) → most_cells b < 2147483648
most_few true = omega arith
most_few false = omega arith

pub declared_few : (b : Bool) (taken : ℕ) (t : ObType) (n : ℕ) → gives (there (cells_behind (most_cells b) taken t) code.Size) n → cells t < 2147483648
declared_few b taken t n h =
    let test = (if_some (nat_le (taken + cells t) (most_cells b)) (taken + cells t) n (there_is (cells_behind (most_cells b) taken t) code.Size n h)).0 in
    let most = most_few b in
    let all = under (taken + cells t) (most_cells b) test in
    omega (arith, most, all)

-- ---- strings

text_size : (n : ℕ) (cs : List ℕ) → size (text_row n cs) ≡ n
text_size zero cs = refl
text_size (suc n) [] = let e = text_size n [] in omega (arith, e)
text_size (suc n) (c ∷ cs) = let e = text_size n cs in omega (arith, e)

pub text_few : (n : ℕ) (cs : List ℕ) → nat_le n 2147483647 ≡ true → size (text_row n cs) < cell_limit
text_few n cs h =
    let cells = text_size n cs in
    let most = under n 2147483647 h in
    omega (arith, cells, most)

-- ---- lists

pub shapes_join : (ss ts : List Shape) → ShapesFit ss → ShapesFit ts → ShapesFit (ss ++ ts)
shapes_join [] ts h g = g
shapes_join (s ∷ ss) ts h g = (h.0, shapes_join ss ts h.1 g)

pub variables_join : (vs ws : List ModuleVariable) → VariablesFit vs → VariablesFit ws → VariablesFit (vs ++ ws)
variables_join [] ws h g = g
variables_join (v ∷ vs) ws h g = (h.0, variables_join vs ws h.1 g)

faces_join : (fs gs : List Face) → FacesFit fs → FacesFit gs → FacesFit (fs ++ gs)
faces_join [] gs h g = g
faces_join (f ∷ fs) gs h g = (h.0, faces_join fs gs h.1 g)

-- ---- what interfaces say

object_few : (o : Object) → ObjectSolid o → ShapesFit (variable_shape o)
object_few (object.Constant c) h = tt
object_few (object.TypeName t) h = tt
object_few (object.Variable t) h = (few_of t h.1, tt)
object_few (object.Procedure s) h = tt

exports_few : (es : List Exported) → ExportsSolid es → ShapesFit (variable_shapes es)
exports_few [] h = tt
exports_few (e ∷ es) h = shapes_join (variable_shape e.object) (variable_shapes es) (object_few e.object h.0) (exports_few es h.1)

face_few : (ms : Modules) (name : List ℕ) → EachSolid ms → FacesFit (with_face (face_named ms name))
face_few [] name h = tt
face_few (m ∷ ms) name h = by (bytes_eq m.interface.name name) (face_few ms name h.1)
  where
    by : (b : Bool) → FacesFit (with_face (face_named ms name)) → FacesFit (with_face (cond b (Some (face_of_loaded m)) (face_named ms name)))
    by true others = (exports_few m.interface.exports h.0, tt)
    by false others = others

pub faces_few : (ms : Modules) (is : List Imported) → EachSolid ms → FacesFit (faces_of ms is)
faces_few ms [] h = tt
faces_few ms (i ∷ is) h = faces_join (with_face (face_named ms i.name)) (faces_of ms is) (face_few ms i.name h) (faces_few ms is h)
