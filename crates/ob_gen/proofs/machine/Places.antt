-- Where objects are: what is known of variables, elements and fields, and of the numbers that stand for places.
use Rattle.std.proofs.Common.{◌≡◌, ℕ, zero, suc, ◌+◌, ◌-◌, ◌<◌, ◌≤◌, ℤ, pos, List, [], ◌∷◌, Option, Some, None, false, true, refl, sym, ap, ◌∙◌, arith}
use Rattle.std.specs.Prelude.{slice_get, slice_index_or, nat_lt, nat_le, cond}
use Rattle.std.specs.Int.{w32, int_wrap}
use Rattle.std.proofs.lemmas.Int.{int_wrap_fits}
use Rattle.std.proofs.lemmas.Bool.Decides.{nat_tests}
use Rattle.ob_mean.specs.declared.expression.Variable.{Variable}
use Rattle.ob_mean.specs.declared.expression.Variable.TheVariants as variable
use Rattle.ob_mean.specs.declared.expression.TypedExpr.{end_of-TypedExpr, more_of-TypedExpr}
use Rattle.ob_mean.specs.declared.expression.Designator.{Designator, end_of-Designator, more_of-Designator}
use Rattle.ob_mean.specs.declared.expression.Designator.TheVariants as designator
use Rattle.ob_mean.specs.declared.shape.Shape.{Shape, end_of-Shape, more_of-Shape}
use Rattle.ob_mean.specs.declared.shape.Shape.TheVariants.{Basic, Array', Record'}
use Rattle.ob_mean.specs.declared.module.ModuleVariable.{ModuleVariable}
use Rattle.ob_mean.specs.declared.module.ModuleVariable.TheVariants.{Declared, Text}
use Rattle.ob_mean.specs.declared.module.Parameter.{Parameter}
use Rattle.ob_mean.specs.declared.module.Parameter.TheVariants as parameter
use Rattle.ob_mean.specs.declared.face.Face.{Face}
use Rattle.ob_mean.specs.Values.{Place, Part, Value, count, size, item, get, offset, shape, row}
use Rattle.ob_mean.specs.Shapes.{zero_of}
use Rattle.ob_mean.specs.Runs.{World}
use Rattle.ob_mean.specs.Expressions.{Scope, variable_place, told_variable, told_of}
use Rattle.ob_mean.specs.WellFormed.{Object, Of, OpenOf, Names, module_object, shape_object, face_object, value_object, own_object, named_object, variable_object, is_extended, is_told_variable, is_told, IndexesFit, elements_in, object_of, cell_limit}
use Rattle.ob_code.specs.declared.instr.Root.{Root}
use Rattle.ob_code.specs.declared.instr.Root.TheVariants as root
use Rattle.ob_code.specs.declared.instr.Name.{Name}
use Rattle.ob_code.specs.Machine.{Code, import_number, cells_in, no_name, part_of, object, name_at, type_of, elements, within}
use Rattle.ob_gen.specs.Code.{root_of, root_in, name_in, name_number, length_in, length_of}
use Rattle.ob_gen.proofs.machine.Reaches.{Running, conf}
use Rattle.ob_gen.specs.TypesAgree.{Shapes}
use Rattle.ob_gen.proofs.machine.Store.{Inside, inside-leads, count-row, before-within}
pub use Rattle.ob_gen.proofs.machine.Records.{some_same}
use Rattle.ob_gen.proofs.machine.Records.{field_some, field_is, named_cells, HoldsTold}

-- ---- what is known of a variable

-- the cells that a root stands for while a procedure runs
abbrev pub rooted : Code → Running → Root → Name
rooted code r (root.OfModule e) = part_of (cells_in (slice_get code r.home)) e
rooted code r (root.OfImport i e) = part_of (cells_in (slice_get code (import_number code r.home i))) e
rooted code r (root.OfCall e) = part_of r.cells e
rooted code r (root.Named x) = slice_index_or r.below (r.names + x) no_name

-- the machine finds them, whatever names are pending, and numbers of cells among them are no long ones
pub record RootFits (code : Code) (r : Running) (t : Root) : Type 0 where
  pub found : (pc : ℕ) (stack : List ℤ) (pending : List Name) (w : World) → object code (conf r pc stack pending w) t ≡ rooted code r t
  pub low : (rooted code r t).cells < cell_limit

-- what stands at a place
abbrev pub IsObject : Value → ℕ → Object → Place → Type 0
IsObject s many (Of t) p = get s p ≡ zero_of t
IsObject s many (OpenOf t) p = get s p ≡ row many (zero_of t)

-- an object at a place, which is within these cells
pub record PlaceFits (s : Value) (name : Name) (o : Object) (p : Place) : Type 0 where
  pub leads : Inside s p
  pub from : name.address ≤ offset s p
  pub ends : offset s p + size (get s p) ≤ name.address + name.cells
  pub is : IsObject s name.length o p

-- a place of which a type is told: this name tells it, begins there, and has the cells of that type
pub record IsTold (code : Code) (shapes : Shapes) (s : Value) (name : Name) (o : Object) (p : Place) : Type 0 where
  pub kind : Shape
  pub is : o ≡ Of kind
  pub holds : HoldsTold shapes s p (type_of code name) kind
  pub at : offset s p ≡ name.address
  pub cells : name.cells ≡ named_cells s p (type_of code name)
  pub plain : name.length ≡ 0

-- a variable is at one place as long as its procedure runs
pub record VariableFits (code : Code) (shapes : Shapes) (r : Running) (s : Value) (names : Names) (scope : Scope) (v : Variable) (o : Object) : Type 0 where
  pub place : Place
  pub stands : (w : World) → shape w.store ≡ s → variable_place scope v w.store ≡ place
  pub root : RootFits code r (root_of names v)
  pub fits : PlaceFits s (rooted code r (root_of names v)) o place
  pub at : offset s place ≡ (rooted code r (root_of names v)).address
  -- and where a type is told of it, its name tells that type
  pub told : is_told_variable names v ≡ true → IsTold code shapes s (rooted code r (root_of names v)) o place
  pub tells : (w : World) → shape w.store ≡ s → is_told_variable names v ≡ true → told_variable scope v w.store ≡ type_of code (rooted code r (root_of names v))

-- what a procedure can name is where its code looks for it
pub record FrameFits (code : Code) (shapes : Shapes) (r : Running) (s : Value) (names : Names) (scope : Scope) : Type 0 where
  pub home : scope.home ≡ r.home
  pub variables : (v : Variable) (o : Object) → variable_object names v ≡ Some o → VariableFits code shapes r s names scope v o

-- ---- numbers

pub le_true : (i n : ℕ) → i ≤ n → nat_le i n ≡ true
le_true i n e = grind (arith, nat_tests)

pub lt_true : (i n : ℕ) → nat_lt i n ≡ true → i < n
lt_true i n e = grind (arith, nat_tests)

-- a low number doesn't wrap
pub wraps_low : (n : ℕ) → n < cell_limit → int_wrap w32 (pos n) ≡ pos n
wraps_low n lt = int_wrap_fits w32 (pos n) (omega arith)

pub within_by : (name : Name) (a m : ℕ) → name.address ≤ a → a + m ≤ name.address + name.cells → within name (pos (a - name.address)) m ≡ Some a
within_by name a m from ends =
    let low : a - name.address + m ≤ name.cells = omega arith in
    let back : name.address + (a - name.address) ≡ a = omega arith in
    ap (λ b. cond b (Some (name.address + (a - name.address))) None) (le_true (a - name.address + m) name.cells low) ∙ ap Some back

-- ---- objects

pub shape_some : (x : Option Shape) (o : Object) → shape_object x ≡ Some o → (t : Shape) × (x ≡ Some t) × (o ≡ Of t)
shape_some None o e = absurd (let n : None ≡ Some o = e in cc)
shape_some (Some t) o e = (t, refl, sym (some_same (Of t) o e))

pub elements_some : (x : Option Object) (t : Shape) → elements_in x ≡ Some t → (o : Object) × (x ≡ Some o)
elements_some None t e = absurd (let n : None ≡ Some t = e in cc)
elements_some (Some o) t e = (o, refl)

-- an array has equal elements
pub array_at : (s : Value) (many : ℕ) (o : Object) (p : Place) (t : Shape) → IsObject s many o p → elements_in (Some o) ≡ Some t → get s p ≡ row (count (get s p)) (zero_of t)
array_at s many (Of Basic) p t h e = absurd (let n : None ≡ Some t = e in cc)
array_at s many (Of (Array' n q (more_of-Shape u end_of-Shape))) p t h e =
    let same : u ≡ t = some_same u t e in
    let c : count (get s p) ≡ n = ap count h ∙ count-row n (zero_of u) in
    h ∙ ap (row n) (ap zero_of same) ∙ ap (λ m. row m (zero_of t)) (sym c)
array_at s many (Of (Record' k fields)) p t h e = absurd (let n : None ≡ Some t = e in cc)
array_at s many (OpenOf u) p t h e =
    let same : u ≡ t = some_same u t e in
    let c : count (get s p) ≡ many = ap count h ∙ count-row many (zero_of u) in
    h ∙ ap (row many) (ap zero_of same) ∙ ap (λ m. row m (zero_of t)) (sym c)

-- ---- parts of places

pub part_fits : (s : Value) (name : Name) (o : Object) (p : Place) (i : ℕ) (t : Shape) → PlaceFits s name o p → i < count (get s p) → item (get s p) i ≡ zero_of t → PlaceFits s name (Of t) (Part p i)
part_fits s name o p i t f lt e = record {
  leads = (inside-leads s p f.leads, lt);
  from = omega (arith, f.from);
  ends = omega (arith, f.ends, before-within (get s p) i);
  is = e;
}

-- ---- only a parameter is an array of a length that its caller knows

pub not_open : (t u : Shape) → Of t ≡ OpenOf u → ⊥
not_open t u e = cc

pub closed_module : (x : Option ModuleVariable) (t : Shape) → module_object x ≡ Some (OpenOf t) → ⊥
closed_module None t e = let n : None ≡ Some (OpenOf t) = e in cc
closed_module (Some (Declared u)) t e = not_open u t (some_same _ _ e)
closed_module (Some (Text cs n)) t e = not_open _ t (some_same _ _ e)

pub closed_shape : (x : Option Shape) (t : Shape) → shape_object x ≡ Some (OpenOf t) → ⊥
closed_shape None t e = let n : None ≡ Some (OpenOf t) = e in cc
closed_shape (Some u) t e = not_open u t (some_same _ _ e)

pub closed_face : (x : Option Face) (i : ℕ) (t : Shape) → face_object x i ≡ Some (OpenOf t) → ⊥
closed_face None i t e = let n : None ≡ Some (OpenOf t) = e in cc
closed_face (Some f) i t e = closed_shape (slice_get f.variables i) t e

closed_value : (p : Parameter) (t : Shape) → value_object p ≡ Some (OpenOf t) → ⊥
closed_value parameter.Value t e = not_open Basic t (some_same _ _ e)
closed_value (parameter.Place u) t e = let n : None ≡ Some (OpenOf t) = e in cc
closed_value (parameter.Open u) t e = let n : None ≡ Some (OpenOf t) = e in cc
closed_value (parameter.Extended u) t e = let n : None ≡ Some (OpenOf t) = e in cc

pub closed_own : (ps : List Parameter) (ts : List Shape) (x : ℕ) (t : Shape) → own_object ps ts x ≡ Some (OpenOf t) → ⊥
closed_own [] ts x t e = closed_shape (slice_get ts x) t e
closed_own (p ∷ ps) ts zero t e = closed_value p t e
closed_own (p ∷ ps) ts (suc x) t e = closed_own ps ts x t e

open_variable : (names : Names) (v : Variable) (t : Shape) → variable_object names v ≡ Some (OpenOf t) → (x : ℕ) × (root_of names v ≡ root.Named x)
open_variable names (variable.OfModule x) t e = absurd (closed_module (slice_get names.variables x) t e)
open_variable names (variable.OfImport i x) t e = absurd (closed_face (slice_get names.faces i) x t e)
open_variable names (variable.OfProcedure x) t e = absurd (closed_own names.parameters names.own x t e)
open_variable names (variable.ByParameter x) t e = (_, refl)

pub open_named : (names : Names) (d : Designator) (t : Shape) → object_of names d ≡ Some (OpenOf t) → (x : ℕ) × (root_in names d ≡ root.Named x)
open_named names (designator.Whole v) t e = open_variable names v t e
open_named names (designator.Element' g (more_of-Designator d end_of-Designator) l h row) t e =
    absurd (closed_shape (elements_in (object_of names d)) t e)
open_named names (designator.Field' h (more_of-Designator d end_of-Designator) i) t e =
    let f = field_some (object_of names d) i (OpenOf t) e in
    let k = field_is f.0 i (OpenOf t) f.2 in
    absurd (not_open k.kind t (sym k.object))
open_named names (designator.Guarded' h (more_of-Designator d end_of-Designator) l kind levels) t e = absurd (not_open kind.shape t (some_same _ _ e))

-- ---- what is told

-- a variable of which a type is told has one
told_variable_object : (names : Names) (v : Variable) → is_told_variable names v ≡ true → (t : Shape) × (variable_object names v ≡ Some (Of t))
told_variable_object names (variable.OfModule x) e = absurd (let n : false ≡ true = e in cc)
told_variable_object names (variable.OfImport i x) e = absurd (let n : false ≡ true = e in cc)
told_variable_object names (variable.OfProcedure x) e = absurd (let n : false ≡ true = e in cc)
told_variable_object names (variable.ByParameter x) e = told_parameter (slice_get names.parameters x) e
  where
    told_parameter : (p : Option Parameter) → is_extended p ≡ true → (t : Shape) × (named_object p ≡ Some (Of t))
    told_parameter None e = absurd (let n : false ≡ true = e in cc)
    told_parameter (Some parameter.Value) e = absurd (let n : false ≡ true = e in cc)
    told_parameter (Some (parameter.Place t)) e = absurd (let n : false ≡ true = e in cc)
    told_parameter (Some (parameter.Open t)) e = absurd (let n : false ≡ true = e in cc)
    told_parameter (Some (parameter.Extended t)) e = (t, refl)

pub told_object : (names : Names) (d : Designator) → is_told names d ≡ true → (t : Shape) × (object_of names d ≡ Some (Of t))
told_object names (designator.Whole v) e = told_variable_object names v e
told_object names (designator.Element' g d l h row) e = absurd (let n : false ≡ true = e in cc)
told_object names (designator.Field' h d i) e = absurd (let n : false ≡ true = e in cc)
told_object names (designator.Guarded' h (more_of-Designator d end_of-Designator) l kind levels) e = (kind.shape, refl)

-- and begins with a name
told_variable_root : (names : Names) (v : Variable) → is_told_variable names v ≡ true → root_of names v ≡ root.Named (name_number (root_of names v))
told_variable_root names (variable.OfModule x) e = absurd (let n : false ≡ true = e in cc)
told_variable_root names (variable.OfImport i x) e = absurd (let n : false ≡ true = e in cc)
told_variable_root names (variable.OfProcedure x) e = absurd (let n : false ≡ true = e in cc)
told_variable_root names (variable.ByParameter x) e = refl

pub told_root : (names : Names) (d : Designator) → is_told names d ≡ true → root_in names d ≡ root.Named (name_in names d)
told_root names (designator.Whole v) t = told_variable_root names v t
told_root names (designator.Element' g d l h row) t = absurd (let n : false ≡ true = t in cc)
told_root names (designator.Field' h d i) t = absurd (let n : false ≡ true = t in cc)
told_root names (designator.Guarded' h (more_of-Designator d end_of-Designator) l kind levels) t = told_root names d t

-- ---- designators

-- the number of a place's first cell in the object that it is in
abbrev pub mark : Code → Running → Value → Root → Place → ℤ
mark code r s t p = pos (offset s p - (rooted code r t).address)

-- the cells of a place are found through its number
pub finds_place : (code : Code) (r : Running) (s : Value) (t : Root) (o : Object) (p : Place) (m pc : ℕ) (stack : List ℤ) (pending : List Name) (w : World) → RootFits code r t → PlaceFits s (rooted code r t) o p → size (get s p) ≡ m → within (object code (conf r pc stack pending w) t) (mark code r s t p) m ≡ Some (offset s p)
finds_place code r s t o p m pc stack pending w root f e =
    ap (λ name. within name (mark code r s t p) m) (root.found pc stack pending w)
    ∙ within_by (rooted code r t) (offset s p) m f.from (omega (arith, f.ends, e))

module _ (code : Code) (shapes : Shapes) (r : Running) (s : Value) (names : Names) (scope : Scope) (frame : FrameFits code shapes r s names scope) where
  pub root_fits : (d : Designator) (o : Object) → IndexesFit names d → object_of names d ≡ Some o → RootFits code r (root_in names d)
  root_fits (designator.Whole v) o ty e = (frame.variables v o e).root
  root_fits (designator.Element' g (more_of-Designator d end_of-Designator) l h (more_of-TypedExpr i end_of-TypedExpr)) o ty e =
      let t = shape_some (elements_in (object_of names d)) o e in
      let u = elements_some (object_of names d) t.0 t.1 in
      root_fits d u.0 ty.0 u.1
  root_fits (designator.Field' h (more_of-Designator d end_of-Designator) i) o ty e =
      let f = field_some (object_of names d) i o e in
      root_fits d (Of f.0) ty f.1
  root_fits (designator.Guarded' h (more_of-Designator d end_of-Designator) l kind levels) o ty e =
      let t = told_object names d ty.1 in
      root_fits d (Of t.0) ty.0 t.1

  -- what is told of a designator is found by its name
  pub tells_type : (d : Designator) (w : World) → is_told names d ≡ true → shape w.store ≡ s → told_of scope d w.store ≡ type_of code (rooted code r (root_in names d))
  tells_type (designator.Whole v) w t e = let x = told_object names (designator.Whole v) t in (frame.variables v (Of x.0) x.1).tells w e t
  tells_type (designator.Element' g d l h row) w t e = absurd (let n : false ≡ true = t in cc)
  tells_type (designator.Field' h d i) w t e = absurd (let n : false ≡ true = t in cc)
  tells_type (designator.Guarded' h (more_of-Designator d end_of-Designator) l kind levels) w t e = tells_type d w t e

  pub finds_name : (d : Designator) (pc : ℕ) (stack : List ℤ) (pending : List Name) (w : World) → IndexesFit names d → is_told names d ≡ true → name_at (conf r pc stack pending w) (name_in names d) ≡ rooted code r (root_in names d)
  finds_name d pc stack pending w ty t =
      let o = told_object names d t in
      let c = conf r pc stack pending w in
      ap (object code c) (sym (told_root names d t)) ∙ (root_fits d (Of o.0) ty o.1).found pc stack pending w

  -- a length is found likewise
  pub finds_length : (d : Designator) (o : Object) (t : Shape) (p : Place) (pc : ℕ) (stack : List ℤ) (pending : List Name) (w : World) → IndexesFit names d → object_of names d ≡ Some o → elements_in (Some o) ≡ Some t → IsObject s (rooted code r (root_in names d)).length o p → elements (conf r pc stack pending w) (length_of names d) ≡ count (get s p)
  finds_length d (Of u) t p pc stack pending w ty e a is =
      ap (λ x. elements (conf r pc stack pending w) (length_in x (root_in names d))) e ∙ ap count (sym is)
  finds_length d (OpenOf u) t p pc stack pending w ty e a is =
      let c = conf r pc stack pending w in
      let x = open_named names d u e in
      let known = root_fits d (OpenOf u) ty e in
      let found : object code c (root.Named x.0) ≡ rooted code r (root_in names d) = ap (object code c) (sym x.1) ∙ known.found pc stack pending w in
      ap (λ y. elements c (length_in y (root_in names d))) e
      ∙ ap (λ y. (name_at c (name_number y)).length) x.1
      ∙ ap (λ (y : Name). y.length) found
      ∙ sym (count-row (rooted code r (root_in names d)).length (zero_of u))
      ∙ ap count (sym is)
