-- Types as they are written have cells, where those that they name do.
use Rattle.std.proofs.Common.{◌≡◌, ◌⊎◌, inl, inr, ◌<◌, ℕ, zero, suc, ◌+◌, pos, negsuc, nat_le, ◌&&◌, ◌++◌, map, Bool, true, false, cond, List, [], ◌∷◌, Option, Some, None, slice_get, refl, sym, ap, ◌∙◌, subst, arith}
use Rattle.std.proofs.lemmas.Bool.Decides.{nat_tests}
use Rattle.std.specs.Str.{bytes_eq}
use Rattle.ob_tree.specs.declared.tree.Expr.{Expr}
use Rattle.ob_tree.specs.declared.tree.FormalType.{FormalType}
use Rattle.ob_tree.specs.declared.tree.IdentDef.{IdentDef}
use Rattle.ob_tree.specs.declared.tree.Qualident.{Qualident}
use Rattle.ob_tree.specs.declared.tree.TypeExpr.{TypeExpr, out-TypeExpr}
use Rattle.ob_tree.specs.declared.tree.TypedNames.{TypedNames, out-TypedNames}
use Rattle.ob_tree.specs.declared.tree.TypeExpr.TheOpen.{TypeExpr-F}
use Rattle.ob_types.specs.declared.exports.Constant.{Constant}
use Rattle.ob_types.specs.declared.exports.Constant.TheVariants as constant
use Rattle.ob_types.specs.declared.exports.Object.{Object}
use Rattle.ob_types.specs.declared.exports.Object.TheVariants as object
use Rattle.ob_types.specs.declared.structure.Field.{Field}
use Rattle.ob_types.specs.declared.structure.ObType.{ObType, end_of-ObType, more_of-ObType, out-ObType}
use Rattle.ob_types.specs.declared.structure.ObType.TheVariants.{Basic as OfBasic, Array', Open', Array, Open, Record}
use Rattle.ob_types.specs.declared.structure.ObType.TheBlock as block
use Rattle.ob_types.specs.declared.structure.ObType.TheBlock.{Row_of-Field, end_of-Field, more_of-Field, items-the_row-Field, items_shown-the_row-Field-1}
use Rattle.ob_types.specs.declared.structure.RecordName.{RecordName}
use Rattle.ob_types.specs.declared.structure.RecordType.{RecordType, RecordType', out-RecordType, roll-RecordType, out-roll-RecordType}
use Rattle.ob_mean.specs.declared.shape.Shape.{Shape}
use Rattle.ob_mean.specs.Shapes.{zero_of, zeros, at_least_one}
use Rattle.ob_mean.proofs.Zeros.{array_zero, record_zero}
use Rattle.ob_mean.specs.Values.{Value, size, row}
use Rattle.ob_check_scope.specs.declared.block.Entry.{Entry}
use Rattle.ob_check_scope.specs.declared.block.Entry.TheVariants as entry
use Rattle.ob_check_scope.specs.declared.scope.Scope.{Scope}
use Rattle.ob_check_decl.specs.declared.written_type.Written.{Written}
use Rattle.ob_check_decl.specs.declared.written_type.Fields.{Fields}
use Rattle.ob_check_scope.specs.Exports.{Modules}
use Rattle.ob_check_decl.specs.Headings.{formal_at}
use Rattle.ob_check_scope.specs.Imports.{exported_at}
use Rattle.ob_check_scope.specs.Rule.{Rule, gives}
use Rattle.ob_check_scope.specs.Scope.{seen}
use Rattle.ob_check_const.specs.NamedTypes.{type_named}
use Rattle.ob_check_decl.specs.WrittenTypes.{length_of, field_of, next_fields, extended, begun, record_rule, type_layer, type_rule, inner_constant, inner_type, type_at, numbered}
use Rattle.ob_check_operand.specs.Selecting.{element_of, field_from}
use Rattle.ob_check_kinds.specs.Shapes.{shape_of, shapes_of}
use Rattle.ob_mean.specs.WellFormed.{Object as Object', elements_in}
use Rattle.ob_check_operand.specs.Functions.{is_array}
use Rattle.ob_check_laws.specs.Fitting.{Suits}
use Rattle.ob_types.specs.Solid.{IsSolid, AreSolid, FieldsSolid, ObjectSolid, ExportsSolid}
use Rattle.ob_check_laws.specs.Solid.{LoadedSolid, EachSolid}
use Rattle.ob_check_laws.proofs.NamedTypes.{object_keeps, named_keeps, formal_keeps, arrays_keep}
use Rattle.ob_check_laws.proofs.Rules.{through_keeps}
use Rattle.ob_check_laws.proofs.Suiting.{never, nothing, some_same, array_forms, elements_suit}

-- ---- cells

row_cells : (n : ℕ) (v : Value) → 0 < n → 0 < size v → 0 < size (row n v)
row_cells zero v h g = absurd (omega arith)
row_cells (suc n) v h g = omega arith

mutual
  pub solid_cells : (t : ObType) → IsSolid t → 0 < size (zero_of (shape_of t))
  solid_cells (OfBasic b) h = omega arith
  solid_cells (Array' n p (more_of-ObType e end_of-ObType)) h = subst (λ v. 0 < size v) (sym (array_zero n (shape_of e))) (row_cells n (zero_of (shape_of e)) h.0 (solid_cells e h.1))
  solid_cells (Open' p (more_of-ObType e end_of-ObType)) h = subst (λ v. 0 < size v) (sym (array_zero 1 (shape_of e))) (row_cells 1 (zero_of (shape_of e)) (omega arith) (solid_cells e h))
  solid_cells (Record (RecordType' name k fields)) h = subst (λ v. 0 < size v) (sym (record_zero (shapes_of fields))) (fields_cells _ fields h)

  fields_cells : (k : _) (fields : Row_of-Field k) → AreSolid fields → 0 < size (at_least_one (zeros (shapes_of fields)))
  fields_cells k end_of-Field h = omega arith
  fields_cells k (more_of-Field f e of rest) h = let c : 0 < size (zero_of (shape_of of)) = solid_cells of h.0 in omega arith

-- ---- parts

row_solid : (k : _) (fields : Row_of-Field k) → AreSolid fields ≡ FieldsSolid (items-the_row-Field k fields)
row_solid k end_of-Field = refl
row_solid k (more_of-Field name e of rest) = ap (λ l. IsSolid of × l) (row_solid _ rest)

pub record_solid : (r : RecordType) → IsSolid (Record r) ≡ FieldsSolid (out-RecordType r).fields
unfolding out-RecordType denote.Hole.Carrier.out
record_solid (RecordType' name k fields) = row_solid _ fields ∙ ap FieldsSolid (sym (items_shown-the_row-Field-1 k fields))

array_solid : (n : ℕ) (e : ObType) → IsSolid (Array n e) ≡ ((0 < n) × IsSolid e)
unfolding block.hidden-the_row-ObType-0 denote.Hole.Carrier.hidden
array_solid n e = refl

open_solid : (e : ObType) → IsSolid (Open e) ≡ IsSolid e
unfolding block.hidden-the_row-ObType-0 denote.Hole.Carrier.hidden
open_solid e = refl

pub element_solid : (t e : ObType) → element_of t ≡ Some e → IsSolid t → IsSolid e
element_solid t e h s = by (array_forms t e h)
  where
    by : ((n : ℕ) × (t ≡ Array n e)) ⊎ (t ≡ Open e) → IsSolid e
    by (inl p) = (subst (λ x. x) (array_solid p.0 e) (subst IsSolid p.1 s)).1
    by (inr p) = subst (λ x. x) (open_solid e) (subst IsSolid p s)

-- an array has elements, which have cells
pub array_cells : (t : ObType) (o : Option Object') → is_array t ≡ true → Suits t o → IsSolid t → (s : Shape) × (elements_in o ≡ Some s) × (0 < size (zero_of s))
unfolding block.hidden-the_row-ObType-0 denote.Hole.Carrier.hidden block.shown-the_row-ObType-0 denote.Hole.Carrier.shown out-ObType denote.Hole.Carrier.out
array_cells (OfBasic b) o h s k = never h
array_cells (Array' n p (more_of-ObType x end_of-ObType)) o h s k = (shape_of x, elements_suit (Array n x) x o refl s, solid_cells x k.1)
array_cells (Open' p (more_of-ObType x end_of-ObType)) o h s k = (shape_of x, elements_suit (Open x) x o refl s, solid_cells x k)
array_cells (Record r) o h s k = never h

found_by : (n : ℕ) (f : Field) (fs : List Field) (name : List ℕ) (q : ℕ × Field) (b : Bool) → (field_from (n + 1) fs name ≡ Some q → IsSolid q.1.of) → IsSolid f.of → cond b (Some (n, f)) (field_from (n + 1) fs name) ≡ Some q → IsSolid q.1.of
found_by n f fs name q true g s e = subst (λ x. IsSolid x.1.of) (some_same (n, f) q e) s
found_by n f fs name q false g s e = g e

pub found_solid : (n : ℕ) (fs : List Field) (name : List ℕ) (q : ℕ × Field) → FieldsSolid fs → field_from n fs name ≡ Some q → IsSolid q.1.of
found_solid n [] name q s h = nothing q h
found_solid n (f ∷ fs) name q s h = found_by n f fs name q (bytes_eq f.name name) (found_solid (n + 1) fs name q s.1) s.0 h

-- ---- what is imported

pub object_solid : (ms : Modules) (place : ℕ) (name : List ℕ) (o : Object) → LoadedSolid (slice_get ms place) → exported_at ms place name ≡ Some o → ObjectSolid o
object_solid ms place name o h k = object_keeps ObjectSolid ExportsSolid (λ e es g. g) ms place name o (λ m e. subst LoadedSolid e h) k

pub loaded_solid : (ms : Modules) (place : ℕ) → EachSolid ms → LoadedSolid (slice_get ms place)
loaded_solid [] place h = tt
loaded_solid (m ∷ ms) zero h = h.0
loaded_solid (m ∷ ms) (suc place) h = loaded_solid ms place h.1

-- ---- types as they are written

abbrev pub SolidEntry : Entry → Type 0
SolidEntry (entry.Constant c) = Unit {0}
SolidEntry (entry.TypeName t) = IsSolid t
SolidEntry (entry.Variable t s) = IsSolid t
SolidEntry (entry.Procedure p n) = Unit {0}
SolidEntry entry.In = Unit {0}
SolidEntry entry.Out = Unit {0}
SolidEntry (entry.Module i place) = Unit {0}

-- what is seen in a scope
abbrev pub SeenSolid : Scope → Type 0
SeenSolid s = (name : List ℕ) (e : Entry) → seen s name ≡ Some e → SolidEntry e

first_holds : (a b : Bool) → (a && b) ≡ true → a ≡ true
first_holds true b h = refl
first_holds false b h = never h

from_one : (n : ℕ) → nat_le 1 n ≡ true → 0 < n
from_one n h = grind (arith, nat_tests)

length_positive : (c : Constant) (n : ℕ) → gives (length_of c) n → 0 < n
unfolding length_of
length_positive (constant.Integer (pos m)) n h = subst (λ x. 0 < x) h.1 (from_one m (first_holds (nat_le 1 m) _ h.0))
length_positive (constant.Integer (negsuc m)) n h = absurd h
length_positive (constant.Boolean b) n h = absurd h
length_positive (constant.Char c) n h = absurd h
length_positive (constant.Text t) n h = absurd h

array_of_solid : (n : ℕ) (e : ObType) → 0 < n → IsSolid e → IsSolid (Array n e)
array_of_solid n e h s = subst (λ x. x) (sym (array_solid n e)) (h, s)

open_of_solid : (e : ObType) → IsSolid e → IsSolid (Open e)
open_of_solid e s = subst (λ x. x) (sym (open_solid e)) s

fields_append : (fs gs : List Field) → FieldsSolid fs → FieldsSolid gs → FieldsSolid (fs ++ gs)
fields_append [] gs h g = g
fields_append (f ∷ fs) gs h g = (h.0, fields_append fs gs h.1 g)

fields_of_type : (t : ObType) (names : List IdentDef) → IsSolid t → FieldsSolid (map (field_of t) names)
fields_of_type t [] h = tt
fields_of_type t (n ∷ ns) h = (h, fields_of_type t ns h)

module _ (ms : Modules) (loaded : EachSolid ms) (s : Scope) (scope : SeenSolid s) where
  exported_type : (place : ℕ) (name : List ℕ) (t : ObType) → exported_at ms place name ≡ Some (object.TypeName t) → IsSolid t
  exported_type place name t e = object_solid ms place name (object.TypeName t) (loaded_solid ms place loaded) e

  seen_type : (name : List ℕ) (t : ObType) → seen s name ≡ Some (entry.TypeName t) → IsSolid t
  seen_type name t e = scope name (entry.TypeName t) e

  named_solid : (q : Qualident) (t : ObType) → gives (type_named ms s q) t → IsSolid t
  named_solid q t h = named_keeps IsSolid (λ b. tt) ms exported_type s seen_type q t h

  -- ---- arrays and records

  abbrev Inner : (ℕ → TypeExpr → Rule Written) → Type 0
  Inner inner = (k : ℕ) (t : TypeExpr) (w : Written) → gives (inner k t) w → IsSolid w.of

  fields_solid : (inner : ℕ → TypeExpr → Rule Written) → Inner inner → (fs : Fields) (x : TypedNames) (gs : Fields) → gives (next_fields inner fs x) gs → FieldsSolid fs.fields → FieldsSolid gs.fields
  unfolding next_fields
  fields_solid inner inside fs x gs h g =
      let w = h.2 in
      subst (λ y. FieldsSolid y.fields) ((w.2).2)
      (fields_append fs.fields (map (field_of w.0.of) (out-TypedNames x).names) g (fields_of_type w.0.of (out-TypedNames x).names (inside fs.records (out-TypedNames x).of w.0 w.1)))

  begun_solid : (k : ℕ) (base : Option Qualident) (f : Fields) → gives (begun ms s k base) f → FieldsSolid f.fields
  unfolding begun extended
  begun_solid k None f h = subst (λ y. FieldsSolid y.fields) h tt
  begun_solid k (Some q) f h =
      let e = (h.2).1 in
      subst (λ y. FieldsSolid y.fields) e.2 (named_solid q h.0 h.1, tt)

  layer_solid : (constants : Expr → Rule Constant) (inner : ℕ → TypeExpr → Rule Written) → Inner inner → (naming : RecordName) (k : ℕ) (l : TypeExpr-F TypeExpr TypedNames) (w : Written) → gives (type_layer constants inner ms s naming k l) w → IsSolid w.of
  unfolding record_rule
  layer_solid constants inner inside naming k (TypeExpr-F.Named q) w h = subst (λ x. IsSolid x.of) h.2 (named_solid q h.0 h.1)
  layer_solid constants inner inside naming k (TypeExpr-F.Array span lengths element) w h =
      let e = h.2 in
      let t = e.2 in
      subst (λ x. IsSolid x.of) t.2
      (arrays_keep IsSolid (λ n. 0 < n) array_of_solid length_positive constants lengths h.0 e.0.of t.0 h.1 t.1 (inside k element e.0 e.1))
  layer_solid constants inner inside naming k (TypeExpr-F.Record span base fields) w h =
      let f = h.1 in
      let r = f.2 in
      subst (λ x. IsSolid x.of) r.2
      (subst (λ x. x) (sym (record_solid (roll-RecordType (record { name = numbered naming k; fields = r.0.fields }))
      ∙ ap (λ x. FieldsSolid x.fields) (out-roll-RecordType (record { name = numbered naming k; fields = r.0.fields }))))
      (through_keeps (λ y. FieldsSolid y.fields) (next_fields inner) (λ a b c d f. fields_solid inner inside a b c d f) f.0 fields r.0 r.1 (begun_solid (k + 1) base f.0 f.1)))

  inner_solid : (naming : RecordName) (n : ℕ) → Inner (inner_type ms s naming n)
  unfolding inner_type type_rule
  inner_solid naming zero k t w h = absurd h
  inner_solid naming (suc n) k t w h = layer_solid (inner_constant ms s n) (inner_type ms s naming n) (inner_solid naming n) naming k (out-TypeExpr t) w h

  pub type_solid : (naming : RecordName) (n k : ℕ) (t : TypeExpr) (w : Written) → gives (type_at ms s naming n k t) w → IsSolid w.of
  unfolding type_at type_rule
  type_solid naming n k t w h = layer_solid (inner_constant ms s n) (inner_type ms s naming n) (inner_solid naming n) naming k (out-TypeExpr t) w h

  -- ---- types of formal parameters

  pub formal_solid : (n : ℕ) (f : FormalType) (t : ObType) → gives (formal_at ms s n f) t → IsSolid t
  formal_solid n f t h = formal_keeps IsSolid (λ b. tt) ms exported_type s seen_type open_of_solid n f t h
