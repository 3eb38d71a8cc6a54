-- Types as they are written have names that are words, where those that they name have.
use Rattle.std.proofs.Common.{◌≡◌, ◌<◌, ◌^◌, ℕ, zero, suc, ◌+◌, pos, negsuc, nat_le, ◌&&◌, ◌++◌, map, Bool, true, false, List, [], ◌∷◌, Option, Some, None, slice_get, refl, sym, ap, ◌∙◌, subst, arith}
use Rattle.std.specs.List.{AllByRecursion}
use Rattle.std.proofs.lemmas.Bool.Decides.{nat_tests}
use Rattle.ob_tree.specs.declared.tree.Expr.{Expr}
use Rattle.ob_tree.specs.declared.tree.FormalType.{FormalType}
use Rattle.ob_tree.specs.declared.tree.IdentDef.{IdentDef}
use Rattle.ob_tree.specs.declared.tree.Qualident.{Qualident}
use Rattle.ob_tree.specs.declared.tree.TypeExpr.{TypeExpr, out-TypeExpr}
use Rattle.ob_tree.specs.declared.tree.TypedNames.{TypedNames, out-TypedNames}
use Rattle.ob_tree.specs.declared.tree.TypeExpr.TheOpen.{TypeExpr-F}
use Rattle.ob_types.specs.declared.exports.Constant.{Constant}
use Rattle.ob_types.specs.declared.exports.Constant.TheVariants as constant
use Rattle.ob_types.specs.declared.exports.Object.TheVariants as object
use Rattle.ob_types.specs.declared.structure.Field.{Field}
use Rattle.ob_types.specs.declared.structure.ObType.{ObType}
use Rattle.ob_types.specs.declared.structure.ObType.TheVariants.{Array, Open, Record}
use Rattle.ob_types.specs.declared.structure.ObType.TheBlock as block
use Rattle.ob_types.specs.declared.structure.ObType.TheBlock.{Row_of-Field, end_of-Field, more_of-Field, items-the_row-Field, items_shown-the_row-Field-1}
use Rattle.ob_types.specs.declared.structure.RecordName.{RecordName}
use Rattle.ob_types.specs.declared.structure.RecordType.{RecordType, RecordType', out-RecordType, roll-RecordType, out-roll-RecordType}
use Rattle.ob_check_scope.specs.declared.block.Entry.{Entry}
use Rattle.ob_check_scope.specs.declared.block.Entry.TheVariants as entry
use Rattle.ob_check_scope.specs.declared.scope.Scope.{Scope}
use Rattle.ob_check_decl.specs.declared.written_type.Written.{Written}
use Rattle.ob_check_decl.specs.declared.written_type.Fields.{Fields}
use Rattle.ob_check_scope.specs.Exports.{Modules}
use Rattle.ob_check_decl.specs.Headings.{formal_at}
use Rattle.ob_check_scope.specs.Imports.{exported_at}
use Rattle.ob_check_scope.specs.LoadedTree.{LoadedTree}
use Rattle.ob_check_scope.specs.Rule.{Rule, gives, through}
use Rattle.ob_check_scope.specs.Scope.{seen}
use Rattle.ob_check_const.specs.NamedTypes.{type_named}
use Rattle.ob_check_decl.specs.WrittenTypes.{length_of, field_of, next_fields, extended, begun, record_rule, type_layer, type_rule, inner_constant, inner_type, type_at, numbered}
use Rattle.ob_check_laws.proofs.NamedTypes.{object_keeps, named_keeps, formal_keeps, arrays_keep}
use Rattle.ob_load.specs.Words.{IsWord, RecordWords, TypeWords, RowWords, FieldWords, ObjectWords, ExportWords, InterfaceWords}
use Rattle.ob_cell.proofs.Spelled.{NameIn, TypedIn, LayerIn, InnerIn, TypeIn}

-- ---- what rules give

pub through_keeps : {S A : Type 0} (P : S → Type 0) (Q : A → Type 0) (r : S → A → Rule S) → ((s : S) (a : A) (t : S) → Q a → gives (r s a) t → P s → P t) → (s : S) (xs : List A) (t : S) → AllByRecursion Q xs → gives (through r s xs) t → P s → P t
through_keeps P Q r step s [] t q h p = subst P h p
through_keeps P Q r step s (x ∷ xs) t q h p = through_keeps P Q r step h.0 xs t q.1 h.2 (step s x h.0 q.0 h.1 p)

pub always : {A : Type 0} (xs : List A) → AllByRecursion (λ x. Unit {0}) xs
always [] = tt
always (x ∷ xs) = (tt, always xs)

-- ---- parts of types

row_words : (k : _) (fields : Row_of-Field k) → RowWords fields ≡ FieldWords (items-the_row-Field k fields)
row_words k end_of-Field = refl
row_words k (more_of-Field name e of rest) = ap (λ l. IsWord name × TypeWords of × l) (row_words _ rest)

record_words : (r : RecordType) → TypeWords (Record r) ≡ (RecordWords (out-RecordType r).name × FieldWords (out-RecordType r).fields)
unfolding out-RecordType denote.Hole.Carrier.out
record_words (RecordType' name k fields) = ap (λ l. RecordWords name × l) (row_words _ fields ∙ ap FieldWords (sym (items_shown-the_row-Field-1 k fields)))

array_words : (n : ℕ) (e : ObType) → TypeWords (Array n e) ≡ ((n < 2 ^ 64) × TypeWords e)
unfolding block.hidden-the_row-ObType-0 denote.Hole.Carrier.hidden
array_words n e = refl

open_words : (e : ObType) → TypeWords (Open e) ≡ TypeWords e
unfolding block.hidden-the_row-ObType-0 denote.Hole.Carrier.hidden
open_words e = refl

-- ---- loaded modules

abbrev pub LoadedWords : Modules → Type 0
LoadedWords [] = Unit {0}
LoadedWords (m ∷ ms) = InterfaceWords m.interface × LoadedWords ms

abbrev OptionWords : Option LoadedTree → Type 0
OptionWords None = Unit {0}
OptionWords (Some m) = InterfaceWords m.interface

loaded_words : (ms : Modules) (place : ℕ) → LoadedWords ms → OptionWords (slice_get ms place)
loaded_words [] place h = tt
loaded_words (m ∷ ms) zero h = h.0
loaded_words (m ∷ ms) (suc place) h = loaded_words ms place h.1

-- ---- types as they are written

abbrev pub TypesOf : Entry → Type 0
TypesOf (entry.Constant c) = Unit {0}
TypesOf (entry.TypeName t) = TypeWords t
TypesOf (entry.Variable t v) = TypeWords t
TypesOf (entry.Procedure p n) = Unit {0}
TypesOf entry.In = Unit {0}
TypesOf entry.Out = Unit {0}
TypesOf (entry.Module i place) = Unit {0}

-- what is seen in a scope
abbrev pub SeenWords : Scope → Type 0
SeenWords s = (name : List ℕ) (e : Entry) → seen s name ≡ Some e → TypesOf e

second_holds : (a b : Bool) → (a && b) ≡ true → b ≡ true
second_holds true b h = h
second_holds false b h = absurd (let n : false ≡ true = h in cc)

at_most : (n : ℕ) → nat_le n 65536 ≡ true → n < 2 ^ 64
at_most n h = grind (arith, nat_tests, h)

length_small : (c : Constant) (n : ℕ) → gives (length_of c) n → n < 2 ^ 64
unfolding length_of
length_small (constant.Integer (pos m)) n h = subst (λ x. x < 2 ^ 64) h.1 (at_most m (second_holds (nat_le 1 m) _ h.0))
length_small (constant.Integer (negsuc m)) n h = absurd h
length_small (constant.Boolean b) n h = absurd h
length_small (constant.Char c) n h = absurd h
length_small (constant.Text t) n h = absurd h

array_of_words : (n : ℕ) (e : ObType) → n < 2 ^ 64 → TypeWords e → TypeWords (Array n e)
array_of_words n e h w = subst (λ x. x) (sym (array_words n e)) (h, w)

open_of_words : (e : ObType) → TypeWords e → TypeWords (Open e)
open_of_words e w = subst (λ x. x) (sym (open_words e)) w

fields_append : (fs gs : List Field) → FieldWords fs → FieldWords gs → FieldWords (fs ++ gs)
fields_append [] gs h g = g
fields_append (f ∷ fs) gs h g = (h.0, h.1, fields_append fs gs h.2 g)

fields_of_type : (t : ObType) (names : List IdentDef) → TypeWords t → AllByRecursion NameIn names → FieldWords (map (field_of t) names)
fields_of_type t [] h w = tt
fields_of_type t (n ∷ ns) h w = (w.0, h, fields_of_type t ns h w.1)

numbered_words : (naming : RecordName) (k : ℕ) → RecordWords naming → RecordWords (numbered naming k)
numbered_words naming k h = record { home = h.home; enclosing = h.enclosing; declared = h.declared }

module _ (ms : Modules) (loaded : LoadedWords ms) (s : Scope) (scope : SeenWords s) where
  exported_type : (place : ℕ) (name : List ℕ) (t : ObType) → exported_at ms place name ≡ Some (object.TypeName t) → TypeWords t
  exported_type place name t e =
      object_keeps ObjectWords ExportWords (λ x xs h. (h.1, h.2)) ms place name (object.TypeName t) (λ m is. (subst OptionWords is (loaded_words ms place loaded)).exports) e

  seen_type : (name : List ℕ) (t : ObType) → seen s name ≡ Some (entry.TypeName t) → TypeWords t
  seen_type name t e = scope name (entry.TypeName t) e

  named_words : (q : Qualident) (t : ObType) → gives (type_named ms s q) t → TypeWords t
  named_words q t h = named_keeps TypeWords (λ b. tt) ms exported_type s seen_type q t h

  -- ---- arrays and records

  abbrev Inner : (TypeExpr → Type 0) → (ℕ → TypeExpr → Rule Written) → Type 0
  Inner In inner = (k : ℕ) (t : TypeExpr) (w : Written) → In t → gives (inner k t) w → TypeWords w.of

  fields_words : (In : TypeExpr → Type 0) (inner : ℕ → TypeExpr → Rule Written) → Inner In inner → (fs : Fields) (x : TypedNames) (gs : Fields) → TypedIn In x → gives (next_fields inner fs x) gs → FieldWords fs.fields → FieldWords gs.fields
  unfolding next_fields
  fields_words In inner inside fs x gs spelled h g =
      let w = h.2 in
      subst (λ y. FieldWords y.fields) ((w.2).2)
      (fields_append fs.fields (map (field_of w.0.of) (out-TypedNames x).names) g (fields_of_type w.0.of (out-TypedNames x).names (inside fs.records (out-TypedNames x).of w.0 spelled.1 w.1) spelled.0))

  begun_words : (k : ℕ) (base : Option Qualident) (f : Fields) → gives (begun ms s k base) f → FieldWords f.fields
  unfolding begun extended
  begun_words k None f h = subst (λ y. FieldWords y.fields) h tt
  begun_words k (Some q) f h =
      let e = (h.2).1 in
      subst (λ y. FieldWords y.fields) e.2 (refl, named_words q h.0 h.1, tt)

  layer_words : (In : TypeExpr → Type 0) (constants : Expr → Rule Constant) (inner : ℕ → TypeExpr → Rule Written) → Inner In inner → (naming : RecordName) → RecordWords naming → (k : ℕ) (l : TypeExpr-F TypeExpr TypedNames) (w : Written) → LayerIn In l → gives (type_layer constants inner ms s naming k l) w → TypeWords w.of
  unfolding record_rule
  layer_words In constants inner inside naming named k (TypeExpr-F.Named q) w spelled h = subst (λ x. TypeWords x.of) h.2 (named_words q h.0 h.1)
  layer_words In constants inner inside naming named k (TypeExpr-F.Array span lengths element) w spelled h =
      let e = h.2 in
      let t = e.2 in
      subst (λ x. TypeWords x.of) t.2
      (arrays_keep TypeWords (λ n. n < 2 ^ 64) array_of_words length_small constants lengths h.0 e.0.of t.0 h.1 t.1 (inside k element e.0 spelled e.1))
  layer_words In constants inner inside naming named k (TypeExpr-F.Record span base fields) w spelled h =
      let f = h.1 in
      let r = f.2 in
      let fs = through_keeps (λ y. FieldWords y.fields) (TypedIn In) (next_fields inner) (λ a b c u d f. fields_words In inner inside a b c u d f) f.0 fields r.0 spelled r.1 (begun_words (k + 1) base f.0 f.1) in
      subst (λ x. TypeWords x.of) r.2
      (subst (λ x. x) (sym (record_words (roll-RecordType (record { name = numbered naming k; fields = r.0.fields }))
      ∙ ap (λ x. RecordWords x.name × FieldWords x.fields) (out-roll-RecordType (record { name = numbered naming k; fields = r.0.fields }))))
      (numbered_words naming k named, fs))

  inner_words : (naming : RecordName) → RecordWords naming → (n : ℕ) → Inner (InnerIn n) (inner_type ms s naming n)
  unfolding inner_type type_rule
  inner_words naming named zero k t w spelled h = absurd h
  inner_words naming named (suc n) k t w spelled h = layer_words (InnerIn n) (inner_constant ms s n) (inner_type ms s naming n) (inner_words naming named n) naming named k (out-TypeExpr t) w spelled h

  pub type_words : (naming : RecordName) → RecordWords naming → (n k : ℕ) (t : TypeExpr) (w : Written) → TypeIn n t → gives (type_at ms s naming n k t) w → TypeWords w.of
  unfolding type_at type_rule
  type_words naming named n k t w spelled h = layer_words (InnerIn n) (inner_constant ms s n) (inner_type ms s naming n) (inner_words naming named n) naming named k (out-TypeExpr t) w spelled h

  -- ---- types of formal parameters

  pub formal_words : (n : ℕ) (f : FormalType) (t : ObType) → gives (formal_at ms s n f) t → TypeWords t
  formal_words n f t h = formal_keeps TypeWords (λ b. tt) ms exported_type s seen_type open_of_words n f t h
