-- To be believed.
-- Types as they are written (Wirth, The Programming Language Oberon, Oberon-07). A record type is named by its module, the
-- procedures round its declaration, the declared name, and how many words RECORD stand before it in that declaration.
use Rattle.std.specs.Prelude.{ℕ, zero, suc, ◌+◌, ◌*◌, ℤ, pos, negsuc, List, [], ◌∷◌, ◌++◌, length, map, reverse, Bool, true, false, not, Option, Some, None, ◌&&◌, is_some, nat_le, nat_lt, if◌then◌else◌}
use Rattle.ob_check_scope.specs.declared.rule.RuleCode.{RuleCode}
use Rattle.ob_check_scope.specs.declared.rule.RuleCode.TheVariants as code
use Rattle.ob_tree.specs.declared.tree.Expr.{Expr}
use Rattle.ob_tree.specs.declared.tree.IdentDef.{IdentDef}
use Rattle.ob_tree.specs.declared.tree.Qualident.{Qualident}
use Rattle.ob_tree.specs.declared.tree.TypeExpr.{TypeExpr, out-TypeExpr}
use Rattle.ob_tree.specs.declared.tree.TypedNames.{TypedNames, out-TypedNames}
use Rattle.ob_tree.specs.declared.tree.TypeExpr.TheOpen.{TypeExpr-F}
use Rattle.ob_types.specs.declared.exports.Constant.{Constant}
use Rattle.ob_types.specs.declared.exports.Constant.TheVariants as constant
use Rattle.ob_types.specs.declared.structure.Field.{Field}
use Rattle.ob_types.specs.declared.structure.ObType.{ObType, out-ObType}
use Rattle.ob_types.specs.declared.structure.ObType.TheOpen.{ObType-F}
use Rattle.ob_types.specs.declared.structure.ObType.TheVariants.{Array, Record}
use Rattle.ob_types.specs.declared.structure.RecordName.{RecordName}
use Rattle.ob_types.specs.declared.structure.RecordType.{roll-RecordType, out-RecordType}
use Rattle.ob_types.specs.Types.{cells, levels, max_cells, max_levels, is_admitted, chain}
use Rattle.ob_check_decl.specs.declared.written_type.Written.{Written}
use Rattle.ob_check_decl.specs.declared.written_type.Fields.{Fields}
use Rattle.ob_check_scope.specs.declared.scope.Scope.{Scope}
use Rattle.ob_check_scope.specs.Exports.{Modules}
use Rattle.ob_check_scope.specs.Names.{is_among}
use Rattle.ob_check_scope.specs.Rule.{Rule, Given, Breaks, Then, Needs, there, through}
use Rattle.ob_check_const.specs.Constants.{constant_at}
use Rattle.ob_check_const.specs.NamedTypes.{TypeLayer, is_record, type_named}

-- ---- arrays

-- a length is a number from 1 to the most cells of a type
abbrev pub natural_length : ℤ → Rule ℕ
natural_length (pos n) = Needs (nat_le 1 n && nat_le n max_cells) code.Size (Given n)
natural_length (negsuc n) = Breaks code.Size

unfoldable pub length_of : Constant → Rule ℕ
length_of (constant.Integer z) = natural_length z
length_of c = Breaks code.Types

-- one length more
unfoldable pub next_length : (Expr → Rule Constant) → List ℕ → Expr → Rule (List ℕ)
next_length constant ns e = Then (constant e) (λ c. Then (length_of c) (λ n. Given (ns ++ n ∷ [])))

-- an array of so many of these
unfoldable pub array_of : ObType → ℕ → Rule ObType
array_of t n = Needs (is_admitted (Array n t)) code.Size (Given (Array n t))

-- ---- records

abbrev pub numbered : RecordName → ℕ → RecordName
numbered naming k = record { module_name = naming.module_name; enclosing = naming.enclosing; declared = naming.declared; before = k }

-- one name of a field more
unfoldable pub field_name : List (List ℕ) → IdentDef → Rule (List (List ℕ))
field_name names f = Needs (not (is_among names f.name.name)) code.DeclaredTwice (Given (names ++ f.name.name ∷ []))

abbrev pub is_marked : IdentDef → Bool
is_marked f = is_some f.mark

abbrev pub field_of : ObType → IdentDef → Field
field_of t f = record { name = f.name.name; exported = is_some f.mark; of = t }

abbrev pub written : ObType → ℕ → Written
written t k = record { of = t; records = k }

-- the cells of a record with so many more fields of a type, if they fit
abbrev pub cells_with : ℕ → ℕ → ObType → Option ℕ
cells_with taken n t =
    if nat_lt (levels t) max_levels && nat_le (taken + n * cells t) max_cells then Some (taken + n * cells t) else None

-- fields of one type
unfoldable pub next_fields : (ℕ → TypeExpr → Rule Written) → Fields → TypedNames → Rule Fields
next_fields inner fs x =
    Then (through field_name fs.names (out-TypedNames x).names) (λ names.
    Then (inner fs.records (out-TypedNames x).of) (λ w.
    Then (there (cells_with fs.cells (length (out-TypedNames x).names) w.of) code.Size) (λ taken.
    Given (record {
      names = names;
      fields = fs.fields ++ map (field_of w.of) (out-TypedNames x).names;
      cells = taken;
      records = w.records;
    }))))

abbrev pub no_fields : ℕ → Fields
no_fields k = record { names = []; fields = []; cells = 0; records = k }

-- ---- extensions

-- the names of a record's own fields, and those of all types of a chain
abbrev pub names_of : List Field → List (List ℕ)
names_of fields = map (λ (f : Field). f.name) fields

abbrev pub names_layer : TypeLayer → List (List ℕ)
names_layer (ObType-F.Basic b) = []
names_layer (ObType-F.Array n e) = []
names_layer (ObType-F.Open e) = []
names_layer (ObType-F.Record r) = names_of (out-RecordType r).fields

abbrev pub names_along : List ObType → List (List ℕ)
names_along [] = []
names_along (t ∷ ts) = names_layer (out-ObType t) ++ names_along ts

-- a base is the first field, without a name
abbrev pub base_field : ObType → Field
base_field t = record { name = []; exported = false; of = t }

-- An extension begins with its base, which is a record, and has the names of its fields.
unfoldable pub extended : ℕ → ObType → Rule Fields
extended k t =
    Needs (is_record t) code.Types (
    Then (there (cells_with 0 1 t) code.Size) (λ n.
    Given (record { names = names_along (chain t); fields = base_field t ∷ []; cells = n; records = k })))

unfoldable pub begun : Modules → Scope → ℕ → Option Qualident → Rule Fields
begun ms s k None = Given (no_fields k)
begun ms s k (Some q) = Then (type_named ms s q) (λ t. extended k t)

abbrev pub record_of : RecordName → List Field → ObType
record_of name fields = Record (roll-RecordType (record { name = name; fields = fields }))

-- ---- types

-- a declaration has fewer words RECORD, since each stands for a cell at least, and at most 200 stand in one another
abbrev pub max_records : ℕ
max_records = 4294967295

-- a record, after so many words RECORD
unfoldable pub record_rule : Modules → Scope → (ℕ → TypeExpr → Rule Written) → RecordName → ℕ → Option Qualident → List TypedNames → Rule Written
record_rule ms s inner naming k base fields =
    Then (begun ms s (k + 1) base) (λ f.
    Then (through (next_fields inner) f fields) (λ fs.
    Given (written (record_of (numbered naming k) fs.fields) fs.records)))

module _ (constant : Expr → Rule Constant) (inner : ℕ → TypeExpr → Rule Written) (ms : Modules) (s : Scope) (naming : RecordName) where
  abbrev pub type_layer : ℕ → TypeExpr-F TypeExpr TypedNames → Rule Written
  type_layer k (TypeExpr-F.Named q) = Then (type_named ms s q) (λ t. Given (written t k))
  type_layer k (TypeExpr-F.Array span lengths element) =
      Then (through (next_length constant) [] lengths) (λ ns.
      Then (inner k element) (λ w.
      Then (through array_of w.of (reverse ns)) (λ t. Given (written t w.records))))
  type_layer k (TypeExpr-F.Record span base fields) =
      Needs (nat_lt k max_records) code.Size (
      record_rule ms s inner naming k base fields)

  unfoldable pub type_rule : ℕ → TypeExpr → Rule Written
  type_rule k t = type_layer k (out-TypeExpr t)

-- what nests in a type: one that nests deeper has no size
unfoldable pub inner_constant : Modules → Scope → ℕ → Expr → Rule Constant
inner_constant ms s zero e = Breaks code.Size
inner_constant ms s (suc n) e = constant_at ms s n e

unfoldable pub inner_type : Modules → Scope → RecordName → ℕ → ℕ → TypeExpr → Rule Written
inner_type ms s naming zero k t = Breaks code.Size
inner_type ms s naming (suc n) k t = type_rule (inner_constant ms s n) (inner_type ms s naming n) ms s naming k t

unfoldable pub type_at : Modules → Scope → RecordName → ℕ → ℕ → TypeExpr → Rule Written
type_at ms s naming n k t = type_rule (inner_constant ms s n) (inner_type ms s naming n) ms s naming k t
