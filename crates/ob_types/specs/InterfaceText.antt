-- To be believed.
-- The text of an interface, as bytes of UTF-8: a line for the module, and one for each name that it exports.
use Rattle.std.specs.Prelude.{ℕ, ◌+◌, ◌/◌, ◌%◌, nat_lt, if◌then◌else◌, Bool, true, false, List, [], ◌∷◌, ◌++◌, Option, Some, None, codes, encode_utf8}
use Rattle.std.specs.Fmt.{decimal, signed_decimal}
use Rattle.ob_types.specs.declared.structure.Basic.{Basic}
use Rattle.ob_types.specs.declared.structure.Basic.TheVariants as basic
use Rattle.ob_types.specs.declared.structure.RecordName.{RecordName}
use Rattle.ob_types.specs.declared.structure.ObType.{ObType, end_of-ObType, more_of-ObType}
use Rattle.ob_types.specs.declared.structure.ObType.TheBlock.{Row_of-Field, end_of-Field, more_of-Field}
use Rattle.ob_types.specs.declared.structure.ObType.TheVariants.{Basic as OfBasic, Array', Open', Record}
use Rattle.ob_types.specs.declared.structure.RecordType.{RecordType, RecordType'}
use Rattle.ob_types.specs.declared.structure.Field.{Field}
use Rattle.ob_types.specs.declared.exports.Constant.{Constant}
use Rattle.ob_types.specs.declared.exports.Constant.TheVariants as constant
use Rattle.ob_types.specs.declared.exports.FormalKind.{FormalKind}
use Rattle.ob_types.specs.declared.exports.FormalKind.TheVariants as formal
use Rattle.ob_types.specs.declared.exports.Formal.{Formal}
use Rattle.ob_types.specs.declared.exports.Signature.{Signature}
use Rattle.ob_types.specs.declared.exports.Object.{Object}
use Rattle.ob_types.specs.declared.exports.Object.TheVariants as object
use Rattle.ob_types.specs.declared.exports.Exported.{Exported}
use Rattle.ob_types.specs.InterfaceTree.{InterfaceTree}

-- ---- names and types

-- the characters of a name
abbrev pub name_text : List ℕ → List ℕ
name_text [] = []
name_text (c ∷ cs) = encode_utf8 c ++ name_text cs

abbrev pub basic_text : Basic → List ℕ
basic_text basic.Integer = codes "I"
basic_text basic.Boolean = codes "B"
basic_text basic.Char = codes "C"
basic_text basic.Byte = codes "Y"

-- the procedures round a declaration, each with a dot after it
abbrev pub enclosing_text : List (List ℕ) → List ℕ
enclosing_text [] = []
enclosing_text (p ∷ ps) = name_text p ++ codes "." ++ enclosing_text ps

-- the name of a record type: module, procedures, declared name, and how many records stand before it there
unfoldable pub record_name_text : RecordName → List ℕ
record_name_text r =
    name_text r.module_name ++ codes "." ++ enclosing_text r.enclosing ++ name_text r.declared ++ codes "." ++ decimal r.before

-- the mark of an exported field
abbrev pub mark_text : Bool → List ℕ
mark_text true = codes "*"
mark_text false = []

-- what stands before a field's type: its name, or the sign of a base, which has none
abbrev pub label_text : List ℕ → Bool → List ℕ
label_text [] exported = codes "^"
label_text (c ∷ cs) exported = name_text (c ∷ cs) ++ mark_text exported ++ codes ":"

abbrev mutual
  pub type_text : ObType → List ℕ
  type_text (OfBasic b) = basic_text b
  type_text (Array' n p (more_of-ObType element end_of-ObType)) = codes "A" ++ decimal n ++ codes " " ++ type_text element
  type_text (Open' p (more_of-ObType element end_of-ObType)) = codes "O" ++ type_text element
  type_text (Record (RecordType' name k fields)) = codes "R" ++ record_name_text name ++ codes "(" ++ fields_text fields ++ codes ")"

  pub fields_text : {k : _} → Row_of-Field k → List ℕ
  fields_text end_of-Field = []
  fields_text (more_of-Field name exported of rest) =
      label_text name exported ++ type_text of ++ codes ";" ++ fields_text rest

-- the same of a field, of fields, and of a record type
abbrev pub field_text : Field → List ℕ
field_text f = label_text f.name f.exported ++ type_text f.of ++ codes ";"

abbrev pub all_fields_text : List Field → List ℕ
all_fields_text [] = []
all_fields_text (f ∷ fs) = field_text f ++ all_fields_text fs

abbrev pub record_text : RecordType → List ℕ
record_text r = type_text (Record r)

-- ---- constants

abbrev pub hex_digit : ℕ → ℕ
hex_digit d = if nat_lt d 10 then d + 48 else d + 87

-- two digits for each character
abbrev pub hex_text : List ℕ → List ℕ
hex_text [] = []
hex_text (c ∷ cs) = hex_digit (c / 16) ∷ hex_digit (c % 16) ∷ hex_text cs

abbrev pub truth_text : Bool → List ℕ
truth_text true = codes "1"
truth_text false = codes "0"

abbrev pub constant_text : Constant → List ℕ
constant_text (constant.Integer n) = codes "I " ++ signed_decimal n
constant_text (constant.Boolean b) = codes "B " ++ truth_text b
constant_text (constant.Char c) = codes "C " ++ decimal c
constant_text (constant.Text s) = codes "S " ++ hex_text s

-- ---- procedures

abbrev pub kind_text : FormalKind → List ℕ
kind_text formal.Value = codes "p"
kind_text formal.Variable = codes "v"

abbrev pub formals_text : List Formal → List ℕ
formals_text [] = []
formals_text (f ∷ fs) = kind_text f.kind ++ type_text f.of ++ codes ";" ++ formals_text fs

abbrev pub result_text : Option Basic → List ℕ
result_text None = []
result_text (Some b) = codes ":" ++ basic_text b

abbrev pub signature_text : Signature → List ℕ
signature_text s = codes "(" ++ formals_text s.formals ++ codes ")" ++ result_text s.result

-- ---- exported names, and the whole

abbrev pub object_text : List ℕ → Object → List ℕ
object_text name (object.Constant c) = codes "const " ++ name_text name ++ codes " " ++ constant_text c
object_text name (object.TypeName t) = codes "type " ++ name_text name ++ codes " " ++ type_text t
object_text name (object.Variable t) = codes "var " ++ name_text name ++ codes " " ++ type_text t
object_text name (object.Procedure s) = codes "proc " ++ name_text name ++ signature_text s

abbrev pub exports_text : List Exported → List ℕ
exports_text [] = []
exports_text (e ∷ es) = object_text e.name e.object ++ codes "\n" ++ exports_text es

unfoldable pub interface_text : InterfaceTree → List ℕ
interface_text i = codes "module " ++ name_text i.name ++ codes "\n" ++ exports_text i.exports
