-- What the key of a module says of it: its face, read from the text of its interface. And what the name of a record type says: its
-- shape, read from the text of the type.
use Rattle.std.specs.Prelude.{ℕ, ◌+◌, ◌*◌, ◌==◌, Bool, true, false, List, [], ◌∷◌, ◌++◌, if◌then◌else◌}
use Rattle.std.specs.Char.{digit_value}
use Rattle.ob_mean.specs.declared.face.Face.{Face}
use Rattle.ob_mean.specs.declared.face.Heading.{Heading}
use Rattle.ob_mean.specs.declared.kind.TypeName.{TypeName}
use Rattle.ob_mean.specs.declared.module.Parameter.{Parameter}
use Rattle.ob_mean.specs.declared.module.Parameter.TheVariants as parameter
use Rattle.ob_mean.specs.declared.shape.Shape.{Shape}
use Rattle.ob_mean.specs.declared.shape.Shape.TheVariants as shape

-- ---- a type that was read

pub data Read : Type 0 where
  BasicType : Read
  -- of elements of this shape
  OpenType : Shape → Read
  ArrayType : Shape → Read
  RecordType : Shape → Read

abbrev pub read_shape : Read → Shape
read_shape BasicType = shape.Basic
read_shape (OpenType s) = shape.Array 1 s
read_shape (ArrayType s) = s
read_shape (RecordType s) = s

-- a formal parameter of it, VAR or not
abbrev pub basic_parameter : Bool → Parameter
basic_parameter true = parameter.Place shape.Basic
basic_parameter false = parameter.Value

abbrev pub record_parameter : Bool → Shape → Parameter
record_parameter true s = parameter.Extended s
record_parameter false s = parameter.Place s

abbrev pub read_parameter : Bool → Read → Parameter
read_parameter var BasicType = basic_parameter var
read_parameter var (OpenType s) = parameter.Open s
read_parameter var (ArrayType s) = parameter.Place s
read_parameter var (RecordType s) = record_parameter var s

-- ---- where a reader stands

-- what a type is part of
pub data Around : Type 0 where
  OfArray : ℕ → Around
  OfOpen : Around
  -- a field after those of these shapes
  OfField : List Shape → Around
  OfVariable : Around
  OfTypeName : Around
  -- a formal parameter, VAR or not, after these
  OfFormal : Bool → List Parameter → Around

pub data At : Type 0 where
  -- at the beginning of a line
  Line : At
  -- in a line, of which the rest says nothing
  Rest : At
  -- in the first word of a line, and in the name after it: after that a type comes, of this
  Word : Around → At
  Name : Around → At
  -- in a line of a procedure, before the parenthesis
  Procedure : At
  -- at a formal parameter, or where none comes any more
  Formals : List Parameter → At
  -- after a formal parameter
  Formal : List Parameter → At
  -- after all of them; whether there is a result
  Result : List Parameter → Bool → At
  -- at a type
  Type' : List Around → At
  -- in the length of an array
  Length : ℕ → List Around → At
  -- in the name of a record type
  RecordName : List Around → At
  -- at a field, or where none comes any more, and in the name of one
  Fields : List Shape → List Around → At
  FieldName : List Shape → List Around → At
  -- after a field
  Field : List Shape → List Around → At
  -- after the type of a variable
  Variable : Shape → At

-- after a type that stands in these, of which the innermost comes first
abbrev pub behind : Read → List Around → At
behind t [] = Rest
behind t (OfArray n ∷ around) = behind (ArrayType (shape.Array n (read_shape t))) around
behind t (OfOpen ∷ around) = behind (OpenType (read_shape t)) around
behind t (OfField shapes ∷ around) = Field (shapes ++ read_shape t ∷ []) around
behind t (OfVariable ∷ around) = Variable (read_shape t)
behind t (OfTypeName ∷ around) = Rest
behind t (OfFormal var parameters ∷ around) = Formal (parameters ++ read_parameter var t ∷ [])

-- ---- one character more

-- a line begins: var, type and proc by their first letters
abbrev pub line_begins : ℕ → At
line_begins c =
    if c == 118 then Word OfVariable else (if c == 116 then Word OfTypeName else (if c == 112 then Procedure else Rest))

-- a type begins: A, O, R, or a basic type
abbrev pub type_begins : ℕ → List Around → At
type_begins c around =
    if c == 65 then Length 0 around else (if c == 79 then Type' (OfOpen ∷ around) else (if c == 82 then RecordName around else behind BasicType around))

abbrev pub in_field : ℕ → List Shape → List Around → At
in_field c shapes around = if c == 58 then Type' (OfField shapes ∷ around) else FieldName shapes around

-- a field begins with its name, or with the sign of a base, whose type comes at once
abbrev pub field_begins : ℕ → List Shape → List Around → At
field_begins c shapes around = if c == 94 then Type' (OfField shapes ∷ around) else in_field c shapes around

abbrev pub next : ℕ → At → At
next c Line = line_begins c
next c Rest = if c == 10 then Line else Rest
next c (Word around) = if c == 32 then Name around else Word around
next c (Name around) = if c == 32 then Type' (around ∷ []) else Name around
next c Procedure = if c == 40 then Formals [] else Procedure
next c (Formals parameters) =
    if c == 41 then Result parameters false else Type' (OfFormal (c == 118) parameters ∷ [])
next c (Formal parameters) = Formals parameters
next c (Result parameters is_function) =
    if c == 10 then Line else (if c == 58 then Result parameters true else Result parameters is_function)
next c (Type' around) = type_begins c around
next c (Length n around) = if c == 32 then Type' (OfArray n ∷ around) else Length (n * 10 + digit_value c) around
next c (RecordName around) = if c == 40 then Fields [] around else RecordName around
next c (Fields shapes around) = if c == 41 then behind (RecordType (shape.Record shapes)) around else field_begins c shapes around
next c (FieldName shapes around) = in_field c shapes around
next c (Field shapes around) = Fields shapes around
next c (Variable s) = Line

-- a line that ends adds what it says
abbrev pub ended : At → Face → Face
ended (Variable s) face = record { variables = face.variables ++ s ∷ []; procedures = face.procedures }
ended (Result parameters is_function) face = record {
  variables = face.variables;
  procedures = face.procedures ++ record { parameters = parameters; is_function = is_function } ∷ [];
}
ended at face = face

abbrev pub added : ℕ → At → Face → Face
added c at face = if c == 10 then ended at face else face

-- ---- a text

abbrev pub Reader : Type 0
Reader = At × Face

abbrev pub read : List ℕ → Reader → Reader
read [] r = r
read (c ∷ text) r = read text (next c r.0, added c r.0 r.1)

abbrev pub no_face : Face
no_face = record { variables = []; procedures = [] }

unfoldable pub face_said : List ℕ → Face
face_said key = (read key (Line, no_face)).1

-- ---- the name of a type, which is read as that of a variable is

abbrev pub shape_at : At → Shape
shape_at (Variable s) = s
shape_at at = shape.Basic

unfoldable pub shape_said : TypeName → Shape
shape_said x = shape_at (read x.text (Type' (OfVariable ∷ []), no_face)).0
