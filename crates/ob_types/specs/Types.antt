-- To be believed.
-- Types (Wirth, The Programming Language Oberon, Oberon-07).
use Rattle.std.specs.Prelude.{ℕ, ◌+◌, ◌*◌, max, Bool, true, false, ◌&&◌, ◌||◌, nat_eq, nat_lt, nat_le, List, [], ◌∷◌, Option, Some, None}
use Rattle.std.specs.Cmp.Lexicographic.{pointwise}
use Rattle.std.specs.Str.{bytes_eq}
use Rattle.ob_types.specs.declared.structure.Basic.{Basic}
use Rattle.ob_types.specs.declared.structure.Basic.TheVariants as basic
use Rattle.ob_types.specs.declared.structure.RecordName.{RecordName}
use Rattle.ob_types.specs.declared.structure.Field.{Field}
use Rattle.ob_types.specs.declared.structure.ObType.{ObType, end_of-ObType, more_of-ObType}
use Rattle.ob_types.specs.declared.structure.ObType.TheBlock.{Row_of-Field, end_of-Field, more_of-Field}
use Rattle.ob_types.specs.declared.structure.ObType.TheVariants.{Basic as OfBasic, Array', Open', Record}
use Rattle.ob_types.specs.declared.structure.RecordType.{RecordType'}

-- ---- cells and levels

-- the cells of a value. A record has one at least. An open array is a variable of the caller, of any length: one element stands
-- for it
abbrev mutual
  pub cells : ObType → ℕ
  cells (OfBasic b) = 1
  cells (Array' n p (more_of-ObType element end_of-ObType)) = n * cells element
  cells (Open' p (more_of-ObType element end_of-ObType)) = cells element
  cells (Record (RecordType' name k fields)) = max 1 (cells_of fields)

  pub cells_of : {k : _} → Row_of-Field k → ℕ
  cells_of end_of-Field = 0
  cells_of (more_of-Field name exported of rest) = cells of + cells_of rest

-- the cells of fields
abbrev pub cells_in : List Field → ℕ
cells_in [] = 0
cells_in (f ∷ fs) = cells f.of + cells_in fs

-- how deep the words ARRAY and RECORD stand in one another, where the type is written out
abbrev mutual
  pub levels : ObType → ℕ
  levels (OfBasic b) = 0
  levels (Array' n p (more_of-ObType element end_of-ObType)) = levels element + 1
  levels (Open' p (more_of-ObType element end_of-ObType)) = levels element + 1
  levels (Record (RecordType' name k fields)) = levels_of fields + 1

  pub levels_of : {k : _} → Row_of-Field k → ℕ
  levels_of end_of-Field = 0
  levels_of (more_of-Field name exported of rest) = max (levels of) (levels_of rest)

-- the levels of fields
abbrev pub levels_in : List Field → ℕ
levels_in [] = 0
levels_in (f ∷ fs) = max (levels f.of) (levels_in fs)

-- the most cells of a type, and the most levels
abbrev pub max_cells : ℕ
max_cells = 65536

abbrev pub max_levels : ℕ
max_levels = 200

-- a type of which there may be variables
abbrev pub is_admitted : ObType → Bool
is_admitted t = nat_le (cells t) max_cells && nat_le (levels t) max_levels

-- ---- the same type

abbrev pub same_basic : Basic → Basic → Bool
same_basic basic.Integer basic.Integer = true
same_basic basic.Boolean basic.Boolean = true
same_basic basic.Char basic.Char = true
same_basic basic.Byte basic.Byte = true
same_basic _ _ = false

abbrev pub same_truth : Bool → Bool → Bool
same_truth true b = b
same_truth false true = false
same_truth false false = true

-- the same declaration, and as many records before it there
abbrev pub same_record : RecordName → RecordName → Bool
same_record x y =
    bytes_eq x.module_name y.module_name && pointwise bytes_eq x.enclosing y.enclosing
    && bytes_eq x.declared y.declared && nat_eq x.before y.before

-- basic types by name, arrays by length and element, open arrays by element, records by name and written-out structure
abbrev mutual
  pub same : ObType → ObType → Bool
  same (OfBasic b) (OfBasic c) = same_basic b c
  same (Array' n p (more_of-ObType x end_of-ObType)) (Array' m q (more_of-ObType y end_of-ObType)) = nat_eq n m && same x y
  same (Open' p (more_of-ObType x end_of-ObType)) (Open' q (more_of-ObType y end_of-ObType)) = same x y
  same (Record (RecordType' x k xs)) (Record (RecordType' y j ys)) = same_record x y && same_fields xs ys
  same _ _ = false

  pub same_fields : {k j : _} → Row_of-Field k → Row_of-Field j → Bool
  same_fields end_of-Field end_of-Field = true
  same_fields (more_of-Field x e a xs) (more_of-Field y f b ys) = bytes_eq x y && same_truth e f && same a b && same_fields xs ys
  same_fields _ _ = false

-- one field
abbrev pub same_field : Field → Field → Bool
same_field x y = bytes_eq x.name y.name && same_truth x.exported y.exported && same x.of y.of

-- ---- extensions

-- An extension has its base as its first field, which has no name.
abbrev pub base_in : {k : _} → Row_of-Field k → Option ObType
base_in end_of-Field = None
base_in (more_of-Field [] exported of rest) = Some of
base_in (more_of-Field (c ∷ cs) exported of rest) = None

abbrev pub base_of : ObType → Option ObType
base_of (OfBasic b) = None
base_of (Array' n p e) = None
base_of (Open' p e) = None
base_of (Record (RecordType' name k fields)) = base_in fields

-- the same of fields
abbrev pub base_named : List ℕ → ObType → Option ObType
base_named [] of = Some of
base_named (c ∷ cs) of = None

abbrev pub base_among : List Field → Option ObType
base_among [] = None
base_among (f ∷ fs) = base_named f.name f.of

-- a type, its base, the base of that, and so on
abbrev mutual
  pub chain : ObType → List ObType
  chain (OfBasic b) = OfBasic b ∷ []
  chain (Array' n p e) = Array' n p e ∷ []
  chain (Open' p e) = Open' p e ∷ []
  chain (Record (RecordType' name k fields)) = Record (RecordType' name k fields) ∷ chain_in fields

  pub chain_in : {k : _} → Row_of-Field k → List ObType
  chain_in end_of-Field = []
  chain_in (more_of-Field [] exported of rest) = chain of
  chain_in (more_of-Field (c ∷ cs) exported of rest) = []

abbrev pub is_in : ObType → List ObType → Bool
is_in to [] = false
is_in to (t ∷ ts) = same to t || is_in to ts

-- whether a type is the first one or extends it
abbrev pub extends : ObType → ObType → Bool
extends to from = is_in to (chain from)

-- ---- what may be assigned

abbrev pub is_number : ObType → Bool
is_number (OfBasic basic.Integer) = true
is_number (OfBasic basic.Byte) = true
is_number _ = false

-- a value of the second type to a variable of the first: of the same type, or INTEGER and BYTE mixed
abbrev pub assignable : ObType → ObType → Bool
assignable to from = same to from || (is_number to && is_number from)

abbrev pub is_char : ObType → Bool
is_char (OfBasic basic.Char) = true
is_char _ = false

-- a string of so many characters: one is a CHAR, fewer than its elements fit an array of CHAR. An open array is tested as it
-- is written
abbrev pub string_assignable : ObType → ℕ → Bool
string_assignable (OfBasic basic.Char) n = nat_eq n 1
string_assignable (Array' size p (more_of-ObType element end_of-ObType)) n = is_char element && nat_lt n size
string_assignable (Open' p (more_of-ObType element end_of-ObType)) n = is_char element
string_assignable _ n = false
