-- A record as a list of bytes: its name and, of each field, the name (but for what it has in common with that of the field before),
-- whether it is exported, and the type down to a basic type or a record. And where fields end with one record.
use Rattle.std.specs.Prelude.{◌≡◌, ℕ, zero, suc, ◌+◌, ◌-◌, ◌*◌, ◌/◌, ◌%◌, ◌<◌, ◌⊎◌, ⊤, Bool, true, false, nat_lt, ◌==◌, if◌then◌else◌, List, [], ◌∷◌, ◌++◌, length, drop, get_or, Option, Some, None}
use Rattle.ob_types.specs.declared.structure.Basic.{Basic}
use Rattle.ob_types.specs.declared.structure.Basic.TheVariants as basic
use Rattle.ob_types.specs.declared.structure.RecordName.{RecordName}
use Rattle.ob_types.specs.declared.structure.Field.{Field}
use Rattle.ob_types.specs.declared.structure.ObType.{ObType, end_of-ObType, more_of-ObType}
use Rattle.ob_types.specs.declared.structure.ObType.TheVariants.{Basic as OfBasic, Array', Open', Record}
use Rattle.ob_types.specs.declared.structure.RecordType.{RecordType}
use Rattle.ob_types.specs.declared.form.Ends.{Ends}

-- a character of a name: one below 16 has 11 before it, for the marks are below 11
abbrev pub letter : ℕ → List ℕ
letter c = if nat_lt c 16 then 11 ∷ c ∷ [] else c ∷ []

abbrev pub letters : List ℕ → List ℕ
letters [] = []
letters (c ∷ cs) = letter c ++ letters cs

abbrev pub number_spelled : ℕ → List ℕ
number_spelled n = n % 256 ∷ n / 256 % 256 ∷ n / 256 / 256 % 256 ∷ n / 256 / 256 / 256 ∷ []

abbrev pub basic_number : Basic → ℕ
basic_number basic.Integer = 0
basic_number basic.Boolean = 1
basic_number basic.Char = 2
basic_number basic.Byte = 3

-- names, the last of which has 0 after it
abbrev pub enclosing_spelled : List (List ℕ) → List ℕ
enclosing_spelled [] = 0 ∷ []
enclosing_spelled (p ∷ ps) = 1 ∷ letters p ++ 2 ∷ enclosing_spelled ps

abbrev pub name_spelled : RecordName → List ℕ
name_spelled r = letters r.module_name ++ 3 ∷ enclosing_spelled r.enclosing ++ letters r.declared ++ 4 ∷ number_spelled r.before

abbrev pub mark : Bool → ℕ
mark true = 1
mark false = 0

abbrev pub type_spelled : ObType → List ℕ
type_spelled (OfBasic b) = basic_number b ∷ []
type_spelled (Array' n p (more_of-ObType element end_of-ObType)) = 4 ∷ number_spelled n ++ type_spelled element
type_spelled (Open' p (more_of-ObType element end_of-ObType)) = 5 ∷ type_spelled element
type_spelled (Record r) = 6 ∷ []

-- how many characters, so many at most, two names begin with in common
abbrev pub shared : ℕ → List ℕ → List ℕ → ℕ
shared zero xs ys = zero
shared (suc n) [] ys = zero
shared (suc n) (x ∷ xs) [] = zero
shared (suc n) (x ∷ xs) (y ∷ ys) = if x == y then suc (shared n xs ys) else zero

-- A field after one of a name: what they have in common and whether it is exported, in one number; the rest of its name; its type.
abbrev pub field_spelled : List ℕ → Field → List ℕ
field_spelled previous f =
    (16 + 2 * shared 100 previous f.name + mark f.exported) ∷ letters (drop (shared 100 previous f.name) f.name) ++ type_spelled f.of

abbrev pub fields_spelled : List ℕ → List Field → List ℕ
fields_spelled previous [] = 10 ∷ []
fields_spelled previous (f ∷ fs) = field_spelled previous f ++ fields_spelled f.name fs

abbrev pub record_spelled : RecordName → List Field → List ℕ
record_spelled name fields = name_spelled name ++ fields_spelled [] fields

-- the record that a type ends with, behind its arrays
abbrev pub end_in : ObType → Option RecordType
end_in (OfBasic b) = None
end_in (Array' n p (more_of-ObType element end_of-ObType)) = end_in element
end_in (Open' p (more_of-ObType element end_of-ObType)) = end_in element
end_in (Record r) = Some r

-- the same of the field of a number
abbrev pub end_at : List Field → ℕ → Option RecordType
end_at [] k = None
end_at (f ∷ fs) zero = end_in f.of
end_at (f ∷ fs) (suc k) = end_at fs k

-- the number of the field that stands for one: so many before it
abbrev pub first_at : List ℕ → ℕ → ℕ
first_at backs k = k - get_or backs k 0

-- each field ends with the record of the field that stands for it
abbrev pub AreFirst : List ℕ → List Field → Type 0
AreFirst backs fields = (k : ℕ) → k < length backs → end_at fields (first_at backs k) ≡ end_at fields k

abbrev pub IsAmong : ℕ → List ℕ → Type 0
IsAmong k [] = ⊥
IsAmong k (n ∷ ns) = (k ≡ n) ⊎ IsAmong k ns

-- each field below a number ends with no record, or has a field before it that stands for it, or is kept
abbrev pub AreKept : ℕ → List ℕ → List ℕ → List Field → Type 0
AreKept n kept backs fields = (k : ℕ) → k < n → (end_at fields k ≡ None) ⊎ (first_at backs k < k) ⊎ IsAmong k kept

abbrev pub AreWithin : List ℕ → List Field → Type 0
AreWithin kept fields = (k : ℕ) → IsAmong k kept → k < length fields

abbrev pub AreEnds : Ends → List Field → Type 0
AreEnds ends fields = AreFirst ends.backs.items fields × AreKept (length fields) ends.kept.items ends.backs.items fields × AreWithin ends.kept.items fields

-- the fields of these numbers end with the same records
abbrev pub AmongAlike : List ℕ → List Field → List Field → Type 0
AmongAlike kept xs ys = (k : ℕ) → IsAmong k kept → end_at xs k ≡ end_at ys k

-- all fields below a number do
abbrev pub EndAlike : List Field → List Field → ℕ → Type 0
EndAlike xs ys n = (k : ℕ) → k < n → end_at xs k ≡ end_at ys k

-- two types that are spelled alike
abbrev pub Alike : ObType → ObType → Type 0
Alike (OfBasic b) (OfBasic c) = b ≡ c
Alike (Array' n p (more_of-ObType x end_of-ObType)) (Array' m q (more_of-ObType y end_of-ObType)) = (n ≡ m) × Alike x y
Alike (Open' p (more_of-ObType x end_of-ObType)) (Open' q (more_of-ObType y end_of-ObType)) = Alike x y
Alike (Record r) (Record s) = ⊤
Alike _ _ = ⊥

abbrev pub AreAlike : List Field → List Field → Type 0
AreAlike [] [] = ⊤
AreAlike (f ∷ fs) (g ∷ gs) = (f.name ≡ g.name) × (f.exported ≡ g.exported) × Alike f.of g.of × AreAlike fs gs
AreAlike _ _ = ⊥
