-- To be believed.
-- Values, places, and the store of all variables (Wirth, The Programming Language Oberon, Oberon-07: variables, arrays and
-- records, and what a VAR parameter stands for).
use Rattle.ob_mean.specs.RecordTypes.{TypeNames}
use Rattle.std.specs.Prelude.{ℕ, zero, suc, ◌+◌, ℤ, pos, List, [], ◌∷◌, ◌++◌}

-- A place in a store: the store itself, or a part of a place by its number there. A store has a part for each loaded
-- module and one for each call that is open; those have their variables as parts, an array its elements, a record its fields.
pub data Place : Type 0 where
  Whole : Place
  Part : Place → ℕ → Place

-- A value of basic type, which is a number (a truth value 1 or 0, a character its number); the place that a parameter
-- names, of a VAR parameter of record type with the type that is told of the record, of an open array with its length; or a row
-- of values, which is nothing, or a value beside a row.
pub data Value : Type 0 where
  Cell : ℤ → Value
  Named : Place → TypeNames → Value
  Open : Place → ℕ → Value
  Nothing : Value
  Beside : Value → Value → Value

-- ---- rows

-- how many values stand in a row: of an array, its length
abbrev pub count : Value → ℕ
count (Cell z) = 0
count (Named p t) = 0
count (Open p k) = 0
count Nothing = 0
count (Beside v rest) = suc (count rest)

abbrev pub item : Value → ℕ → Value
item (Cell z) i = Nothing
item (Named p t) i = Nothing
item (Open p k) i = Nothing
item Nothing i = Nothing
item (Beside v rest) zero = v
item (Beside v rest) (suc i) = item rest i

abbrev pub with_item : Value → ℕ → Value → Value
with_item (Cell z) i x = Cell z
with_item (Named p t) i x = Named p t
with_item (Open p k) i x = Open p k
with_item Nothing i x = Nothing
with_item (Beside v rest) zero x = Beside x rest
with_item (Beside v rest) (suc i) x = Beside v (with_item rest i x)

-- one row after another
abbrev pub append : Value → Value → Value
append (Cell z) t = t
append (Named p x) t = t
append (Open p k) t = t
append Nothing t = t
append (Beside v rest) t = Beside v (append rest t)

-- the first values of a row
abbrev pub first : ℕ → Value → Value
first zero v = Nothing
first (suc k) (Cell z) = Nothing
first (suc k) (Named p t) = Nothing
first (suc k) (Open p n) = Nothing
first (suc k) Nothing = Nothing
first (suc k) (Beside v rest) = Beside v (first k rest)

-- a row of equal values
abbrev pub row : ℕ → Value → Value
row zero v = Nothing
row (suc n) v = Beside v (row n v)

-- ---- what stands at a place

abbrev pub get : Value → Place → Value
get s Whole = s
get s (Part p i) = item (get s p) i

-- the store with another value at a place
abbrev pub set : Value → Place → Value → Value
set s Whole v = v
set s (Part p i) v = set s p (with_item (get s p) i v)

-- the number that a cell holds
abbrev pub number : Value → ℤ
number (Cell z) = z
number (Named p t) = pos 0
number (Open p k) = pos 0
number Nothing = pos 0
number (Beside v rest) = pos 0

-- the place that a parameter names
abbrev pub named : Value → Place
named (Cell z) = Whole
named (Named p t) = p
named (Open p k) = p
named Nothing = Whole
named (Beside v rest) = Whole

-- the record type that is told with it
abbrev pub told : Value → TypeNames
told (Cell z) = []
told (Named p t) = t
told (Open p k) = []
told Nothing = []
told (Beside v rest) = []

-- ---- the base of a record is its first part

-- the base part so many levels down, and the record so many levels up of which a place is the base part
abbrev pub down : ℕ → Place → Place
down zero p = p
down (suc k) p = Part (down k p) 0

abbrev pub up : ℕ → Place → Place
up zero p = p
up (suc k) Whole = Whole
up (suc k) (Part p i) = up k p

-- ---- the picture of a store as one row of cells, which is what a machine keeps; what parameters name stands beside it

-- how many cells a value takes
abbrev pub size : Value → ℕ
size (Cell z) = 1
size (Named p t) = 0
size (Open p k) = 0
size Nothing = 0
size (Beside v rest) = size v + size rest

-- how many cells stand before an item
abbrev pub before : Value → ℕ → ℕ
before (Cell z) i = 0
before (Named p t) i = 0
before (Open p k) i = 0
before Nothing i = 0
before (Beside v rest) zero = 0
before (Beside v rest) (suc i) = size v + before rest i

-- the address of a place
abbrev pub offset : Value → Place → ℕ
offset s Whole = 0
offset s (Part p i) = offset s p + before (get s p) i

-- the value with each number 0, which is what addresses depend on, and what no assignment changes
abbrev pub shape : Value → Value
shape (Cell z) = Cell (pos 0)
shape (Named p t) = Named p t
shape (Open p k) = Open p k
shape Nothing = Nothing
shape (Beside v rest) = Beside (shape v) (shape rest)

-- all variables as one row of cells
abbrev pub image : Value → List ℤ
image (Cell z) = z ∷ []
image (Named p t) = []
image (Open p k) = []
image Nothing = []
image (Beside v rest) = image v ++ image rest
