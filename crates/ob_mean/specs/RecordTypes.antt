-- To be believed.
-- Record types as a running program tells them apart: by the name of a type, that of its base, and so on (Wirth, The
-- Programming Language Oberon, Oberon-07: type extension).
use Rattle.std.specs.Prelude.{ℕ, ◌≤◌, List, [], ◌∷◌, Bool, false, ◌&&◌, ◌||◌, nat_eq}
use Rattle.std.specs.Str.{bytes_eq}
use Rattle.ob_mean.specs.declared.kind.TypeName.{TypeName}

-- a record type: its own name, that of its base, and so on; of what is no record there is none
abbrev pub TypeNames : Type 0
TypeNames = List TypeName

abbrev pub same_name : TypeName → TypeName → Bool
same_name x y = bytes_eq x.text y.text && nat_eq x.cells y.cells

abbrev pub is_among : TypeName → TypeNames → Bool
is_among x [] = false
is_among x (y ∷ ys) = same_name x y || is_among x ys

-- whether the first type is the second one, or extends it: the name of that is among its own and those of its bases
abbrev pub extends : TypeNames → TypeNames → Bool
extends told [] = false
extends told (x ∷ xs) = is_among x told

-- how many cells a record of this type takes
abbrev pub cells_of : TypeNames → ℕ
cells_of [] = 0
cells_of (x ∷ xs) = x.cells

-- records of these types take no more cells
abbrev pub AtMost : ℕ → TypeNames → Type 0
AtMost most [] = Unit {0}
AtMost most (x ∷ xs) = (x.cells ≤ most) × AtMost most xs
