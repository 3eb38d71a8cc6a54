-- The types that stand in what a module exports, numbered.
use Rattle.std.specs.Prelude.{◌≡◌, ℕ, Bool, true, false, not, nat_eq, nat_lt, ◌||◌, List, [], ◌∷◌, map, take, Some, slice_get}
use Rattle.std.specs.List.{list_all}
use Rattle.std.specs.Cmp.Lexicographic.{pointwise}
use Rattle.ob_types.specs.declared.exports.FormalKind.{FormalKind}
use Rattle.ob_types.specs.declared.exports.FormalKind.TheVariants as formal
use Rattle.ob_types.specs.declared.exports.Formal.{Formal}
use Rattle.ob_types.specs.declared.exports.Object.{Object}
use Rattle.ob_types.specs.declared.exports.Object.TheVariants as object
use Rattle.ob_types.specs.declared.exports.Exported.{Exported}
use Rattle.ob_types.specs.declared.structure.ObType.{ObType}

-- the types of formal parameters, and those of what is exported, in their order
abbrev pub types_of : List Formal → List ObType
types_of formals = map (λ (f : Formal). f.of) formals

abbrev pub types_in : Object → List ObType
types_in (object.Constant c) = []
types_in (object.TypeName t) = t ∷ []
types_in (object.Variable t) = t ∷ []
types_in (object.Procedure s) = types_of s.formals

-- these are the numbers of these types
abbrev pub AreOf : List ObType → List ℕ → List ObType → Type 0
AreOf kinds numbers types = map (slice_get kinds) numbers ≡ map Some types

-- each exported name has the numbers of its types
abbrev pub AreNumbered : List ObType → List (List ℕ) → List Exported → Type 0
AreNumbered kinds numbers exports = map (map (slice_get kinds)) numbers ≡ map (λ (e : Exported). map Some (types_in e.object)) exports

-- what has a number keeps it
abbrev pub Keeps : List ObType → List ObType → Type 0
Keeps before kinds = (n : ℕ) (t : ObType) → slice_get before n ≡ Some t → slice_get kinds n ≡ Some t

-- the first so many types are the same in both
abbrev pub SameBelow : ℕ → List ObType → List ObType → Type 0
SameBelow most left right = take most left ≡ take most right

-- all these are below a number
abbrev pub are_below : ℕ → List ℕ → Bool
are_below most numbers = list_all (λ n. nat_lt n most) numbers

abbrev pub same_kind : FormalKind → FormalKind → Bool
same_kind formal.Value formal.Value = true
same_kind formal.Variable formal.Variable = true
same_kind _ _ = false

-- formal parameters that are passed in the same way
abbrev pub passed_alike : List Formal → List Formal → Bool
passed_alike left right = pointwise (λ (f g : Formal). same_kind f.kind g.kind) left right

-- texts that differ in a place that both have
abbrev pub are_apart : List ℕ → List ℕ → Bool
are_apart [] ys = false
are_apart (x ∷ xs) [] = false
are_apart (x ∷ xs) (y ∷ ys) = not (nat_eq x y) || are_apart xs ys
