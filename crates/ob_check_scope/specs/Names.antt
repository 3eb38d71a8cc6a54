-- To be believed.
-- Names in a row.
use Rattle.std.specs.Prelude.{◌≡◌, ℕ, suc, List, [], ◌∷◌, Vec, Bool, false, ◌||◌, option_map, Option, Some, None, if◌then◌else◌}
use Rattle.std.specs.Str.{bytes_eq}
use Rattle.std.specs.declared.hash.FoldHasher.{FoldHasher}
use Rattle.std.specs.declared.hash.BuildHasherDefault.{BuildHasherDefault}
use Rattle.std.specs.declared.alloc.Global.{Global}
use Rattle.std.specs.HashMap.{get_by, HashMap}

-- the first place of a name
abbrev pub place_in : List (List ℕ) → List ℕ → Option ℕ
place_in [] name = None
place_in (n ∷ ns) name = if bytes_eq n name then Some 0 else option_map suc (place_in ns name)

-- whether a name is among these
abbrev pub is_among : List (List ℕ) → List ℕ → Bool
is_among [] name = false
is_among (n ∷ ns) name = bytes_eq n name || is_among ns name

-- the map has the first place of each name
abbrev pub ArePlaces : HashMap (Vec ℕ Global) ℕ (BuildHasherDefault FoldHasher) → List (List ℕ) → Type 0
ArePlaces places names = (name : List ℕ) → get_by (λ k. bytes_eq name k.items) places ≡ place_in names name
