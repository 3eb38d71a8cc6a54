-- To be believed.
-- What a block declares.
use Rattle.std.specs.Prelude.{◌≡◌, ℕ, suc, List, [], ◌∷◌, Vec, option_map, Option, Some, None, if◌then◌else◌}
use Rattle.std.specs.Str.{bytes_eq}
use Rattle.std.specs.declared.hash.FoldHasher.{FoldHasher}
use Rattle.std.specs.declared.hash.BuildHasherDefault.{BuildHasherDefault}
use Rattle.std.specs.declared.alloc.Global.{Global}
use Rattle.std.specs.HashMap.{get_by, HashMap}
use Rattle.ob_check_scope.specs.declared.block.Entry.{Entry}
use Rattle.ob_check_scope.specs.declared.block.Declared.{Declared}

-- what a name stands for in one block
abbrev pub find : List Declared → List ℕ → Option Entry
find [] name = None
find (d ∷ ds) name = if bytes_eq d.name name then Some d.entry else find ds name

-- where a name is declared in a block
abbrev pub place_of : List Declared → List ℕ → Option ℕ
place_of [] name = None
place_of (d ∷ ds) name = if bytes_eq d.name name then Some 0 else option_map suc (place_of ds name)

-- the map has the place of each name
abbrev pub IsIndex : HashMap (Vec ℕ Global) ℕ (BuildHasherDefault FoldHasher) → List Declared → Type 0
IsIndex places declared = (name : List ℕ) → get_by (λ k. bytes_eq name k.items) places ≡ place_of declared name
