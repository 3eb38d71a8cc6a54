-- The numbers of modules, by name.
use Rattle.std.specs.Prelude.{◌≡◌, ℕ, suc, List, [], ◌∷◌, Vec, option_map, Option, Some, None, if◌then◌else◌}
use Rattle.std.specs.Str.{bytes_eq}
use Rattle.std.specs.declared.hash.FoldHasher.{FoldHasher}
use Rattle.std.specs.declared.hash.BuildHasherDefault.{BuildHasherDefault}
use Rattle.std.specs.declared.alloc.Global.{Global}
use Rattle.std.specs.HashMap.{get_by, HashMap}
use Rattle.ob_session.specs.Session.{Module, name_of}

-- the number of the first module of this name
abbrev pub number_in : List Module → List ℕ → Option ℕ
number_in [] name = None
number_in (m ∷ ms) name = if bytes_eq (name_of m) name then Some 0 else option_map suc (number_in ms name)

-- the map has it
abbrev pub ArePlaces : HashMap (Vec ℕ Global) ℕ (BuildHasherDefault FoldHasher) → List Module → Type 0
ArePlaces places modules = (name : List ℕ) → get_by (λ k. bytes_eq name k.items) places ≡ number_in modules name
