-- Which modules reach a module of a name, by their imports and theirs.
use Rattle.std.specs.Prelude.{◌≡◌, ◌↔◌, ℕ, List, length, map, Bool, true, false, ◌||◌, Some, None, slice_get, slice_index_or}
use Rattle.std.specs.List.{list_any}
use Rattle.std.specs.Str.{bytes_eq}
use Rattle.ob_session.specs.Session.{Import, Module, find_module, place_of}
use Rattle.ob_session.specs.Links.{Reached}
use Rattle.ob_session.specs.Reaches.{reaches, reached_by}
use Rattle.ob_link.specs.Faults.{all_none, fault_row}

-- for each module, by its number
abbrev pub reaching : List Module → List ℕ → List Bool
reaching modules name = map (reached_by modules name) modules

-- A module does exactly where an import of that name is reached through its imports, by a chain of any length.
abbrev pub EachReachesExactly : Type 0
EachReachesExactly = (modules : List Module) (number : ℕ) (m : Module) (name : List ℕ) → slice_get modules number ≡ Some m → (slice_index_or (reaching modules name) number false ≡ true) ↔ ((i : Import) × Reached modules i m.imports × (i.name ≡ name))

-- ---- found in rows, through chains that grow by one import from each row to the next

abbrev pub reach_row : List Module → ℕ → List ℕ → List Bool
reach_row modules most name = map (λ (m : Module). list_any (reaches modules most name) m.imports) modules

-- an import, by which modules do
abbrev pub reaches_in : List Module → List Bool → List ℕ → Import → Bool
reaches_in modules row name i = bytes_eq i.name name || slice_index_or row (place_of modules i.name) false

abbrev pub next_reach_row : List Module → List Bool → List ℕ → List Bool
next_reach_row modules row name = map (λ (m : Module). list_any (reaches_in modules row name) m.imports) modules

-- no module has this name, and the imports of all modules link
pub record IsApart (modules : List Module) (name : List ℕ) : Type 0 where
  pub new : find_module modules name ≡ None
  pub link : all_none (fault_row modules (length modules)) ≡ true
