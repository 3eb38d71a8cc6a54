-- What links, found in rows: for each module the fault behind its imports, through chains that grow by one import from each
-- row to the next.
use Rattle.std.specs.Prelude.{ℕ, Bool, true, ◌&&◌, List, [], ◌∷◌, map, Option, Some, None, is_none, if◌then◌else◌, slice_index_or}
use Rattle.std.specs.Str.{bytes_eq}
use Rattle.ob_session.specs.Session.{Import, Module, key_of, find_module, place_of, first_fault, import_fault}

-- behind each module, through chains of so many imports
abbrev pub fault_row : List Module → ℕ → List (Option (List ℕ))
fault_row modules most = map (λ (m : Module). first_fault (import_fault modules most) m.imports) modules

abbrev pub fault_by : Option Module → Import → Option (List ℕ) → Option (List ℕ)
fault_by None i behind = Some i.name
fault_by (Some m) i behind = if bytes_eq (key_of m) i.key then behind else Some i.name

-- of an import, by what is behind each module
abbrev pub fault_in : List Module → List (Option (List ℕ)) → Import → Option (List ℕ)
fault_in modules row i = fault_by (find_module modules i.name) i (slice_index_or row (place_of modules i.name) None)

-- the next row
abbrev pub next_row : List Module → List (Option (List ℕ)) → List (Option (List ℕ))
next_row modules row = map (λ (m : Module). first_fault (fault_in modules row) m.imports) modules

-- a row has no fault
abbrev pub all_none : List (Option (List ℕ)) → Bool
all_none [] = true
all_none (f ∷ fs) = is_none f && all_none fs
