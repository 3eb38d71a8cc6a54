-- Which modules may run, and what their imports then name.
use Rattle.std.specs.Prelude.{◌≡◌, ◌↔◌, ℕ, List, map, Bool, true, false, Some, None, is_none, slice_get, slice_index_or}
use Rattle.ob_session.specs.Session.{Import, Module, key_of, find_module, place_of, link_fault}

-- for each module, by its number, whether its imports link
abbrev pub may_run : List Module → List Bool
may_run modules = map (λ (m : Module). is_none (link_fault modules m.imports)) modules

-- the module of this number may run
abbrev pub RunsAt : List Module → ℕ → Type 0
RunsAt modules number = slice_index_or (may_run modules) number false ≡ true

-- an import names a module that is loaded, with the recorded key, and that may run itself
pub record ImportRuns (modules : List Module) (i : Import) : Type 0 where
  pub module_there : Module
  pub found : find_module modules i.name ≡ Some module_there
  pub placed : slice_get modules (place_of modules i.name) ≡ Some module_there
  pub same_key : key_of module_there ≡ i.key
  pub links : link_fault modules module_there.imports ≡ None
  pub runs : RunsAt modules (place_of modules i.name)

-- of imports that link, each does
abbrev pub EachImportRuns : Type 0
EachImportRuns = (modules : List Module) (imports : List Import) → link_fault modules imports ≡ None → (k : ℕ) (i : Import) → slice_get imports k ≡ Some i → ImportRuns modules i

-- and a module may run exactly where its imports link
abbrev pub EachRunsLinked : Type 0
EachRunsLinked = (modules : List Module) (number : ℕ) (m : Module) → slice_get modules number ≡ Some m → RunsAt modules number ↔ (link_fault modules m.imports ≡ None)
