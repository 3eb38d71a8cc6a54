-- What it means that imports link.
use Rattle.std.specs.Prelude.{◌≡◌, ◌↔◌, ℕ, List, ◌∷◌, Some, None}
use Rattle.ob_session.specs.Session.{Import, Module, key_of, find_module, link_fault}

-- an import that is reached through these: one of them, or one that is reached through what a module that they name imports
pub data Reached (modules : List Module) (i : Import) : List Import → Type 0 where
  First : (is : List Import) → Reached modules i (i ∷ is)
  Behind : (j : Import) (is : List Import) → Reached modules i is → Reached modules i (j ∷ is)
  Through : (j : Import) (is : List Import) (m : Module) → find_module modules j.name ≡ Some m → Reached modules i m.imports → Reached modules i (j ∷ is)

-- a module of its name is loaded, with the key that was recorded
abbrev pub IsLoaded : List Module → Import → Type 0
IsLoaded modules i = (m : Module) × (find_module modules i.name ≡ Some m) × (key_of m ≡ i.key)

pub record LinksExactly (modules : List Module) (imports : List Import) : Type 0 where
  -- they link exactly where everything that is reached is loaded
  pub linked : (link_fault modules imports ≡ None) ↔ ((i : Import) → Reached modules i imports → IsLoaded modules i)
  -- a fault names something that is reached and not loaded
  pub fault : (name : List ℕ) → link_fault modules imports ≡ Some name → (i : Import) × Reached modules i imports × (i.name ≡ name) × (IsLoaded modules i → ⊥)

abbrev pub EachLinksExactly : Type 0
EachLinksExactly = (modules : List Module) (imports : List Import) → LinksExactly modules imports
