-- To be believed.
-- Which modules reach a name, by their imports and theirs (The Programming Language Oberon, Oberon-07: modules and their clients).
use Rattle.std.specs.Prelude.{ℕ, zero, suc, Bool, false, ◌||◌, List, length, Option, Some, None}
use Rattle.std.specs.List.{list_any}
use Rattle.std.specs.Str.{bytes_eq}
use Rattle.ob_session.specs.Session.{Import, Module, find_module}

-- one of the imports of what is found
abbrev pub any_behind : Option Module → (Import → Bool) → Bool
any_behind None reaches = false
any_behind (Some m) reaches = list_any reaches m.imports

-- whether an import is of this name, or reaches it through chains of so many imports more
abbrev pub reaches : List Module → ℕ → List ℕ → Import → Bool
reaches modules zero name i = bytes_eq i.name name
reaches modules (suc most) name i = bytes_eq i.name name || any_behind (find_module modules i.name) (reaches modules most name)

-- whether an import of a module does; a chain that goes through no module twice has no more imports than there are modules
abbrev pub reached_by : List Module → List ℕ → Module → Bool
reached_by modules name m = list_any (reaches modules (length modules) name) m.imports
