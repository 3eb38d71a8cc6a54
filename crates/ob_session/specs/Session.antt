-- To be believed.
-- What the cells of a kernel hand from each to the next: the modules that are loaded, and their variables.
use Rattle.std.specs.Prelude.{ℕ, zero, suc, List, [], ◌∷◌, length, map, nat_lt, Option, Some, None, if◌then◌else◌}
use Rattle.std.specs.Str.{bytes_eq}
use Rattle.ob_types.specs.InterfaceTree.{InterfaceTree}
use Rattle.ob_types.specs.InterfaceText.{interface_text}
use Rattle.ob_mean.specs.declared.module.TypedModule.{TypedModule}
use Rattle.ob_mean.specs.declared.module.Loaded.{Loaded}
use Rattle.ob_mean.specs.Programs.{Program}
use Rattle.ob_mean.specs.Shapes.{opening_row}
use Rattle.ob_mean.specs.Values.{Value, Nothing, Beside, append, count, with_item}

-- an import, with the key that the module had when its client was checked. In and Out are none
pub record Import : Type 0 where
  pub name : List ℕ
  pub key : List ℕ

pub record Module : Type 0 where
  pub interface : InterfaceTree
  pub tree : TypedModule
  pub imports : List Import

-- The store has a part for each module.
pub record Session : Type 0 where
  pub modules : List Module
  pub store : Value

-- the session before the first cell
abbrev pub opening : Session
opening = record { modules = []; store = Nothing }

-- ---- names and keys

abbrev pub name_of : Module → List ℕ
name_of m = m.interface.name

-- the key of a module is the text of its interface
abbrev pub key_of : Module → List ℕ
key_of m = interface_text m.interface

abbrev pub find_module : List Module → List ℕ → Option Module
find_module [] name = None
find_module (m ∷ ms) name = if bytes_eq (name_of m) name then Some m else find_module ms name

-- the place of the module of this name; where there is none, how many modules there are
abbrev pub place_of : List Module → List ℕ → ℕ
place_of [] name = zero
place_of (m ∷ ms) name = if bytes_eq (name_of m) name then zero else suc (place_of ms name)

-- ---- what links: every module reached through imports is loaded, with the key that its client recorded

abbrev pub first_some : {A : Type 0} → Option A → Option A → Option A
first_some (Some a) other = Some a
first_some None other = other

-- the fault of the first of these that has one, in their order
abbrev pub first_fault : (Import → Option (List ℕ)) → List Import → Option (List ℕ)
first_fault fault [] = None
first_fault fault (i ∷ is) = first_some (fault i) (first_fault fault is)

-- the module itself, before what it imports
abbrev pub fault_of : Option Module → Import → (Import → Option (List ℕ)) → Option (List ℕ)
fault_of None i deeper = Some i.name
fault_of (Some m) i deeper = if bytes_eq (key_of m) i.key then first_fault deeper m.imports else Some i.name

-- through chains of so many imports
abbrev pub import_fault : List Module → ℕ → Import → Option (List ℕ)
import_fault modules zero i = None
import_fault modules (suc most) i = fault_of (find_module modules i.name) i (import_fault modules most)

-- The first module that is reached through these imports, in their order, depth first, and is not loaded with the recorded
-- key. A chain that goes through no module twice has at most one import more than there are modules.
abbrev pub link_fault : List Module → List Import → Option (List ℕ)
link_fault modules imports = first_fault (import_fault modules (suc (length modules))) imports

-- ---- loading

-- a module takes the place of the one of its name
abbrev pub with_module : List Module → Module → List Module
with_module [] m = m ∷ []
with_module (x ∷ xs) m = if bytes_eq (name_of x) (name_of m) then m ∷ xs else x ∷ with_module xs m

abbrev pub with_variables : Value → ℕ → Value → Value
with_variables store place variables =
    if nat_lt place (count store) then with_item store place variables else append store (Beside variables Nothing)

-- A module is loaded: its variables begin as zero, and those of others stay.
abbrev pub installed : Session → Module → Session
installed s m = record {
  modules = with_module s.modules m;
  store = with_variables s.store (place_of s.modules (name_of m)) (opening_row m.tree.variables);
}

-- ---- what runs

abbrev pub import_places : List Module → List Import → List ℕ
import_places modules imports = map (λ (i : Import). place_of modules i.name) imports

abbrev pub loaded : List Module → Module → Loaded
loaded modules m = record { tree = m.tree; imports = import_places modules m.imports }

abbrev pub program_of : List Module → Program
program_of modules = map (loaded modules) modules
