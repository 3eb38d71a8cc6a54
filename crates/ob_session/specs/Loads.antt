-- What loading a module changes, and what stays.
use Rattle.std.specs.Prelude.{◌≡◌, ◌≢◌, ℕ, ◌<◌, List, length, Some, None, if◌then◌else◌}
use Rattle.std.specs.Str.{bytes_eq}
use Rattle.ob_mean.specs.Shapes.{opening_row}
use Rattle.ob_mean.specs.Values.{count, item}
use Rattle.ob_session.specs.Session.{Session, Module, name_of, find_module, place_of, installed}

pub record Loads (s : Session) (m : Module) : Type 0 where
  -- it is found by its name, and each other module as before
  pub found : (name : List ℕ) → find_module (installed s m).modules name ≡ (if bytes_eq (name_of m) name then Some m else find_module s.modules name)
  -- modules keep their places
  pub places : (name : List ℕ) → find_module s.modules name ≢ None → place_of (installed s m).modules name ≡ place_of s.modules name
  -- its variables are zero, and those of others stay
  pub zero : item (installed s m).store (place_of (installed s m).modules (name_of m)) ≡ opening_row m.tree.variables
  pub others : (place : ℕ) → place < length s.modules → place ≢ place_of s.modules (name_of m) → item (installed s m).store place ≡ item s.store place
  -- the store has a part for each module
  pub whole : count (installed s m).store ≡ length (installed s m).modules

-- a module, in a session whose store has a part for each module
abbrev pub EachLoads : Type 0
EachLoads = (s : Session) (m : Module) → count s.store ≡ length s.modules → Loads s m
