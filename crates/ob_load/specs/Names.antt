-- Room for the name of a module.
use Rattle.std.specs.Prelude.{◌≡◌, ℕ, ◌≤◌, Bool, false, List, [], ◌∷◌, length, Vec, vec_capacity}
use Rattle.std.specs.declared.alloc.Global.{Global}
use Rattle.ob_session.specs.Session.{Module, name_of}

-- no module's name is longer
abbrev pub NamesWithin : List Module → ℕ → Type 0
NamesWithin [] longest = Unit {0}
NamesWithin (m ∷ ms) longest = (length (name_of m) ≤ longest) × NamesWithin ms longest

-- until the end is told there is room for the name that a trap takes with it
pub record HasRoom (modules : List Module) (over : Bool) (name : Vec ℕ Global) : Type 0 where
  pub empty : over ≡ false → name.items ≡ []
  pub room : over ≡ false → NamesWithin modules (vec_capacity name)
