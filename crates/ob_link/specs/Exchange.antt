-- A module that is loaded, and taken back.
use Rattle.std.specs.Prelude.{◌≡◌, ◌≢◌, ℕ, ◌-◌, List, [], ◌∷◌, ◌++◌, length, take, Option, Some, None}
use Rattle.ob_session.specs.Session.{Module, name_of, find_module, link_fault, with_module}
use Rattle.ob_link.specs.Reaching.{IsApart}

-- These are the modules after one was loaded, and this is the one whose place it took, if there was one.
pub record IsExchanged (modules : List Module) (back : Option Module) : Type 0 where
  pub before : List Module
  pub loaded : Module
  pub now : modules ≡ with_module before loaded
  pub taken : back ≡ find_module before (name_of loaded)

abbrev pub without_last : List Module → List Module
without_last modules = take (length modules - 1) modules

-- The module whose place was taken has it again. Where there was none, the loaded one is the last, and goes.
abbrev pub put_back : List Module → Option Module → List Module
put_back modules None = without_last modules
put_back modules (Some m) = with_module modules m

-- so the modules are what they were
abbrev pub EachExchangeGoesBack : Type 0
EachExchangeGoesBack = (before : List Module) (loaded : Module) → put_back (with_module before loaded) (find_module before (name_of loaded)) ≡ before

-- ---- what the code asks

-- some module has this name
abbrev pub HasName : List Module → List ℕ → Type 0
HasName modules name = find_module modules name ≢ None

-- the last module has a name that none before it has
pub record EndsNew (modules : List Module) : Type 0 where
  pub before : List Module
  pub last : Module
  pub ends : modules ≡ before ++ last ∷ []
  pub new : find_module before (name_of last) ≡ None

-- a module of a new name links, and all others link
pub record LinksBehind (modules : List Module) (m : Module) : Type 0 where
  pub apart : IsApart modules (name_of m)
  pub links : link_fault modules m.imports ≡ None
