-- What is so of modules that were loaded one after the other, each after it was checked.
use Rattle.std.specs.Prelude.{◌≡◌, List, [], ◌∷◌, None}
use Rattle.ob_types.specs.Solid.{ExportsSolid}
use Rattle.ob_session.specs.Session.{Module, name_of, find_module, with_module}

-- the types that they export have cells
abbrev pub AllSolid : List Module → Type 0
AllSolid [] = Unit {0}
AllSolid (m ∷ ms) = ExportsSolid m.interface.exports × AllSolid ms

-- no two have one name
abbrev pub AllDistinct : List Module → Type 0
AllDistinct [] = Unit {0}
AllDistinct (m ∷ ms) = (find_module ms (name_of m) ≡ None) × AllDistinct ms

-- both stay so where a module is loaded whose exported types have cells
pub record StaySo (modules : List Module) (m : Module) : Type 0 where
  pub solid : AllSolid modules → ExportsSolid m.interface.exports → AllSolid (with_module modules m)
  pub distinct : AllDistinct modules → AllDistinct (with_module modules m)

abbrev pub EachLoadStaysSo : Type 0
EachLoadStaysSo = (modules : List Module) (m : Module) → StaySo modules m
