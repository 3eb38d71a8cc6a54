-- To be believed.
-- Record types as a running program tells them apart (Wirth, The Programming Language Oberon, Oberon-07: type extension). A type
-- is told by its name, that of its base, and so on. Its name is the type, written out: types are equal where their texts are.
use Rattle.std.specs.Prelude.{ℕ, suc, List, [], ◌∷◌, map, Option, Some, None, option_map, if◌then◌else◌}
use Rattle.ob_types.specs.declared.structure.ObType.{ObType}
use Rattle.ob_types.specs.Types.{cells, chain, same}
use Rattle.ob_types.specs.InterfaceText.{type_text}
use Rattle.ob_mean.specs.declared.kind.TypeName.{TypeName}
use Rattle.ob_mean.specs.declared.kind.RecordKind.{RecordKind}
use Rattle.ob_mean.specs.RecordTypes.{TypeNames}
use Rattle.ob_check_kinds.specs.Shapes.{shape_of}
use Rattle.ob_types.specs.Declarable.{is_declarable}

abbrev pub name_of : ObType → TypeName
name_of t = record { text = type_text t; cells = cells t }

-- the name of each
abbrev pub names_in : List ObType → TypeNames
names_in ts = map name_of ts

-- of a type, of its base, of the base of that
abbrev pub names_of : ObType → TypeNames
names_of t = names_in (chain t)

abbrev pub kind_of : ObType → RecordKind
kind_of t = record { names = names_of t; shape = shape_of t }

-- at which place the first type stands among these, counted from 0
abbrev pub level_in : ObType → List ObType → Option ℕ
level_in to [] = None
level_in to (t ∷ ts) = if same to t then Some 0 else option_map suc (level_in to ts)

-- How many bases down from the second type the first one stands, if it is that type or one of its bases. The second one is a type
-- that a declaration can make, as all are that names stand for.
abbrev pub levels_to : ObType → ObType → Option ℕ
levels_to to from = if is_declarable from then level_in to (chain from) else None
