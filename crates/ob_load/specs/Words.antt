-- Interfaces whose names are words, as those of checked modules are, so that their texts can be read.
use Rattle.std.specs.Prelude.{◌≡◌, ◌<◌, ◌^◌, ℕ, true, List, [], ◌∷◌}
use Rattle.std.specs.Char.{is_ascii_alphanumeric}
use Rattle.std.specs.List.{list_all}
use Rattle.ob_types.specs.declared.exports.Exported.{Exported}
use Rattle.ob_types.specs.declared.exports.Formal.{Formal}
use Rattle.ob_types.specs.declared.exports.Object.{Object}
use Rattle.ob_types.specs.declared.exports.Object.TheVariants as object
use Rattle.ob_types.specs.declared.structure.Field.{Field}
use Rattle.ob_types.specs.declared.structure.ObType.{ObType, end_of-ObType, more_of-ObType}
use Rattle.ob_types.specs.declared.structure.ObType.TheBlock.{Row_of-Field, end_of-Field, more_of-Field}
use Rattle.ob_types.specs.declared.structure.ObType.TheVariants.{Basic as OfBasic, Array', Open', Record}
use Rattle.ob_types.specs.declared.structure.RecordName.{RecordName}
use Rattle.ob_types.specs.declared.structure.RecordType.{RecordType'}
use Rattle.ob_types.specs.InterfaceTree.{InterfaceTree}
use Rattle.ob_session.specs.Session.{Module}

-- letters and digits
abbrev pub IsWord : List ℕ → Type 0
IsWord name = list_all is_ascii_alphanumeric name ≡ true

abbrev pub AreWords : List (List ℕ) → Type 0
AreWords [] = Unit {0}
AreWords (name ∷ names) = IsWord name × AreWords names

-- the parts of the name of a record type
pub record RecordWords (r : RecordName) : Type 0 where
  pub home : IsWord r.module_name
  pub enclosing : AreWords r.enclosing
  pub declared : IsWord r.declared

-- those of a type and of its fields; a length has an address
abbrev mutual
  pub TypeWords : ObType → Type 0
  TypeWords (OfBasic b) = Unit {0}
  TypeWords (Array' n p (more_of-ObType element end_of-ObType)) = (n < 2 ^ 64) × TypeWords element
  TypeWords (Open' p (more_of-ObType element end_of-ObType)) = TypeWords element
  TypeWords (Record (RecordType' name k fields)) = RecordWords name × RowWords fields

  pub RowWords : {k : _} → Row_of-Field k → Type 0
  RowWords end_of-Field = Unit {0}
  RowWords (more_of-Field name exported of rest) = IsWord name × TypeWords of × RowWords rest

-- the same of fields
abbrev pub FieldWords : List Field → Type 0
FieldWords [] = Unit {0}
FieldWords (f ∷ fs) = IsWord f.name × TypeWords f.of × FieldWords fs

abbrev pub FormalWords : List Formal → Type 0
FormalWords [] = Unit {0}
FormalWords (f ∷ fs) = TypeWords f.of × FormalWords fs

abbrev pub ObjectWords : Object → Type 0
ObjectWords (object.Constant c) = Unit {0}
ObjectWords (object.TypeName t) = TypeWords t
ObjectWords (object.Variable t) = TypeWords t
ObjectWords (object.Procedure s) = FormalWords s.formals

abbrev pub ExportWords : List Exported → Type 0
ExportWords [] = Unit {0}
ExportWords (e ∷ es) = IsWord e.name × ObjectWords e.object × ExportWords es

pub record InterfaceWords (i : InterfaceTree) : Type 0 where
  pub name : IsWord i.name
  pub exports : ExportWords i.exports

abbrev pub AllWords : List Module → Type 0
AllWords [] = Unit {0}
AllWords (m ∷ ms) = InterfaceWords m.interface × AllWords ms
