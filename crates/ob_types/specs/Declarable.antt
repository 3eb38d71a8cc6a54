-- To be believed.
-- Types that a declaration can make. Each type that a name stands for is one, and of no other a kind is told: its text can be read,
-- and its values take few cells.
use Rattle.std.specs.Prelude.{ℕ, Bool, true, false, ◌&&◌, nat_le, List, [], ◌∷◌}
use Rattle.std.specs.Char.{is_ascii_alphanumeric}
use Rattle.std.specs.List.{list_all}
use Rattle.ob_types.specs.declared.structure.Field.{Field}
use Rattle.ob_types.specs.declared.structure.ObType.{ObType, end_of-ObType, more_of-ObType}
use Rattle.ob_types.specs.declared.structure.ObType.TheBlock.{Row_of-Field, end_of-Field, more_of-Field}
use Rattle.ob_types.specs.declared.structure.ObType.TheVariants.{Basic as OfBasic, Array', Open', Record}
use Rattle.ob_types.specs.declared.structure.RecordName.{RecordName}
use Rattle.ob_types.specs.declared.structure.RecordType.{RecordType'}
use Rattle.ob_types.specs.Types.{max_cells, is_admitted}

-- letters and digits alone
abbrev pub is_word : List ℕ → Bool
is_word name = list_all is_ascii_alphanumeric name

abbrev pub are_words : RecordName → Bool
are_words r = is_word r.module_name && list_all is_word r.enclosing && is_word r.declared

abbrev pub is_record : ObType → Bool
is_record (OfBasic b) = false
is_record (Array' n p e) = false
is_record (Open' p e) = false
is_record (Record r) = true

-- a field that has no name is a base, which is a record
abbrev pub is_labelled : List ℕ → ObType → Bool
is_labelled [] of = is_record of
is_labelled (c ∷ cs) of = is_word (c ∷ cs)

-- the names in a type are words, and its arrays have elements
abbrev mutual
  pub is_plain : ObType → Bool
  is_plain (OfBasic b) = true
  is_plain (Array' n p (more_of-ObType element end_of-ObType)) = nat_le 1 n && nat_le n max_cells && is_plain element
  is_plain (Open' p (more_of-ObType element end_of-ObType)) = is_plain element
  is_plain (Record (RecordType' name k fields)) = are_words name && are_plain fields

  pub are_plain : {k : _} → Row_of-Field k → Bool
  are_plain end_of-Field = true
  are_plain (more_of-Field name exported of rest) = is_labelled name of && is_plain of && are_plain rest

-- the same of fields
abbrev pub plain_fields : List Field → Bool
plain_fields [] = true
plain_fields (f ∷ fs) = is_labelled f.name f.of && is_plain f.of && plain_fields fs

abbrev pub is_declarable : ObType → Bool
is_declarable t = is_admitted t && is_plain t
