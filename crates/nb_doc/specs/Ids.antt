-- To be believed.
-- The ids of cells: which texts are allowed, that none stands twice, and the names that cells without an id are given.
use Rattle.std.specs.Prelude.{◌≡◌, ℕ, zero, suc, ◌+◌, ◌==◌, List, [], ◌∷◌, ◌++◌, Bool, true, not, ◌&&◌, ◌||◌, nat_lt, nat_le, length, codes, decimal, Option, Some, None, if◌then◌else◌}
use Rattle.std.specs.List.{list_any, list_all}
use Rattle.std.specs.Char.{is_ascii_alphanumeric}
use Rattle.std.specs.Str.{bytes_eq}
use Rattle.nb_doc.specs.declared.draft.Draft.{Draft}
use Rattle.nb_doc.specs.declared.notebook.Cell.{Cell}

abbrev pub is_id_byte : ℕ → Bool
is_id_byte b = is_ascii_alphanumeric b || (b == 45) || (b == 95)

-- 1 to 64 of letters, digits, `-` and `_`
unfoldable pub is_allowed : List ℕ → Bool
is_allowed id = nat_lt 0 (length id) && nat_le (length id) 64 && list_all is_id_byte id

abbrev pub is_among : List (List ℕ) → List ℕ → Bool
is_among ids id = list_any (bytes_eq id) ids

-- no id equals one after it
abbrev pub are_distinct : List (List ℕ) → Bool
are_distinct [] = true
are_distinct (id ∷ ids) = not (is_among ids id) && are_distinct ids

abbrev pub with_id : Option (List ℕ) → List (List ℕ) → List (List ℕ)
with_id None ids = ids
with_id (Some id) ids = id ∷ ids

-- a set has these ids, which are distinct
pub record IsSetOf (names ids : List (List ℕ)) : Type 0 where
  pub same : (id : List ℕ) → is_among names id ≡ is_among ids id
  pub len : length names ≡ length ids

-- the ids that stand in the text
abbrev pub standing : List Draft → List (List ℕ)
standing [] = []
standing (d ∷ ds) = with_id d.id (standing ds)

-- ---- names for cells that have none

unfoldable pub name_of : ℕ → List ℕ
name_of n = codes "run-" ++ decimal n

abbrev pub is_taken : List (List ℕ) → ℕ → Bool
is_taken ids n = is_among ids (name_of n)

-- the least number from n on whose name is not taken, looked for among k of them
abbrev pub free_from : List (List ℕ) → ℕ → ℕ → ℕ
free_from ids n zero = n
free_from ids n (suc k) = if is_taken ids n then free_from ids (n + 1) k else n

-- The least number from 1 whose name is not taken: of one number more than there are ids, one is free.
unfoldable pub least_free : List (List ℕ) → ℕ
least_free ids = free_from ids 1 (length ids)

abbrev pub cell_with : Draft → List ℕ → Cell
cell_with d id = record { id = id; metadata = d.metadata; source = d.source; content = d.content }

-- the id of a cell, where these are taken: its own, or the least name that is free
abbrev pub id_in : List (List ℕ) → Option (List ℕ) → List ℕ
id_in taken (Some id) = id
id_in taken None = name_of (least_free taken)

abbrev pub taken_after : List (List ℕ) → Option (List ℕ) → List (List ℕ)
taken_after taken (Some id) = taken
taken_after taken None = name_of (least_free taken) ∷ taken

-- each cell that has no id gets the least name that no cell of the text has and no earlier cell got
abbrev pub raised : List (List ℕ) → List Draft → List Cell
raised taken [] = []
raised taken (d ∷ ds) = cell_with d (id_in taken d.id) ∷ raised (taken_after taken d.id) ds

-- the cells of a notebook of 4.5
unfoldable pub raise : List Draft → List Cell
raise ds = raised (standing ds) ds
