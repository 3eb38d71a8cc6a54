-- The items of a shelf in memory, as the list of their paths with what stands there.
use Rattle.std.specs.Prelude.{ℕ, ◌||◌, Bool, false, List, [], ◌∷◌, if◌then◌else◌, Option, Some, None, is_some, String, string_bytes}
use Rattle.std.specs.Str.{bytes_eq}
use Rattle.js_shelf.specs.declared.item.Item.{Item}
use Rattle.js_shelf.specs.Paths.{goes, name_in}

-- anything stands directly in the folder
abbrev pub has_names : {A : Type 0} → List ℕ → List (String A × Item) → Bool
has_names folder [] = false
has_names folder (entry ∷ entries) = is_some (name_in folder (string_bytes entry.0)) || has_names folder entries

-- a name in front of names, if there is one
abbrev pub in_front : Option (List ℕ) → List (List ℕ) → List (List ℕ)
in_front None names = names
in_front (Some name) names = name ∷ names

-- the names of what stands directly in the folder
abbrev pub names_in : {A : Type 0} → List ℕ → List (String A × Item) → List (List ℕ)
names_in folder [] = []
names_in folder (entry ∷ entries) = in_front (name_in folder (string_bytes entry.0)) (names_in folder entries)

-- the first, or else the second
abbrev pub or_else : Option Item → Option Item → Option Item
or_else None item = item
or_else (Some item) other = Some item

-- the second is that path
abbrev pub is_that : List ℕ → Option (List ℕ) → Bool
is_that path None = false
is_that path (Some other) = bytes_eq other path

-- the last item that goes to that path
abbrev pub moved_items : {A : Type 0} → List ℕ → List ℕ → List (String A × Item) → List ℕ → Option Item
moved_items from to [] path = None
moved_items from to (entry ∷ entries) path =
    or_else (moved_items from to entries path) (if is_that path (goes from to (string_bytes entry.0)) then Some entry.1 else None)
