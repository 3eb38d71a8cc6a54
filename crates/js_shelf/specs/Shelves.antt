-- To be believed.
-- A shelf as a map from paths to items, and what each call does to it.
use Rattle.std.specs.Prelude.{◌≡◌, ℕ, ◌^◌, ◌-◌, ◌<◌, ◌≤◌, ◌⊎◌, ⊤, Bool, true, false, not, ◌&&◌, ◌||◌, List, [], ◌∷◌, length, if◌then◌else◌, Option, Some, None, IsSome, is_some, Result, Ok, Err}
use Rattle.std.specs.List.Sorted.{IsStrictlySortedBy}
use Rattle.std.specs.Cmp.Lexicographic.{slice_cmp}
use Rattle.std.specs.Ordering.{nat_cmp}
use Rattle.js_shelf.specs.declared.item.Item.{Item}
use Rattle.js_shelf.specs.declared.item.Item.TheVariants.{File, Folder}
use Rattle.js_shelf.specs.declared.item.ItemKind.{ItemKind}
use Rattle.js_shelf.specs.declared.item.ItemKind.TheVariants as kind
use Rattle.js_shelf.specs.declared.item.ShelfRefusal.{ShelfRefusal}
use Rattle.js_shelf.specs.declared.item.ShelfRefusal.TheVariants.{Missing, Exists, BadPath, NotEmpty, Device, Memory}
use Rattle.std.specs.Str.{bytes_eq}
use Rattle.js_shelf.specs.declared.opened.Opening.{Opening}
use Rattle.js_shelf.specs.Openings.{IsOpening}
use Rattle.js_shelf.specs.Paths.{is_path, is_root, parent_of, only_if, following, goes, name_in}

-- what stands at each path
abbrev pub Contents : Type 0
Contents = List ℕ → Option Item

abbrev pub is_folder : Option Item → Bool
is_folder (Some Folder) = true
is_folder (Some (File bytes)) = false
is_folder None = false

-- the two hold the same
abbrev pub Same : Contents → Contents → Type 0
Same old new = (path : List ℕ) → new path ≡ old path

-- ---- what a shelf tells

-- what a call leaves, where the shelf tells what it holds: it goes on telling, and P is so of the contents before and after
abbrev pub Tells : Option Contents → Option Contents → (Contents → Contents → Type 0) → Type 0
Tells None new P = ⊤
Tells (Some old) None P = ⊥
Tells (Some old) (Some new) P = P old new

-- a fault of the device is answered only where its count rose, or has reached its end; the count never falls
abbrev pub HasCause : {A : Type 0} → ℕ → ℕ → Result A ShelfRefusal → Type 0
HasCause old new (Ok a) = old ≤ new
HasCause old new (Err Device) = (old ≤ new) × ((old < new) ⊎ (new ≡ 2 ^ 64 - 1))
HasCause old new (Err e) = old ≤ new

-- ---- refusals

-- a refusal is the first fault of the call; the device or memory may fail in any call
abbrev pub IsRefused : Option ShelfRefusal → ShelfRefusal → Type 0
IsRefused fault Missing = fault ≡ Some Missing
IsRefused fault Exists = fault ≡ Some Exists
IsRefused fault BadPath = fault ≡ Some BadPath
IsRefused fault NotEmpty = fault ≡ Some NotEmpty
IsRefused fault Device = ⊤
IsRefused fault Memory = ⊤

-- the first fault of a call on a path that may be the root
abbrev pub fault_at : List ℕ → Option ShelfRefusal → Option ShelfRefusal
fault_at path fault = if is_path path then fault else Some BadPath

-- the same on a path that may not be the root
abbrev pub fault_below : List ℕ → Option ShelfRefusal → Option ShelfRefusal
fault_below path fault = if is_path path && not (is_root path) then fault else Some BadPath

-- missing where that is not so, or else that fault
abbrev pub unless_missing : Bool → Option ShelfRefusal → Option ShelfRefusal
unless_missing is_there fault = if is_there then fault else Some Missing

-- a put of the item may take the place of what is there: a file of a file
abbrev pub is_free_for : Item → Option Item → Bool
is_free_for item None = true
is_free_for (File new) (Some (File old)) = true
is_free_for (File new) (Some Folder) = false
is_free_for Folder (Some other) = false

abbrev pub get_fault : Contents → List ℕ → Option ShelfRefusal
get_fault m path = fault_at path (unless_missing (is_some (m path)) None)

abbrev pub list_fault : Contents → List ℕ → Option ShelfRefusal
list_fault m path = fault_at path (unless_missing (is_folder (m path)) None)

abbrev pub put_fault : Contents → List ℕ → Item → Option ShelfRefusal
put_fault m path item =
    fault_below path (unless_missing (is_folder (m (parent_of path))) (if is_free_for item (m path) then None else Some Exists))

-- a folder can't be moved to a place below itself
abbrev pub is_below : List ℕ → List ℕ → Bool
is_below top path = is_some (only_if (λ rest. not (is_root rest)) (following top path))

abbrev pub rename_fault : Contents → List ℕ → List ℕ → Option ShelfRefusal
rename_fault m from to =
    fault_below from (fault_below to (
    if is_folder (m from) && is_below from to then Some BadPath
    else unless_missing (is_some (m from) && is_folder (m (parent_of to))) (if is_some (m to) then Some Exists else None)
    ))

abbrev pub delete_fault : Contents → List ℕ → Option ShelfRefusal
delete_fault m path = fault_below path (unless_missing (is_some (m path)) None)

-- ---- changes

-- that item at that path, and all else as it was
abbrev pub with_item : Contents → List ℕ → Option Item → Contents
with_item m path item other = if bytes_eq path other then item else m other

-- what stands at a path, if it is one
abbrev pub at_some : Contents → Option (List ℕ) → Option Item
at_some m None = None
at_some m (Some path) = m path

-- what stood at `from` and below it stands at `to` and below it: at each path what came there
abbrev pub moved : Contents → List ℕ → List ℕ → Contents
moved m from to path = at_some m (goes to from path)

-- after a refusal nothing has changed; after a fault of the device the named paths, and those below them, hold anything
abbrev pub Keeps : (List ℕ → Bool) → ShelfRefusal → Contents → Contents → Type 0
Keeps is_named Device old new = (path : List ℕ) → is_named path ≡ false → new path ≡ old path
Keeps is_named Missing old new = Same old new
Keeps is_named Exists old new = Same old new
Keeps is_named BadPath old new = Same old new
Keeps is_named NotEmpty old new = Same old new
Keeps is_named Memory old new = Same old new

-- ---- the calls

-- get: what stands at the path
abbrev pub Gets : List ℕ → Result Item ShelfRefusal → Contents → Contents → Type 0
Gets path (Ok item) old new = (get_fault old path ≡ None) × (old path ≡ Some item) × Same old new
Gets path (Err e) old new = IsRefused (get_fault old path) e × Same old new

-- open: what stands at the path was opened
abbrev pub Opens : List ℕ → Result Opening ShelfRefusal → Contents → Contents → Type 0
Opens path (Ok opening) old new =
    (get_fault old path ≡ None) × ((item : Item) × (old path ≡ Some item) × IsOpening opening item) × Same old new
Opens path (Err e) old new = IsRefused (get_fault old path) e × Same old new

-- the kind of an item, which for a file has the number of its bytes
abbrev pub kind_of : Item → ItemKind
kind_of (File bytes) = kind.File (length bytes)
kind_of Folder = kind.Folder

-- kind: what `get` says, but for the bytes
abbrev pub Kinds : List ℕ → Result ItemKind ShelfRefusal → Contents → Contents → Type 0
Kinds path (Ok found) old new =
    (get_fault old path ≡ None) × ((item : Item) × (old path ≡ Some item) × (found ≡ kind_of item)) × Same old new
Kinds path (Err e) old new = IsRefused (get_fault old path) e × Same old new

-- a name is among them
abbrev pub Has : List (List ℕ) → List ℕ → Type 0
Has [] name = ⊥
Has (other ∷ names) name = (other ≡ name) ⊎ Has names name

-- the names of what stands directly in the folder, in byte order, each once
pub record IsListing (m : Contents) (folder : List ℕ) (names : List (List ℕ)) : Type 0 where
  pub ascending : IsStrictlySortedBy (slice_cmp nat_cmp) names
  pub all : (path name : List ℕ) → name_in folder path ≡ Some name → IsSome (m path) → Has names name
  pub only : (name : List ℕ) → Has names name → (path : List ℕ) × (name_in folder path ≡ Some name) × IsSome (m path)

-- list: the names in the folder
abbrev pub Lists : List ℕ → Result (List (List ℕ)) ShelfRefusal → Contents → Contents → Type 0
Lists path (Ok names) old new = (list_fault old path ≡ None) × IsListing old path names × Same old new
Lists path (Err e) old new = IsRefused (list_fault old path) e × Same old new

-- put: the item stands at the path
abbrev pub Puts : List ℕ → Item → Result Unit ShelfRefusal → Contents → Contents → Type 0
Puts path item (Ok done) old new = (put_fault old path item ≡ None) × Same (with_item old path (Some item)) new
Puts path item (Err e) old new =
    IsRefused (put_fault old path item) e × Keeps (λ other. is_some (following path other)) e old new

-- rename: what stood at `from` and below it stands at `to` and below it
abbrev pub Renames : List ℕ → List ℕ → Result Unit ShelfRefusal → Contents → Contents → Type 0
Renames from to (Ok done) old new = (rename_fault old from to ≡ None) × Same (moved old from to) new
Renames from to (Err e) old new =
    IsRefused (rename_fault old from to) e
    × Keeps (λ other. is_some (following from other) || is_some (following to other)) e old new

-- nothing stands directly in the folder, and something does
abbrev pub IsEmptyFolder : Contents → List ℕ → Type 0
IsEmptyFolder m folder = (path : List ℕ) → IsSome (name_in folder path) → m path ≡ None

abbrev pub IsFullFolder : Contents → List ℕ → Type 0
IsFullFolder m folder =
    (m folder ≡ Some Folder) × (path : List ℕ) × IsSome (name_in folder path) × IsSome (m path)

-- delete: nothing stands at the path; it was a file or an empty folder
abbrev pub Deletes : List ℕ → Result Unit ShelfRefusal → Contents → Contents → Type 0
Deletes path (Ok done) old new =
    (delete_fault old path ≡ None) × (old path ≡ Some Folder → IsEmptyFolder old path)
    × Same (with_item old path None) new
Deletes path (Err NotEmpty) old new = (delete_fault old path ≡ None) × IsFullFolder old path × Same old new
Deletes path (Err e) old new =
    IsRefused (delete_fault old path) e × Keeps (λ other. is_some (following path other)) e old new
