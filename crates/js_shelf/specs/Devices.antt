-- To be believed.
-- What a device does to the files and folders that it keeps.
use Rattle.std.specs.Prelude.{◌≡◌, ℕ, Bool, true, false, ◌||◌, List, length, Option, Some, None, IsSome, is_some, Result, Ok, Err}
use Rattle.js_shelf.specs.declared.item.Item.{Item}
use Rattle.js_shelf.specs.declared.item.Item.TheVariants.{File, Folder}
use Rattle.js_shelf.specs.declared.item.ShelfRefusal.{ShelfRefusal}
use Rattle.js_shelf.specs.declared.item.ShelfRefusal.TheVariants as refusal
use Rattle.js_shelf.specs.declared.device.Kind.{Kind}
use Rattle.js_shelf.specs.declared.device.Kind.TheVariants as kind
use Rattle.js_shelf.specs.declared.device.DeviceFault.{DeviceFault}
use Rattle.js_shelf.specs.declared.device.DeviceFault.TheVariants.{Failed, Memory}
use Rattle.js_shelf.specs.declared.opened.Opened.{Opened}
use Rattle.js_shelf.specs.Openings.{Promises}
use Rattle.js_shelf.specs.Paths.{following, name_in}
use Rattle.js_shelf.specs.Shelves.{Contents, Same, IsListing, IsEmptyFolder, with_item, moved}

-- the refusal that a fault comes to
abbrev pub refusal_of : DeviceFault → ShelfRefusal
refusal_of Failed = refusal.Device
refusal_of Memory = refusal.Memory

-- this kind of thing stands there; on a device that tells its contents nothing else is there
abbrev pub IsKind : Kind → Option Item → Type 0
IsKind kind.Nothing item = item ≡ None
IsKind (kind.File count) item = (bytes : List ℕ) × (item ≡ Some (File bytes)) × (count ≡ length bytes)
IsKind kind.Folder item = item ≡ Some Folder
IsKind kind.Other item = ⊥

-- what was found is so, and nothing has changed; after a fault nothing has changed
abbrev pub Finds : {A : Type 0} → (Contents → A → Type 0) → Result A DeviceFault → Contents → Contents → Type 0
Finds is_so (Ok found) old new = is_so old found × Same old new
Finds is_so (Err fault) old new = Same old new

-- what a fault leaves: without memory nothing has changed; else what was named, and what is below it, may be anything
abbrev pub Leaves : (List ℕ → Bool) → DeviceFault → Contents → Contents → Type 0
Leaves is_named Failed old new = (path : List ℕ) → is_named path ≡ false → new path ≡ old path
Leaves is_named Memory old new = Same old new

-- the path is that one or stands below it
abbrev pub is_within : List ℕ → List ℕ → Bool
is_within top path = is_some (following top path)

-- it has become what was asked for
abbrev pub Becomes : {A : Type 0} → (List ℕ → Bool) → (Contents → A → Contents → Type 0) → Result A DeviceFault → Contents → Contents → Type 0
Becomes is_named has_become (Ok done) old new = has_become old done new
Becomes is_named has_become (Err fault) old new = Leaves is_named fault old new

-- ---- the calls

abbrev pub Looks : List ℕ → Result Kind DeviceFault → Contents → Contents → Type 0
Looks path = Finds (λ m kind. IsKind kind (m path))

-- the file that stands there was opened
abbrev pub Opens : List ℕ → Result Opened DeviceFault → Contents → Contents → Type 0
Opens path = Finds (λ m opened. (bytes : List ℕ) × (m path ≡ Some (File bytes)) × Promises opened bytes)

-- a file was opened and read
abbrev pub Reads : List ℕ → Result (List ℕ) DeviceFault → Contents → Contents → Type 0
Reads path = Finds (λ m bytes. m path ≡ Some (File bytes))

abbrev pub TellsNames : List ℕ → Result (List (List ℕ)) DeviceFault → Contents → Contents → Type 0
TellsNames path = Finds (λ m names. IsListing m path names)

abbrev pub Sets : List ℕ → Option Item → Result Unit DeviceFault → Contents → Contents → Type 0
Sets path item = Becomes (is_within path) (λ old done new. Same (with_item old path item) new)

abbrev pub Moves : List ℕ → List ℕ → Result Unit DeviceFault → Contents → Contents → Type 0
Moves from to = Becomes (λ other. is_within from other || is_within to other) (λ old done new. Same (moved old from to) new)

-- a folder has gone if it was empty, and else something is in it
abbrev pub HasGone : List ℕ → Contents → Bool → Contents → Type 0
HasGone path old true new = IsEmptyFolder old path × Same (with_item old path None) new
HasGone path old false new = ((below : List ℕ) × IsSome (name_in path below) × IsSome (old below)) × Same old new

abbrev pub RemovesFolder : List ℕ → Result Bool DeviceFault → Contents → Contents → Type 0
RemovesFolder path = Becomes (is_within path) (HasGone path)
