-- To be believed.
-- What was opened, and what a reading of it gives.
use Rattle.std.specs.Prelude.{◌≡◌, ⊤, ℕ, List}
use Rattle.js_shelf.specs.declared.item.Item.{Item}
use Rattle.js_shelf.specs.declared.item.Item.TheVariants as item
use Rattle.js_shelf.specs.declared.opened.Opened.{Opened}
use Rattle.js_shelf.specs.declared.opened.Opened.TheVariants.{Kept, System, Fault}
use Rattle.js_shelf.specs.declared.opened.Opening.{Opening}
use Rattle.js_shelf.specs.declared.opened.Opening.TheVariants.{File, Folder}

-- the bytes that a reading of a file may give: those that were kept; of a file of the system nothing is known, and what can't be
-- read gives none
abbrev pub MayRead : Opened → List ℕ → Type 0
MayRead (Kept bytes) read = read ≡ bytes
MayRead (System file) read = ⊤
MayRead (Fault fault) read = ⊥

-- the item that a reading may give
abbrev pub MayGive : Opening → Item → Type 0
MayGive (File opened) (item.File bytes) = MayRead opened bytes
MayGive (File opened) item.Folder = ⊥
MayGive Folder (item.File bytes) = ⊥
MayGive Folder item.Folder = ⊤

-- a reading gives these bytes, or it fails
abbrev pub Promises : Opened → List ℕ → Type 0
Promises opened bytes = (read : List ℕ) → MayRead opened read → read ≡ bytes

-- that item was opened
abbrev pub IsOpening : Opening → Item → Type 0
IsOpening (File opened) (item.File bytes) = Promises opened bytes
IsOpening (File opened) item.Folder = ⊥
IsOpening Folder (item.File bytes) = ⊥
IsOpening Folder item.Folder = ⊤
