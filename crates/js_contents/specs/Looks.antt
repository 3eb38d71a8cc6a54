-- To be believed.
-- What stands at a path, as a look at it shows.
use Rattle.std.specs.Prelude.{◌≡◌, ℕ, Bool, true, false, List, Option, Some, None, Result, Ok, Err}
use Rattle.std.specs.Option.{option_map}
use Rattle.js_http.specs.declared.response.ErrorStatus.{ErrorStatus}
use Rattle.js_http.specs.declared.response.ErrorStatus.TheVariants.{InternalServerError}
use Rattle.js_shelf.specs.declared.item.Item.{Item}
use Rattle.js_shelf.specs.declared.item.Item.TheVariants.{File, Folder}
use Rattle.js_shelf.specs.declared.item.ItemKind.{ItemKind}
use Rattle.js_shelf.specs.declared.item.ItemKind.TheVariants as kind
use Rattle.js_shelf.specs.declared.item.ShelfRefusal.{ShelfRefusal}
use Rattle.js_shelf.specs.declared.item.ShelfRefusal.TheVariants.{Missing, Exists, BadPath, NotEmpty, Device, Memory}
use Rattle.js_shelf.specs.declared.opened.Opening.{Opening}
use Rattle.js_shelf.specs.Openings.{IsOpening}
use Rattle.js_shelf.specs.Shelves.{Contents, Same, IsListing, get_fault, list_fault, is_folder, kind_of}
use Rattle.js_tables.specs.declared.refusal.Refusal.{Refusal}
use Rattle.js_tables.specs.Plans.{◌>>=◌, Fails, Gives, Found, status_of, of_shelf}

-- ---- the definitions: by the first fault of a look at a path, and by what stands there

-- the item, or why there is none
abbrev pub got : Option ShelfRefusal → Option Item → Result Item ErrorStatus
got None None = Err InternalServerError
got None (Some item) = Ok item
got (Some Missing) item = Err (status_of (of_shelf Missing))
got (Some Exists) item = Err (status_of (of_shelf Exists))
got (Some BadPath) item = Err (status_of (of_shelf BadPath))
got (Some NotEmpty) item = Err (status_of (of_shelf NotEmpty))
got (Some Device) item = Err (status_of (of_shelf Device))
got (Some Memory) item = Err (status_of (of_shelf Memory))

abbrev pub item_at : Contents → List ℕ → Result Item ErrorStatus
item_at m path = got (get_fault m path) (m path)

-- the item, if there is one
abbrev pub got_present : Option ShelfRefusal → Option Item → Result (Option Item) ErrorStatus
got_present None item = Ok item
got_present (Some Missing) item = Ok None
got_present (Some Exists) item = Err (status_of (of_shelf Exists))
got_present (Some BadPath) item = Err (status_of (of_shelf BadPath))
got_present (Some NotEmpty) item = Err (status_of (of_shelf NotEmpty))
got_present (Some Device) item = Err (status_of (of_shelf Device))
got_present (Some Memory) item = Err (status_of (of_shelf Memory))

abbrev pub present_item_at : Contents → List ℕ → Result (Option Item) ErrorStatus
present_item_at m path = got_present (get_fault m path) (m path)

-- the kind of the item
abbrev pub kind_at : Contents → List ℕ → Result ItemKind ErrorStatus
kind_at m path = item_at m path >>= λ item. Ok (kind_of item)

-- the kind of the item, if there is one
abbrev pub present_at : Contents → List ℕ → Result (Option ItemKind) ErrorStatus
present_at m path = present_item_at m path >>= λ item. Ok (option_map kind_of item)

-- whether a folder stands there; at what is no path none does
abbrev pub folder_by : Option ShelfRefusal → Option Item → Bool
folder_by None item = is_folder item
folder_by (Some fault) item = false

abbrev pub has_folder : Contents → List ℕ → Bool
has_folder m path = folder_by (get_fault m path) (m path)

-- the names of what stands in a folder, or why there are none
abbrev pub IsListedBy : Option ShelfRefusal → Contents → List ℕ → Result (List (List ℕ)) ErrorStatus → Type 0
IsListedBy None m path (Ok names) = IsListing m path names
IsListedBy None m path (Err e) = ⊥
IsListedBy (Some f) m path form = form ≡ Err (status_of (of_shelf f))

abbrev pub IsListed : Contents → List ℕ → Result (List (List ℕ)) ErrorStatus → Type 0
IsListed m path form = IsListedBy (list_fault m path) m path form

-- ---- the same by what the look answered

abbrev pub shown_opening : Result Opening ShelfRefusal → Result Opening Refusal
shown_opening (Ok opening) = Ok opening
shown_opening (Err e) = Err (of_shelf e)

abbrev pub shown_present : {A : Type 0} → Result A ShelfRefusal → Result (Option A) Refusal
shown_present (Ok found) = Ok (Some found)
shown_present (Err Missing) = Ok None
shown_present (Err Exists) = Err (of_shelf Exists)
shown_present (Err BadPath) = Err (of_shelf BadPath)
shown_present (Err NotEmpty) = Err (of_shelf NotEmpty)
shown_present (Err Device) = Err (of_shelf Device)
shown_present (Err Memory) = Err (of_shelf Memory)

abbrev pub shown_kind : Result ItemKind ShelfRefusal → Result ItemKind Refusal
shown_kind (Ok kind) = Ok kind
shown_kind (Err e) = Err (of_shelf e)

abbrev pub is_folder_kind : ItemKind → Bool
is_folder_kind (kind.File count) = false
is_folder_kind kind.Folder = true

abbrev pub shown_folder : Result ItemKind ShelfRefusal → Option Bool
shown_folder (Ok kind) = Some (is_folder_kind kind)
shown_folder (Err Missing) = Some false
shown_folder (Err Exists) = Some false
shown_folder (Err BadPath) = Some false
shown_folder (Err NotEmpty) = Some false
shown_folder (Err Device) = None
shown_folder (Err Memory) = None

abbrev pub shown_names : Result (List (List ℕ)) ShelfRefusal → Result (List (List ℕ)) Refusal
shown_names (Ok names) = Ok names
shown_names (Err e) = Err (of_shelf e)

-- ---- what the functions that look find

-- the item was opened, or there is none
abbrev pub IsOpenedAt : Contents → List ℕ → Result Opening Refusal → Type 0
IsOpenedAt m path (Ok opening) = (item : Item) × (item_at m path ≡ Ok item) × IsOpening opening item
IsOpenedAt m path (Err e) = Fails e (item_at m path)

abbrev pub OpensAt : List ℕ → Result Opening Refusal → Contents → Contents → Type 0
OpensAt path result m n = Same m n × IsOpenedAt m path result

abbrev pub FindsKind : List ℕ → Result ItemKind Refusal → Contents → Contents → Type 0
FindsKind path result m n = Same m n × Gives result (kind_at m path)

abbrev pub Presents : List ℕ → Result (Option ItemKind) Refusal → Contents → Contents → Type 0
Presents path result m n = Same m n × Gives result (present_at m path)

abbrev pub PresentsItem : List ℕ → Result (Option Item) Refusal → Contents → Contents → Type 0
PresentsItem path result m n = Same m n × Gives result (present_item_at m path)

abbrev pub IfThere : Option Bool → Bool → Type 0
IfThere None b = Unit {0}
IfThere (Some a) b = a ≡ b

abbrev pub HasFolder : List ℕ → Option Bool → Contents → Contents → Type 0
HasFolder path result m n = Same m n × IfThere result (has_folder m path)

abbrev pub HasNames : List ℕ → Result (List (List ℕ)) Refusal → Contents → Contents → Type 0
HasNames path result m n = Same m n × Found (IsListed m path) result
