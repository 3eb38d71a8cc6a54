-- What a look at a path shows.
use Rattle.std.proofs.Common.{◌≡◌, ℕ, List, Option, Some, None, Result, Ok, Err, refl, sym, ap, ◌∙◌}
use Rattle.std.specs.Option.{option_map}
use Rattle.js_http.specs.declared.response.ErrorStatus.{ErrorStatus}
use Rattle.js_shelf.specs.declared.item.Item.{Item}
use Rattle.js_shelf.specs.declared.item.Item.TheVariants.{File, Folder}
use Rattle.js_shelf.specs.declared.item.ItemKind.{ItemKind}
use Rattle.js_shelf.specs.declared.item.ItemKind.TheVariants as kind
use Rattle.js_shelf.specs.declared.item.ShelfRefusal.{ShelfRefusal}
use Rattle.js_shelf.specs.declared.item.ShelfRefusal.TheVariants.{Missing, Exists, BadPath, NotEmpty, Device, Memory}
use Rattle.js_shelf.specs.declared.opened.Opening.{Opening}
use Rattle.js_shelf.specs.Shelves.{Contents, Gets, Opens, Kinds, Lists, IsListing, get_fault, list_fault, is_folder, kind_of}
use Rattle.js_contents.specs.Looks.{got, got_present, folder_by, item_at, kind_at, present_at, shown_opening, shown_present, shown_kind, shown_folder, shown_names, is_folder_kind, IsListedBy, OpensAt, FindsKind, Presents, PresentsItem, HasFolder, HasNames}
use Rattle.js_tables.specs.Plans.{◌>>=◌, status_of, of_shelf}

got_item : (f : Option ShelfRefusal) (o : Option Item) (item : Item) → f ≡ None → o ≡ Some item → got f o ≡ Ok item
got_item None (Some x) item e p = let same : x ≡ item = cc in ap Ok same
got_item None None item e p = cc
got_item (Some f) o item e p = cc

pub opening_shown : (path : List ℕ) (answer : Result Opening ShelfRefusal) (m n : Contents) → Opens path answer m n → OpensAt path (shown_opening answer) m n
opening_shown path (Ok opening) m n h = (h.2, (h.1.0, got_item (get_fault m path) (m path) h.1.0 h.0 h.1.1, h.1.2))
opening_shown path (Err Missing) m n h = (h.1, ap (λ f. got f (m path)) h.0)
opening_shown path (Err Exists) m n h = (h.1, ap (λ f. got f (m path)) h.0)
opening_shown path (Err BadPath) m n h = (h.1, ap (λ f. got f (m path)) h.0)
opening_shown path (Err NotEmpty) m n h = (h.1, ap (λ f. got f (m path)) h.0)
opening_shown path (Err Device) m n h = (h.1, tt)
opening_shown path (Err Memory) m n h = (h.1, tt)

pub items_shown : (path : List ℕ) (answer : Result Item ShelfRefusal) (m n : Contents) → Gets path answer m n → PresentsItem path (shown_present answer) m n
items_shown path (Ok item) m n h = (h.2, ap (λ f. got_present f (m path)) h.0 ∙ ap Ok h.1)
items_shown path (Err Missing) m n h = (h.1, ap (λ f. got_present f (m path)) h.0)
items_shown path (Err Exists) m n h = (h.1, ap (λ f. got_present f (m path)) h.0)
items_shown path (Err BadPath) m n h = (h.1, ap (λ f. got_present f (m path)) h.0)
items_shown path (Err NotEmpty) m n h = (h.1, ap (λ f. got_present f (m path)) h.0)
items_shown path (Err Device) m n h = (h.1, tt)
items_shown path (Err Memory) m n h = (h.1, tt)

-- ---- kinds

item_found : (m : Contents) (path : List ℕ) (item : Item) → get_fault m path ≡ None → m path ≡ Some item → item_at m path ≡ Ok item
item_found m path item e p = got_item (get_fault m path) (m path) item e p

kind_found : (m : Contents) (path : List ℕ) (item : Item) (k : ItemKind) → get_fault m path ≡ None → m path ≡ Some item → k ≡ kind_of item → kind_at m path ≡ Ok k
kind_found m path item k e p same =
    ap (λ (r : Result Item ErrorStatus). r >>= λ item. Ok (kind_of item)) (item_found m path item e p) ∙ ap Ok (sym same)

kind_refused : (m : Contents) (path : List ℕ) (f : ShelfRefusal) → get_fault m path ≡ Some f → kind_at m path ≡ (got (Some f) (m path) >>= λ item. Ok (kind_of item))
kind_refused m path f e = ap (λ x. got x (m path) >>= λ item. Ok (kind_of item)) e

pub kind_shown : (path : List ℕ) (answer : Result ItemKind ShelfRefusal) (m n : Contents) → Kinds path answer m n → FindsKind path (shown_kind answer) m n
kind_shown path (Ok k) m n h = (h.2, kind_found m path h.1.0 k h.0 h.1.1 h.1.2)
kind_shown path (Err Missing) m n h = (h.1, kind_refused m path Missing h.0)
kind_shown path (Err Exists) m n h = (h.1, kind_refused m path Exists h.0)
kind_shown path (Err BadPath) m n h = (h.1, kind_refused m path BadPath h.0)
kind_shown path (Err NotEmpty) m n h = (h.1, kind_refused m path NotEmpty h.0)
kind_shown path (Err Device) m n h = (h.1, tt)
kind_shown path (Err Memory) m n h = (h.1, tt)

present_by : (m : Contents) (path : List ℕ) (f : Option ShelfRefusal) → get_fault m path ≡ f → present_at m path ≡ (got_present f (m path) >>= λ item. Ok (option_map kind_of item))
present_by m path f e = ap (λ x. got_present x (m path) >>= λ item. Ok (option_map kind_of item)) e

pub presents_shown : (path : List ℕ) (answer : Result ItemKind ShelfRefusal) (m n : Contents) → Kinds path answer m n → Presents path (shown_present answer) m n
presents_shown path (Ok k) m n h =
    (h.2, present_by m path None h.0 ∙ ap (λ (o : Option Item). Ok (option_map kind_of o)) h.1.1 ∙ ap (λ (x : ItemKind). Ok (Some x)) (sym h.1.2))
presents_shown path (Err Missing) m n h = (h.1, present_by m path (Some Missing) h.0)
presents_shown path (Err Exists) m n h = (h.1, present_by m path (Some Exists) h.0)
presents_shown path (Err BadPath) m n h = (h.1, present_by m path (Some BadPath) h.0)
presents_shown path (Err NotEmpty) m n h = (h.1, present_by m path (Some NotEmpty) h.0)
presents_shown path (Err Device) m n h = (h.1, tt)
presents_shown path (Err Memory) m n h = (h.1, tt)

kind_folder : (item : Item) → is_folder (Some item) ≡ is_folder_kind (kind_of item)
kind_folder (File bytes) = refl
kind_folder Folder = refl

pub folder_shown : (path : List ℕ) (answer : Result ItemKind ShelfRefusal) (m n : Contents) → Kinds path answer m n → HasFolder path (shown_folder answer) m n
folder_shown path (Ok k) m n h =
    (h.2, sym (ap (λ f. folder_by f (m path)) h.0 ∙ (ap is_folder h.1.1 ∙ kind_folder h.1.0 ∙ ap is_folder_kind (sym h.1.2))))
folder_shown path (Err Missing) m n h = (h.1, sym (ap (λ f. folder_by f (m path)) h.0))
folder_shown path (Err Exists) m n h = (h.1, sym (ap (λ f. folder_by f (m path)) h.0))
folder_shown path (Err BadPath) m n h = (h.1, sym (ap (λ f. folder_by f (m path)) h.0))
folder_shown path (Err NotEmpty) m n h = (h.1, sym (ap (λ f. folder_by f (m path)) h.0))
folder_shown path (Err Device) m n h = (h.1, tt)
folder_shown path (Err Memory) m n h = (h.1, tt)

listed_ok : (f : Option ShelfRefusal) (m : Contents) (path : List ℕ) (names : List (List ℕ)) → f ≡ None → IsListing m path names → IsListedBy f m path (Ok names)
listed_ok None m path names e h = h
listed_ok (Some f) m path names e h = cc

listed_err : (f : Option ShelfRefusal) (g : ShelfRefusal) (m : Contents) (path : List ℕ) → f ≡ Some g → IsListedBy f m path (Err (status_of (of_shelf g)))
listed_err None g m path e = cc
listed_err (Some f) g m path e = let same : f ≡ g = cc in sym (ap (λ x. Err (status_of (of_shelf x))) same)

pub names_shown : (path : List ℕ) (answer : Result (List (List ℕ)) ShelfRefusal) (m n : Contents) → Lists path answer m n → HasNames path (shown_names answer) m n
names_shown path (Ok names) m n h = (h.2, listed_ok (list_fault m path) m path names h.0 h.1)
names_shown path (Err Missing) m n h = (h.1, listed_err (list_fault m path) Missing m path h.0)
names_shown path (Err Exists) m n h = (h.1, listed_err (list_fault m path) Exists m path h.0)
names_shown path (Err BadPath) m n h = (h.1, listed_err (list_fault m path) BadPath m path h.0)
names_shown path (Err NotEmpty) m n h = (h.1, listed_err (list_fault m path) NotEmpty m path h.0)
names_shown path (Err Device) m n h = (h.1, tt)
names_shown path (Err Memory) m n h = (h.1, tt)
