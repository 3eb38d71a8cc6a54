-- To be believed.
-- GET of contents.
use Rattle.std.specs.Prelude.{◌≡◌, ◌==◌, ◌⊎◌, ℕ, nat_le, Bool, false, List, Option, Some, None, Result, Ok, Err, if◌then◌else◌, codes}
use Rattle.std.specs.List.{after_first}
use Rattle.std.specs.Str.{bytes_eq}
use Rattle.serde_json.specs.Data.{Data}
use Rattle.nb_doc.specs.Writing.{array_of, notebook_form}
use Rattle.js_http.specs.Targets.{query_value}
use Rattle.js_http.specs.declared.request.Request.{Request}
use Rattle.js_http.specs.declared.response.ErrorStatus.{ErrorStatus}
use Rattle.js_http.specs.declared.response.ErrorStatus.TheVariants.{BadRequest, NotFound}
use Rattle.js_http.specs.declared.response.Response.TheVariants.{Success}
use Rattle.js_shelf.specs.declared.item.Item.{Item}
use Rattle.js_shelf.specs.declared.item.Item.TheVariants as item
use Rattle.js_shelf.specs.declared.item.ItemKind.{ItemKind}
use Rattle.js_shelf.specs.declared.item.ItemKind.TheVariants as kinds
use Rattle.js_shelf.specs.declared.opened.Opening.{Opening}
use Rattle.js_shelf.specs.Openings.{MayGive}
use Rattle.js_shelf.specs.Shelves.{Contents, Same}
use Rattle.js_tables.specs.declared.forms.About.{About}
use Rattle.js_tables.specs.declared.forms.Kind.{Kind}
use Rattle.js_tables.specs.declared.forms.Kind.TheVariants as kind
use Rattle.js_tables.specs.declared.plan.Plan.{Plan}
use Rattle.js_tables.specs.declared.refusal.Refusal.{Refusal}
use Rattle.js_tables.specs.declared.refusal.Refusal.TheVariants.{Failed}
use Rattle.js_tables.specs.Forms.{body_text, kind_name}
use Rattle.js_tables.specs.Plans.{◌>>=◌, Gives, Found, reply}
use Rattle.js_tables.specs.Tables.{Rows}
use Rattle.js_contents.specs.declared.place.Place.{Place}
use Rattle.js_contents.specs.declared.read.Aim.{Aim}
use Rattle.js_contents.specs.declared.read.Aim.TheVariants as aim
use Rattle.js_contents.specs.declared.read.Seen.{Seen}
use Rattle.js_contents.specs.declared.read.Seen.TheVariants.{Shown, File, Folder}
use Rattle.js_contents.specs.Forms.{bare_form, file_form, json_form}
use Rattle.js_contents.specs.Kinds.{about}
use Rattle.js_contents.specs.Lists.{objects}
use Rattle.js_contents.specs.Looks.{item_at, kind_at, IsListed, is_folder_kind}
use Rattle.js_contents.specs.Notebooks.{notebook_in}
use Rattle.js_contents.specs.Places.{place_of}

-- ---- what the query asks for

abbrev pub query_of : Request → List ℕ
query_of request = after_first (λ byte. byte == 63) request.target

abbrev pub fits : Option (List ℕ) → Kind → Result (Unit {0}) ErrorStatus
fits None kind = Ok tt
fits (Some asked) kind = if bytes_eq asked (kind_name kind) then Ok tt else Err BadRequest

-- `type` is that of the path, or is missing
abbrev pub type_checked : Request → Kind → Result (Unit {0}) ErrorStatus
type_checked request kind = fits (query_value (query_of request) (codes "type")) kind

abbrev pub is_zero : Option (List ℕ) → Bool
is_zero None = false
is_zero (Some asked) = bytes_eq asked (codes "0")

-- `content=0`
abbrev pub asks_bare : Request → Bool
asks_bare request = is_zero (query_value (query_of request) (codes "content"))

-- ---- the answer

abbrev pub shown : Data → Plan
shown d = reply (Success (body_text d))

-- a notebook: its JSON value
abbrev pub notebook_plan : About → List ℕ → Result Plan ErrorStatus
notebook_plan about bytes = notebook_in bytes >>= λ n. Ok (shown (json_form about (notebook_form n)))

abbrev pub file_plan : Kind → About → List ℕ → Result Plan ErrorStatus
file_plan kind.Notebook about bytes = notebook_plan about bytes
file_plan kind.File about bytes = Ok (shown (file_form about bytes))
file_plan kind.Directory about bytes = Ok (shown (file_form about bytes))

-- what a look at a path comes to, by the kind of what stands there: a plan, a folder that is to be listed, or a file
-- that is to be read, which has at most 67,108,864 bytes
abbrev pub full_seen : About → ItemKind → Result Seen ErrorStatus
full_seen about (kinds.File count) = if nat_le count 67108864 then Ok (File about) else Err BadRequest
full_seen about kinds.Folder = Ok (Folder about)

abbrev pub seen_kind : Request → About → ItemKind → Result Seen ErrorStatus
seen_kind request about kind =
    type_checked request about.kind >>= λ _.
    (if asks_bare request then Ok (Shown (shown (bare_form about))) else full_seen about kind)

abbrev pub seen_at : Contents → Rows → Request → Place → Result Seen ErrorStatus
seen_at m r request place =
    kind_at m place.path >>= λ kind. seen_kind request (about r place (is_folder_kind kind)) kind

abbrev pub seen_by : Contents → Rows → Request → List (List ℕ) → Result Seen ErrorStatus
seen_by m r request segments = place_of segments >>= seen_at m r request

-- a folder: its objects, in the byte order of their names
abbrev pub rows_plan : About → List Data → Plan
rows_plan about ds = shown (json_form about (array_of ds))

abbrev pub named_plan : Contents → Rows → About → List (List ℕ) → Plan
named_plan m r about names = rows_plan about (objects m r about.path names)

abbrev pub IsNamedPlan : Contents → Rows → About → Result (List (List ℕ)) Refusal → Result Plan Refusal → Type 0
IsNamedPlan m r about (Err e) found = found ≡ Err e
IsNamedPlan m r about (Ok names) found = Gives found (Ok (named_plan m r about names))

abbrev pub IsFolderPlan : Contents → Rows → About → Result Plan Refusal → Type 0
IsFolderPlan m r about found =
    (names : Result (List (List ℕ)) Refusal) × Found (IsListed m about.path) names × IsNamedPlan m r about names found

-- a file: its content
abbrev pub item_plan : About → Item → Result Plan ErrorStatus
item_plan about (item.File bytes) = file_plan about.kind about bytes
item_plan about item.Folder = Err NotFound

-- what was opened: what is shown of an item that a reading may give, or that the device or memory failed
abbrev pub IsOpenedPlan : About → Opening → Result Plan Refusal → Type 0
IsOpenedPlan about opening found = (found ≡ Err Failed) ⊎ ((item : Item) × MayGive opening item × Gives found (item_plan about item))

abbrev pub read_file : Contents → About → Result Plan ErrorStatus
read_file m about = item_at m about.path >>= item_plan about

abbrev pub IsSeenPlan : Contents → Rows → Seen → Result Plan Refusal → Type 0
IsSeenPlan m r (Shown plan) found = found ≡ Ok plan
IsSeenPlan m r (File about) found = Gives found (read_file m about)
IsSeenPlan m r (Folder about) found = IsFolderPlan m r about found

abbrev pub IsPlanAfter : Contents → Rows → Result Seen Refusal → Result Plan Refusal → Type 0
IsPlanAfter m r (Err e) found = found ≡ Err e
IsPlanAfter m r (Ok seen) found = IsSeenPlan m r seen found

-- GET /api/contents/{path}
abbrev pub IsReadPlan : Contents → Rows → Request → List (List ℕ) → Result Plan Refusal → Type 0
IsReadPlan m r request segments found =
    (seen : Result Seen Refusal) × Gives seen (seen_by m r request segments) × IsPlanAfter m r seen found

-- ---- what the functions find

abbrev pub SeesAt : Rows → Request → Place → Result Seen Refusal → Contents → Contents → Type 0
SeesAt r request place result m n = Same m n × Gives result (seen_at m r request place)

abbrev pub Sees : Rows → Request → List (List ℕ) → Result Seen Refusal → Contents → Contents → Type 0
Sees r request segments result m n = Same m n × Gives result (seen_by m r request segments)

abbrev pub ShowsNamed : Rows → About → List (List ℕ) → Result Plan Refusal → Contents → Contents → Type 0
ShowsNamed r about names result m n = Same m n × Gives result (Ok (named_plan m r about names))

abbrev pub ShowsFolder : Rows → About → Result Plan Refusal → Contents → Contents → Type 0
ShowsFolder r about result m n = Same m n × IsFolderPlan m r about result

-- what was found, as what is to be done
abbrev pub planned : Result Plan Refusal → Result Aim Refusal
planned (Ok plan) = Ok (aim.Plan plan)
planned (Err refusal) = Err refusal

-- What is to be done meets a condition on what is found: the plan does, or the refusal; and of a file that was opened and is still to
-- be read, whatever comes of it.
abbrev pub Comes : (Result Plan Refusal → Type 0) → Result Aim Refusal → Type 0
Comes P (Ok (aim.Plan plan)) = P (Ok plan)
Comes P (Ok (aim.File about opening)) = (found : Result Plan Refusal) → IsOpenedPlan about opening found → P found
Comes P (Err refusal) = P (Err refusal)

abbrev pub AimsAtFile : About → Result Aim Refusal → Contents → Contents → Type 0
AimsAtFile about result m n = Same m n × Comes (λ found. Gives found (read_file m about)) result

abbrev pub AimsAtFolder : Rows → About → Result Aim Refusal → Contents → Contents → Type 0
AimsAtFolder r about result m n = Same m n × Comes (IsFolderPlan m r about) result

abbrev pub AimsAtSeen : Rows → Seen → Result Aim Refusal → Contents → Contents → Type 0
AimsAtSeen r seen result m n = Same m n × Comes (IsSeenPlan m r seen) result

abbrev pub AimsAt : Rows → Request → List (List ℕ) → Result Aim Refusal → Contents → Contents → Type 0
AimsAt r request segments result m n = Same m n × Comes (IsReadPlan m r request segments) result
