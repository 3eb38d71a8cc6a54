-- To be believed.
-- POST of contents: a new thing under the first free name.
use Rattle.std.specs.Prelude.{◌≡◌, ℕ, zero, suc, ◌+◌, nat_lt, ◌||◌, Bool, List, [], ◌++◌, length, decimal, Option, Some, None, Result, Ok, Err, if◌then◌else◌, codes}
use Rattle.std.specs.List.{list_any}
use Rattle.std.specs.Str.{bytes_eq}
use Rattle.serde_json.specs.Data.{Data}
use Rattle.json_form.specs.Forms.{given}
use Rattle.nb_doc.specs.Building.{empty_notebook}
use Rattle.js_http.specs.declared.response.ErrorStatus.{ErrorStatus}
use Rattle.js_http.specs.declared.response.ErrorStatus.TheVariants.{BadRequest}
use Rattle.js_shelf.specs.Places.{is_step}
use Rattle.js_shelf.specs.Shelves.{Contents, Same}
use Rattle.js_tables.specs.declared.forms.Kind.{Kind}
use Rattle.js_tables.specs.declared.forms.Kind.TheVariants as kind
use Rattle.js_tables.specs.declared.given.Given.{Given}
use Rattle.js_tables.specs.declared.plan.Plan.{Plan}
use Rattle.js_tables.specs.declared.refusal.Refusal.{Refusal}
use Rattle.js_tables.specs.declared.tables.Kernel.{Kernel}
use Rattle.js_tables.specs.Bodies.{body_of, optional_text_in}
use Rattle.js_tables.specs.Plans.{◌>>=◌, Gives, Found}
use Rattle.js_tables.specs.Sessions.{is_at}
use Rattle.js_tables.specs.Tables.{Rows}
use Rattle.js_contents.specs.declared.put.Putting.{Putting}
use Rattle.js_contents.specs.declared.put.Putting.TheVariants as put
use Rattle.js_names.specs.declared.untitled.Making.{Making}
use Rattle.js_contents.specs.Looks.{IsListed}
use Rattle.js_contents.specs.Places.{child, if_path, place_of}
use Rattle.js_contents.specs.Puts.{fitted}
use Rattle.js_contents.specs.Stores.{storing}

-- ---- names: `Untitled.ipynb`, `Untitled1.ipynb`; `untitled.txt`, `untitled1.txt`; `Untitled Folder`, `Untitled Folder 1`

abbrev pub stem : Kind → List ℕ
stem kind.Notebook = codes "Untitled"
stem kind.File = codes "untitled"
stem kind.Directory = codes "Untitled Folder"

abbrev pub joint : Kind → List ℕ
joint kind.Notebook = []
joint kind.File = []
joint kind.Directory = codes " "

-- the name of that number, which the first does not show
abbrev pub name_at : Kind → List ℕ → ℕ → List ℕ
name_at kind ending n =
    (if nat_lt 0 n then (stem kind ++ joint kind) ++ decimal n else stem kind) ++ ending

-- ---- names that are taken: those of what stands in the folder, and of sessions' paths there, whose files may not be there yet

abbrev pub is_among : List (List ℕ) → List ℕ → Bool
is_among names name = list_any (λ other. bytes_eq other name) names

-- a session has the path of that name in the folder
abbrev pub has_session : List ℕ → List Kernel → List ℕ → Bool
has_session folder ks name = list_any (λ k. is_at (child folder name).path k.session) ks

abbrev pub is_taken : List ℕ → List (List ℕ) → List Kernel → List ℕ → Bool
is_taken folder names ks name = is_among names name || has_session folder ks name

-- from that number on, the first name that is free; where so many in a row are taken, the next
abbrev pub free_from : (ℕ → List ℕ) → (List ℕ → Bool) → ℕ → ℕ → List ℕ
free_from name_of taken n zero = name_of n
free_from name_of taken n (suc left) =
    if taken (name_of n) then free_from name_of taken (n + 1) left else name_of n

-- at most as many are taken as there are names and kernels, each of which has one session or none
abbrev pub first_free : Kind → List ℕ → List ℕ → List (List ℕ) → List Kernel → List ℕ
first_free kind ending folder names ks =
    free_from (name_at kind ending) (is_taken folder names ks) 0 (length names + length ks)

-- ---- the body

abbrev pub kind_named : List ℕ → Result Kind ErrorStatus
kind_named name =
    if bytes_eq name (codes "file") then Ok kind.File
    else (if bytes_eq name (codes "notebook") then Ok kind.Notebook
    else (if bytes_eq name (codes "directory") then Ok kind.Directory else Err BadRequest))

abbrev pub if_none : Option Data → Result (Unit {0}) ErrorStatus
if_none None = Ok tt
if_none (Some d) = Err BadRequest

-- nothing is copied
abbrev pub no_copy : Data → Result (Unit {0}) ErrorStatus
no_copy d = if_none (given (codes "copy_from") d)

abbrev pub ending_for : Kind → List ℕ → List ℕ
ending_for kind.File extension = extension
ending_for kind.Notebook extension = codes ".ipynb"
ending_for kind.Directory extension = []

abbrev pub name_checked : List ℕ → Result (Unit {0}) ErrorStatus
name_checked name = if is_step name then Ok tt else Err BadRequest

abbrev pub making_of : Kind → List ℕ → List ℕ → Result Making ErrorStatus
making_of kind ending folder =
    name_checked (name_at kind ending 0) >>= λ _. Ok (record { kind = kind; ending = ending; folder = folder })

abbrev pub making_in : Data → List ℕ → Result Making ErrorStatus
making_in d folder =
    no_copy d >>= λ _.
    (optional_text_in (codes "type") (codes "file") d >>= λ name.
    (kind_named name >>= λ kind.
    (optional_text_in (codes "ext") [] d >>= λ extension. making_of kind (ending_for kind extension) folder)))

abbrev pub making : List ℕ → List (List ℕ) → Result Making ErrorStatus
making body segments = body_of body >>= λ d. (place_of segments >>= λ place. making_in d place.path)

-- ---- the plan

abbrev pub empty_putting : Kind → Putting
empty_putting kind.File = put.File []
empty_putting kind.Notebook = put.Notebook empty_notebook
empty_putting kind.Directory = put.Folder

abbrev pub made : Rows → Given → Making → List (List ℕ) → Result Plan ErrorStatus
made r given v names =
    if_path (child v.folder (first_free v.kind v.ending v.folder names r.kernels)) >>= λ place.
    (fitted place.name (empty_putting v.kind) >>= λ p. Ok (storing given p place))

abbrev pub IsMadeOf : Rows → Given → Making → Result (List (List ℕ)) Refusal → Result Plan Refusal → Type 0
IsMadeOf r given v (Err e) found = found ≡ Err e
IsMadeOf r given v (Ok names) found = Gives found (made r given v names)

abbrev pub IsMade : Contents → Rows → Given → Making → Result Plan Refusal → Type 0
IsMade m r given v found =
    (names : Result (List (List ℕ)) Refusal) × Found (IsListed m v.folder) names × IsMadeOf r given v names found

abbrev pub IsPlanOf : Contents → Rows → Given → Result Making Refusal → Result Plan Refusal → Type 0
IsPlanOf m r given (Err e) found = found ≡ Err e
IsPlanOf m r given (Ok v) found = IsMade m r given v found

-- POST /api/contents/{path}
abbrev pub IsUntitledPlan : Contents → Rows → Given → List ℕ → List (List ℕ) → Result Plan Refusal → Type 0
IsUntitledPlan m r given body segments found =
    (v : Result Making Refusal) × Gives v (making body segments) × IsPlanOf m r given v found

abbrev pub Makes : Rows → Given → Making → Result Plan Refusal → Contents → Contents → Type 0
Makes r given v result m n = Same m n × IsMade m r given v result

abbrev pub MakesUntitled : Rows → Given → List ℕ → List (List ℕ) → Result Plan Refusal → Contents → Contents → Type 0
MakesUntitled r given body segments result m n = Same m n × IsUntitledPlan m r given body segments result
