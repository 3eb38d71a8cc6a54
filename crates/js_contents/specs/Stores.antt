-- To be believed.
-- PUT and DELETE of contents.
use Rattle.std.specs.Prelude.{ℕ, Bool, true, false, not, ◌&&◌, List, Option, Some, None, Result, Ok, Err, is_some, if◌then◌else◌}
use Rattle.std.specs.Str.{bytes_eq}
use Rattle.js_http.specs.declared.response.ErrorStatus.{ErrorStatus}
use Rattle.js_http.specs.declared.response.ErrorStatus.TheVariants.{Conflict}
use Rattle.js_http.specs.declared.response.Response.{Response}
use Rattle.js_http.specs.declared.response.Response.TheVariants.{NoContent, Success, Created}
use Rattle.js_shelf.specs.declared.item.Item.TheVariants as item
use Rattle.js_shelf.specs.Shelves.{Contents, Same}
use Rattle.js_tables.specs.declared.given.Given.{Given}
use Rattle.js_tables.specs.declared.plan.Change.{Change}
use Rattle.js_tables.specs.declared.plan.Change.TheVariants as change
use Rattle.js_tables.specs.declared.plan.Answer.TheVariants.{Reply}
use Rattle.js_tables.specs.declared.plan.Plan.{Plan}
use Rattle.js_tables.specs.declared.plan.Update.TheVariants as update
use Rattle.js_tables.specs.declared.refusal.Refusal.{Refusal}
use Rattle.js_tables.specs.Forms.{body_text}
use Rattle.js_tables.specs.Plans.{◌>>=◌, Gives}
use Rattle.js_tables.specs.Tables.{Rows, date_at}
use Rattle.js_contents.specs.declared.place.Place.{Place}
use Rattle.js_contents.specs.declared.put.Putting.{Putting}
use Rattle.js_contents.specs.declared.put.PutBody.{PutBody}
use Rattle.js_contents.specs.declared.put.Ready.{Ready}
use Rattle.js_contents.specs.declared.put.Putting.TheVariants as put
use Rattle.js_contents.specs.Forms.{bare_form}
use Rattle.js_contents.specs.Kinds.{about_at}
use Rattle.js_contents.specs.Looks.{present_at}
use Rattle.js_contents.specs.Notebooks.{notebook_file}
use Rattle.js_contents.specs.Places.{place_of}
use Rattle.js_contents.specs.Puts.{ready_put}

-- ---- DELETE /api/contents/{path}

abbrev pub removal : Place → Plan
removal place = record { change = change.Delete place.path; update = update.DropFile place.path; answer = Reply NoContent }

abbrev pub remove_plan : List (List ℕ) → Result Plan ErrorStatus
remove_plan segments = place_of segments >>= λ place. Ok (removal place)

-- ---- PUT /api/contents/{path}

-- a notebook is put as one, since a recorder may keep the file
abbrev pub put_change : List ℕ → Putting → Change
put_change path put.Folder = change.Put path item.Folder
put_change path (put.File bytes) = change.Put path (item.File bytes)
put_change path (put.Notebook n) = change.PutBook path n

-- something new is a file or a folder
abbrev pub new_change : List ℕ → Putting → Change
new_change path put.Folder = change.Put path item.Folder
new_change path (put.File bytes) = change.Put path (item.File bytes)
new_change path (put.Notebook n) = change.Put path (notebook_file n)

abbrev pub is_folder_putting : Putting → Bool
is_folder_putting put.Folder = true
is_folder_putting (put.File bytes) = false
is_folder_putting (put.Notebook n) = false

-- 200 where something was there, else 201
abbrev pub stored : Bool → List ℕ → Response
stored is_there content = if is_there then Success content else Created None content

abbrev pub storing_by : Given → Change → Place → Bool → Bool → Plan
storing_by given done place is_folder is_there = record {
  change = done;
  update = update.SetDate place.path given.date;
  answer = Reply (stored is_there (body_text (bare_form (about_at place is_folder given.date))));
}

-- something new at a place where nothing was
abbrev pub storing : Given → Putting → Place → Plan
storing given p place = storing_by given (new_change place.path p) place (is_folder_putting p) false

abbrev pub replacing : Given → Putting → Place → Bool → Plan
replacing given p place is_there = storing_by given (put_change place.path p) place (is_folder_putting p) is_there

abbrev pub is_same_date : Option (List ℕ) → List ℕ → Bool
is_same_date None date = true
is_same_date (Some asked) date = bytes_eq asked date

-- 409 where something is there that was last put at another date than the request says
abbrev pub date_checked : Rows → Place → Option (List ℕ) → Bool → Result (Unit {0}) ErrorStatus
date_checked r place asked is_there =
    if is_there && not (is_same_date asked (date_at place.path r)) then Err Conflict else Ok tt

abbrev pub put_over : Rows → Given → PutBody → Place → Bool → Result Plan ErrorStatus
put_over r given body place is_there =
    date_checked r place body.last_modified is_there >>= λ _. Ok (replacing given body.putting place is_there)

abbrev pub put_at : Contents → Rows → Given → PutBody → Place → Result Plan ErrorStatus
put_at m r given body place = present_at m place.path >>= λ item. put_over r given body place (is_some item)

abbrev pub put_ready : Contents → Rows → Given → Ready → Result Plan ErrorStatus
put_ready m r given ready = put_at m r given ready.body ready.place

-- the body's fields, the path, what may be put there, what stands there, and its date, in this order
abbrev pub put_plan : Contents → Rows → Given → List ℕ → List (List ℕ) → Result Plan ErrorStatus
put_plan m r given text segments = ready_put text segments >>= put_ready m r given

-- ---- what the functions find

abbrev pub PutsAt : Rows → Given → PutBody → Place → Result Plan Refusal → Contents → Contents → Type 0
PutsAt r given body place result m n = Same m n × Gives result (put_at m r given body place)

abbrev pub Puts : Rows → Given → Ready → Result Plan Refusal → Contents → Contents → Type 0
Puts r given body result m n = Same m n × Gives result (put_ready m r given body)
