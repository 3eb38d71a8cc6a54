-- To be believed.
-- The routes of sessions (Jupyter Server REST API), but for a new one.
use Rattle.std.specs.Prelude.{ℕ, List, map, Option, Some, None, Result, Ok, Err, if◌then◌else◌, codes}
use Rattle.std.specs.Str.{bytes_eq}
use Rattle.serde_json.specs.Data.{Data}
use Rattle.json_form.specs.Forms.{given}
use Rattle.js_http.specs.declared.response.ErrorStatus.{ErrorStatus}
use Rattle.js_http.specs.declared.response.ErrorStatus.TheVariants.{BadRequest, NotFound, Conflict}
use Rattle.js_http.specs.declared.response.Response.TheVariants.{Success}
use Rattle.js_shelf.specs.Paths.{is_path}
use Rattle.js_tables.specs.declared.plan.Answer.TheVariants.{Reply}
use Rattle.js_tables.specs.declared.plan.Plan.{Plan}
use Rattle.js_tables.specs.declared.plan.Update.TheVariants as update
use Rattle.js_tables.specs.declared.plan.Change.TheVariants as change
use Rattle.js_tables.specs.declared.tables.Kernel.{Kernel}
use Rattle.js_tables.specs.declared.tables.Session.{Session}
use Rattle.js_tables.specs.Bodies.{body_of, optional_text_in}
use Rattle.js_tables.specs.Forms.{body_text, session_form, sessions_form}
use Rattle.js_tables.specs.Plans.{◌>>=◌, reply}
use Rattle.js_tables.specs.Sessions.{find_by_session, find_by_path, changed as changed_kernel}
use Rattle.js_tables.specs.Tables.{Rows}
use Rattle.js_rest.specs.Kernels.{known, ending}

-- GET /api/sessions
abbrev pub all_plan : Rows → Result Plan ErrorStatus
all_plan r = Ok (reply (Success (body_text (sessions_form r.kernels))))

-- a session, or 404
abbrev pub known_session : Option Session → Result Session ErrorStatus
known_session None = Err NotFound
known_session (Some s) = Ok s

abbrev pub shown : Kernel → Session → Plan
shown k s = reply (Success (body_text (session_form k s)))

abbrev pub one_shown : Kernel → Result Plan ErrorStatus
one_shown k = known_session k.session >>= λ s. Ok (shown k s)

-- GET /api/sessions/{id}
abbrev pub one_plan : List ℕ → Rows → Result Plan ErrorStatus
one_plan id r = known (find_by_session id r.kernels) >>= one_shown

-- DELETE /api/sessions/{id}
abbrev pub end_plan : List ℕ → Rows → Result Plan ErrorStatus
end_plan id r = known (find_by_session id r.kernels) >>= λ k. Ok (ending k r)

-- ---- PATCH /api/sessions/{id}

abbrev pub if_none : Option Data → Result (Unit {0}) ErrorStatus
if_none None = Ok tt
if_none (Some d) = Err BadRequest

-- a session keeps its kernel
abbrev pub no_kernel : Data → Result (Unit {0}) ErrorStatus
no_kernel d = if_none (given (codes "kernel") d)

abbrev pub path_checked : List ℕ → Result (Unit {0}) ErrorStatus
path_checked path = if is_path path then Ok tt else Err BadRequest

-- a session with the fields that the body gives
abbrev pub changed : Data → Session → Result Session ErrorStatus
changed d s =
    optional_text_in (codes "path") s.path d >>= λ path.
    (optional_text_in (codes "name") s.name d >>= λ name.
    (optional_text_in (codes "type") s.kind d >>= λ kind.
    (path_checked path >>= λ _. Ok (record { id = s.id; path = path; name = name; kind = kind }))))

-- no other kernel's session has that path
abbrev pub free_or : List ℕ → Option Kernel → Result (Unit {0}) ErrorStatus
free_or id None = Ok tt
free_or id (Some k) = if bytes_eq k.id id then Ok tt else Err Conflict

abbrev pub free_for : List ℕ → List ℕ → Rows → Result (Unit {0}) ErrorStatus
free_for id path r = free_or id (find_by_path path r.kernels)

abbrev pub changing : Rows → Kernel → Session → Plan
changing r k s = record {
  change = change.Nothing;
  update = update.SetKernels (map (changed_kernel k.id s) r.kernels) None;
  answer = Reply (Success (body_text (session_form k s)));
}

abbrev pub change_of : Rows → Kernel → Data → Result Plan ErrorStatus
change_of r k d =
    known_session k.session >>= λ s. (changed d s >>= λ t. (free_for k.id t.path r >>= λ _. Ok (changing r k t)))

abbrev pub change_plan : List ℕ → List ℕ → Rows → Result Plan ErrorStatus
change_plan id body r =
    body_of body >>= λ d. (no_kernel d >>= λ _. (known (find_by_session id r.kernels) >>= λ k. change_of r k d))
