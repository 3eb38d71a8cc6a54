-- To be believed.
-- A new session (Jupyter Server REST API): POST /api/sessions.
use Rattle.std.specs.Prelude.{ℕ, false, List, [], map, Option, Some, None, Result, Ok, Err, if◌then◌else◌, codes}
use Rattle.serde_json.specs.Data.{Data}
use Rattle.json_form.specs.Forms.{given, needed, object_of}
use Rattle.nb_doc.specs.declared.notebook.Notebook.{Notebook}
use Rattle.nb_record.specs.declared.pages.Pages.{Pages}
use Rattle.nb_record.specs.Book.{book}
use Rattle.nb_record.specs.State.{RecorderState}
use Rattle.js_http.specs.declared.response.ErrorStatus.{ErrorStatus}
use Rattle.js_http.specs.declared.response.ErrorStatus.TheVariants.{NotFound, Conflict}
use Rattle.js_http.specs.declared.response.Response.TheVariants.{Created}
use Rattle.js_contents.specs.declared.notebook.First.{First}
use Rattle.js_contents.specs.Kinds.{is_notebook_name}
use Rattle.js_contents.specs.Notebooks.{first_notebook}
use Rattle.js_shelf.specs.Shelves.{Contents, Same}
use Rattle.js_tables.specs.declared.given.Given.{Given}
use Rattle.js_tables.specs.declared.plan.Answer.{Answer}
use Rattle.js_tables.specs.declared.plan.Answer.TheVariants.{Reply}
use Rattle.js_tables.specs.declared.plan.Change.TheVariants as change
use Rattle.js_tables.specs.declared.plan.Plan.{Plan}
use Rattle.js_tables.specs.declared.plan.Update.TheVariants as update
use Rattle.js_tables.specs.declared.refusal.Refusal.{Refusal}
use Rattle.js_tables.specs.declared.tables.Kernel.{Kernel}
use Rattle.js_tables.specs.declared.tables.Recording.{Recording}
use Rattle.js_tables.specs.declared.tables.Session.{Session}
use Rattle.js_tables.specs.Bodies.{body_of, text_in, optional_text_in, name_checked}
use Rattle.js_tables.specs.Forms.{body_text, session_form}
use Rattle.js_tables.specs.Given.{second_id}
use Rattle.js_tables.specs.Plans.{◌>>=◌, Gives, or_bad}
use Rattle.js_tables.specs.Sessions.{find_by_path, changed as changed_kernel}
use Rattle.js_tables.specs.Tables.{Rows, find_kernel}
use Rattle.js_rest.specs.declared.opening.Asked.{Asked}
use Rattle.js_rest.specs.declared.opening.Fields.{Fields}
use Rattle.js_rest.specs.Kernels.{known, new_kernel, has_place}
use Rattle.js_rest.specs.Sessions.{path_checked}

-- ---- the body: a path, a type, a name, which is empty where it is missing, and a kernel that is there or a new one

abbrev pub some_id : Option Data → Data → Result (Option (List ℕ)) ErrorStatus
some_id None d = Ok None
some_id (Some field) d = text_in (codes "id") d >>= λ id. Ok (Some id)

abbrev pub id_in : Data → Result (Option (List ℕ)) ErrorStatus
id_in d = name_checked d >>= λ _. some_id (given (codes "id") d) d

abbrev pub id_of : Option Data → Result (Option (List ℕ)) ErrorStatus
id_of None = Ok None
id_of (Some field) = or_bad (needed object_of (Some field)) >>= id_in

abbrev pub kernel_asked : Data → Result (Option (List ℕ)) ErrorStatus
kernel_asked d = id_of (given (codes "kernel") d)

abbrev pub asking : List ℕ → List ℕ → List ℕ → Option (List ℕ) → Asked
asking path kind name kernel = record { fields = record { path = path; kind = kind; name = name }; kernel = kernel }

abbrev pub asked_in : Data → Result Asked ErrorStatus
asked_in d =
    text_in (codes "path") d >>= λ path.
    (text_in (codes "type") d >>= λ kind.
    (optional_text_in (codes "name") [] d >>= λ name.
    (kernel_asked d >>= λ kernel.
    (path_checked path >>= λ _. Ok (asking path kind name kernel)))))

abbrev pub asked : List ℕ → Result Asked ErrorStatus
asked body = body_of body >>= asked_in

-- ---- the parts of the plan

abbrev pub answered : Kernel → Session → Answer
answered k s = Reply (Created None (body_text (session_form k s)))

-- a path that has a session answers that session
abbrev pub again_by : Kernel → Option Session → Result Plan ErrorStatus
again_by k None = Err NotFound
again_by k (Some s) = Ok (record { change = change.Nothing; update = update.Same; answer = answered k s })

abbrev pub again : Kernel → Result Plan ErrorStatus
again k = again_by k k.session

-- what a recorder begins with, where the path is a notebook's
abbrev pub as_first : First → Result (Option First) ErrorStatus
as_first f = Ok (Some f)

abbrev pub first_of : Contents → List ℕ → Result (Option First) ErrorStatus
first_of m path = if is_notebook_name path then (first_notebook m path >>= as_first) else Ok None

-- the pages of a notebook that were told nothing
abbrev pub fresh : Notebook → Pages
fresh n = record { notebook = book n []; executed = []; current = None; lasts = false }

abbrev pub recorder_of : List ℕ → Notebook → RecorderState
recorder_of path n = record { path = path; pages = fresh n }

abbrev pub recording_of : List ℕ → List ℕ → Option First → Option Recording
recording_of kernel path None = None
recording_of kernel path (Some f) =
    Some (record { kernel = kernel; recorder = recorder_of path f.notebook; due = false; known = f.known; tried = None })

abbrev pub new_session : Given → Fields → Session
new_session given f = record { id = second_id given; path = f.path; name = f.name; kind = f.kind }

-- the session of a kernel that is there
abbrev pub joining : Rows → Kernel → Session → Option First → Plan
joining r k s first = record {
  change = change.Nothing;
  update = update.SetKernels (map (changed_kernel k.id s) r.kernels) (recording_of k.id s.path first);
  answer = answered k s;
}

-- the session of a kernel that is made now
abbrev pub beginning : Kernel → Session → Option First → Plan
beginning k s first = record {
  change = change.Begin k.id;
  update = update.AddKernel (record k { session = Some s }) (recording_of k.id s.path first);
  answer = answered k s;
}

-- ---- the plan

-- a kernel has one session
abbrev pub alone : Option Session → Result (Unit {0}) ErrorStatus
alone None = Ok tt
alone (Some s) = Err Conflict

abbrev pub on_kernel : Contents → Rows → Given → Fields → Kernel → Result Plan ErrorStatus
on_kernel m r given f k =
    alone k.session >>= λ _. (first_of m f.path >>= λ first. Ok (joining r k (new_session given f) first))

abbrev pub on_new : Contents → Rows → Given → Fields → Result Plan ErrorStatus
on_new m r given f =
    first_of m f.path >>= λ first. (has_place r >>= λ _. Ok (beginning (new_kernel given) (new_session given f) first))

abbrev pub on_asked : Contents → Rows → Given → Fields → List ℕ → Result Plan ErrorStatus
on_asked m r given f id = known (find_kernel id r.kernels) >>= on_kernel m r given f

abbrev pub fresh_plan : Option (List ℕ) → Contents → Rows → Given → Fields → Result Plan ErrorStatus
fresh_plan None m r given f = on_new m r given f
fresh_plan (Some id) m r given f = on_asked m r given f id

abbrev pub plan_by : Option Kernel → Contents → Rows → Given → Asked → Result Plan ErrorStatus
plan_by (Some k) m r given a = again k
plan_by None m r given a = fresh_plan a.kernel m r given a.fields

abbrev pub asked_plan : Contents → Rows → Given → Asked → Result Plan ErrorStatus
asked_plan m r given a = plan_by (find_by_path a.fields.path r.kernels) m r given a

-- POST /api/sessions
abbrev pub open_plan : Contents → Rows → Given → List ℕ → Result Plan ErrorStatus
open_plan m r given body = asked body >>= asked_plan m r given

-- ---- what the functions find

abbrev pub FindsFirst : List ℕ → Result (Option First) Refusal → Contents → Contents → Type 0
FindsFirst path result m n = Same m n × Gives result (first_of m path)

abbrev pub OpensOn : Rows → Given → Fields → Kernel → Result Plan Refusal → Contents → Contents → Type 0
OpensOn r given f k result m n = Same m n × Gives result (on_kernel m r given f k)

abbrev pub OpensNew : Rows → Given → Fields → Result Plan Refusal → Contents → Contents → Type 0
OpensNew r given f result m n = Same m n × Gives result (on_new m r given f)

abbrev pub OpensAs : Rows → Given → Fields → List ℕ → Result Plan Refusal → Contents → Contents → Type 0
OpensAs r given f id result m n = Same m n × Gives result (on_asked m r given f id)

abbrev pub OpensFresh : Rows → Given → Asked → Result Plan Refusal → Contents → Contents → Type 0
OpensFresh r given a result m n = Same m n × Gives result (fresh_plan a.kernel m r given a.fields)

abbrev pub OpensAsked : Rows → Given → Asked → Result Plan Refusal → Contents → Contents → Type 0
OpensAsked r given a result m n = Same m n × Gives result (asked_plan m r given a)

abbrev pub Opens : Rows → Given → List ℕ → Result Plan Refusal → Contents → Contents → Type 0
Opens r given body result m n = Same m n × Gives result (open_plan m r given body)
