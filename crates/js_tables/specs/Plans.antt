-- To be believed.
-- Plans: what is to be done for a request, once it has been judged.
use Rattle.std.specs.Prelude.{◌≡◌, ℕ, Bool, List, [], ◌∷◌, ◌++◌, Result, Ok, Err, Option, Some, None}
use Rattle.std.specs.HashMap.{get_by_text}
use Rattle.js_http.specs.declared.response.ErrorStatus.{ErrorStatus}
use Rattle.js_http.specs.declared.response.ErrorStatus.TheVariants as status
use Rattle.js_http.specs.declared.response.Response.{Response}
use Rattle.json_form.specs.declared.fault.Fault.{Fault}
use Rattle.json_form.specs.declared.fault.Bad.{Bad}
use Rattle.json_form.specs.declared.fault.Bad.TheVariants as bad
use Rattle.js_shelf.specs.declared.item.ShelfRefusal.{ShelfRefusal}
use Rattle.js_shelf.specs.declared.item.ShelfRefusal.TheVariants as shelf
use Rattle.js_tables.specs.declared.refusal.Refusal.{Refusal}
use Rattle.js_tables.specs.declared.refusal.Refusal.TheVariants.{Status, Failed}
use Rattle.js_tables.specs.declared.plan.Plan.{Plan}
use Rattle.js_tables.specs.declared.plan.Update.{Update}
use Rattle.js_tables.specs.declared.plan.Update.TheVariants as update
use Rattle.js_tables.specs.declared.plan.Change.TheVariants as change
use Rattle.js_tables.specs.declared.plan.Answer.TheVariants.{Reply}
use Rattle.js_tables.specs.Tables.{Rows, add_kernel, set_kernels, drop_kernel, set_date, drop_file}

-- ---- refusals

-- one step after another, up to the first refusal
infixl 10 ◌>>=◌
abbrev pub ◌>>=◌ : {A B : Type 0} → Result A ErrorStatus → (A → Result B ErrorStatus) → Result B ErrorStatus
(Ok x) >>= f = f x
(Err e) >>= f = Err e

-- what a function returned is what the form says, unless the device or memory failed
abbrev pub Fails : {X : Type 0} → Refusal → Result X ErrorStatus → Type 0
Fails (Status s) form = form ≡ Err s
Fails Failed form = Unit {0}

abbrev pub Gives : {X : Type 0} → Result X Refusal → Result X ErrorStatus → Type 0
Gives (Ok x) form = form ≡ Ok x
Gives (Err e) form = Fails e form

-- what a function returned meets a condition on answers, unless the device or memory failed
abbrev pub Found : {X : Type 0} → (Result X ErrorStatus → Type 0) → Result X Refusal → Type 0
Found P (Ok x) = P (Ok x)
Found P (Err (Status s)) = P (Err s)
Found P (Err Failed) = Unit {0}

abbrev pub status_of : Refusal → ErrorStatus
status_of (Status s) = s
status_of Failed = status.InternalServerError

abbrev pub bad_request : Refusal
bad_request = Status status.BadRequest

abbrev pub of_bad : Bad → Refusal
of_bad (bad.Fault f) = bad_request
of_bad bad.Memory = Failed

-- what a refusal of the shelf is answered with
abbrev pub of_shelf : ShelfRefusal → Refusal
of_shelf shelf.Missing = Status status.NotFound
of_shelf shelf.Exists = Status status.Conflict
of_shelf shelf.BadPath = bad_request
of_shelf shelf.NotEmpty = bad_request
of_shelf shelf.Device = Failed
of_shelf shelf.Memory = Failed

-- a field that is missing, of another kind or not allowed
abbrev pub or_bad : {X : Type 0} → Result X Fault → Result X ErrorStatus
or_bad (Ok x) = Ok x
or_bad (Err f) = Err status.BadRequest

-- ---- plans

abbrev pub reply : Response → Plan
reply response = record { change = change.Nothing; update = update.Same; answer = Reply response }

-- the tables after an update
abbrev pub updated : Update → Rows → Rows
updated update.Same r = r
updated (update.AddKernel k c) r = add_kernel k c r
updated (update.DropKernel id) r = drop_kernel id r
updated (update.SetKernels ks c) r = set_kernels ks c r
updated (update.SetDate path date) r = set_date path date r
updated (update.DropFile path) r = drop_file path r
updated (update.Move ks ds) r = record r { kernels = ks; dates = λ path. get_by_text ds path }
