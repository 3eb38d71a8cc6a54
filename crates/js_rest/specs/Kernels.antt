-- To be believed.
-- The routes of the server's version, of kernelspecs and of kernels (Jupyter Server REST API).
use Rattle.std.specs.Prelude.{ℕ, List, ◌++◌, length, nat_le, Option, Some, None, Result, Ok, Err, if◌then◌else◌, codes}
use Rattle.js_http.specs.declared.response.ErrorStatus.{ErrorStatus}
use Rattle.js_http.specs.declared.response.ErrorStatus.TheVariants.{NotFound, ServiceUnavailable}
use Rattle.js_http.specs.declared.response.Response.TheVariants.{Success, Created, NoContent}
use Rattle.js_tables.specs.declared.given.Given.{Given}
use Rattle.js_tables.specs.declared.plan.Answer.TheVariants.{Reply, Channels, Ends}
use Rattle.js_tables.specs.declared.plan.Plan.{Plan}
use Rattle.js_tables.specs.declared.plan.Update.TheVariants as update
use Rattle.js_tables.specs.declared.plan.Change.TheVariants.{Begin, Tell}
use Rattle.js_tables.specs.declared.plan.Change.TheVariants as change
use Rattle.js_tables.specs.declared.plan.Command.TheVariants as command
use Rattle.js_tables.specs.declared.tables.Kernel.{Kernel}
use Rattle.js_tables.specs.declared.tables.State.TheVariants.{Idle}
use Rattle.js_tables.specs.Bodies.{body_of, name_checked}
use Rattle.js_tables.specs.Forms.{body_text, version_form, kernelspecs_form, kernel_form, kernels_form}
use Rattle.js_tables.specs.Given.{first_id}
use Rattle.js_tables.specs.Plans.{◌>>=◌, reply}
use Rattle.js_tables.specs.Tables.{Rows, find_kernel, has_recorder}

-- GET /api
abbrev pub version_plan : Result Plan ErrorStatus
version_plan = Ok (reply (Success (body_text version_form)))

-- GET /api/kernelspecs
abbrev pub kernelspecs_plan : Result Plan ErrorStatus
kernelspecs_plan = Ok (reply (Success (body_text kernelspecs_form)))

-- GET /api/kernels
abbrev pub all_plan : Rows → Result Plan ErrorStatus
all_plan r = Ok (reply (Success (body_text (kernels_form r.kernels))))

-- a kernel of the tables, or 404
abbrev pub known : Option Kernel → Result Kernel ErrorStatus
known None = Err NotFound
known (Some k) = Ok k

-- GET /api/kernels/{id}
abbrev pub one_plan : List ℕ → Rows → Result Plan ErrorStatus
one_plan id r = known (find_kernel id r.kernels) >>= λ k. Ok (reply (Success (body_text (kernel_form k))))

-- a kernel is told to shut down, and goes with its session; one with a recorder stays until that has saved all that it showed
abbrev pub ending : Kernel → Rows → Plan
ending k r =
    if has_recorder k.id r then record { change = Tell k.id command.Shutdown; update = update.Same; answer = Ends k.id }
    else record { change = Tell k.id command.Shutdown; update = update.DropKernel k.id; answer = Reply NoContent }

-- DELETE /api/kernels/{id}
abbrev pub end_plan : List ℕ → Rows → Result Plan ErrorStatus
end_plan id r = known (find_kernel id r.kernels) >>= λ k. Ok (ending k r)

-- POST /api/kernels/{id}/interrupt
abbrev pub interrupt_plan : List ℕ → Rows → Result Plan ErrorStatus
interrupt_plan id r =
    known (find_kernel id r.kernels) >>= λ k.
    Ok (record { change = Tell k.id command.Interrupt; update = update.Same; answer = Reply NoContent })

-- POST /api/kernels/{id}/restart
abbrev pub restart_plan : List ℕ → Rows → Result Plan ErrorStatus
restart_plan id r =
    known (find_kernel id r.kernels) >>= λ k.
    Ok (record { change = Tell k.id command.Restart; update = update.Same; answer = Reply (Success (body_text (kernel_form k))) })

-- GET /api/kernels/{id}/channels: whoever serves it tests the handshake (400) and lends a seat (503)
abbrev pub channels_plan : List ℕ → Rows → Result Plan ErrorStatus
channels_plan id r =
    known (find_kernel id r.kernels) >>= λ k.
    Ok (record { change = change.Nothing; update = update.Same; answer = Channels k.id })

abbrev pub new_kernel : Given → Kernel
new_kernel given =
    record { id = first_id given; last_activity = given.date; state = Idle; connections = 0; session = None }

abbrev pub location : Kernel → List ℕ
location k = codes "/api/kernels/" ++ k.id

abbrev pub creation : Kernel → Plan
creation k = record {
  change = Begin k.id;
  update = update.AddKernel k None;
  answer = Reply (Created (Some (location k)) (body_text (kernel_form k)));
}

-- 503 where there are 16 kernels
abbrev pub has_place : Rows → Result (Unit {0}) ErrorStatus
has_place r = if nat_le 16 (length r.kernels) then Err ServiceUnavailable else Ok tt

-- POST /api/kernels
abbrev pub create_plan : Given → List ℕ → Rows → Result Plan ErrorStatus
create_plan given body r =
    body_of body >>= λ d. (name_checked d >>= λ _. (has_place r >>= λ _. Ok (creation (new_kernel given))))
