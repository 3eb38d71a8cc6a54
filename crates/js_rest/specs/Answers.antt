-- To be believed.
-- Which answer a request has, over the tables, the kernels that run and the shelf.
use Rattle.std.specs.Prelude.{◌≡◌, ◌⊎◌, ◌==◌, ℕ, Bool, true, false, List, [], Option, Some, None, Result, Ok, Err, get_or}
use Rattle.std.specs.List.{before_first}
use Rattle.js_http.specs.Origins.{is_own}
use Rattle.js_http.specs.Targets.{segments_of}
use Rattle.js_http.specs.declared.method.Method.{Method}
use Rattle.js_http.specs.declared.method.Method.TheVariants.{Get, Post, Put, Patch, Delete, Other}
use Rattle.js_http.specs.declared.request.Request.{Request}
use Rattle.js_http.specs.declared.response.ErrorStatus.{ErrorStatus}
use Rattle.js_http.specs.declared.response.ErrorStatus.TheVariants.{Forbidden, NotFound, MethodNotAllowed, InternalServerError}
use Rattle.js_http.specs.declared.response.Response.TheVariants.{Refused}
use Rattle.js_shelf.specs.Shelves.{Contents, Same}
use Rattle.js_rest.specs.Contents as contents
use Rattle.js_tables.specs.declared.given.Given.{Given}
use Rattle.js_tables.specs.declared.plan.Answer.{Answer}
use Rattle.js_tables.specs.declared.plan.Answer.TheVariants.{Reply, Page, Stops}
use Rattle.js_tables.specs.declared.plan.Command.{Command}
use Rattle.js_tables.specs.declared.plan.Change.TheVariants as change
use Rattle.js_tables.specs.declared.plan.Plan.{Plan}
use Rattle.js_tables.specs.declared.plan.Update.TheVariants as update
use Rattle.js_tables.specs.declared.refusal.Refusal.{Refusal}
use Rattle.js_tables.specs.Plans.{Gives, updated, status_of}
use Rattle.js_tables.specs.Tables.{Rows}
use Rattle.js_rest.specs.declared.route.Route.{Route}
use Rattle.js_rest.specs.declared.route.Route.TheVariants as route
use Rattle.js_rest.specs.declared.untold.Untold.{Untold}
use Rattle.js_rest.specs.Changes.{Tries, TriesAlone}
use Rattle.js_rest.specs.Kernels as kernels
use Rattle.js_rest.specs.Opening as opening
use Rattle.js_rest.specs.Routes.{route_of}
use Rattle.js_rest.specs.Sessions as sessions

-- the path of a request, and its segments with their escapes read
abbrev pub path_of : Request → List ℕ
path_of request = before_first (λ byte. byte == 63) request.target

abbrev pub segment : Request → ℕ → List ℕ
segment request place = get_or (segments_of (path_of request)) place []

-- ---- the methods of each route: what is not named is 405

abbrev pub page_plan : Method → Result Plan ErrorStatus
page_plan Get = Ok (record { change = change.Nothing; update = update.Same; answer = Page })
page_plan Post = Err MethodNotAllowed
page_plan Put = Err MethodNotAllowed
page_plan Patch = Err MethodNotAllowed
page_plan Delete = Err MethodNotAllowed
page_plan Other = Err MethodNotAllowed

abbrev pub version_plan : Method → Result Plan ErrorStatus
version_plan Get = kernels.version_plan
version_plan Post = Err MethodNotAllowed
version_plan Put = Err MethodNotAllowed
version_plan Patch = Err MethodNotAllowed
version_plan Delete = Err MethodNotAllowed
version_plan Other = Err MethodNotAllowed

-- POST /api/shutdown: nothing is changed yet; whoever serves it answers, ends each session and stops
abbrev pub shutdown_plan : Method → Result Plan ErrorStatus
shutdown_plan Get = Err MethodNotAllowed
shutdown_plan Post = Ok (record { change = change.Nothing; update = update.Same; answer = Stops })
shutdown_plan Put = Err MethodNotAllowed
shutdown_plan Patch = Err MethodNotAllowed
shutdown_plan Delete = Err MethodNotAllowed
shutdown_plan Other = Err MethodNotAllowed

abbrev pub kernelspecs_plan : Method → Result Plan ErrorStatus
kernelspecs_plan Get = kernels.kernelspecs_plan
kernelspecs_plan Post = Err MethodNotAllowed
kernelspecs_plan Put = Err MethodNotAllowed
kernelspecs_plan Patch = Err MethodNotAllowed
kernelspecs_plan Delete = Err MethodNotAllowed
kernelspecs_plan Other = Err MethodNotAllowed

abbrev pub kernels_plan : Method → Rows → Given → Request → Result Plan ErrorStatus
kernels_plan Get r given request = kernels.all_plan r
kernels_plan Post r given request = kernels.create_plan given request.body r
kernels_plan Put r given request = Err MethodNotAllowed
kernels_plan Patch r given request = Err MethodNotAllowed
kernels_plan Delete r given request = Err MethodNotAllowed
kernels_plan Other r given request = Err MethodNotAllowed

abbrev pub kernel_plan : Method → List ℕ → Rows → Result Plan ErrorStatus
kernel_plan Get id r = kernels.one_plan id r
kernel_plan Post id r = Err MethodNotAllowed
kernel_plan Put id r = Err MethodNotAllowed
kernel_plan Patch id r = Err MethodNotAllowed
kernel_plan Delete id r = kernels.end_plan id r
kernel_plan Other id r = Err MethodNotAllowed

abbrev pub interrupt_plan : Method → List ℕ → Rows → Result Plan ErrorStatus
interrupt_plan Get id r = Err MethodNotAllowed
interrupt_plan Post id r = kernels.interrupt_plan id r
interrupt_plan Put id r = Err MethodNotAllowed
interrupt_plan Patch id r = Err MethodNotAllowed
interrupt_plan Delete id r = Err MethodNotAllowed
interrupt_plan Other id r = Err MethodNotAllowed

abbrev pub restart_plan : Method → List ℕ → Rows → Result Plan ErrorStatus
restart_plan Get id r = Err MethodNotAllowed
restart_plan Post id r = kernels.restart_plan id r
restart_plan Put id r = Err MethodNotAllowed
restart_plan Patch id r = Err MethodNotAllowed
restart_plan Delete id r = Err MethodNotAllowed
restart_plan Other id r = Err MethodNotAllowed

abbrev pub channels_plan : Method → List ℕ → Rows → Result Plan ErrorStatus
channels_plan Get id r = kernels.channels_plan id r
channels_plan Post id r = Err MethodNotAllowed
channels_plan Put id r = Err MethodNotAllowed
channels_plan Patch id r = Err MethodNotAllowed
channels_plan Delete id r = Err MethodNotAllowed
channels_plan Other id r = Err MethodNotAllowed

abbrev pub sessions_plan : Method → Contents → Rows → Given → Request → Result Plan ErrorStatus
sessions_plan Get m r given request = sessions.all_plan r
sessions_plan Post m r given request = opening.open_plan m r given request.body
sessions_plan Put m r given request = Err MethodNotAllowed
sessions_plan Patch m r given request = Err MethodNotAllowed
sessions_plan Delete m r given request = Err MethodNotAllowed
sessions_plan Other m r given request = Err MethodNotAllowed

abbrev pub session_plan : Method → List ℕ → List ℕ → Rows → Result Plan ErrorStatus
session_plan Get id body r = sessions.one_plan id r
session_plan Post id body r = Err MethodNotAllowed
session_plan Put id body r = Err MethodNotAllowed
session_plan Patch id body r = sessions.change_plan id body r
session_plan Delete id body r = sessions.end_plan id r
session_plan Other id body r = Err MethodNotAllowed

-- ---- all routes

abbrev pub tables_plan : Route → Rows → Given → Request → Result Plan ErrorStatus
tables_plan route.Page r given request = page_plan request.method
tables_plan route.Version r given request = version_plan request.method
tables_plan route.Shutdown r given request = shutdown_plan request.method
tables_plan route.Kernelspecs r given request = kernelspecs_plan request.method
tables_plan route.Kernels r given request = kernels_plan request.method r given request
tables_plan route.Kernel r given request = kernel_plan request.method (segment request 3) r
tables_plan route.Interrupt r given request = interrupt_plan request.method (segment request 3) r
tables_plan route.Restart r given request = restart_plan request.method (segment request 3) r
tables_plan route.Channels r given request = channels_plan request.method (segment request 3) r
tables_plan route.Sessions r given request = Err MethodNotAllowed
tables_plan route.Session r given request = session_plan request.method (segment request 3) request.body r
tables_plan route.Contents r given request = Err MethodNotAllowed

-- what is found for a request on a route: its plan, the status that refuses it, or that the device or memory failed
abbrev pub IsFoundOn : Route → Contents → Rows → Given → Request → Result Plan Refusal → Type 0
IsFoundOn route.Page m r given request found = Gives found (tables_plan route.Page r given request)
IsFoundOn route.Version m r given request found = Gives found (tables_plan route.Version r given request)
IsFoundOn route.Shutdown m r given request found = Gives found (tables_plan route.Shutdown r given request)
IsFoundOn route.Kernelspecs m r given request found = Gives found (tables_plan route.Kernelspecs r given request)
IsFoundOn route.Kernels m r given request found = Gives found (tables_plan route.Kernels r given request)
IsFoundOn route.Kernel m r given request found = Gives found (tables_plan route.Kernel r given request)
IsFoundOn route.Interrupt m r given request found = Gives found (tables_plan route.Interrupt r given request)
IsFoundOn route.Restart m r given request found = Gives found (tables_plan route.Restart r given request)
IsFoundOn route.Channels m r given request found = Gives found (tables_plan route.Channels r given request)
IsFoundOn route.Sessions m r given request found = Gives found (sessions_plan request.method m r given request)
IsFoundOn route.Session m r given request found = Gives found (tables_plan route.Session r given request)
IsFoundOn route.Contents m r given request found =
    contents.IsFound m r given request (segments_of (path_of request)) found

-- an unknown path is 404
abbrev pub IsFoundAt : Option Route → Contents → Rows → Given → Request → Result Plan Refusal → Type 0
IsFoundAt None m r given request found = Gives found (Err NotFound)
IsFoundAt (Some route) m r given request found = IsFoundOn route m r given request found

-- a request that is not this server's own is 403, whatever it is about
abbrev pub IsFoundIf : Bool → Contents → Rows → Given → Request → Result Plan Refusal → Type 0
IsFoundIf false m r given request found = Gives found (Err Forbidden)
IsFoundIf true m r given request found = IsFoundAt (route_of (path_of request)) m r given request found

abbrev pub IsFound : Contents → Rows → Given → Request → Result Plan Refusal → Type 0
IsFound m r given request found = IsFoundIf (is_own request.headers) m r given request found

-- the same without a word on the shelf, but for contents and a new session
abbrev pub IsSessionsAlone : Method → Rows → Result Plan Refusal → Type 0
IsSessionsAlone Get r found = Gives found (sessions.all_plan r)
IsSessionsAlone Post r found = Unit {0}
IsSessionsAlone Put r found = Gives found (Err MethodNotAllowed)
IsSessionsAlone Patch r found = Gives found (Err MethodNotAllowed)
IsSessionsAlone Delete r found = Gives found (Err MethodNotAllowed)
IsSessionsAlone Other r found = Gives found (Err MethodNotAllowed)

abbrev pub IsFoundAlone : Option Route → Rows → Given → Request → Result Plan Refusal → Type 0
IsFoundAlone None r given request found = Gives found (Err NotFound)
IsFoundAlone (Some route.Page) r given request found = Gives found (tables_plan route.Page r given request)
IsFoundAlone (Some route.Version) r given request found = Gives found (tables_plan route.Version r given request)
IsFoundAlone (Some route.Shutdown) r given request found = Gives found (tables_plan route.Shutdown r given request)
IsFoundAlone (Some route.Kernelspecs) r given request found = Gives found (tables_plan route.Kernelspecs r given request)
IsFoundAlone (Some route.Kernels) r given request found = Gives found (tables_plan route.Kernels r given request)
IsFoundAlone (Some route.Kernel) r given request found = Gives found (tables_plan route.Kernel r given request)
IsFoundAlone (Some route.Interrupt) r given request found = Gives found (tables_plan route.Interrupt r given request)
IsFoundAlone (Some route.Restart) r given request found = Gives found (tables_plan route.Restart r given request)
IsFoundAlone (Some route.Channels) r given request found = Gives found (tables_plan route.Channels r given request)
IsFoundAlone (Some route.Sessions) r given request found = IsSessionsAlone request.method r found
IsFoundAlone (Some route.Session) r given request found = Gives found (tables_plan route.Session r given request)
IsFoundAlone (Some route.Contents) r given request found = Unit {0}

abbrev pub IsFoundAloneIf : Bool → Option Route → Rows → Given → Request → Result Plan Refusal → Type 0
IsFoundAloneIf false path r given request found = Gives found (Err Forbidden)
IsFoundAloneIf true path r given request found = IsFoundAlone path r given request found

abbrev pub FindsSessions : Rows → Given → Request → Result Plan Refusal → Contents → Contents → Type 0
FindsSessions r given request result m n = Same m n × Gives result (sessions_plan request.method m r given request)

-- ---- what becomes of a plan

-- where the change succeeded the tables are updated too, and else nothing has changed but what the change says
abbrev pub Ends : Plan → Result (Unit {0}) ErrorStatus → Rows → Rows → Answer → Type 0
Ends plan (Ok done) r s answer = (s ≡ updated plan.update r) × (answer ≡ plan.answer)
Ends plan (Err status) r s answer = (s ≡ r) × (answer ≡ Reply (Refused status))

module _ {L : Type 0} (begins : L → List ℕ → L → Type 0) (tells : L → List ℕ → Command → Result (Unit {0}) Untold → L → Type 0) where
  -- nothing has changed
  abbrev pub Stays : Rows → Rows → L → L → Contents → Contents → Type 0
  Stays r s l k m n = (s ≡ r) × (k ≡ l) × Same m n

  -- there was no memory, or the change was tried; `t` are the tables then
  abbrev pub CarriesOut : Plan → Rows → Rows → L → L → Answer → Contents → Contents → Type 0
  CarriesOut plan r s l k answer m n =
      ((answer ≡ Reply (Refused InternalServerError)) × Stays r s l k m n)
      ⊎ ((done : Result (Unit {0}) ErrorStatus) × (t : Rows) × Tries begins tells plan.change done r t l k m n × Ends plan done t s answer)

  -- what was found is carried out, or its status is the answer
  abbrev pub Follows : Result Plan Refusal → Rows → Rows → L → L → Answer → Contents → Contents → Type 0
  Follows (Ok plan) r s l k answer m n = CarriesOut plan r s l k answer m n
  Follows (Err refusal) r s l k answer m n = (answer ≡ Reply (Refused (status_of refusal))) × Stays r s l k m n

  -- the answer to a request
  abbrev pub IsAnswer : Given → Request → Rows → Rows → L → L → Answer → Contents → Contents → Type 0
  IsAnswer given request r s l k answer m n =
      (found : Result Plan Refusal) × IsFound m r given request found × Follows found r s l k answer m n

  -- the same without a word on the shelf, but for contents and a new session
  abbrev pub StaysAlone : Rows → Rows → L → L → Type 0
  StaysAlone r s l k = (s ≡ r) × (k ≡ l)

  abbrev pub CarriesOutAlone : Plan → Rows → Rows → L → L → Answer → Type 0
  CarriesOutAlone plan r s l k answer =
      ((answer ≡ Reply (Refused InternalServerError)) × StaysAlone r s l k)
      ⊎ ((done : Result (Unit {0}) ErrorStatus) × (t : Rows) × TriesAlone begins tells plan.change done r t l k × Ends plan done t s answer)

  abbrev pub FollowsAlone : Result Plan Refusal → Rows → Rows → L → L → Answer → Type 0
  FollowsAlone (Ok plan) r s l k answer = CarriesOutAlone plan r s l k answer
  FollowsAlone (Err refusal) r s l k answer = (answer ≡ Reply (Refused (status_of refusal))) × StaysAlone r s l k

  abbrev pub IsAnswerAlone : Option Route → Given → Request → Rows → Rows → L → L → Answer → Type 0
  IsAnswerAlone path given request r s l k answer =
      (found : Result Plan Refusal) × IsFoundAloneIf (is_own request.headers) path r given request found × FollowsAlone found r s l k answer
