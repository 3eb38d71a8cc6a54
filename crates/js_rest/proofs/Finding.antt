-- What was found for a request, by its route.
use Rattle.std.proofs.Common.{◌≡◌, ℕ, true, false, List, Option, Some, Result, Ok, Err, refl, sym, subst}
use Rattle.js_http.specs.Origins.{is_own}
use Rattle.js_http.specs.Targets.{segments_of}
use Rattle.js_http.specs.declared.request.Request.{Request}
use Rattle.js_http.specs.declared.response.ErrorStatus.TheVariants.{Forbidden}
use Rattle.js_shelf.specs.Shelves.{Contents, Same, Tells}
use Rattle.js_rest.proofs.Telling.{tells_weaker, tells_same}
use Rattle.js_http.specs.declared.method.Method.{Method}
use Rattle.js_tables.specs.declared.given.Given.{Given}
use Rattle.js_tables.specs.declared.plan.Plan.{Plan}
use Rattle.js_tables.specs.declared.refusal.Refusal.{Refusal}
use Rattle.js_tables.specs.declared.refusal.Refusal.TheVariants.{Status}
use Rattle.js_tables.specs.Plans.{Gives}
use Rattle.js_tables.specs.Tables.{Rows}
use Rattle.js_rest.specs.Contents as contents
use Rattle.js_rest.specs.declared.route.Route.{Route}
use Rattle.js_rest.specs.declared.route.Route.TheVariants as route
use Rattle.js_contents.specs.declared.read.Aim.{Aim}
use Rattle.js_contents.specs.declared.read.Aim.TheVariants as aim
use Rattle.js_contents.specs.Reads.{planned, Comes}
use Rattle.js_contents.proofs.Aiming.{comes_planned}
use Rattle.js_rest.specs.Answers.{IsFoundOn, IsFoundIf, IsFoundAlone, IsFoundAloneIf, FindsSessions, tables_plan, path_of}
use Rattle.js_rest.specs.Parts.{AimsOn, AimsAt, Aims}
use Rattle.js_rest.specs.Routes.{route_of}

-- the routes that are about neither contents nor all sessions
pub tables_found : (r : Route) (m : Contents) (rows : Rows) (given : Given) (request : Request) (found : Result Plan Refusal)
    → (r ≡ route.Contents → ⊥) → (r ≡ route.Sessions → ⊥) → Gives found (tables_plan r rows given request) → IsFoundOn r m rows given request found
tables_found route.Page m rows given request found n k h = h
tables_found route.Version m rows given request found n k h = h
tables_found route.Shutdown m rows given request found n k h = h
tables_found route.Kernelspecs m rows given request found n k h = h
tables_found route.Kernels m rows given request found n k h = h
tables_found route.Kernel m rows given request found n k h = h
tables_found route.Interrupt m rows given request found n k h = h
tables_found route.Restart m rows given request found n k h = h
tables_found route.Channels m rows given request found n k h = h
tables_found route.Session m rows given request found n k h = h
tables_found route.Sessions m rows given request found n k h = absurd (k refl)
tables_found route.Contents m rows given request found n k h = absurd (n refl)

pub tables_alone : (r : Route) (rows : Rows) (given : Given) (request : Request) (found : Result Plan Refusal)
    → (r ≡ route.Contents → ⊥) → (r ≡ route.Sessions → ⊥) → Gives found (tables_plan r rows given request) → IsFoundAlone (Some r) rows given request found
tables_alone route.Page rows given request found n k h = h
tables_alone route.Version rows given request found n k h = h
tables_alone route.Shutdown rows given request found n k h = h
tables_alone route.Kernelspecs rows given request found n k h = h
tables_alone route.Kernels rows given request found n k h = h
tables_alone route.Kernel rows given request found n k h = h
tables_alone route.Interrupt rows given request found n k h = h
tables_alone route.Restart rows given request found n k h = h
tables_alone route.Channels rows given request found n k h = h
tables_alone route.Session rows given request found n k h = h
tables_alone route.Sessions rows given request found n k h = absurd (k refl)
tables_alone route.Contents rows given request found n k h = absurd (n refl)

-- what is to be done on contents, and on all sessions
pub contents_on : (rows : Rows) (given : Given) (request : Request) (segments : List (List ℕ)) (done : Result Aim Refusal)
    → segments ≡ segments_of (path_of request) → (m n : Contents) → contents.Aims rows given request segments done m n → AimsOn route.Contents rows given request done m n
contents_on rows given request segments done e m n h = (h.0, subst (λ s. Comes (contents.IsFound m rows given request s) done) e h.1)

-- by the method: what was found for it, where the shelf tells
pub found_by : (c d : Option Contents) (method : Method) (rows : Rows) (given : Given) (request : Request) (segments : List (List ℕ)) (found : Result Plan Refusal) (done : Result Aim Refusal)
    → request.method ≡ method → done ≡ planned found → (P : Contents → Contents → Type 0)
    → ((m n : Contents) → P m n → Same m n × contents.IsFoundBy method m rows given request segments found) → Tells c d P → Tells c d (contents.Aims rows given request segments done)
found_by c d method rows given request segments found done is e P f h =
    tells_weaker c d P (contents.Aims rows given request segments done)
    (λ m n p.
    let j = f m n p in
    (j.0, comes_planned (contents.IsFound m rows given request segments) found done e (subst (λ x. contents.IsFoundBy x m rows given request segments found) (sym is) j.1)))
    h

pub found_alone : (c : Option Contents) (method : Method) (rows : Rows) (given : Given) (request : Request) (segments : List (List ℕ)) (found : Result Plan Refusal) (done : Result Aim Refusal)
    → request.method ≡ method → done ≡ planned found → ((m : Contents) → contents.IsFoundBy method m rows given request segments found) → Tells c c (contents.Aims rows given request segments done)
found_alone c method rows given request segments found done is e f =
    tells_same c (contents.Aims rows given request segments done)
    (λ m. ((λ path. refl), comes_planned (contents.IsFound m rows given request segments) found done e (subst (λ x. contents.IsFoundBy x m rows given request segments found) (sym is) (f m))))

pub sessions_on : (rows : Rows) (given : Given) (request : Request) (found : Result Plan Refusal) (done : Result Aim Refusal) → done ≡ planned found
    → (m n : Contents) → FindsSessions rows given request found m n → AimsOn route.Sessions rows given request done m n
sessions_on rows given request found done e m n h = (h.0, comes_planned (IsFoundOn route.Sessions m rows given request) found done e h.1)

-- of contents nothing is said without the shelf
pub any_alone : (rows : Rows) (given : Given) (request : Request) (done : Result Aim Refusal) → Comes (IsFoundAlone (Some route.Contents) rows given request) done
any_alone rows given request (Ok (aim.Plan plan)) = tt
any_alone rows given request (Ok (aim.File about opening)) = λ found g. tt
any_alone rows given request (Err refusal) = tt

pub aims_route : (p : Option Route) (rows : Rows) (given : Given) (request : Request) (done : Result Aim Refusal) → route_of (path_of request) ≡ p
    → (m n : Contents) → AimsAt p rows given request done m n → AimsAt (route_of (path_of request)) rows given request done m n
aims_route p rows given request done e m n h = subst (λ q. AimsAt q rows given request done m n) (sym e) h

-- a request of this server's own is answered by its path, and any other is refused
pub aims_own : (rows : Rows) (given : Given) (request : Request) (done : Result Aim Refusal) → is_own request.headers ≡ true
    → (m n : Contents) → AimsAt (route_of (path_of request)) rows given request done m n → Aims rows given request done m n
aims_own rows given request done e m n h = (h.0, subst (λ b. Comes (IsFoundIf b m rows given request) done) (sym e) h.1)

pub aims_foreign : (rows : Rows) (given : Given) (request : Request) → is_own request.headers ≡ false
    → (m : Contents) → Aims rows given request (Err (Status Forbidden)) m m
aims_foreign rows given request e m = ((λ path. refl), subst (λ b. IsFoundIf b m rows given request (Err (Status Forbidden))) (sym e) refl)

pub own_alone : (path : Option Route) (rows : Rows) (given : Given) (request : Request) (done : Result Aim Refusal) → is_own request.headers ≡ true
    → Comes (IsFoundAlone path rows given request) done → Comes (IsFoundAloneIf (is_own request.headers) path rows given request) done
own_alone path rows given request done e h = subst (λ b. Comes (IsFoundAloneIf b path rows given request) done) (sym e) h

pub foreign_alone : (path : Option Route) (rows : Rows) (given : Given) (request : Request) → is_own request.headers ≡ false
    → IsFoundAloneIf (is_own request.headers) path rows given request (Err (Status Forbidden))
foreign_alone path rows given request e = subst (λ b. IsFoundAloneIf b path rows given request (Err (Status Forbidden))) (sym e) refl
