-- Where the device or memory failed, that is what was found.
use Rattle.std.proofs.Common.{ℕ, List, Option, Some, None, Err, refl}
use Rattle.js_http.specs.declared.method.Method.{Method}
use Rattle.js_http.specs.declared.method.Method.TheVariants.{Get, Post, Put, Patch, Delete, Other}
use Rattle.js_http.specs.declared.request.Request.{Request}
use Rattle.js_shelf.specs.Shelves.{Contents}
use Rattle.js_rest.specs.Contents.{IsFoundBy}
use Rattle.js_tables.specs.declared.given.Given.{Given}
use Rattle.js_tables.specs.declared.refusal.Refusal.TheVariants.{Failed}
use Rattle.js_tables.specs.Tables.{Rows}
use Rattle.js_rest.specs.declared.route.Route.{Route}
use Rattle.js_rest.specs.declared.route.Route.TheVariants as route
use Rattle.js_rest.specs.Answers.{IsFoundAt, IsFoundAlone, IsSessionsAlone, path_of}
use Rattle.js_http.specs.Targets.{segments_of}

failed_by : (method : Method) (m : Contents) (r : Rows) (given : Given) (request : Request) (segments : List (List ℕ)) → IsFoundBy method m r given request segments (Err Failed)
failed_by Get m r given request segments = (Err Failed, tt, refl)
failed_by Put m r given request segments = tt
failed_by Delete m r given request segments = tt
failed_by Post m r given request segments = (Err Failed, tt, refl)
failed_by Patch m r given request segments = (Err Failed, tt, refl)
failed_by Other m r given request segments = tt

pub found_failed : (path : Option Route) (m : Contents) (r : Rows) (given : Given) (request : Request) → IsFoundAt path m r given request (Err Failed)
found_failed None m r given request = tt
found_failed (Some route.Page) m r given request = tt
found_failed (Some route.Version) m r given request = tt
found_failed (Some route.Shutdown) m r given request = tt
found_failed (Some route.Kernelspecs) m r given request = tt
found_failed (Some route.Kernels) m r given request = tt
found_failed (Some route.Kernel) m r given request = tt
found_failed (Some route.Interrupt) m r given request = tt
found_failed (Some route.Restart) m r given request = tt
found_failed (Some route.Channels) m r given request = tt
found_failed (Some route.Sessions) m r given request = tt
found_failed (Some route.Session) m r given request = tt
found_failed (Some route.Contents) m r given request =
    failed_by request.method m r given request (segments_of (path_of request))

sessions_failed : (method : Method) (r : Rows) → IsSessionsAlone method r (Err Failed)
sessions_failed Get r = tt
sessions_failed Post r = tt
sessions_failed Put r = tt
sessions_failed Patch r = tt
sessions_failed Delete r = tt
sessions_failed Other r = tt

pub found_failed_alone : (path : Option Route) (r : Rows) (given : Given) (request : Request) → IsFoundAlone path r given request (Err Failed)
found_failed_alone None r given request = tt
found_failed_alone (Some route.Page) r given request = tt
found_failed_alone (Some route.Version) r given request = tt
found_failed_alone (Some route.Shutdown) r given request = tt
found_failed_alone (Some route.Kernelspecs) r given request = tt
found_failed_alone (Some route.Kernels) r given request = tt
found_failed_alone (Some route.Kernel) r given request = tt
found_failed_alone (Some route.Interrupt) r given request = tt
found_failed_alone (Some route.Restart) r given request = tt
found_failed_alone (Some route.Channels) r given request = tt
found_failed_alone (Some route.Sessions) r given request = sessions_failed request.method r
found_failed_alone (Some route.Session) r given request = tt
found_failed_alone (Some route.Contents) r given request = tt
