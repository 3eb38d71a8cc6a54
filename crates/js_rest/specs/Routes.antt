-- To be believed.
-- The table of routes.
use Rattle.std.specs.Prelude.{ℕ, List, [], ◌∷◌, Option, Some, None, Result, Ok, Err, codes}
use Rattle.matchit.specs.Rows.{RowsOf}
use Rattle.matchit.specs.Order.{placed}
use Rattle.matchit.specs.Route.{Scan, parse_route}
use Rattle.matchit.specs.Router.{RouteOf, route_from}
use Rattle.matchit.specs.Seek.{first}
use Rattle.matchit.specs.declared.error.InsertError.{InsertError}
use Rattle.js_rest.specs.declared.route.Route.{Route}
use Rattle.js_rest.specs.declared.route.Route.TheVariants as route

abbrev pub RouteRows : Type 0
RouteRows = RowsOf (RouteOf Route)

-- one more route among the rows, of a text that reads well
abbrev pub with_scan : Result Scan InsertError → Route → RouteRows → RouteRows
with_scan (Ok s) value rows = placed (s.pattern, route_from s value) rows
with_scan (Err e) value rows = rows

unfoldable pub with_route : List ℕ → Route → RouteRows → RouteRows
with_route text value rows = with_scan (parse_route text) value rows

-- the rows of these routes, each added to those before it
abbrev pub with_routes : List (List ℕ × Route) → RouteRows → RouteRows
with_routes [] rows = rows
with_routes (entry ∷ entries) rows = with_routes entries (with_route entry.0 entry.1 rows)

unfoldable pub table : RouteRows
table =
    with_routes (
    (codes "/", route.Page) ∷
    (codes "/api", route.Version) ∷
    (codes "/api/shutdown", route.Shutdown) ∷
    (codes "/api/kernelspecs", route.Kernelspecs) ∷
    (codes "/api/kernels", route.Kernels) ∷
    (codes "/api/kernels/{id}", route.Kernel) ∷
    (codes "/api/kernels/{id}/interrupt", route.Interrupt) ∷
    (codes "/api/kernels/{id}/restart", route.Restart) ∷
    (codes "/api/kernels/{id}/channels", route.Channels) ∷
    (codes "/api/sessions", route.Sessions) ∷
    (codes "/api/sessions/{id}", route.Session) ∷
    (codes "/api/contents", route.Contents) ∷
    (codes "/api/contents/", route.Contents) ∷
    (codes "/api/contents/{*path}", route.Contents) ∷ []
    ) []

abbrev pub value_of : Option (RouteOf Route) → Option Route
value_of None = None
value_of (Some r) = Some r.value

-- what a path is about
abbrev pub route_of : List ℕ → Option Route
route_of path = value_of (first table path)
