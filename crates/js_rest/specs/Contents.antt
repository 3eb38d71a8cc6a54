-- To be believed.
-- The routes of contents (Jupyter Server REST API): /api/contents/{path}.
use Rattle.std.specs.Prelude.{◌≡◌, ℕ, List, Result, Ok, Err}
use Rattle.js_http.specs.declared.method.Method.{Method}
use Rattle.js_http.specs.declared.method.Method.TheVariants.{Get, Post, Put, Patch, Delete, Other}
use Rattle.js_http.specs.declared.request.Request.{Request}
use Rattle.js_http.specs.declared.response.ErrorStatus.TheVariants.{MethodNotAllowed}
use Rattle.js_shelf.specs.Shelves.{Contents, Same}
use Rattle.js_tables.specs.declared.given.Given.{Given}
use Rattle.js_tables.specs.declared.plan.Plan.{Plan}
use Rattle.js_tables.specs.declared.refusal.Refusal.{Refusal}
use Rattle.js_tables.specs.Plans.{Gives}
use Rattle.js_tables.specs.Tables.{Rows}
use Rattle.js_contents.specs.declared.read.Aim.{Aim}
use Rattle.js_contents.specs.Reads.{IsReadPlan, Comes}
use Rattle.js_contents.specs.Stores.{put_ready, put_plan, remove_plan}
use Rattle.js_rest.specs.declared.parts.Prepared.{Prepared}
use Rattle.js_rest.specs.declared.parts.Prepared.TheVariants as prepared
use Rattle.js_tables.specs.declared.refusal.Refusal.TheVariants.{Failed}
use Rattle.js_names.specs.Moves.{IsRenamePlan}
use Rattle.js_names.specs.Untitled.{IsUntitledPlan}

-- what is found by the method: the plan, or the status that refuses the request
abbrev pub IsFoundBy : Method → Contents → Rows → Given → Request → List (List ℕ) → Result Plan Refusal → Type 0
IsFoundBy Get m r given request segments found = IsReadPlan m r request segments found
IsFoundBy Put m r given request segments found = Gives found (put_plan m r given request.body segments)
IsFoundBy Delete m r given request segments found = Gives found (remove_plan segments)
IsFoundBy Post m r given request segments found = IsUntitledPlan m r given request.body segments found
IsFoundBy Patch m r given request segments found = IsRenamePlan m r request.body segments found
IsFoundBy Other m r given request segments found = Gives found (Err MethodNotAllowed)

abbrev pub IsFound : Contents → Rows → Given → Request → List (List ℕ) → Result Plan Refusal → Type 0
IsFound m r given request segments found = IsFoundBy request.method m r given request segments found

-- what is to be done: a plan that is found, or a file whose plan is
abbrev pub Aims : Rows → Given → Request → List (List ℕ) → Result Aim Refusal → Contents → Contents → Type 0
Aims r given request segments done m n = Same m n × Comes (IsFound m r given request segments) done

-- what is found for a PUT of which this was made
abbrev pub IsPutPlan : Contents → Rows → Given → Prepared → Result Plan Refusal → Type 0
IsPutPlan m r given (prepared.Put (Ok ready)) found = Gives found (put_ready m r given ready)
IsPutPlan m r given (prepared.Put (Err refusal)) found = found ≡ Err refusal
IsPutPlan m r given prepared.Other found = found ≡ Err Failed

abbrev pub PutsPrepared : Rows → Given → Prepared → Result Plan Refusal → Contents → Contents → Type 0
PutsPrepared r given made result m n = Same m n × IsPutPlan m r given made result
