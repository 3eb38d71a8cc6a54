-- To be believed.
-- A request in three parts: what is made of its body, the step over the tables, the kernels and the shelf, and the answer.
use Rattle.std.specs.Prelude.{◌≡◌, ◌≢◌, ℕ, List, Option, Result, Ok, Err}
use Rattle.js_contents.specs.Puts.{ready_put}
use Rattle.js_contents.specs.Reads.{IsOpenedPlan, Comes}
use Rattle.js_contents.specs.declared.read.Aim.{Aim}
use Rattle.js_http.specs.Origins.{is_own}
use Rattle.js_http.specs.Targets.{segments_of}
use Rattle.js_http.specs.declared.method.Method.TheVariants.{Put}
use Rattle.js_http.specs.declared.request.Request.{Request}
use Rattle.js_http.specs.declared.response.Response.TheVariants.{Refused}
use Rattle.js_shelf.specs.Shelves.{Contents, Same}
use Rattle.js_tables.specs.declared.given.Given.{Given}
use Rattle.js_tables.specs.declared.plan.Answer.{Answer}
use Rattle.js_tables.specs.declared.plan.Answer.TheVariants.{Reply}
use Rattle.js_tables.specs.declared.plan.Command.{Command}
use Rattle.js_tables.specs.declared.plan.Plan.{Plan}
use Rattle.js_tables.specs.declared.refusal.Refusal.{Refusal}
use Rattle.js_tables.specs.Plans.{Gives, status_of}
use Rattle.js_tables.specs.Tables.{Rows}
use Rattle.js_rest.specs.declared.parts.Outcome.{Outcome}
use Rattle.js_rest.specs.declared.parts.Outcome.TheVariants as outcome
use Rattle.js_rest.specs.declared.parts.Prepared.{Prepared}
use Rattle.js_rest.specs.declared.parts.Prepared.TheVariants as prepared
use Rattle.js_rest.specs.declared.route.Route.{Route}
use Rattle.js_rest.specs.declared.untold.Untold.{Untold}
use Rattle.js_rest.specs.Answers.{path_of, IsFoundOn, IsFoundAt, IsFound, IsFoundAloneIf, Stays, IsAnswer, StaysAlone, IsAnswerAlone}

-- ---- what was made of a request: of a PUT what is put, and where, by its body and its path alone

abbrev pub IsPrepared : Request → Prepared → Type 0
IsPrepared request (prepared.Put found) = Gives found (ready_put request.body (segments_of (path_of request)))
IsPrepared request prepared.Other = request.method ≢ Put

-- ---- what is to be done for a request: a plan that is found for it, or a file that was opened, whose plan is

abbrev pub AimsOn : Route → Rows → Given → Request → Result Aim Refusal → Contents → Contents → Type 0
AimsOn route r given request done m n = Same m n × Comes (IsFoundOn route m r given request) done

abbrev pub AimsAt : Option Route → Rows → Given → Request → Result Aim Refusal → Contents → Contents → Type 0
AimsAt path r given request done m n = Same m n × Comes (IsFoundAt path m r given request) done

abbrev pub Aims : Rows → Given → Request → Result Aim Refusal → Contents → Contents → Type 0
Aims r given request done m n = Same m n × Comes (IsFound m r given request) done

-- ---- the step

module _ {L : Type 0} (begins : L → List ℕ → L → Type 0) (tells : L → List ℕ → Command → Result (Unit {0}) Untold → L → Type 0) where
  -- The request has its answer. Or a file was opened and is to be read: nothing has changed, and whatever comes of the file is what is
  -- found for the request, over the files as they were at the step.
  abbrev pub Steps : Given → Request → Rows → Rows → L → L → Outcome → Contents → Contents → Type 0
  Steps given request r s l k (outcome.Answered answer) m n = IsAnswer begins tells given request r s l k answer m n
  Steps given request r s l k (outcome.Shown about opening) m n =
      Stays begins tells r s l k m n × ((found : Result Plan Refusal) → IsOpenedPlan about opening found → IsFound m r given request found)

  -- the same without a word on the shelf
  abbrev pub StepsAlone : Option Route → Given → Request → Rows → Rows → L → L → Outcome → Type 0
  StepsAlone path given request r s l k (outcome.Answered answer) = IsAnswerAlone begins tells path given request r s l k answer
  StepsAlone path given request r s l k (outcome.Shown about opening) =
      StaysAlone begins tells r s l k
      × ((found : Result Plan Refusal) → IsOpenedPlan about opening found → IsFoundAloneIf (is_own request.headers) path r given request found)

-- ---- the answer

-- of what was found, where nothing is to be changed
abbrev pub answer_of : Result Plan Refusal → Answer
answer_of (Ok plan) = plan.answer
answer_of (Err refusal) = Reply (Refused (status_of refusal))

abbrev pub Finishes : Outcome → Answer → Type 0
Finishes (outcome.Answered answer) result = result ≡ answer
Finishes (outcome.Shown about opening) result =
    (found : Result Plan Refusal) × IsOpenedPlan about opening found × (result ≡ answer_of found)
