-- The three parts of a request are its answer.
use Rattle.std.proofs.Common.{◌≡◌, inl, inr, ℕ, List, Option, Result, Ok, Err, refl, sym, ap, subst}
use Rattle.nb_doc.specs.declared.notebook.Notebook.{Notebook}
use Rattle.nb_doc.specs.Writing.{notebook_form}
use Rattle.serde_json.specs.Data.{Data}
use Rattle.js_contents.specs.Forms.{file_form, json_form}
use Rattle.js_contents.specs.Notebooks.{notebook_in}
use Rattle.js_contents.specs.Puts.{ready_put}
use Rattle.js_contents.specs.Reads.{shown, file_plan, item_plan, IsOpenedPlan}
use Rattle.js_contents.specs.Stores.{put_ready, put_plan}
use Rattle.js_contents.specs.declared.put.Ready.{Ready}
use Rattle.js_http.specs.Targets.{segments_of}
use Rattle.js_http.specs.declared.request.Request.{Request}
use Rattle.js_http.specs.declared.response.ErrorStatus.{ErrorStatus}
use Rattle.js_shelf.specs.declared.item.Item.{Item}
use Rattle.js_shelf.specs.declared.item.Item.TheVariants as item
use Rattle.js_shelf.specs.declared.opened.Opening.{Opening}
use Rattle.js_shelf.specs.Shelves.{Contents, Same}
use Rattle.js_tables.specs.declared.forms.About.{About}
use Rattle.js_tables.specs.declared.forms.Kind.{Kind}
use Rattle.js_tables.specs.declared.forms.Kind.TheVariants as kind
use Rattle.js_tables.specs.declared.given.Given.{Given}
use Rattle.js_tables.specs.declared.plan.Answer.{Answer}
use Rattle.js_tables.specs.declared.plan.Command.{Command}
use Rattle.js_tables.specs.declared.plan.Plan.{Plan}
use Rattle.js_tables.specs.declared.refusal.Refusal.{Refusal}
use Rattle.js_tables.specs.declared.refusal.Refusal.TheVariants.{Status, Failed}
use Rattle.js_tables.specs.Plans.{◌>>=◌, Gives}
use Rattle.js_tables.specs.Tables.{Rows}
use Rattle.js_rest.specs.declared.parts.Outcome.{Outcome}
use Rattle.js_rest.specs.declared.parts.Outcome.TheVariants as outcome
use Rattle.js_rest.specs.declared.parts.Prepared.{Prepared}
use Rattle.js_rest.specs.declared.parts.Prepared.TheVariants as prepared
use Rattle.js_rest.specs.declared.route.Route.{Route}
use Rattle.js_rest.specs.declared.untold.Untold.{Untold}
use Rattle.js_rest.specs.Answers.{path_of, CarriesOut, CarriesOutAlone, Follows, FollowsAlone, IsAnswer, IsAnswerAlone}
use Rattle.js_rest.specs.Contents.{IsPutPlan}
use Rattle.js_rest.specs.Parts.{IsPrepared, Steps, StepsAlone, answer_of, Finishes}

-- ---- what was made of a PUT

made_ok : (m : Contents) (r : Rows) (given : Given) (text : List ℕ) (segments : List (List ℕ)) (ready : Ready) (found : Result Plan Refusal)
    → ready_put text segments ≡ Ok ready → Gives found (put_ready m r given ready) → Gives found (put_plan m r given text segments)
made_ok m r given text segments ready found e h = subst (Gives found) (sym (ap (λ (x : Result Ready ErrorStatus). x >>= put_ready m r given) e)) h

pub put_made : (m : Contents) (r : Rows) (given : Given) (request : Request) (made : Prepared) (found : Result Plan Refusal)
    → IsPrepared request made → IsPutPlan m r given made found → Gives found (put_plan m r given request.body (segments_of (path_of request)))
put_made m r given request (prepared.Put (Ok ready)) found e h = made_ok m r given request.body (segments_of (path_of request)) ready found e h
put_made m r given request (prepared.Put (Err (Status s))) found e h =
    let form = put_plan m r given request.body (segments_of (path_of request)) in
    let refused : form ≡ Err s = ap (λ (x : Result Ready ErrorStatus). x >>= put_ready m r given) e in
    subst (λ (x : Result Plan Refusal). Gives x form) (sym h) refused
put_made m r given request (prepared.Put (Err Failed)) found e h =
    subst (λ (x : Result Plan Refusal). Gives x (put_plan m r given request.body (segments_of (path_of request)))) (sym h) tt
put_made m r given request prepared.Other found e h =
    subst (λ (x : Result Plan Refusal). Gives x (put_plan m r given request.body (segments_of (path_of request)))) (sym h) tt

-- ---- the plan of a file only replies

abbrev IsShown : Plan → Type 0
IsShown plan = (d : Data) × (plan ≡ shown d)

notebook_shown : (about : About) (x : Result Notebook ErrorStatus) (plan : Plan) → (x >>= λ n. Ok (shown (json_form about (notebook_form n)))) ≡ Ok plan → IsShown plan
notebook_shown about (Ok n) plan e = let same : shown (json_form about (notebook_form n)) ≡ plan = cc in (json_form about (notebook_form n), sym same)
notebook_shown about (Err s) plan e = cc

file_shown : (k : Kind) (about : About) (bytes : List ℕ) (plan : Plan) → file_plan k about bytes ≡ Ok plan → IsShown plan
file_shown kind.Notebook about bytes plan e = notebook_shown about (notebook_in bytes) plan e
file_shown kind.File about bytes plan e = let same : shown (file_form about bytes) ≡ plan = cc in (file_form about bytes, sym same)
file_shown kind.Directory about bytes plan e = let same : shown (file_form about bytes) ≡ plan = cc in (file_form about bytes, sym same)

item_shown : (about : About) (x : Item) (plan : Plan) → item_plan about x ≡ Ok plan → IsShown plan
item_shown about (item.File bytes) plan e = file_shown about.kind about bytes plan e
item_shown about item.Folder plan e = cc

opened_shown : (about : About) (x : Opening) (plan : Plan) → IsOpenedPlan about x (Ok plan) → IsShown plan
opened_shown about x plan (inl failed) = cc
opened_shown about x plan (inr g) = item_shown about g.0 plan g.2

-- ---- the three parts

module _ {L : Type 0} (begins : L → List ℕ → L → Type 0) (tells : L → List ℕ → Command → Result (Unit {0}) Untold → L → Type 0) where
  replied : (plan : Plan) (r s : Rows) (l k : L) (answer : Answer) (m n : Contents) → IsShown plan → s ≡ r → k ≡ l → Same m n → answer ≡ plan.answer
      → CarriesOut begins tells plan r s l k answer m n
  replied plan r s l k answer m n is rows same left h =
      subst (λ (p : Plan). answer ≡ p.answer → CarriesOut begins tells p r s l k answer m n) (sym is.1) (λ j. inr (Ok tt, r, (refl, refl, same, left), (rows, j))) h

  replied_alone : (plan : Plan) (r s : Rows) (l k : L) (answer : Answer) → IsShown plan → s ≡ r → k ≡ l → answer ≡ plan.answer → CarriesOutAlone begins tells plan r s l k answer
  replied_alone plan r s l k answer is rows same h =
      subst (λ (p : Plan). answer ≡ p.answer → CarriesOutAlone begins tells p r s l k answer) (sym is.1) (λ j. inr (Ok tt, r, (refl, refl, same), (rows, j))) h

  follows : (about : About) (x : Opening) (found : Result Plan Refusal) (r s : Rows) (l k : L) (answer : Answer) (m n : Contents)
      → IsOpenedPlan about x found → s ≡ r → k ≡ l → Same m n → answer ≡ answer_of found → Follows begins tells found r s l k answer m n
  follows about x (Ok plan) r s l k answer m n g rows same left h = replied plan r s l k answer m n (opened_shown about x plan g) rows same left h
  follows about x (Err refusal) r s l k answer m n g rows same left h = (h, (rows, same, left))

  follows_alone : (about : About) (x : Opening) (found : Result Plan Refusal) (r s : Rows) (l k : L) (answer : Answer)
      → IsOpenedPlan about x found → s ≡ r → k ≡ l → answer ≡ answer_of found → FollowsAlone begins tells found r s l k answer
  follows_alone about x (Ok plan) r s l k answer g rows same h = replied_alone plan r s l k answer (opened_shown about x plan g) rows same h
  follows_alone about x (Err refusal) r s l k answer g rows same h = (h, (rows, same))

  pub composed : (given : Given) (request : Request) (r s : Rows) (l k : L) (o : Outcome) (answer : Answer) (m n : Contents)
      → Steps begins tells given request r s l k o m n → Finishes o answer → IsAnswer begins tells given request r s l k answer m n
  composed given request r s l k (outcome.Answered a) answer m n h f = subst (λ (x : Answer). IsAnswer begins tells given request r s l k x m n) (sym f) h
  composed given request r s l k (outcome.Shown about x) answer m n h f =
      (f.0, h.1 f.0 f.1, follows about x f.0 r s l k answer m n f.1 h.0.0 h.0.1 h.0.2 f.2)

  pub composed_alone : (path : Option Route) (given : Given) (request : Request) (r s : Rows) (l k : L) (o : Outcome) (answer : Answer)
      → StepsAlone begins tells path given request r s l k o → Finishes o answer → IsAnswerAlone begins tells path given request r s l k answer
  composed_alone path given request r s l k (outcome.Answered a) answer h f = subst (λ (x : Answer). IsAnswerAlone begins tells path given request r s l k x) (sym f) h
  composed_alone path given request r s l k (outcome.Shown about x) answer h f =
      (f.0, h.1 f.0 f.1, follows_alone about x f.0 r s l k answer f.1 h.0.0 h.0.1 f.2)
