-- What a shelf tells over two calls, of which the first only reads.
use Rattle.std.proofs.Common.{◌≡◌, ℕ, List, Option, Some, None, Result, Ok, inr, subst}
use Rattle.js_http.specs.declared.request.Request.{Request}
use Rattle.js_shelf.specs.Shelves.{Contents, Same, Tells}
use Rattle.js_tables.specs.declared.given.Given.{Given}
use Rattle.js_tables.specs.declared.plan.Answer.{Answer}
use Rattle.js_tables.specs.declared.plan.Command.{Command}
use Rattle.js_tables.specs.declared.plan.Plan.{Plan}
use Rattle.js_tables.specs.Tables.{Rows}
use Rattle.js_rest.specs.declared.untold.Untold.{Untold}
use Rattle.js_contents.specs.declared.read.Aim.TheVariants as aim
use Rattle.js_rest.specs.Answers.{Ends, CarriesOut, CarriesOutAlone, IsAnswer}
use Rattle.js_rest.specs.Parts.{Aims}
use Rattle.js_rest.specs.Changes.{Tries, TriesAlone}
use Rattle.js_http.specs.declared.response.ErrorStatus.{ErrorStatus}

-- what holds over both, where the shelf tells
pub tells_then : (c d e : Option Contents) (P Q R : Contents → Contents → Type 0) → Tells c d P → Tells d e Q → ((m k n : Contents) → P m k → Q k n → R m n) → Tells c e R
tells_then None d e P Q R h j f = tt
tells_then (Some m) None e P Q R h j f = absurd h
tells_then (Some m) (Some k) None P Q R h j f = absurd j
tells_then (Some m) (Some k) (Some n) P Q R h j f = f m k n h j

pub tells_weaker : (c d : Option Contents) (P Q : Contents → Contents → Type 0) → ((m n : Contents) → P m n → Q m n) → Tells c d P → Tells c d Q
tells_weaker None d P Q f h = tt
tells_weaker (Some m) None P Q f h = h
tells_weaker (Some m) (Some n) P Q f h = f m n h

pub tells_same : (c : Option Contents) (Q : Contents → Contents → Type 0) → ((m : Contents) → Q m m) → Tells c c Q
tells_same None Q f = tt
tells_same (Some m) Q f = f m

same_is : (m n : Contents) → Same m n → n ≡ m
same_is m n h = λ i path. h path i

module _ {L : Type 0} (begins : L → List ℕ → L → Type 0) (tells : L → List ℕ → Command → Result (Unit {0}) Untold → L → Type 0) where
  -- the answer of a plan that was found and carried out
  pub answered : (given : Given) (request : Request) (plan : Plan) (r s : Rows) (l k : L) (answer : Answer) (m o n : Contents) → Aims r given request (Ok (aim.Plan plan)) m o → CarriesOut begins tells plan r s l k answer o n → IsAnswer begins tells given request r s l k answer m n
  answered given request plan r s l k answer m o n f h =
      (Ok plan, f.1, subst (λ x. CarriesOut begins tells plan r s l k answer x n) (same_is m o f.0) h)

  -- a change that was tried after room had been made, which changes no row
  pub carried : (plan : Plan) (done : Result (Unit {0}) ErrorStatus) (r q t s : Rows) (l k : L) (answer : Answer) (m n : Contents)
      → q ≡ r → Ends plan done t s answer → Tries begins tells plan.change done q t l k m n → CarriesOut begins tells plan r s l k answer m n
  carried plan done r q t s l k answer m n e j h = inr (done, t, subst (λ x. Tries begins tells plan.change done x t l k m n) e h, j)

  pub carried_alone : (plan : Plan) (done : Result (Unit {0}) ErrorStatus) (r q t s : Rows) (l k : L) (answer : Answer)
      → q ≡ r → Ends plan done t s answer → TriesAlone begins tells plan.change done q t l k → CarriesOutAlone begins tells plan r s l k answer
  carried_alone plan done r q t s l k answer e j h = inr (done, t, subst (λ x. TriesAlone begins tells plan.change done x t l k) e h, j)
