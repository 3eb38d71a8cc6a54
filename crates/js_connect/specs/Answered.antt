-- To be believed.
-- What a connection answers to the request that it read.
use Rattle.std.specs.Prelude.{◌≡◌, ◌⊎◌, ℕ, List}
use Rattle.js_http.specs.declared.request.Request.{Request}
use Rattle.js_http.specs.declared.response.ErrorStatus.TheVariants.{InternalServerError}
use Rattle.js_http.specs.declared.response.Response.{Response as HttpResponse}
use Rattle.js_http.specs.declared.response.Response.TheVariants as response
use Rattle.js_rest.specs.Parts.{Finishes}
use Rattle.js_rest.specs.declared.parts.Outcome.TheVariants as outcome
use Rattle.js_shelf.specs.declared.opened.Opening.{Opening}
use Rattle.js_tables.specs.declared.forms.About.{About}
use Rattle.js_tables.specs.declared.plan.Answer.TheVariants as answer
use Rattle.js_call.specs.Replies.{IsReply}
use Rattle.js_call.specs.declared.call.Reply.{Reply}
use Rattle.js_call.specs.declared.call.Reply.TheVariants.{Response, Shown, Last, Channel, Page}
use Rattle.js_connect.specs.declared.connection.Next.{Next}
use Rattle.js_connect.specs.declared.connection.Next.TheVariants as next

-- it is so, or the response is 500
abbrev pub OrFails : HttpResponse → Type 0 → Type 0
OrFails r So = So ⊎ (r ≡ response.Refused InternalServerError)

-- what is read of a file that was opened, as a response
abbrev pub ShowsFile : About → Opening → HttpResponse → Type 0
ShowsFile about opening r = Finishes (outcome.Shown about opening) (answer.Reply r)

module _ {L S T M : Type 0} (page : List ℕ) where
  -- the response that a reply tells, and what is done once that was written
  abbrev pub Tells : Reply L S T M → HttpResponse → Next L S T M → Type 0
  Tells (Response r) written what = (written ≡ r) × (what ≡ next.End)
  Tells (Shown about opening) written what = ShowsFile about opening written × (what ≡ next.End)
  Tells (Last r) written what = (written ≡ r) × (what ≡ next.Stop)
  Tells (Channel r upgrade) written what = (written ≡ r) × (what ≡ next.Channel upgrade)
  Tells Page written what = (written ≡ response.Page page) × (what ≡ next.End)

  -- The response is the one that a reply to this very request tells, and so is what is done then; or it is 500, and nothing is done
  abbrev pub IsAnswered : Request → HttpResponse → Next L S T M → Type 0
  IsAnswered request written what =
      ((reply : Reply L S T M) × IsReply request reply × Tells reply written what)
      ⊎ ((written ≡ response.Refused InternalServerError) × (what ≡ next.End))
