-- To be believed.
-- Who asks, what each asked, and what may be replied.
use Rattle.std.specs.Prelude.{◌≡◌, Option, IfSome}
use Rattle.js_desk.specs.Askers.{AskersState, answered_now, asked_by}
use Rattle.js_http.specs.declared.request.Request.{Request}
use Rattle.js_desk.specs.declared.asker.Cause.{Cause}
use Rattle.js_desk.specs.declared.asker.Cause.TheVariants.{Ended, Failed, Stops}
use Rattle.js_http.specs.declared.response.ErrorStatus.TheVariants.{InternalServerError, ServiceUnavailable}
use Rattle.js_http.specs.declared.response.Response.{Response}
use Rattle.js_http.specs.declared.response.Response.TheVariants.{NoContent, Refused}
use Rattle.js_lend.specs.Ends.{lent_by}
use Rattle.js_call.specs.Exchanging.{HasAsked, IsReplied}
use Rattle.js_call.specs.Replies.{AsksEnd, IsResponse}
use Rattle.js_call.specs.declared.call.Call.{Call}
use Rattle.js_call.specs.declared.call.Call.TheVariants.{Accepted, Asked, Back, Written, Pulse}
use Rattle.js_call.specs.declared.call.Reply.{Reply}
use Rattle.js_call.specs.declared.client.Client.{Client}
use Rattle.js_call.specs.declared.exchange.Exchange.{Exchange}
use Rattle.js_call.specs.declared.asking.Matter.{Matter}
use Rattle.js_call.specs.declared.asking.Matter.TheVariants as matter

-- what is replied for a cause
abbrev pub response_for : Cause → Response
response_for Ended = NoContent
response_for Failed = Refused InternalServerError
response_for Stops = Refused ServiceUnavailable

module _ {L S T M : Type 0} where
  -- the exchange that a client lent, as it was then
  abbrev pub exchange_of : Client L S T M → Exchange L S T M
  exchange_of client = lent_by client.lease.back

  -- this is what a client asked, and it asked nothing else
  abbrev pub asks : Request → Client L S T M → Type 0
  asks request client = HasAsked request (exchange_of client)

  -- this is a reply to what a client asked; so is this response; and it asked for an end
  abbrev pub Replies : Reply L S T M → Client L S T M → Type 0
  Replies reply client = IsReplied reply (exchange_of client)

  abbrev pub Responds : Response → Client L S T M → Type 0
  Responds response client = (request : Request) × asks request client × IsResponse request response

  abbrev pub WantsEnd : Client L S T M → Type 0
  WantsEnd client = (request : Request) × asks request client × AsksEnd request

  -- whoever asks by a call is to be answered now; no other call changes who asked
  abbrev pub Admits : Call L S T M → AskersState (Client L S T M) → AskersState (Client L S T M) → Type 0
  Admits (Accepted guest) old new = new ≡ old
  Admits (Asked question) old new = new ≡ asked_by question.client (answered_now old)
  Admits Back old new = new ≡ old
  Admits Written old new = new ≡ old
  Admits Pulse old new = new ≡ old

  -- a request that goes on is what whoever is to be answered now asked
  abbrev pub IsAskedNow : Matter → Option (Client L S T M) → Type 0
  IsAskedNow (matter.Accepted guest) turn = Unit {0}
  IsAskedNow (matter.Asked request) turn = IfSome turn (asks request)
  IsAskedNow matter.Back turn = Unit {0}
  IsAskedNow matter.Written turn = Unit {0}
  IsAskedNow matter.Pulse turn = Unit {0}
