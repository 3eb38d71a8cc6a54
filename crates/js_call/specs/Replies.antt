-- To be believed.
-- What a reply has to do with the request that it answers.
use Rattle.std.specs.Prelude.{◌≡◌, ◌⊎◌, ℕ, List, Option, codes}
use Rattle.js_http.specs.declared.method.Method.TheVariants.{Delete}
use Rattle.js_http.specs.declared.request.Request.{Request}
use Rattle.js_http.specs.declared.response.ErrorStatus.TheVariants as status
use Rattle.js_http.specs.declared.response.Response.{Response as HttpResponse}
use Rattle.js_http.specs.declared.response.Response.TheVariants as response
use Rattle.js_rest.specs.Answers.{path_of}
use Rattle.js_rest.specs.Parts.{Steps, StepsAlone}
use Rattle.js_rest.specs.Routes.{route_of}
use Rattle.js_rest.specs.declared.parts.Outcome.{Outcome}
use Rattle.js_rest.specs.declared.parts.Outcome.TheVariants as outcome
use Rattle.js_shelf.specs.Shelves as shelves
use Rattle.js_shelf.specs.Shelves.{Contents}
use Rattle.js_tables.specs.Tables.{Rows}
use Rattle.js_tables.specs.declared.given.Given.{Given}
use Rattle.js_tables.specs.declared.plan.Answer.TheVariants as answer
use Rattle.js_ws.specs.Handshakes.{IsHandshake, protocol_of, switch_for}
use Rattle.js_kernels.specs.Hosting.{IsPlaceAt}
use Rattle.js_kernels.specs.Told as kernels
use Rattle.js_kernels.specs.Told.{KernelState}
use Rattle.js_call.specs.declared.call.Reply.{Reply}
use Rattle.js_call.specs.declared.call.Reply.TheVariants.{Response, Shown, Last, Channel, Page}
use Rattle.js_call.specs.declared.call.Upgrade.{Upgrade}

-- The step for this request came to this, over some tables, kernels and files, as they were before it and after it, as far as a shelf tells these. What concerns
-- neither contents nor a new session is so whatever it tells.
pub record CameTo (request : Request) (what : Outcome) : Type 0 where
  pub given : Given
  pub before : Rows
  pub after : Rows
  pub ran : List KernelState
  pub run : List KernelState
  pub old : Option Contents
  pub new : Option Contents
  pub shelf : shelves.Tells old new (Steps kernels.Begins kernels.Tells given request before after ran run what)
  pub alone : StepsAlone kernels.Begins kernels.Tells (route_of (path_of request)) given request before after ran run what

-- memory or a thread was refused; or all places are lent, or the server stops
abbrev pub IsUnserved : HttpResponse → Type 0
IsUnserved r = (r ≡ response.Refused status.InternalServerError) ⊎ (r ≡ response.Refused status.ServiceUnavailable)

-- the switch of protocols that a request asks for
abbrev pub IsSwitch : Request → HttpResponse → Type 0
IsSwitch request r = (key : List ℕ) × IsHandshake request key × (r ≡ switch_for key (protocol_of request))

-- an end was asked for: it is a DELETE, or the step came to this that a kernel ends
abbrev pub AsksEnd : Request → Type 0
AsksEnd request = (request.method ≡ Delete) ⊎ ((id : List ℕ) × CameTo request (outcome.Answered (answer.Ends id)))

-- the channels of a kernel were asked for; and that by a handshake, or by none
abbrev pub AsksChannels : Request → Type 0
AsksChannels request = (id : List ℕ) × CameTo request (outcome.Answered (answer.Channels id))

abbrev pub HasHandshake : Request → Type 0
HasHandshake request = AsksChannels request × ((key : List ℕ) × IsHandshake request key)

abbrev pub LacksHandshake : Request → Type 0
LacksHandshake request = AsksChannels request × ((key : List ℕ) → ¬ (IsHandshake request key))

-- It is the response that the step came to, the 204 of an end, the 400 of a request for channels that is no handshake, the 404 of one that is (where the
-- kernel has ended since), or a refusal of 500 or 503. Why it is refused is not said.
abbrev pub IsResponse : Request → HttpResponse → Type 0
IsResponse request r =
    CameTo request (outcome.Answered (answer.Reply r))
    ⊎ (((r ≡ response.NoContent) × AsksEnd request)
    ⊎ (((r ≡ response.Refused status.BadRequest) × LacksHandshake request)
    ⊎ (((r ≡ response.Refused status.NotFound) × HasHandshake request)
    ⊎ IsUnserved r)))

module _ {L S T M : Type 0} where
  -- the switch of protocols, and a place at the kernel whose channels are asked for
  abbrev pub Switches : Request → HttpResponse → Upgrade L S T M → Type 0
  Switches request r upgrade =
      CameTo request (outcome.Answered (answer.Channels upgrade.names.session))
      × IsSwitch request r
      × (upgrade.names.protocol ≡ protocol_of request)
      × ((running : List KernelState) × IsPlaceAt upgrade.names.session running upgrade.place)

  -- a reply to a request
  abbrev pub IsReply : Request → Reply L S T M → Type 0
  IsReply request (Response r) = IsResponse request r
  IsReply request (Shown about opening) = CameTo request (outcome.Shown about opening)
  IsReply request (Last r) = CameTo request (outcome.Answered answer.Stops) × (r ≡ response.Success (codes "{}"))
  IsReply request (Channel r upgrade) = Switches request r upgrade
  IsReply request Page = CameTo request (outcome.Answered answer.Page)
