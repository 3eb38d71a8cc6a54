-- What may be replied to whoever is to be answered now.
use Rattle.std.proofs.Common.{◌≡◌, List, [], ◌∷◌, length, Option, None, Some, IfSome, refl, inl, inr, arith}
use Rattle.js_desk.specs.declared.asker.Cause.{Cause}
use Rattle.js_desk.specs.declared.asker.Cause.TheVariants.{Ended, Failed, Stops}
use Rattle.js_http.specs.declared.request.Request.{Request}
use Rattle.js_http.specs.declared.response.ErrorStatus.{ErrorStatus}
use Rattle.js_http.specs.declared.response.Response.{Response}
use Rattle.js_http.specs.declared.response.Response.TheVariants.{Refused}
use Rattle.js_call.specs.Asking.{asks, exchange_of, Replies, Responds, WantsEnd, response_for}
use Rattle.js_call.specs.Replies.{AsksEnd, IsResponse, IsReply, IsUnserved}
use Rattle.js_call.specs.declared.call.Reply.{Reply}
use Rattle.js_call.specs.declared.call.Reply.TheVariants.{Response as Responded}
use Rattle.js_call.specs.declared.client.Client.{Client}

-- the one thing that was asked
only : (asked : List Request) → length asked ≡ 1 → (request : Request) × (asked ≡ request ∷ [])
only [] once = absurd (omega (arith, once))
only (request ∷ []) once = (request, refl)
only (request ∷ more ∷ rest) once = absurd (omega (arith, once))

module _ {L S T M : Type 0} where
  pub answers : (reply : Reply L S T M) (request : Request) (turn : Option (Client L S T M)) → IfSome turn (asks request)
      → IsReply request reply → IfSome turn (Replies reply)
  answers reply request None asked is = tt
  answers reply request (Some client) asked is = (request, asked, is)

  pub responds : (response : Response) (request : Request) (turn : Option (Client L S T M)) → IfSome turn (asks request)
      → IsResponse request response → IfSome turn (Responds response)
  responds response request None asked is = tt
  responds response request (Some client) asked is = (request, asked, is)

  pub wants_end : (request : Request) (turn : Option (Client L S T M)) → IfSome turn (asks request)
      → AsksEnd request → IfSome turn WantsEnd
  wants_end request None asked end = tt
  wants_end request (Some client) asked end = (request, asked, end)

  unserved : (r : Response) (client : Client L S T M) → IsUnserved r → Replies (Responded r) client
  unserved r client is = let one = only (exchange_of client).asked.items client.once in (one.0, one.1, inr (inr (inr (inr is))))

  -- a refusal is a reply to whatever was asked
  pub refuses : (status : ErrorStatus) (turn : Option (Client L S T M)) → IsUnserved (Refused status)
      → IfSome turn (Replies (Responded (Refused status)))
  refuses status None is = tt
  refuses status (Some client) is = unserved (Refused status) client is

  -- so is what is replied for a cause, where it is an end that was asked for
  pub for_cause : (cause : Cause) (client : Client L S T M) → (cause ≡ Ended → WantsEnd client)
      → Replies (Responded (response_for cause)) client
  for_cause Ended client wants = let want = wants refl in (want.0, want.1, inr (inl (refl, want.2)))
  for_cause Failed client wants = unserved (response_for Failed) client (inl refl)
  for_cause Stops client wants = unserved (response_for Stops) client (inr refl)
