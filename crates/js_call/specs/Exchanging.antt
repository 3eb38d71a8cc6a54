-- To be believed.
-- What a connection lends to the desk for its request, and what that comes back as.
use Rattle.std.specs.Prelude.{◌≡◌, [], ◌∷◌, Some}
use Rattle.js_http.specs.declared.request.Request.{Request}
use Rattle.js_call.specs.Replies.{IsReply}
use Rattle.js_call.specs.declared.call.Reply.{Reply}
use Rattle.js_call.specs.declared.exchange.Exchange.{Exchange}

-- L is the language, and S, T, M are its sessions, trees and machines
module _ {L S T M : Type 0} where
  -- this was asked, and nothing else
  abbrev pub HasAsked : Request → Exchange L S T M → Type 0
  HasAsked request exchange = exchange.asked.items ≡ request ∷ []

  -- this is a reply to what was asked
  abbrev pub IsReplied : Reply L S T M → Exchange L S T M → Type 0
  IsReplied reply exchange = (request : Request) × HasAsked request exchange × IsReply request reply

  -- an exchange comes back as one in which the same was asked, with a reply to that
  abbrev pub ComesBack : Exchange L S T M → Exchange L S T M → Type 0
  ComesBack old new =
      (new.asked.items ≡ old.asked.items) × ((reply : Reply L S T M) × (new.reply ≡ Some reply) × IsReplied reply old)
