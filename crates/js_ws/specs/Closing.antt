-- To be believed.
-- How a channel tells a frontend that its kernel is gone: by a Close frame of the status 1001, "going away" (RFC 6455, sections 5.5.1
-- and 7.4.1).
use Rattle.std.specs.Prelude.{ℕ, List, [], Option, Some}
use Rattle.websocket.specs.declared.protocol.frame.coding.CloseCode.{CloseCode}
use Rattle.websocket.specs.declared.protocol.frame.coding.CloseCode.TheVariants.{Away}

abbrev pub gone : Option (CloseCode × List ℕ)
gone = Some (Away, [])
