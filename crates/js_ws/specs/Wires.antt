-- What a wire did.
use Rattle.std.specs.Prelude.{◌≡◌, ℕ, List, Option, true}
use Rattle.js_ws.specs.Frames.{Wrote}
use Rattle.js_ws.specs.declared.wire.Wire.{Wire}
use Rattle.js_ws.specs.declared.wire.Sending.{Sending}
use Rattle.js_ws.specs.declared.wire.Sending.TheVariants.{Sent, Held, Failed}

module _ {S : Type 0} where
  -- these bytes were sent; or nothing was done; or the stream has failed
  abbrev pub Sends : (S → Option (List ℕ)) → Wire S → Wire S → List ℕ → Sending → Type 0
  Sends contents old new bytes Sent = Wrote contents old.socket new.socket bytes × (new.failed ≡ old.failed)
  Sends contents old new bytes Held = (new.socket ≡ old.socket) × (new.failed ≡ old.failed)
  Sends contents old new bytes Failed = new.failed ≡ true
