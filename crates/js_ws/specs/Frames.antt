-- To be believed.
-- What sending entries writes: of each the frame of its message, as a text or as a binary message (RFC 6455, section 5.2).
use Rattle.std.specs.Prelude.{◌≡◌, ℕ, ◌+◌, List, [], ◌∷◌, ◌++◌, length, codes, decimal, Option, None, Some, string_bytes}
use Rattle.std.specs.Io.KnownBytes.{Appends}
use Rattle.tungstenite.specs.Connection.{whole_header}
use Rattle.tungstenite.specs.Frame.{encode_frame}
use Rattle.tungstenite.specs.Socket.{Socket}
use Rattle.websocket.specs.declared.protocol.frame.coding.OpCode.TheVariants as Op
use Rattle.websocket.specs.declared.protocol.frame.coding.Data.TheVariants as Data
use Rattle.jp_msg.specs.declared.message.Channel.{Channel}
use Rattle.jp_msg.specs.declared.message.Message.{Message}
use Rattle.jp_msg.specs.declared.message.Output.{Output}
use Rattle.jp_msg.specs.Building.{kernel_message}
use Rattle.jp_msg.specs.Writing.{message_text}
use Rattle.jk_log.specs.declared.entry.Entry.{Entry}
use Rattle.jk_log.specs.declared.entry.Told.{Told}
use Rattle.jk_log.specs.declared.entry.Told.TheVariants as told
use Rattle.js_ws.specs.Serialized.{serialized, parts_of}
use Rattle.js_ws.specs.declared.names.Names.{Names}
use Rattle.js_ws.specs.declared.payload.Payload.{Payload}
use Rattle.js_ws.specs.declared.payload.Payload.TheVariants as payload
use Rattle.js_ws.specs.declared.protocol.Protocol.{Protocol}
use Rattle.js_ws.specs.declared.protocol.Protocol.TheVariants.{Default, V1}

-- the identifier of the message that a channel sends after n others
abbrev pub id_of : Names → ℕ → List ℕ
id_of names n = names.id ++ (codes "_" ++ decimal n)

-- the message of an output for a request
abbrev pub output_message : Names → List ℕ → ℕ → Channel → Output → Message → Message
output_message names date n channel o parent = kernel_message (id_of names n) names.session date parent channel o

abbrev pub message_for : Names → List ℕ → ℕ → Channel → Told → Option Message → Option Message
message_for names date n channel (told.Output o) (Some parent) = Some (output_message names date n channel o parent)
message_for names date n channel (told.Output o) None = None
message_for names date n channel (told.Joined s j) parent = None
message_for names date n channel (told.Left s j) parent = None

-- the message that an entry is sent as: an output for a request. Another entry is nothing that is sent.
abbrev pub message_of_entry : Names → List ℕ → ℕ → Entry → Option Message
message_of_entry names date n e = message_for names date n e.channel e.content e.parent

-- the frame of a text, as a server sends it, and that of a binary message
abbrev pub text_frame : List ℕ → List ℕ
text_frame bs = encode_frame (whole_header (Op.Data Data.Text) None) bs

abbrev pub binary_frame : List ℕ → List ℕ
binary_frame bs = encode_frame (whole_header (Op.Data Data.Binary) None) bs

-- the frame of a message
abbrev pub message_frame : Protocol → Message → List ℕ
message_frame Default m = text_frame (message_text m)
message_frame V1 m = binary_frame (serialized (parts_of m))

abbrev pub frame_or_none : Protocol → Option Message → List ℕ
frame_or_none protocol None = []
frame_or_none protocol (Some m) = message_frame protocol m

abbrev pub frame_of : Names → List ℕ → ℕ → Entry → List ℕ
frame_of names date n e = frame_or_none names.protocol (message_of_entry names date n e)

-- the frame of what was made of an entry
abbrev pub payload_frame : Payload → List ℕ
payload_frame (payload.Text s) = text_frame (string_bytes s)
payload_frame (payload.Binary v) = binary_frame v.items
payload_frame payload.Nothing = []

-- the frames of entries, sent one after another
abbrev pub frames_of : Names → List ℕ → ℕ → List Entry → List ℕ
frames_of names date n [] = []
frames_of names date n (e ∷ es) = frame_of names date n e ++ frames_of names date (n + 1) es

-- the bytes written end with these
abbrev pub EndsIn : Option (List ℕ) → List ℕ → Type 0
EndsIn written bytes = (front : List ℕ) × (written ≡ Some (front ++ bytes))

module _ {S : Type 0} where
  -- what waited and then these bytes went to the stream, and nothing waits
  abbrev pub Wrote : (S → Option (List ℕ)) → Socket S → Socket S → List ℕ → Type 0
  Wrote contents old new bytes =
      Appends (contents old.stream) (contents new.stream) (old.output ++ bytes) × (new.output ≡ []) × (new.conn ≡ old.conn)

  -- the frames of these entries went to the stream after what waited; where there are none, nothing was done
  abbrev pub SentAll : (S → Option (List ℕ)) → Names → List ℕ → ℕ → Socket S → Socket S → List Entry → Type 0
  SentAll contents names date n old new [] = new ≡ old
  SentAll contents names date n old new (e ∷ es) = Wrote contents old new (frames_of names date n (e ∷ es))

  -- each state of such a stream tells its bytes
  abbrev pub Tells : (S → Option (List ℕ)) → Type 0
  Tells contents = (s : S) → (bytes : List ℕ) × (contents s ≡ Some bytes)
