-- To be believed.
-- What a message of a WebSocket comes to: one that carries a message of Jupyter, in the channel's protocol, is what a seat
-- sends, by the message's channel. Others are dropped.
use Rattle.std.specs.Prelude.{◌≡◌, ℕ, List, Bool, true, false, Option, None, Some, Result, Ok, Err, ⊤}
use Rattle.std.specs.IoError.{error_kind}
use Rattle.std.specs.declared.io.ErrorKind.TheVariants.{WouldBlock}
use Rattle.tungstenite.specs.Content.{Content, text, binary, ping, pong, close}
use Rattle.tungstenite.specs.Socket.{content_of}
use Rattle.tungstenite.specs.declared.error.Error.{Error}
use Rattle.tungstenite.specs.declared.error.Error.TheVariants as Error
use Rattle.tungstenite.specs.declared.message.Message.{Message as Frame}
use Rattle.json_form.specs.declared.fault.Bad.{Bad}
use Rattle.json_form.specs.declared.fault.Bad.TheVariants as bad
use Rattle.json_form.specs.declared.fault.Fault.{Fault}
use Rattle.jp_msg.specs.declared.message.Channel.{Channel}
use Rattle.jp_msg.specs.declared.message.Channel.TheVariants.{Shell, Control, Stdin, Iopub}
use Rattle.jp_msg.specs.declared.message.Message.{Message}
use Rattle.jp_msg.specs.Reading.{message_at}
use Rattle.jk_log.specs.declared.arrival.What.{What}
use Rattle.jk_log.specs.declared.arrival.What.TheVariants as what
use Rattle.js_ws.specs.Serialized.{message_in}
use Rattle.js_ws.specs.declared.hearing.Heard.{Heard}
use Rattle.js_ws.specs.declared.hearing.Heard.TheVariants as heard
use Rattle.js_ws.specs.declared.protocol.Protocol.{Protocol}
use Rattle.js_ws.specs.declared.protocol.Protocol.TheVariants.{Default, V1}

-- the message on its channel; no message that was read is on the channel of outputs
abbrev pub on_channel : Channel → Message → What
on_channel Shell m = what.Shell m
on_channel Control m = what.Control m
on_channel Stdin m = what.Stdin m
on_channel Iopub m = what.Shell m

abbrev pub said : Result Message Fault → Option What
said (Ok m) = Some (on_channel m.channel m)
said (Err fault) = None

-- what a seat sends by a message of the socket: in the default protocol a text carries a message, in the other a binary message
abbrev pub said_by : Protocol → Content → Option What
said_by Default (text bs) = said (message_at bs)
said_by V1 (binary bs) = said (message_in bs)
said_by Default (binary bs) = None
said_by V1 (text bs) = None
said_by protocol (ping bs) = None
said_by protocol (pong bs) = None
said_by protocol (close frame) = None

-- the stream's time limit ended a read
abbrev pub IsTimeLimit : Error → Type 0
IsTimeLimit (Error.Io cause) = error_kind cause ≡ WouldBlock
IsTimeLimit e = ⊥

-- what is read as a message of Jupyter: only that takes memory beside what the socket takes
abbrev pub IsRead : Protocol → Content → Type 0
IsRead Default (text bs) = ⊤
IsRead V1 (binary bs) = ⊤
IsRead Default (binary bs) = ⊥
IsRead V1 (text bs) = ⊥
IsRead protocol (ping bs) = ⊥
IsRead protocol (pong bs) = ⊥
IsRead protocol (close frame) = ⊥

-- what the reading of a message came to: a fault is want of memory
abbrev pub HearsRead : Result Message Bad → Heard → Type 0
HearsRead (Ok m) (heard.Said w) = w ≡ on_channel m.channel m
HearsRead (Ok m) heard.Other = ⊥
HearsRead (Ok m) heard.Quiet = ⊥
HearsRead (Ok m) heard.Fault = ⊤
HearsRead (Err e) (heard.Said w) = ⊥
HearsRead (Err (bad.Fault f)) heard.Other = ⊤
HearsRead (Err bad.Memory) heard.Other = ⊥
HearsRead (Err e) heard.Quiet = ⊥
HearsRead (Err (bad.Fault f)) heard.Fault = ⊥
HearsRead (Err bad.Memory) heard.Fault = ⊤

-- what is heard where this is said
abbrev pub HearsSaid : Option What → Heard → Type 0
HearsSaid what (heard.Said w) = what ≡ Some w
HearsSaid what heard.Other = what ≡ None
HearsSaid what heard.Quiet = ⊥
HearsSaid what heard.Fault = ⊤

-- what the reader made of what the socket's read answered: a message is a fault only where there was no memory to read it
abbrev pub Hears : Protocol → Result Frame Error → Heard → Type 0
Hears protocol (Ok m) (heard.Said w) = said_by protocol (content_of m) ≡ Some w
Hears protocol (Ok m) heard.Other = said_by protocol (content_of m) ≡ None
Hears protocol (Ok m) heard.Quiet = ⊥
Hears protocol (Ok m) heard.Fault = IsRead protocol (content_of m)
Hears protocol (Err e) (heard.Said w) = ⊥
Hears protocol (Err e) heard.Other = ⊥
Hears protocol (Err e) heard.Quiet = IsTimeLimit e
Hears protocol (Err e) heard.Fault = ¬ (IsTimeLimit e)

abbrev pub is_fault : Heard → Bool
is_fault (heard.Said w) = false
is_fault heard.Other = false
is_fault heard.Quiet = false
is_fault heard.Fault = true

abbrev pub is_quiet : Heard → Bool
is_quiet (heard.Said w) = false
is_quiet heard.Other = false
is_quiet heard.Quiet = true
is_quiet heard.Fault = false
