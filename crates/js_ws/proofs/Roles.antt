-- Reading keeps a connection's role.
use Rattle.std.proofs.Common.{◌≡◌, ◌≢◌, ℕ, Bool, true, false, cond, not, codes, nat_lt, length, List, [], ◌∷◌, ◌++◌, drop, Option, None, Some, Result, Ok, Err, refl, ◌∙◌}
use Rattle.websocket.specs.Connection.{Connection, Effect, read_step, can_write, has_allowed_code, on_frame, on_opcode, on_control, on_short_control, on_close, close_effect, on_data, on_data_after, on_message_bytes, deliver, complete_message, check_so_far, check_header, decode_close}
use Rattle.websocket.specs.Content.{Content}
use Rattle.websocket.specs.Frame.{Checked, after_check, check_size}
use Rattle.websocket.specs.declared.error.Error.{Error}
use Rattle.websocket.specs.declared.error.Error.TheVariants.{Protocol}
use Rattle.websocket.specs.declared.error.ProtocolError.TheVariants.{ControlFrameTooBig}
use Rattle.websocket.specs.declared.protocol.frame.codec.FrameStatus.TheVariants.{Complete}
use Rattle.websocket.specs.declared.protocol.frame.coding.CloseCode.{CloseCode}
use Rattle.websocket.specs.declared.protocol.frame.coding.OpCode.{OpCode}
use Rattle.websocket.specs.declared.protocol.frame.coding.OpCode.TheVariants as Op
use Rattle.websocket.specs.declared.protocol.frame.coding.Data.{Data}
use Rattle.websocket.specs.declared.protocol.frame.coding.Data.TheVariants.{Continue, Text, Binary}
use Rattle.websocket.specs.declared.protocol.frame.coding.Control.{Control}
use Rattle.websocket.specs.declared.protocol.frame.coding.Control.TheVariants.{Close, Ping, Pong}
use Rattle.websocket.specs.declared.protocol.incomplete.MessageType.{MessageType}
use Rattle.websocket.specs.declared.protocol.frame.header.FrameHeader.{FrameHeader}
use Rattle.websocket.specs.declared.protocol.frame.coding.CloseCode.TheVariants as Code
use Rattle.websocket.specs.declared.protocol.state.WebSocketState.TheVariants.{ClosedByPeer, CloseAcknowledged}
use Rattle.websocket.proofs.StreamLemmas.{TookFrame, TookFrame_from_read}
use Rattle.tungstenite.specs.Socket.{Socket, Run, Runs, Reads}
use Rattle.tungstenite.specs.Failure.{IsIo}
use Rattle.tungstenite.specs.declared.message.Message.{Message}
use Rattle.tungstenite.specs.declared.error.Error.{Error as SocketError}
use Rattle.tungstenite.specs.declared.error.Error.TheVariants as Its
use Rattle.websocket.specs.declared.protocol.config.Role.TheVariants.{Server}
use Rattle.js_ws.specs.Hearing.{Hears, IsTimeLimit, is_fault}
use Rattle.js_ws.specs.declared.hearing.Heard.{Heard}
use Rattle.js_ws.specs.declared.hearing.Heard.TheVariants as heard
use Rattle.js_ws.specs.declared.protocol.Protocol.{Protocol as Carrier}

abbrev KeepsRole : Connection → Result Effect Error → Type 0
KeepsRole conn r = (effect : Effect) → r ≡ Ok effect → effect.next.role ≡ conn.role

ok_is : {A : Type 0} {a b : A} → ◌≡◌ {A = Result A Error} (Ok a) (Ok b) → b ≡ a
ok_is e = cc e

by_err : (conn : Connection) (e : Error) → KeepsRole conn (Err e)
by_err conn e effect is = absurd (cc is)

by_ok : (conn : Connection) (x : Effect) → x.next.role ≡ conn.role → KeepsRole conn (Ok x)
by_ok conn x h effect is = rw (ok_is is) h

by_check : (conn : Connection) (check : Checked Error) (r : Result Effect Error) → KeepsRole conn r → KeepsRole conn (after_check check r)
by_check conn (Err e) r h = by_err conn e
by_check conn (Ok _) r h = h

by_cond : (conn : Connection) (b : Bool) (r s : Result Effect Error) → KeepsRole conn r → KeepsRole conn s → KeepsRole conn (cond b r s)
by_cond conn true r s h k = h
by_cond conn false r s h k = k

next_cond : (conn : Connection) (b : Bool) (x y : Effect) → x.next.role ≡ conn.role → y.next.role ≡ conn.role → (cond b x y).next.role ≡ conn.role
next_cond conn true x y h k = h
next_cond conn false x y h k = k

by_close : (conn : Connection) (payload : List ℕ) (r : Result (Option (CloseCode × List ℕ)) Error) → KeepsRole conn (on_close conn payload r)
by_close conn payload (Err e) = by_err conn e
by_close conn payload (Ok frame) =
    by_ok conn
    (cond (not (can_write conn.state)) (close_effect conn frame None CloseAcknowledged)
    (cond (has_allowed_code frame) (close_effect conn frame (Some payload) ClosedByPeer)
    (close_effect conn (Some (Code.Protocol, [])) (Some (3 ∷ 234 ∷ codes "Protocol violation")) ClosedByPeer)))
    (next_cond conn (not (can_write conn.state)) (close_effect conn frame None CloseAcknowledged)
    (cond (has_allowed_code frame) (close_effect conn frame (Some payload) ClosedByPeer)
    (close_effect conn (Some (Code.Protocol, [])) (Some (3 ∷ 234 ∷ codes "Protocol violation")) ClosedByPeer))
    refl
    (next_cond conn (has_allowed_code frame) (close_effect conn frame (Some payload) ClosedByPeer)
    (close_effect conn (Some (Code.Protocol, [])) (Some (3 ∷ 234 ∷ codes "Protocol violation")) ClosedByPeer) refl refl))

by_short : (conn : Connection) (control : Control) (payload : List ℕ) → KeepsRole conn (on_short_control conn control payload)
by_short conn Close payload = by_close conn payload (decode_close payload)
by_short conn Pong payload = by_ok conn _ refl
by_short conn Ping payload = by_ok conn _ refl

by_control : (conn : Connection) (control : Control) (is_final : Bool) (payload : List ℕ) → KeepsRole conn (on_control conn control is_final payload)
unfolding on_control
by_control conn control false payload = by_err conn _
by_control conn control true payload =
    by_cond conn (nat_lt 125 (length payload)) (Err (Protocol ControlFrameTooBig)) (on_short_control conn control payload) (by_err conn _) (by_short conn control payload)

by_deliver : (conn : Connection) (r : Result Content Error) → KeepsRole conn (deliver conn r)
by_deliver conn (Err e) = by_err conn e
by_deliver conn (Ok content) = by_ok conn _ refl

by_bytes : (conn : Connection) (kind : MessageType) (is_final : Bool) (bs : List ℕ) → KeepsRole conn (on_message_bytes conn kind is_final bs)
unfolding on_message_bytes
by_bytes conn kind is_final bs =
    by_check conn _ _ (by_cond conn is_final _ _ (by_deliver conn (complete_message kind bs)) (by_check conn _ _ (by_ok conn _ refl)))

by_data : (conn : Connection) (fragments : Option (MessageType × List ℕ)) (kind : Data) (is_final : Bool) (payload : List ℕ) → KeepsRole conn (on_data_after conn fragments kind is_final payload)
by_data conn None Continue is_final payload = by_err conn _
by_data conn None Text is_final payload = by_bytes conn _ is_final payload
by_data conn None Binary is_final payload = by_bytes conn _ is_final payload
by_data conn (Some p) Continue is_final payload = by_bytes conn p.0 is_final (p.1 ++ payload)
by_data conn (Some p) Text is_final payload = by_err conn _
by_data conn (Some p) Binary is_final payload = by_err conn _

by_opcode : (conn : Connection) (op : OpCode) (is_final : Bool) (payload : List ℕ) → KeepsRole conn (on_opcode conn op is_final payload)
unfolding on_data
by_opcode conn (Op.Control control) is_final payload = by_control conn control is_final payload
by_opcode conn (Op.Data kind) is_final payload = by_data conn conn.fragments kind is_final payload

by_frame : (conn : Connection) (h : FrameHeader) (payload : List ℕ) → KeepsRole conn (on_frame conn h payload)
unfolding on_frame
by_frame conn h payload = by_check conn (check_header conn h) _ (by_opcode conn h.opcode h.is_final payload)

step_role : (conn : Connection) (bs : List ℕ) (p : ℕ × Effect) → read_step conn bs ≡ Ok (Complete p) → p.1.next.role ≡ conn.role
step_role conn bs p read =
    let took = TookFrame_from_read conn bs p read in by_frame conn took.header took.payload p.1 took.does

-- a run of frames keeps the role
pub run_role : (c : Connection) (i : List ℕ) (ps : Run) (d : Connection) (j : List ℕ) → Runs c i ps d j → d.role ≡ c.role
run_role c i [] d j h = rw h.0 refl
run_role c i (p ∷ ps) d j h = run_role p.1.next (drop p.0 i) ps d j h.1 ∙ step_role c i p h.0

is_io : (e : SocketError) → IsTimeLimit e → IsIo e
is_io (Its.Io cause) h = tt
is_io Its.ConnectionClosed h = absurd h
is_io Its.AlreadyClosed h = absurd h
is_io (Its.Capacity x) h = absurd h
is_io (Its.Protocol x) h = absurd h
is_io Its.WriteBufferFull h = absurd h
is_io Its.Utf8 h = absurd h
is_io Its.AttackAttempt h = absurd h
is_io (Its.Handshake x) h = absurd h
is_io Its.HandshakeIncomplete h = absurd h
is_io Its.JunkAfterRequest h = absurd h
is_io Its.CustomResponseSuccessful h = absurd h
is_io Its.Url h = absurd h
is_io (Its.Http x) h = absurd h
is_io (Its.Refused x) h = absurd h
is_io Its.OutOfMemory h = absurd h

module _ {S : Type 0} where
  -- after a read that was no fault the connection is a server's still
  pub heard_role : (remaining : S → Option (List ℕ)) (old new : Socket S) (protocol : Carrier) (r : Result Message SocketError) (h : Heard)
      → old.conn.role ≡ Server → Reads remaining old new r → Hears protocol r h → is_fault h ≡ false → new.conn.role ≡ Server
  heard_role remaining old new protocol (Ok m) h serves (ps, got, c, i, sent, runs, gave) hears good = rw gave.1 (run_role _ _ ps c i runs) ∙ serves
  heard_role remaining old new protocol (Err e) (heard.Said w) serves reads hears good = absurd hears
  heard_role remaining old new protocol (Err e) heard.Other serves reads hears good = absurd hears
  heard_role remaining old new protocol (Err e) heard.Quiet serves (ps, got, c, i, sent, runs, gave) hears good =
      let kept = gave.2 (is_io e hears) in rw kept.0 (run_role _ _ ps c i runs) ∙ serves
  heard_role remaining old new protocol (Err e) heard.Fault serves reads hears good = absurd (cc good)
