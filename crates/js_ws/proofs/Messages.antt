-- What a turn makes its seat send before a `Leave`: messages, and nothing once the stream has failed.
use Rattle.std.proofs.Common.{◌≡◌, ℕ, true, List, [], All, sym, ap, ◌∙◌, refl, subst, true≢false, Option, Some, None, Result, Ok, Err}
use Rattle.std.proofs.lemmas.List.Elements.{All-nil, All-cons, All-same}
use Rattle.tungstenite.specs.Content.{Content, text, binary, ping, pong, close}
use Rattle.tungstenite.specs.Socket.{content_of}
use Rattle.tungstenite.specs.declared.error.Error.{Error}
use Rattle.tungstenite.specs.declared.message.Message.{Message as Frame}
use Rattle.json_form.specs.declared.fault.Fault.{Fault}
use Rattle.jp_msg.specs.declared.message.Channel.{Channel as Sort}
use Rattle.jp_msg.specs.declared.message.Channel.TheVariants as sort
use Rattle.jp_msg.specs.declared.message.Message.{Message}
use Rattle.jp_msg.specs.Reading.{message_at}
use Rattle.jk_log.specs.declared.arrival.Arrival.{Arrival}
use Rattle.jk_log.specs.declared.arrival.What.{What}
use Rattle.jk_log.specs.declared.arrival.What.TheVariants.{Shell, Control, Stdin}
use Rattle.js_ws.specs.Arrivals.{next_arrival, sent_or_held}
use Rattle.js_ws.specs.Hearing.{Hears, on_channel, said, said_by}
use Rattle.js_ws.specs.Serialized.{message_in}
use Rattle.js_ws.specs.Turns.{IsTurn, Listens, came_of}
use Rattle.js_ws.specs.declared.channel.Channel.{Channel}
use Rattle.js_ws.specs.declared.channel.Turn.{Turn}
use Rattle.js_ws.specs.declared.hearing.Heard.{Heard}
use Rattle.js_ws.specs.declared.hearing.Heard.TheVariants as heard
use Rattle.js_ws.specs.declared.protocol.Protocol.{Protocol}
use Rattle.js_ws.specs.declared.protocol.Protocol.TheVariants.{Default, V1}
use Rattle.js_ws.specs.declared.wire.Wire.{Wire}

-- it holds of each message, on each channel on which a seat sends
abbrev pub OfMessages : (What → Type 0) → Type 0
OfMessages P = (m : Message) → P (Shell m) × P (Control m) × P (Stdin m)

module _ (P : What → Type 0) (each : OfMessages P) where
  by_channel : (channel : Sort) (m : Message) → P (on_channel channel m)
  by_channel sort.Shell m = (each m).0
  by_channel sort.Control m = (each m).1
  by_channel sort.Stdin m = (each m).2
  by_channel sort.Iopub m = (each m).0

  by_said : (r : Result Message Fault) (w : What) → said r ≡ Some w → P w
  by_said (Ok m) w e =
      let is : on_channel m.channel m ≡ w = cc e in
      subst P is (by_channel m.channel m)
  by_said (Err f) w e = absurd (cc e)

  by_content : (protocol : Protocol) (c : Content) (w : What) → said_by protocol c ≡ Some w → P w
  by_content Default (text bs) w e = by_said (message_at bs) w e
  by_content Default (binary bs) w e = absurd (cc e)
  by_content Default (ping bs) w e = absurd (cc e)
  by_content Default (pong bs) w e = absurd (cc e)
  by_content Default (close frame) w e = absurd (cc e)
  by_content V1 (text bs) w e = absurd (cc e)
  by_content V1 (binary bs) w e = by_said (message_in bs) w e
  by_content V1 (ping bs) w e = absurd (cc e)
  by_content V1 (pong bs) w e = absurd (cc e)
  by_content V1 (close frame) w e = absurd (cc e)

  by_read : (protocol : Protocol) (r : Result Frame Error) (w : What) → Hears protocol r (heard.Said w) → P w
  by_read protocol (Ok m) w h = by_content protocol (content_of m) w h
  by_read protocol (Err e) w h = absurd h

  module _ {W : Type 0} where
    by_heard : (remaining : W → Option (List ℕ)) (old new : Wire W) (before now : Option What) (h : Option Heard) (place : ℕ) (sent : List Arrival)
        → Listens remaining old new before now h → All (λ (a : Arrival). P a.what) (came_of place sent h)
    by_heard remaining old new before now None place sent l = All-nil (λ (a : Arrival). P a.what)
    by_heard remaining old new before now (Some (heard.Said w)) place sent l =
        All-cons (λ (a : Arrival). P a.what) (next_arrival place sent w) [] (by_read old.names.protocol l.1.0 w l.1.2) (All-nil (λ (a : Arrival). P a.what))
    by_heard remaining old new before now (Some heard.Other) place sent l = All-nil (λ (a : Arrival). P a.what)
    by_heard remaining old new before now (Some heard.Quiet) place sent l = All-nil (λ (a : Arrival). P a.what)
    by_heard remaining old new before now (Some heard.Fault) place sent l = All-nil (λ (a : Arrival). P a.what)

    module _ {L S T M : Type 0} where
      -- what holds of each message holds of all that came in a turn
      pub came_as_messages : (remaining contents : W → Option (List ℕ)) (date : List ℕ) (old new : Channel W L S T M) (turn : Turn)
          → (t : IsTurn remaining contents date old new turn) → All (λ (a : Arrival). P a.what) t.came
      came_as_messages remaining contents date old new turn t =
          let place = old.outbox.seat.place in
          let sent = sent_or_held old.outbox in
          All-same (λ (a : Arrival). P a.what) t.came (came_of place sent t.heard) t.comes
          (by_heard remaining old.wire t.mid old.outbox.hand t.hand t.heard place sent t.hears)

module _ {W : Type 0} where
  none_heard : (remaining : W → Option (List ℕ)) (old new : Wire W) (before now : Option What) (h : Option Heard) (place : ℕ) (sent : List Arrival)
      → Listens remaining old new before now h → old.failed ≡ true → (came_of place sent h ≡ []) × (new.failed ≡ true)
  none_heard remaining old new before now None place sent l failed = (refl, ap (λ (w : Wire W). w.failed) l.0 ∙ failed)
  none_heard remaining old new before now (Some h) place sent l failed = absurd (true≢false (sym failed ∙ l.0))

  module _ {L S T M : Type 0} where
    -- once the stream has failed nothing comes in a turn, and it has failed still
    pub none_came : (remaining contents : W → Option (List ℕ)) (date : List ℕ) (old new : Channel W L S T M) (turn : Turn)
        → (t : IsTurn remaining contents date old new turn) → old.wire.failed ≡ true → (t.came ≡ []) × (new.wire.failed ≡ true)
    none_came remaining contents date old new turn t failed =
        let none = none_heard remaining old.wire t.mid old.outbox.hand t.hand t.heard old.outbox.seat.place (sent_or_held old.outbox) t.hears failed in
        (t.comes ∙ none.0, t.stays_failed none.1)
