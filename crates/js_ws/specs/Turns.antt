-- To be believed.
-- What a turn of a channel does.
use Rattle.std.specs.Prelude.{◌≡◌, ◌⊎◌, ℕ, ◌+◌, Bool, true, false, ◌||◌, if◌then◌else◌, List, [], ◌∷◌, ◌++◌, length, Option, None, Some, is_some, Result}
use Rattle.tungstenite.specs.declared.error.Error.{Error}
use Rattle.tungstenite.specs.declared.message.Message.{Message}
use Rattle.tungstenite.specs.Socket.{Reads, IsFresh}
use Rattle.websocket.specs.declared.protocol.config.Role.TheVariants.{Server}
use Rattle.jk_log.specs.declared.arrival.Arrival.{Arrival}
use Rattle.jk_log.specs.declared.arrival.What.{What}
use Rattle.jk_log.specs.declared.arrival.What.TheVariants.{Join}
use Rattle.jk_log.specs.declared.entry.Entry.{Entry}
use Rattle.jk_queues.specs.declared.inbox.Seat.{Seat}
use Rattle.jk_queues.specs.Ends.{seat_inbox, sent_by}
use Rattle.jk_board.specs.declared.follower.Follower.{Follower}
use Rattle.jk_board.specs.Ends.{board_of, read_by}
use Rattle.js_ws.specs.Arrivals.{sent_or_held, arrivals_of, is_due, leave_of, WasFull}
use Rattle.js_ws.specs.Frames.{SentAll, Tells, EndsIn, frames_of}
use Rattle.js_ws.specs.Hearing.{Hears, is_fault, is_quiet}
use Rattle.js_ws.specs.Shutdowns.{has_last}
use Rattle.jk_log.specs.View.{part, has_joined}
use Rattle.js_ws.specs.declared.channel.Channel.{Channel}
use Rattle.js_ws.specs.declared.channel.Turn.{Turn}
use Rattle.js_ws.specs.declared.channel.Turn.TheVariants.{Open, Quiet, Closed}
use Rattle.js_ws.specs.declared.hearing.Heard.{Heard}
use Rattle.js_ws.specs.declared.names.Names.{Names}
use Rattle.js_ws.specs.declared.outbox.Outbox.{Outbox}
use Rattle.js_ws.specs.declared.wire.Wire.{Wire}

-- what was heard, if a message was read, is one arrival after these or none
abbrev pub came_of : ℕ → List Arrival → Option Heard → List Arrival
came_of place sent None = []
came_of place sent (Some heard) = arrivals_of place sent heard

-- whether the stream's time limit ended the read
abbrev pub was_quiet : Option Heard → Bool
was_quiet None = false
was_quiet (Some heard) = is_quiet heard

-- nothing is left to do: the kernel's last entry was found, and all is sent or the stream has failed; or it was not found, and the
-- `Leave` was submitted
abbrev pub is_over : Bool → Bool → Bool → Option What → List Entry → Bool
is_over true failed leaving hand [] = true
is_over true failed leaving hand (e ∷ es) = failed
is_over false failed leaving None held = leaving
is_over false failed leaving (Some w) held = false

-- how a turn is answered in which so many entries were sent
abbrev pub turn_of : Bool → Bool → ℕ → Turn
turn_of over quiet n = if over then Closed n else (if quiet then Quiet n else Open n)

module _ {W : Type 0} where
  -- one message was read, unless the stream had failed before or what was in hand still is
  abbrev pub Listens : (W → Option (List ℕ)) → Wire W → Wire W → Option What → Option What → Option Heard → Type 0
  Listens remaining old new before now None = (new ≡ old) × ((old.failed ≡ true) ⊎ ((is_some now ≡ true) × (now ≡ before)))
  Listens remaining old new before now (Some heard) =
      (old.failed ≡ false) × ((r : Result Message Error) × Reads remaining old.socket new.socket r × Hears old.names.protocol r heard) × (new.failed ≡ is_fault heard)

  -- what was in hand was submitted, and then what was heard, as far as the inbox had room
  pub record Listened (remaining : W → Option (List ℕ)) (old new : Wire W) (before after : Outbox) (quiet : Bool) : Type 0 where
    pub heard : Option Heard
    pub hears : Listens remaining old new before.hand after.hand heard
    pub by_limit : quiet ≡ was_quiet heard
    pub arrivals : sent_or_held after ≡ sent_or_held before ++ came_of before.seat.place (sent_or_held before) heard

  module _ {L S T M : Type 0} where
    abbrev pub over : Channel W L S T M → Bool
    over c = is_over c.feed.ended c.wire.failed c.outbox.leaving c.outbox.hand c.feed.held.items

    -- a channel that has done nothing yet, with its `Join` in hand
    pub record IsNew (c : Channel W L S T M) (stream : W) (names : Names) (seat : Seat) (follower : Follower L S T M) : Type 0 where
      pub fresh : IsFresh c.wire.socket stream Server
      pub named : c.wire.names ≡ names
      pub none_sent : c.wire.sent ≡ 0
      pub good : c.wire.failed ≡ false
      pub seated : c.outbox.seat ≡ seat
      pub joins : c.outbox.hand ≡ Some Join
      pub stays : c.outbox.leaving ≡ false
      pub follows : c.feed.follower ≡ follower
      pub none_held : c.feed.held.items ≡ []
      pub join : c.feed.join ≡ length (sent_by seat) + 1
      pub not_joined : c.feed.joined ≡ false
      pub not_ended : c.feed.ended ≡ false

    -- a turn that took a channel that was not over from `old` to `new`
    pub record IsTurn (remaining contents : W → Option (List ℕ)) (date : List ℕ) (old new : Channel W L S T M) (turn : Turn) : Type 0 where
      -- the message that it read, the wire after that, and what was in hand then
      pub heard : Option Heard
      pub mid : Wire W
      pub hand : Option What
      pub hears : Listens remaining old.wire mid old.outbox.hand hand heard
      -- A message that was read is one arrival exactly where it is a text that is a message, and a `Leave` comes after it where it
      -- is due. With what was sent and in hand before, these are what is sent and in hand now.
      pub came : List Arrival
      pub comes : came ≡ came_of old.outbox.seat.place (sent_or_held old.outbox) heard
      pub due : Bool
      pub when_due : due ≡ is_due new.wire.failed new.feed.ended old.outbox.leaving hand
      pub arrivals : sent_or_held new.outbox
          ≡ (sent_or_held old.outbox ++ came) ++ leave_of due old.outbox.seat.place (sent_or_held old.outbox ++ came)
      pub leaving : new.outbox.leaving ≡ (old.outbox.leaving || due)
      pub waits : is_some hand ≡ true → new.outbox.hand ≡ hand
      -- Something is in hand after the turn only where the inbox had no room for it.
      pub full : is_some new.outbox.hand ≡ true → WasFull new.outbox.seat
      pub seat : (new.outbox.seat.place ≡ old.outbox.seat.place) × (seat_inbox new.outbox.seat ≡ seat_inbox old.outbox.seat)
      pub board : board_of new.feed.follower ≡ board_of old.feed.follower
      -- Of the entries held and then the connection's part of those that the follower gave, the first were sent and the rest is held.
      pub got : List Entry
      pub found : read_by new.feed.follower ≡ read_by old.feed.follower ++ got
      pub front : List Entry
      pub first : old.feed.held.items ++ part old.feed.joined got old.outbox.seat.place old.feed.join ≡ front ++ new.feed.held.items
      pub joined : new.feed.joined ≡ (old.feed.joined || has_joined old.outbox.seat.place old.feed.join got)
      pub ended : new.feed.ended ≡ (old.feed.ended || has_last got)
      pub join : new.feed.join ≡ old.feed.join
      -- Without a fault of the stream their frames went to it, after what waited.
      pub sent : new.wire.failed ≡ false → SentAll contents old.wire.names date old.wire.sent mid.socket new.wire.socket front
      pub ends : Tells contents → new.wire.failed ≡ false
          → EndsIn (contents new.wire.socket.stream) (frames_of old.wire.names date old.wire.sent front)
      pub numbered : new.wire.failed ≡ false → new.wire.sent ≡ old.wire.sent + length front
      pub named : new.wire.names ≡ old.wire.names
      pub stays_failed : mid.failed ≡ true → new.wire.failed ≡ true
      pub answer : turn ≡ turn_of (over new) (was_quiet heard) (length front)
