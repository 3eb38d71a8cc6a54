-- What the turns of a channel come to.
use Rattle.std.specs.Prelude.{◌≡◌, ◌⊎◌, Bool, true, false, ◌||◌, List, [], ◌∷◌, ◌++◌, All}
use Rattle.jk_log.specs.declared.arrival.Arrival.{Arrival}
use Rattle.jk_log.specs.declared.arrival.What.TheVariants.{Join, Leave}
use Rattle.jk_log.specs.declared.entry.Entry.{Entry}
use Rattle.jk_board.specs.Ends.{board_of, read_by}
use Rattle.jk_queues.specs.Ends.{seat_inbox}
use Rattle.js_home.specs.Served.{HasServed, IsMessage}
use Rattle.js_home.specs.declared.free.Free.{Free}
use Rattle.js_ws.specs.Arrivals.{sent_or_held}
use Rattle.js_ws.specs.Shutdowns.{has_last}
use Rattle.js_ws.specs.declared.channel.Channel.{Channel}

-- what comes after the messages: nothing, and once the `Leave` was made that alone; the stream has failed then, so that nothing more is read
abbrev pub EndsAs : (leaving failed : Bool) → List Arrival → Type 0
EndsAs false failed end = end ≡ []
EndsAs true failed end = (failed ≡ true) × ((a : Arrival) × (a.what ≡ Leave) × (end ≡ a ∷ []))

-- after what the seat had sent before come, sent or held, the `Join` of this channel, messages, and its `Leave` once that was made
pub record IsVisiting {W L S T M : Type 0} (before : List Arrival) (c : Channel W L S T M) : Type 0 where
  pub join : Arrival
  pub joins : join.what ≡ Join
  pub messages : List Arrival
  pub are : All IsMessage messages
  pub end : List Arrival
  pub ends : EndsAs c.outbox.leaving c.wire.failed end
  pub all : sent_or_held c.outbox ≡ before ++ join ∷ (messages ++ end)

-- It has the same place at the same inbox, and follows the same board. What the seat sent, or holds to be sent, has grown at its end, and where it was one
-- visit it still is. The follower has read on, and the kernel's last entry was found where it is among what was read.
pub record GoesOn {W L S T M : Type 0} (old new : Channel W L S T M) : Type 0 where
  pub inbox : seat_inbox new.outbox.seat ≡ seat_inbox old.outbox.seat
  pub place : new.outbox.seat.place ≡ old.outbox.seat.place
  pub board : board_of new.feed.follower ≡ board_of old.feed.follower
  pub more : List Arrival
  pub sends : sent_or_held new.outbox ≡ sent_or_held old.outbox ++ more
  pub visits : (before : List Arrival) → IsVisiting before old → IsVisiting before new
  pub got : List Entry
  pub reads : read_by new.feed.follower ≡ read_by old.feed.follower ++ got
  pub ended : new.feed.ended ≡ (old.feed.ended || has_last got)

-- the last of these is a `Leave`
abbrev pub EndsWithLeave : List Arrival → Type 0
EndsWithLeave sent = (front : List Arrival) × (leave : Arrival) × (leave.what ≡ Leave) × (sent ≡ front ++ leave ∷ [])

-- a place comes back after one visit, which ends with its `Leave` unless the kernel's last entry was read
pub record HasLeft {L S T M : Type 0} (old new : Free L S T M) : Type 0 where
  pub served : HasServed old new
  pub left : EndsWithLeave served.sent ⊎ (has_last served.read ≡ true)
