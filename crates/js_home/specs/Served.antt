-- What a place that was lent comes back as.
use Rattle.std.specs.Prelude.{◌≡◌, ◌⊎◌, Bool, true, false, List, [], ◌∷◌, ◌++◌, All}
use Rattle.jk_log.specs.declared.arrival.Arrival.{Arrival}
use Rattle.jk_log.specs.declared.arrival.What.{What}
use Rattle.jk_log.specs.declared.arrival.What.TheVariants.{Join, Leave, Shell, Control, Stdin}
use Rattle.jk_log.specs.declared.entry.Entry.{Entry}
use Rattle.jk_board.specs.Ends.{board_of, read_by}
use Rattle.jk_queues.specs.Ends.{seat_inbox, sent_by}
use Rattle.js_home.specs.declared.free.Free.{Free}

-- it is a message, and neither a connection's beginning nor its end
abbrev pub is_message : What → Bool
is_message Join = false
is_message Leave = false
is_message (Shell m) = true
is_message (Control m) = true
is_message (Stdin m) = true

abbrev pub IsMessage : Arrival → Type 0
IsMessage a = is_message a.what ≡ true

-- a `Leave`, or nothing
abbrev pub IsEnd : List Arrival → Type 0
IsEnd [] = Unit {0}
IsEnd (a ∷ []) = a.what ≡ Leave
IsEnd (a ∷ b ∷ rest) = ⊥

-- the visit of one connection: its `Join`, then messages, and then its `Leave` or nothing
pub record IsVisit (sent : List Arrival) : Type 0 where
  pub join : Arrival
  pub joins : join.what ≡ Join
  pub messages : List Arrival
  pub are : All IsMessage messages
  pub end : List Arrival
  pub ends : IsEnd end
  pub all : sent ≡ join ∷ (messages ++ end)

module _ {L S T M : Type 0} where
  -- it is the same place of the same inbox, with a follower of the same board; its seat has sent nothing, and its follower has read on
  pub record HasPassed (old new : Free L S T M) : Type 0 where
    pub inbox : seat_inbox new.seat ≡ seat_inbox old.seat
    pub place : new.seat.place ≡ old.seat.place
    pub board : board_of new.follower ≡ board_of old.follower
    pub sent : sent_by new.seat ≡ sent_by old.seat
    pub read : List Entry
    pub reads : read_by new.follower ≡ read_by old.follower ++ read

  -- it is the same place of the same inbox, with a follower of the same board; its seat has sent what one connection sends, or nothing, and its follower has read on
  pub record HasServed (old new : Free L S T M) : Type 0 where
    pub inbox : seat_inbox new.seat ≡ seat_inbox old.seat
    pub place : new.seat.place ≡ old.seat.place
    pub board : board_of new.follower ≡ board_of old.follower
    pub sent : List Arrival
    pub sends : sent_by new.seat ≡ sent_by old.seat ++ sent
    pub visit : (sent ≡ []) ⊎ IsVisit sent
    pub read : List Entry
    pub reads : read_by new.follower ≡ read_by old.follower ++ read
