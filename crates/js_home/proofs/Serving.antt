-- What a place comes back as, step by step.
use Rattle.std.proofs.Common.{inl, ◌≡◌, [], ◌++◌, refl, sym, ap, ◌∙◌, append_assoc, append-nil}
use Rattle.jk_queues.specs.declared.inbox.Seat.{Seat}
use Rattle.jk_queues.specs.Ends.{seat_inbox, sent_by}
use Rattle.jk_board.specs.Boards.{StartsWith}
use Rattle.jk_board.specs.Ends.{board_of, read_by}
use Rattle.js_home.specs.Served.{HasPassed, HasServed}
use Rattle.js_home.specs.declared.free.Free.{Free}

module _ {L S T M : Type 0} where
  -- both have a follower of the board of their seat's inbox
  same_board : (old new : Free L S T M) → seat_inbox new.seat ≡ seat_inbox old.seat → board_of new.follower ≡ board_of old.follower
  same_board old new inbox = new.own ∙ (inbox ∙ sym old.own)

  -- nothing was sent and nothing read
  pub unserved : (old new : Free L S T M) → seat_inbox new.seat ≡ seat_inbox old.seat → new.seat.place ≡ old.seat.place
      → sent_by new.seat ≡ sent_by old.seat → read_by new.follower ≡ read_by old.follower → HasPassed old new
  unserved old new inbox place sent read = record {
    inbox = inbox;
    place = place;
    board = same_board old new inbox;
    sent = sent;
    read = [];
    reads = read ∙ sym (append-nil (read_by old.follower));
  }

  -- the follower has read on
  pub passed : (old new : Free L S T M) → new.seat ≡ old.seat → StartsWith (read_by new.follower) (read_by old.follower) → HasPassed old new
  passed old new seat more = record {
    inbox = ap seat_inbox seat;
    place = ap (λ (s : Seat). s.place) seat;
    board = same_board old new (ap seat_inbox seat);
    sent = ap sent_by seat;
    read = more.0;
    reads = more.1;
  }

  -- it has passed, and was given back so
  pub passed_alone : (old new : Free L S T M) → HasPassed old new → HasServed old new
  passed_alone old new a = record {
    inbox = a.inbox;
    place = a.place;
    board = a.board;
    sent = [];
    sends = a.sent ∙ sym (append-nil (sent_by old.seat));
    visit = inl refl;
    read = a.read;
    reads = a.reads;
  }

  -- it has passed, and then served
  unfoldable pub served_on : (old mid new : Free L S T M) → HasPassed old mid → HasServed mid new → HasServed old new
  served_on old mid new a b = record {
    inbox = b.inbox ∙ a.inbox;
    place = b.place ∙ a.place;
    board = b.board ∙ a.board;
    sent = b.sent;
    sends = b.sends ∙ ap (λ xs. xs ++ b.sent) a.sent;
    visit = b.visit;
    read = a.read ++ b.read;
    reads = b.reads ∙ (ap (λ xs. xs ++ b.read) a.reads ∙ append_assoc (read_by old.follower) a.read b.read);
  }
