-- Turns of a channel, one after another, and what its place comes back as.
use Rattle.std.proofs.Common.{inl, inr, ◌≡◌, ◌⊎◌, ℕ, Bool, true, false, ◌||◌, List, [], ◌∷◌, ◌++◌, refl, sym, ap, ◌∙◌, subst, append_assoc, append-nil, Option, None, Some}
use Rattle.std.proofs.lemmas.List.Elements.{All-nil}
use Rattle.jk_log.specs.declared.arrival.What.{What}
use Rattle.jk_log.specs.declared.arrival.What.TheVariants.{Join}
use Rattle.jk_log.specs.declared.entry.Entry.{Entry}
use Rattle.jk_board.specs.Ends.{board_of, read_by}
use Rattle.jk_board.specs.declared.follower.Follower.{Follower}
use Rattle.jk_queues.specs.Ends.{seat_inbox, sent_by}
use Rattle.jk_queues.specs.declared.inbox.Seat.{Seat}
use Rattle.js_home.specs.Served.{HasPassed, IsMessage}
use Rattle.js_home.specs.declared.free.Free.{Free}
use Rattle.js_home.proofs.Serving.{served_on}
use Rattle.js_ws.specs.Arrivals.{in_hand, leave_of, next_arrival, sent_or_held}
use Rattle.js_ws.specs.Shutdowns.{has_last, is_last}
use Rattle.js_ws.specs.Turns.{IsNew, IsTurn, is_over, over, turn_of}
use Rattle.js_ws.specs.declared.channel.Channel.{Channel}
use Rattle.js_ws.specs.declared.channel.Turn.{Turn}
use Rattle.js_ws.specs.declared.channel.Turn.TheVariants.{Closed}
use Rattle.js_ws.specs.declared.names.Names.{Names}
use Rattle.js_ws.specs.declared.outbox.Outbox.{Outbox}
use Rattle.js_connect.specs.Channels.{EndsAs, EndsWithLeave, GoesOn, HasLeft, IsVisiting}
use Rattle.js_connect.proofs.Visits.{sent_in_all, visited}

or_none : (b : Bool) → b ≡ (b || false)
or_none true = refl
or_none false = refl

or_also : (b c : Bool) → c ≡ true → (b || c) ≡ true
or_also true c e = refl
or_also false c e = e

or_assoc : (a b c : Bool) → ((a || b) || c) ≡ (a || (b || c))
or_assoc true b c = refl
or_assoc false b c = refl

last_append : (xs ys : List Entry) → (has_last xs || has_last ys) ≡ has_last (xs ++ ys)
last_append [] ys = refl
last_append (x ∷ xs) ys = or_assoc (is_last x) (has_last xs) (has_last ys) ∙ ap (λ b. is_last x || b) (last_append xs ys)

-- the kernel's last entry is found where it is among what was read, and then more
last_on : (before : Bool) (xs ys : List Entry) → ((before || has_last xs) || has_last ys) ≡ (before || has_last (xs ++ ys))
last_on before xs ys = or_assoc before (has_last xs) (has_last ys) ∙ ap (λ b. before || b) (last_append xs ys)

last_after : (xs ys : List Entry) → has_last ys ≡ true → has_last (xs ++ ys) ≡ true
last_after xs ys e = sym (last_append xs ys) ∙ or_also (has_last xs) (has_last ys) e

-- why a channel is over
why_over : (ended failed leaving : Bool) (hand : Option What) (held : List Entry) → is_over ended failed leaving hand held ≡ true
    → (ended ≡ true) ⊎ ((leaving ≡ true) × (hand ≡ None))
why_over true failed leaving hand held e = inl refl
why_over false failed leaving None held e = inr (e, refl)
why_over false failed leaving (Some w) held e = absurd (cc e)

closed_over : (over quiet : Bool) (n k : ℕ) → Closed k ≡ turn_of over quiet n → over ≡ true
closed_over true quiet n k e = refl
closed_over false true n k e = absurd (cc e)
closed_over false false n k e = absurd (cc e)

held_join : (o : Outbox) (seat : Seat) → o.seat ≡ seat → o.hand ≡ Some Join → sent_or_held o ≡ sent_by seat ++ next_arrival seat.place (sent_by seat) Join ∷ []
held_join o seat seated joins i = sent_by (seated i) ++ in_hand (seated i).place (sent_by (seated i)) (joins i)

module _ {L S T M : Type 0} where
  -- a place has passed what was shown before, and then comes back
  pub left_on : (old mid new : Free L S T M) → HasPassed old mid → HasLeft mid new → HasLeft old new
  unfolding served_on
  left_on old mid new a b =
      let read : EndsWithLeave b.served.sent ⊎ (has_last b.served.read ≡ true) → EndsWithLeave b.served.sent ⊎ (has_last (a.read ++ b.served.read) ≡ true) =
      λ w. elim w as (λ _. EndsWithLeave b.served.sent ⊎ (has_last (a.read ++ b.served.read) ≡ true)) [
        | inl leaves ↦ inl leaves
        | inr found ↦ inr (last_after a.read b.served.read found)
      ] in
      record { served = served_on old mid new a b.served; left = read b.left }

module _ {W L S T M : Type 0} where
  pub stays : (c : Channel W L S T M) → GoesOn c c
  stays c = record {
    inbox = refl;
    place = refl;
    board = refl;
    more = [];
    sends = sym (append-nil (sent_or_held c.outbox));
    visits = λ before v. v;
    got = [];
    reads = sym (append-nil (read_by c.feed.follower));
    ended = or_none c.feed.ended;
  }

  same_on : (old mid new : Channel W L S T M) → GoesOn old mid → new ≡ mid → GoesOn old new
  same_on old mid new a e = record {
    inbox = ap (λ (c : Channel W L S T M). seat_inbox c.outbox.seat) e ∙ a.inbox;
    place = ap (λ (c : Channel W L S T M). c.outbox.seat.place) e ∙ a.place;
    board = ap (λ (c : Channel W L S T M). board_of c.feed.follower) e ∙ a.board;
    more = a.more;
    sends = ap (λ (c : Channel W L S T M). sent_or_held c.outbox) e ∙ a.sends;
    visits = λ before v. subst (λ (c : Channel W L S T M). IsVisiting before c) (sym e) (a.visits before v);
    got = a.got;
    reads = ap (λ (c : Channel W L S T M). read_by c.feed.follower) e ∙ a.reads;
    ended = ap (λ (c : Channel W L S T M). c.feed.ended) e ∙ a.ended;
  }

  turned_on : (remaining contents : W → Option (List ℕ)) (date : List ℕ) (old mid new : Channel W L S T M) (turn : Turn)
      → GoesOn old mid → IsTurn remaining contents date mid new turn → GoesOn old new
  turned_on remaining contents date old mid new turn a t =
      let before = sent_or_held mid.outbox in
      let end = leave_of t.due mid.outbox.seat.place (before ++ t.came) in
      record {
        inbox = t.seat.1 ∙ a.inbox;
        place = t.seat.0 ∙ a.place;
        board = t.board ∙ a.board;
        more = a.more ++ (t.came ++ end);
        sends = t.arrivals ∙ (append_assoc before t.came end ∙ (ap (λ xs. xs ++ (t.came ++ end)) a.sends ∙ append_assoc (sent_or_held old.outbox) a.more (t.came ++ end)));
        visits = λ before v. visited remaining contents date mid new turn before t (a.visits before v);
        got = a.got ++ t.got;
        reads = t.found ∙ (ap (λ xs. xs ++ t.got) a.reads ∙ append_assoc (read_by old.feed.follower) a.got t.got);
        ended = t.ended ∙ (ap (λ b. b || has_last t.got) a.ended ∙ last_on old.feed.ended a.got t.got);
      }

  -- one turn more
  pub goes_on : (remaining contents : W → Option (List ℕ)) (date : List ℕ) (old mid new : Channel W L S T M) (turn closed : Turn)
      → GoesOn old mid → (over mid ≡ true → ◌≡◌ {A = Channel W L S T M × Turn} (new, turn) (mid, closed)) → (over mid ≡ false → IsTurn remaining contents date mid new turn) → GoesOn old new
  goes_on remaining contents date old mid new turn closed a ends turns =
      let by : (b : Bool) → over mid ≡ b → GoesOn old new =
      λ b. elim b as (λ v. over mid ≡ v → GoesOn old new) [
        | true ↦ λ e. same_on old mid new a (ap (λ (p : Channel W L S T M × Turn). p.0) (ends e))
        | false ↦ λ e. turned_on remaining contents date old mid new turn a (turns e)
      ] in
      by (over mid) refl

  -- a new channel begins a visit
  begun : (stream : W) (names : Names) (old : Free L S T M) (first : Channel W L S T M) → IsNew first stream names old.seat old.follower → IsVisiting (sent_by old.seat) first
  begun stream names old first fresh = record {
    join = next_arrival old.seat.place (sent_by old.seat) Join;
    joins = refl;
    messages = [];
    are = All-nil IsMessage;
    end = [];
    ends = subst (λ b. EndsAs b first.wire.failed []) (sym fresh.stays) refl;
    all = held_join first.outbox old.seat fresh.seated fresh.joins;
  }

  -- a channel that began with this seat and this follower and is over gives them back as it says
  pub comes_back : (stream : W) (names : Names) (old new : Free L S T M) (first last : Channel W L S T M)
      → IsNew first stream names old.seat old.follower → GoesOn first last → over last ≡ true
      → new.seat ≡ last.outbox.seat → new.follower ≡ last.feed.follower → HasLeft old new
  comes_back stream names old new first last fresh goes ends seat follower =
      let sent = sent_in_all last (sent_by old.seat) (goes.visits (sent_by old.seat) (begun stream names old first fresh)) in
      let by : (last.feed.ended ≡ true) ⊎ ((last.outbox.leaving ≡ true) × (last.outbox.hand ≡ None)) → EndsWithLeave sent.0 ⊎ (has_last goes.got ≡ true) =
      λ w. elim w as (λ _. EndsWithLeave sent.0 ⊎ (has_last goes.got ≡ true)) [
        | inl found ↦ inr (sym (goes.ended ∙ ap (λ b. b || has_last goes.got) fresh.not_ended) ∙ found)
        | inr left ↦ inl (sent.3 left.0 left.1)
      ] in
      record {
        served = record {
          inbox = ap seat_inbox seat ∙ (goes.inbox ∙ ap seat_inbox fresh.seated);
          place = ap (λ (s : Seat). s.place) seat ∙ (goes.place ∙ ap (λ (s : Seat). s.place) fresh.seated);
          board = ap board_of follower ∙ (goes.board ∙ ap board_of fresh.follows);
          sent = sent.0;
          sends = ap sent_by seat ∙ sent.1;
          visit = sent.2;
          read = goes.got;
          reads = ap read_by follower ∙ (goes.reads ∙ ap (λ (f : Follower L S T M). read_by f ++ goes.got) fresh.follows);
        };
        left = by (why_over last.feed.ended last.wire.failed last.outbox.leaving last.outbox.hand last.feed.held.items ends);
      }

  -- and the follower is of the board of the seat's inbox still
  pub own_still : (stream : W) (names : Names) (old : Free L S T M) (seat : Seat) (follower : Follower L S T M) (first last : Channel W L S T M)
      → IsNew first stream names old.seat old.follower → GoesOn first last → seat ≡ last.outbox.seat → follower ≡ last.feed.follower
      → board_of follower ≡ seat_inbox seat
  own_still stream names old seat follower first last fresh goes same follows =
      let inbox = ap seat_inbox same ∙ (goes.inbox ∙ ap seat_inbox fresh.seated) in
      ap board_of follows ∙ (goes.board ∙ (ap board_of fresh.follows ∙ (old.own ∙ sym inbox)))

  -- one turn
  pub turned : (remaining contents : W → Option (List ℕ)) (date : List ℕ) (old new : Channel W L S T M) (turn closed : Turn)
      → (over old ≡ true → ◌≡◌ {A = Channel W L S T M × Turn} (new, turn) (old, closed)) → (over old ≡ false → IsTurn remaining contents date old new turn) → GoesOn old new
  turned remaining contents date old new turn closed ends turns = goes_on remaining contents date old old new turn closed (stays old) ends turns

  -- the turn by which a channel is closed leaves it over
  pub turned_over : (remaining contents : W → Option (List ℕ)) (date : List ℕ) (old new : Channel W L S T M) (turn closed : Turn) (k : ℕ)
      → (over old ≡ true → ◌≡◌ {A = Channel W L S T M × Turn} (new, turn) (old, closed)) → (over old ≡ false → IsTurn remaining contents date old new turn)
      → turn ≡ Closed k → over new ≡ true
  turned_over remaining contents date old new turn closed k ends turns is =
      let by : (b : Bool) → over old ≡ b → over new ≡ true =
      λ b. elim b as (λ v. over old ≡ v → over new ≡ true) [
        | true ↦ λ e. ap (λ (p : Channel W L S T M × Turn). over p.0) (ends e) ∙ e
        | false ↦ λ e. closed_over (over new) _ _ k (sym is ∙ (turns e).answer)
      ] in
      by (over old) refl

  -- turns, and then more of them
  pub goes_further : (old mid new : Channel W L S T M) → GoesOn old mid → GoesOn mid new → GoesOn old new
  goes_further old mid new a b = record {
    inbox = b.inbox ∙ a.inbox;
    place = b.place ∙ a.place;
    board = b.board ∙ a.board;
    more = a.more ++ b.more;
    sends = b.sends ∙ (ap (λ xs. xs ++ b.more) a.sends ∙ append_assoc (sent_or_held old.outbox) a.more b.more);
    visits = λ before v. b.visits before (a.visits before v);
    got = a.got ++ b.got;
    reads = b.reads ∙ (ap (λ xs. xs ++ b.got) a.reads ∙ append_assoc (read_by old.feed.follower) a.got b.got);
    ended = b.ended ∙ (ap (λ c. c || has_last b.got) a.ended ∙ last_on old.feed.ended a.got b.got);
  }
