-- What a connection's seat sends is one visit: its `Join`, messages, and its `Leave` or nothing.
use Rattle.std.proofs.Common.{inl, inr, ◌≡◌, ◌⊎◌, ℕ, Bool, true, false, ◌||◌, List, [], ◌∷◌, ◌++◌, length, All, refl, sym, ap, ◌∙◌, subst, append_assoc, append-nil, Option, Some, None, arith}
use Rattle.std.proofs.lemmas.List.{length-append}
use Rattle.std.proofs.lemmas.List.Elements.{All-append, All-pop, All-same}
use Rattle.jk_log.specs.declared.arrival.Arrival.{Arrival}
use Rattle.jk_log.specs.declared.arrival.What.{What}
use Rattle.jk_log.specs.declared.arrival.What.TheVariants.{Join, Leave}
use Rattle.jk_queues.specs.Ends.{sent_by}
use Rattle.js_home.specs.Served.{IsMessage, IsVisit, is_message}
use Rattle.js_ws.specs.Arrivals.{in_hand, is_due, leave_of, next_arrival, sent_or_held}
use Rattle.js_ws.specs.Turns.{IsTurn}
use Rattle.js_ws.specs.declared.channel.Channel.{Channel}
use Rattle.js_ws.specs.declared.channel.Turn.{Turn}
use Rattle.js_ws.proofs.Messages.{came_as_messages, none_came}
use Rattle.js_connect.specs.Channels.{EndsAs, EndsWithLeave, IsVisiting}

-- ---- when a `Leave` is due

failed_due : (failed ended leaving : Bool) (hand : Option What) → is_due failed ended leaving hand ≡ true → failed ≡ true
failed_due failed ended leaving (Some w) e = absurd (cc e)
failed_due true ended leaving None e = refl
failed_due false ended leaving None e = absurd (cc e)

not_due : (failed ended : Bool) (hand : Option What) → is_due failed ended true hand ≡ false
not_due failed ended (Some w) = refl
not_due true true None = refl
not_due true false None = refl
not_due false ended None = refl

ends_so : (due leaving failed ended left : Bool) (hand : Option What) (place : ℕ) (sent : List Arrival)
    → due ≡ is_due failed ended left hand → leaving ≡ due → EndsAs leaving failed (leave_of due place sent)
ends_so false leaving failed ended left hand place sent due is = subst (λ b. EndsAs b failed []) (sym is) refl
ends_so true leaving failed ended left hand place sent due is =
    let a = next_arrival place sent Leave in
    subst (λ b. EndsAs b failed (a ∷ [])) (sym is) (failed_due failed ended left hand (sym due), (a, refl, refl))

-- ---- what was sent of a visit the last of which is held

-- where one list with something more at its end is another with something more, the first begins with the other
begins : (xs ys zs : List Arrival) (w j : Arrival) → xs ++ w ∷ [] ≡ ys ++ j ∷ zs → (rest : List Arrival) × (xs ≡ ys ++ rest) × (rest ++ w ∷ [] ≡ j ∷ zs)
begins xs [] zs w j e = (xs, refl, e)
begins [] (y ∷ ys) zs w j e = absurd (omega (arith, ap length e, length-append ys (j ∷ zs)))
begins (x ∷ xs) (y ∷ ys) zs w j e =
    let first : x ≡ y = cc in
    let rest : xs ++ w ∷ [] ≡ ys ++ j ∷ zs = cc in
    let b = begins xs ys zs w j rest in
    (b.0, (λ i. first i ∷ b.1 i), b.2)

front : (xs ys : List Arrival) (a b : Arrival) → xs ++ a ∷ [] ≡ ys ++ b ∷ [] → xs ≡ ys
front [] [] a b e = refl
front [] (y ∷ ys) a b e = absurd (omega (arith, ap length e, length-append ys (b ∷ [])))
front (x ∷ xs) [] a b e = absurd (omega (arith, ap length e, length-append xs (a ∷ [])))
front (x ∷ xs) (y ∷ ys) a b e =
    let first : x ≡ y = cc in
    let rest : xs ++ a ∷ [] ≡ ys ++ b ∷ [] = cc in
    let on = front xs ys a b rest in
    λ i. first i ∷ on i

-- the messages without what is held
kept : (leaving failed : Bool) (rs messages end : List Arrival) (w : Arrival) → EndsAs leaving failed end → All IsMessage messages → rs ++ w ∷ [] ≡ messages ++ end → All IsMessage rs
kept false failed rs messages end w ends are e =
    let all = e ∙ ap (λ xs. messages ++ xs) ends ∙ append-nil messages in
    (All-pop IsMessage messages rs (Some w) (sym all) are).0
kept true failed rs messages end w ends are e =
    All-same IsMessage rs messages (front rs messages w ends.1.0 (e ∙ ap (λ xs. messages ++ xs) ends.1.2)) are

-- what was sent of a visit is one, or nothing; it ends with its `Leave` where that was made and nothing is held
abbrev pub Sent : Bool → Option What → List Arrival → List Arrival → Type 0
Sent leaving hand before now =
    (sent : List Arrival) × (now ≡ before ++ sent) × ((sent ≡ []) ⊎ IsVisit sent) × (leaving ≡ true → hand ≡ None → EndsWithLeave sent)

all_of : (leaving failed : Bool) (now before messages end : List Arrival) (join : Arrival) → EndsAs leaving failed end → join.what ≡ Join
    → All IsMessage messages → now ≡ before ++ join ∷ (messages ++ end) → Sent leaving None before now
all_of false failed now before messages end join ends joins are e = (
  join ∷ (messages ++ end),
  e,
  inr (record { join = join; joins = joins; messages = messages; are = are; end = []; ends = tt; all = ap (λ xs. join ∷ (messages ++ xs)) ends }),
  λ leaves none. absurd (cc leaves),
)
all_of true failed now before messages end join ends joins are e =
    let all = ap (λ xs. join ∷ (messages ++ xs)) ends.1.2 in (
      join ∷ (messages ++ end),
      e,
      inr (record { join = join; joins = joins; messages = messages; are = are; end = ends.1.0 ∷ []; ends = ends.1.1; all = all }),
      λ leaves none. (join ∷ messages, ends.1.0, ends.1.1, all),
    )

rest_of : (leaving failed : Bool) (now before rest messages end : List Arrival) (join held : Arrival) (w : What) → EndsAs leaving failed end → join.what ≡ Join
    → All IsMessage messages → now ≡ before ++ rest → rest ++ held ∷ [] ≡ join ∷ (messages ++ end) → Sent leaving (Some w) before now
rest_of leaving failed now before [] messages end join held w ends joins are is e = ([], is, inl refl, λ leaves none. absurd (cc none))
rest_of leaving failed now before (r ∷ rs) messages end join held w ends joins are is e =
    let first : r ≡ join = cc in
    let others : rs ++ held ∷ [] ≡ messages ++ end = cc in (
      r ∷ rs,
      is,
      inr (record {
        join = r;
        joins = ap (λ (a : Arrival). a.what) first ∙ joins;
        messages = rs;
        are = kept leaving failed rs messages end held ends are others;
        end = [];
        ends = tt;
        all = ap (λ xs. r ∷ xs) (sym (append-nil rs));
      }),
      λ leaves none. absurd (cc none),
    )

sent_of : (leaving failed : Bool) (place : ℕ) (now before messages end : List Arrival) (join : Arrival) (hand : Option What) → EndsAs leaving failed end → join.what ≡ Join
    → All IsMessage messages → now ++ in_hand place now hand ≡ before ++ join ∷ (messages ++ end) → Sent leaving hand before now
sent_of leaving failed place now before messages end join None ends joins are e =
    all_of leaving failed now before messages end join ends joins are (sym (append-nil now) ∙ e)
sent_of leaving failed place now before messages end join (Some w) ends joins are e =
    let b = begins now before (messages ++ end) (next_arrival place now w) join e in
    rest_of leaving failed now before b.0 messages end join (next_arrival place now w) w ends joins are b.1 b.2

-- ---- a turn

module _ {W L S T M : Type 0} where
  visits_on : (remaining contents : W → Option (List ℕ)) (date : List ℕ) (old new : Channel W L S T M) (turn : Turn) (before : List Arrival)
      → IsTurn remaining contents date old new turn → (b : Bool) → old.outbox.leaving ≡ b
      → (v : IsVisiting before old) → EndsAs b old.wire.failed v.end → IsVisiting before new
  visits_on remaining contents date old new turn before t false leaving v ends =
      let sent = sent_or_held old.outbox in
      let place = old.outbox.seat.place in
      let end = leave_of t.due place (sent ++ t.came) in
      let came = came_as_messages (λ w. is_message w ≡ true) (λ m. (refl, refl, refl)) remaining contents date old new turn t in
      let begun = v.all ∙ ap (λ xs. before ++ v.join ∷ (v.messages ++ xs)) ends ∙ ap (λ xs. before ++ v.join ∷ xs) (append-nil v.messages) in
      record {
        join = v.join;
        joins = v.joins;
        messages = v.messages ++ t.came;
        are = All-append IsMessage v.messages t.came v.are came;
        end = end;
        ends = ends_so t.due new.outbox.leaving new.wire.failed new.feed.ended old.outbox.leaving t.hand place (sent ++ t.came) t.when_due (t.leaving ∙ ap (λ b. b || t.due) leaving);
        all = t.arrivals
            ∙ (ap (λ xs. (xs ++ t.came) ++ end) begun
            ∙ (ap (λ xs. xs ++ end) (append_assoc before (v.join ∷ v.messages) t.came)
            ∙ (append_assoc before (v.join ∷ (v.messages ++ t.came)) end)));
      }
  visits_on remaining contents date old new turn before t true leaving v ends =
      let sent = sent_or_held old.outbox in
      let place = old.outbox.seat.place in
      let none = none_came remaining contents date old new turn t ends.0 in
      let no : t.due ≡ false = t.when_due ∙ (ap (λ b. is_due new.wire.failed new.feed.ended b t.hand) leaving ∙ not_due new.wire.failed new.feed.ended t.hand) in
      let same = ap (λ c. (sent ++ c) ++ leave_of t.due place (sent ++ c)) none.0
      ∙ (ap (λ d. (sent ++ []) ++ leave_of d place (sent ++ [])) no ∙ (append-nil (sent ++ []) ∙ append-nil sent)) in
      let leaves : new.outbox.leaving ≡ true = t.leaving ∙ ap (λ b. b || t.due) leaving in
      record {
        join = v.join;
        joins = v.joins;
        messages = v.messages;
        are = v.are;
        end = v.end;
        ends = subst (λ b. EndsAs b new.wire.failed v.end) (sym leaves) (none.1, ends.1);
        all = t.arrivals ∙ (same ∙ v.all);
      }

  -- one turn more of a visit
  pub visited : (remaining contents : W → Option (List ℕ)) (date : List ℕ) (old new : Channel W L S T M) (turn : Turn) (before : List Arrival)
      → IsTurn remaining contents date old new turn → IsVisiting before old → IsVisiting before new
  visited remaining contents date old new turn before t v = visits_on remaining contents date old new turn before t old.outbox.leaving refl v v.ends

  -- what the seat has sent in the end
  pub sent_in_all : (c : Channel W L S T M) (before : List Arrival) → IsVisiting before c → Sent c.outbox.leaving c.outbox.hand before (sent_by c.outbox.seat)
  sent_in_all c before v =
      sent_of c.outbox.leaving c.wire.failed c.outbox.seat.place (sent_by c.outbox.seat) before v.messages v.end v.join c.outbox.hand v.ends v.joins v.are v.all
