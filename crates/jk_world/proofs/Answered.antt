-- What is shown of the arrival at a place.
use Rattle.std.proofs.Common.{◌≡◌, ℕ, ◌+◌, Bool, true, false, cond, List, [], ◌∷◌, ◌++◌, length, refl, sym, ◌∙◌, ap, subst, append_assoc, arith, Option, None, Some, eqb}
use Rattle.std.proofs.lemmas.List.{append-nil}
use Rattle.std.proofs.lemmas.Option.{none-some, same_Some}
use Rattle.std.proofs.lemmas.Bool.{eqb-true}
use Rattle.jk_language.specs.Spoken.{Spoken, IsLanguage}
use Rattle.jp_msg.specs.declared.message.Message.{Message}
use Rattle.jp_msg.specs.declared.message.Execute.{Execute}
use Rattle.jp_msg.specs.declared.message.Failure.{Failure}
use Rattle.jk_log.specs.declared.arrival.Arrival.{Arrival}
use Rattle.jk_log.specs.declared.arrival.What.{What}
use Rattle.jk_log.specs.declared.arrival.What.TheVariants as what
use Rattle.jk_log.specs.declared.entry.Entry.{Entry}
use Rattle.jk_log.specs.declared.mark.Item.TheVariants.{Took, Marked}
use Rattle.jk_log.specs.declared.mark.Kind.{Kind}
use Rattle.jk_log.specs.declared.mark.Kind.TheVariants.{Join, Leave, Begin, Flush, Ask, Line, End, Stop, Refuse, Abort, Answer, Interrupt, KernelInfo, Restart}
use Rattle.jk_log.specs.declared.mark.Ending.{Ending}
use Rattle.jk_log.specs.declared.mark.Ending.TheVariants.{Completed, Trapped, Refused}
use Rattle.jp_msg.specs.declared.message.Channel.TheVariants as channel
use Rattle.jp_msg.specs.declared.message.Completeness.{Completeness}
use Rattle.jp_msg.specs.declared.message.Output.{Output}
use Rattle.jp_msg.specs.declared.message.Output.TheVariants.{InterruptReply, KernelInfoReply, ShutdownReply}
use Rattle.jp_msg.specs.declared.message.Request.{Request}
use Rattle.jp_msg.specs.declared.message.Request.TheVariants as request
use Rattle.jk_log.specs.declared.entry.To.TheVariants.{Seat}
use Rattle.jk_log.specs.Asked.{message_execute, message_query, execute_in}
use Rattle.jk_log.specs.Legal.{EachFollows, MayMark, owed}
use Rattle.jk_log.specs.Failures.{refusal_failure, trap_failure, cause_failure}
use Rattle.jk_log.specs.Log.{Log, running, seat_at, arrival_at, execute_at, option_at, option_or, flushed_at, asking, lined}
use Rattle.jk_log.specs.Render.{unless, streamed, begun, failed, ended, shown_of, execute_shown, answered, answer_shown, query_shown, control_shown, entries_of, entries_at}
use Rattle.jk_world.specs.Cells.{streams, times_closed, runs_at, interrupts}
use Rattle.jk_world.specs.Requests.{output_audience, shown_at, AllFor, AreFor, text_in, text_told, replies_in, IsShownRight}
use Rattle.jk_world.proofs.Basics.{cond_same, cond_nil, arrival_past}
use Rattle.jk_world.proofs.Dues.{begin_asks, refuse_asks, abort_asks}
use Rattle.jk_world.proofs.Streams.{flush_may, runs_asked, quiet_past, running_took}
use Rattle.jk_world.proofs.Parents.{end_may, stop_may, is_shown}
use Rattle.jk_world.proofs.Ends.{begin_idle, runs_as, runs_begun, runs_changed, runs_unread, runs_none, runs_one}

-- the entries of these requests

all_append : (seat : ℕ) (sent : What) (xs ys : List Entry) → AllFor seat sent xs → AllFor seat sent ys → AllFor seat sent (xs ++ ys)
all_append seat sent [] ys a b = b
all_append seat sent (x ∷ xs) ys a b = (a.0, all_append seat sent xs ys a.1 b)

unless_for : (seat : ℕ) (sent : What) (b : Bool) (es : List Entry) → AllFor seat sent es → AllFor seat sent (unless b es)
unless_for seat sent true es h = tt
unless_for seat sent false es h = h

streamed_for : (seat : ℕ) (m : Message) (text : List ℕ) → AllFor seat (what.Shell m) (streamed m text)
streamed_for seat m [] = tt
streamed_for seat m (c ∷ text) = (record { to = refl; parent = refl }, tt)

failed_for : (seat : ℕ) (m : Message) (b : Bool) (f : Failure) (n : ℕ) → AllFor seat (what.Shell m) (failed seat m b f n)
failed_for seat m true f n = (record { to = refl; parent = refl }, (record { to = refl; parent = refl }, tt))
failed_for seat m false f n = (record { to = refl; parent = refl }, (record { to = refl; parent = refl }, (record { to = refl; parent = refl }, tt)))

ended_for : (seat : ℕ) (m : Message) (b : Bool) (e : Ending) (n : ℕ) → AllFor seat (what.Shell m) (ended seat m b e n)
ended_for seat m b Completed n = (record { to = refl; parent = refl }, (record { to = refl; parent = refl }, tt))
ended_for seat m b (Trapped trap) n = failed_for seat m b (trap_failure trap) n
ended_for seat m b (Refused refusal) n = failed_for seat m b (refusal_failure refusal) n

shown_for : (seat : ℕ) (kind : Kind) (m : Message) (e : Execute) → AllFor seat (what.Shell m) (shown_of seat kind m e)
shown_for seat (Begin n) m e = (record { to = refl; parent = refl }, unless_for seat (what.Shell m) e.silent _ (record { to = refl; parent = refl }, tt))
shown_for seat (Flush turns text) m e = unless_for seat (what.Shell m) e.silent (streamed m text) (streamed_for seat m text)
shown_for seat Ask m e = (record { to = refl; parent = refl }, tt)
shown_for seat (Line line) m e = tt
shown_for seat (End ending n) m e = ended_for seat m e.silent ending n
shown_for seat (Stop turns cause n) m e = failed_for seat m e.silent (cause_failure cause) n
shown_for seat (Refuse n) m e = (record { to = refl; parent = refl }, (record { to = refl; parent = refl }, (record { to = refl; parent = refl }, tt)))
shown_for seat Abort m e = (record { to = refl; parent = refl }, (record { to = refl; parent = refl }, (record { to = refl; parent = refl }, tt)))
shown_for seat Join m e = tt
shown_for seat Leave m e = tt
shown_for seat Interrupt m e = tt
shown_for seat (Answer status) m e = tt
shown_for seat KernelInfo m e = tt
shown_for seat (Restart restart) m e = tt

request_for : (seat : ℕ) (kind : Kind) (m : Message) (o : Option Execute) → AllFor seat (what.Shell m) (option_or (shown_of seat kind m) [] o)
request_for seat kind m None = tt
request_for seat kind m (Some e) = shown_for seat kind m e

execute_for : (seat : ℕ) (kind : Kind) (w : What) → AllFor seat w (execute_shown seat kind w)
execute_for seat kind (what.Shell m) = request_for seat kind m (message_execute m)
execute_for seat kind what.Join = tt
execute_for seat kind what.Leave = tt
execute_for seat kind (what.Control m) = tt
execute_for seat kind (what.Stdin m) = tt

control_for : (seat : ℕ) (output : Output) (w : What) → output_audience seat output ≡ Seat seat → AllFor seat w (control_shown seat output w)
control_for seat output (what.Control m) h = (record { to = refl; parent = refl }, (record { to = sym h; parent = refl }, (record { to = refl; parent = refl }, tt)))
control_for seat output what.Join h = tt
control_for seat output what.Leave h = tt
control_for seat output (what.Shell m) h = tt
control_for seat output (what.Stdin m) h = tt

for_complete : (seat : ℕ) (m : Message) (status : Option Completeness) (code : List ℕ) → AllFor seat (what.Shell m) (answer_shown seat status m (request.IsComplete code))
for_complete seat m None code = tt
for_complete seat m (Some c) code = (record { to = refl; parent = refl }, (record { to = refl; parent = refl }, (record { to = refl; parent = refl }, tt)))

for_answer : (seat : ℕ) (m : Message) (status : Option Completeness) (q : Request) → AllFor seat (what.Shell m) (answer_shown seat status m q)
for_answer seat m status (request.IsComplete code) = for_complete seat m status code
for_answer seat m status request.KernelInfo = (record { to = refl; parent = refl }, (record { to = refl; parent = refl }, (record { to = refl; parent = refl }, tt)))
for_answer seat m status (request.Complete cursor) = (record { to = refl; parent = refl }, (record { to = refl; parent = refl }, (record { to = refl; parent = refl }, tt)))
for_answer seat m status request.Inspect = (record { to = refl; parent = refl }, (record { to = refl; parent = refl }, (record { to = refl; parent = refl }, tt)))
for_answer seat m status request.History = (record { to = refl; parent = refl }, (record { to = refl; parent = refl }, (record { to = refl; parent = refl }, tt)))
for_answer seat m status request.CommInfo = (record { to = refl; parent = refl }, (record { to = refl; parent = refl }, (record { to = refl; parent = refl }, tt)))
for_answer seat m status (request.Execute e) = tt
for_answer seat m status request.Interrupt = tt
for_answer seat m status (request.Shutdown restart) = tt
for_answer seat m status (request.InputReply line) = tt
for_answer seat m status request.Other = tt

for_asked : (seat : ℕ) (m : Message) (status : Option Completeness) (o : Option Request) → AllFor seat (what.Shell m) (option_or (answer_shown seat status m) [] o)
for_asked seat m status None = tt
for_asked seat m status (Some q) = for_answer seat m status q

for_query : (seat : ℕ) (status : Option Completeness) (w : What) → AllFor seat w (query_shown seat status w)
for_query seat status (what.Shell m) = for_asked seat m status (message_query m)
for_query seat status what.Join = tt
for_query seat status what.Leave = tt
for_query seat status (what.Control m) = tt
for_query seat status (what.Stdin m) = tt

entries_for : (kind : Kind) (a : Arrival) → AllFor a.seat a.what (entries_of kind a)
entries_for Join a = (record { to = refl; parent = refl }, tt)
entries_for Leave a = (record { to = refl; parent = refl }, tt)
entries_for Interrupt a = control_for a.seat InterruptReply a.what refl
entries_for KernelInfo a = control_for a.seat KernelInfoReply a.what refl
entries_for (Restart restart) a = control_for a.seat (ShutdownReply restart) a.what refl
entries_for (Answer status) a = for_query a.seat status a.what
entries_for (Begin n) a = execute_for a.seat (Begin n) a.what
entries_for (Flush turns text) a = execute_for a.seat (Flush turns text) a.what
entries_for Ask a = execute_for a.seat Ask a.what
entries_for (Line line) a = execute_for a.seat (Line line) a.what
entries_for (End ending n) a = execute_for a.seat (End ending n) a.what
entries_for (Stop turns cause n) a = execute_for a.seat (Stop turns cause n) a.what
entries_for (Refuse n) a = execute_for a.seat (Refuse n) a.what
entries_for Abort a = execute_for a.seat Abort a.what

places_for : (kind : Kind) (o : Option Arrival) → AreFor o (option_or (entries_of kind) [] o)
places_for kind None = refl
places_for kind (Some a) = entries_for kind a

for_append : (o : Option Arrival) (xs ys : List Entry) → AreFor o xs → AreFor o ys → AreFor o (xs ++ ys)
for_append None xs ys a b = ap (λ (es : List Entry). es ++ ys) a ∙ b
for_append (Some s) xs ys a b = all_append s.seat s.what xs ys a b

for_none : (o : Option Arrival) → AreFor o []
for_none None = refl
for_none (Some a) = tt

-- an item at this place
took_for : (b : Bool) (o new : Option Arrival) (es : List Entry) → (b ≡ true → o ≡ None) → AreFor o es → AreFor (cond b new o) es
took_for true o new es past h = subst (AreFor new) (sym (subst (λ (o : Option Arrival). AreFor o es) (past refl) h)) (for_none new)
took_for false o new es past h = h

-- a mark for a place
mark_for : (b : Bool) (p at : ℕ) (past : Log) (kind : Kind) → (b ≡ true → p ≡ at) → AreFor (arrival_at at past) (cond b (entries_at past (record { at = p; kind = kind })) [])
mark_for true p at past kind same = subst (λ (q : ℕ). AreFor (arrival_at q past) (entries_at past (record { at = p; kind = kind }))) (same refl) (places_for kind (arrival_at p past))
mark_for false p at past kind same = for_none (arrival_at at past)

past_none : (past : Log) (at : ℕ) → eqb (length past) at ≡ true → arrival_at at past ≡ None
past_none past at e = let same : length past ≡ at = eqb-true (length past) at e in arrival_past past at (omega (arith, same))

-- each entry is for the arrival at its mark's place
pub addressed : (log : Log) (at : ℕ) → AreFor (arrival_at at log) (shown_at at log)
addressed [] at = refl
addressed (Took a ∷ past) at =
    took_for (eqb (length past) at) (arrival_at at past) (Some a) (shown_at at past) (past_none past at) (addressed past at)
addressed (Marked m ∷ past) at =
    took_for (eqb (length past) at) (arrival_at at past) None (shown_at at (Marked m ∷ past)) (past_none past at)
    (for_append (arrival_at at past) (shown_at at past) _ (addressed past at) (mark_for (eqb m.at at) m.at at past m.kind (eqb-true m.at at)))

-- what holds of the entries of a mark by what they are of

by_places : (P : List Entry → Type 0) (kind : Kind) (o : Option Arrival) → P [] → ((a : Arrival) → P (entries_of kind a)) → P (option_or (entries_of kind) [] o)
by_places P kind None none h = none
by_places P kind (Some a) none h = h a

by_request : (P : List Entry → Type 0) (kind : Kind) (seat : ℕ) (m : Message) (o : Option Execute) → P [] → ((e : Execute) → P (shown_of seat kind m e)) → P (option_or (shown_of seat kind m) [] o)
by_request P kind seat m None none h = none
by_request P kind seat m (Some e) none h = h e

by_execute : (P : List Entry → Type 0) (kind : Kind) (seat : ℕ) (w : What) → P [] → ((m : Message) (e : Execute) → P (shown_of seat kind m e)) → P (execute_shown seat kind w)
by_execute P kind seat (what.Shell m) none h = by_request P kind seat m (message_execute m) none (h m)
by_execute P kind seat what.Join none h = none
by_execute P kind seat what.Leave none h = none
by_execute P kind seat (what.Control m) none h = none
by_execute P kind seat (what.Stdin m) none h = none

by_control : (P : List Entry → Type 0) (seat : ℕ) (output : Output) (w : What) → P [] → ((m : Message) → P (answered seat channel.Control m output)) → P (control_shown seat output w)
by_control P seat output (what.Control m) none h = h m
by_control P seat output what.Join none h = none
by_control P seat output what.Leave none h = none
by_control P seat output (what.Shell m) none h = none
by_control P seat output (what.Stdin m) none h = none

by_silent : (P : List Entry → Type 0) (b : Bool) (es : List Entry) → P [] → P es → P (unless b es)
by_silent P true es none h = none
by_silent P false es none h = h

-- replies

replies_append : (xs ys : List Entry) → replies_in (xs ++ ys) ≡ replies_in xs + replies_in ys
replies_append [] ys = omega arith
replies_append (x ∷ xs) ys = let e = replies_append xs ys in omega arith

abbrev HasNone : List Entry → Type 0
HasNone es = replies_in es ≡ 0

streamed_none : (m : Message) (text : List ℕ) → HasNone (streamed m text)
streamed_none m [] = refl
streamed_none m (c ∷ text) = refl

begun_none : (m : Message) (e : Execute) (n : ℕ) → HasNone (begun m e n)
begun_none m e n = by_one e.silent
  where
    by_one : (b : Bool) → HasNone (begun m (record e { silent = b }) n)
    by_one true = refl
    by_one false = refl

-- how many replies a mark has
abbrev replies_of : Kind → ℕ
replies_of (End ending n) = 1
replies_of (Stop turns cause n) = 1
replies_of (Refuse n) = 1
replies_of Abort = 1
replies_of other = 0

failed_one : (seat n : ℕ) (m : Message) (b : Bool) (f : Failure) → replies_in (failed seat m b f n) ≡ 1
failed_one seat n m true f = refl
failed_one seat n m false f = refl

ended_one : (seat n : ℕ) (m : Message) (b : Bool) (e : Ending) → replies_in (ended seat m b e n) ≡ 1
ended_one seat n m b Completed = refl
ended_one seat n m b (Trapped trap) = failed_one seat n m b (trap_failure trap)
ended_one seat n m b (Refused refusal) = failed_one seat n m b (refusal_failure refusal)

request_replies : (seat : ℕ) (kind : Kind) (m : Message) (e : Execute) → replies_in (shown_of seat kind m e) ≡ replies_of kind
request_replies seat (Begin n) m e = begun_none m e n
request_replies seat (Flush turns text) m e = by_silent HasNone e.silent (streamed m text) refl (streamed_none m text)
request_replies seat Ask m e = refl
request_replies seat (Line line) m e = refl
request_replies seat (End ending n) m e = ended_one seat n m e.silent ending
request_replies seat (Stop turns cause n) m e = failed_one seat n m e.silent (cause_failure cause)
request_replies seat (Refuse n) m e = refl
request_replies seat Abort m e = refl
request_replies seat Join m e = refl
request_replies seat Leave m e = refl
request_replies seat Interrupt m e = refl
request_replies seat (Answer status) m e = refl
request_replies seat KernelInfo m e = refl
request_replies seat (Restart restart) m e = refl

none_complete : (seat : ℕ) (m : Message) (status : Option Completeness) (code : List ℕ) → HasNone (answer_shown seat status m (request.IsComplete code))
none_complete seat m None code = refl
none_complete seat m (Some c) code = refl

none_answer : (seat : ℕ) (m : Message) (status : Option Completeness) (q : Request) → HasNone (answer_shown seat status m q)
none_answer seat m status (request.IsComplete code) = none_complete seat m status code
none_answer seat m status request.KernelInfo = refl
none_answer seat m status (request.Complete cursor) = refl
none_answer seat m status request.Inspect = refl
none_answer seat m status request.History = refl
none_answer seat m status request.CommInfo = refl
none_answer seat m status (request.Execute e) = refl
none_answer seat m status request.Interrupt = refl
none_answer seat m status (request.Shutdown restart) = refl
none_answer seat m status (request.InputReply line) = refl
none_answer seat m status request.Other = refl

none_asked : (seat : ℕ) (m : Message) (status : Option Completeness) (o : Option Request) → HasNone (option_or (answer_shown seat status m) [] o)
none_asked seat m status None = refl
none_asked seat m status (Some q) = none_answer seat m status q

none_query : (seat : ℕ) (status : Option Completeness) (w : What) → HasNone (query_shown seat status w)
none_query seat status (what.Shell m) = none_asked seat m status (message_query m)
none_query seat status what.Join = refl
none_query seat status what.Leave = refl
none_query seat status (what.Control m) = refl
none_query seat status (what.Stdin m) = refl

quiet_none : (kind : Kind) (o : Option Arrival) → replies_of kind ≡ 0 → HasNone (option_or (entries_of kind) [] o)
quiet_none Join o e = by_places HasNone Join o refl (λ a. refl)
quiet_none Leave o e = by_places HasNone Leave o refl (λ a. refl)
quiet_none Interrupt o e = by_places HasNone Interrupt o refl (λ a. by_control HasNone a.seat InterruptReply a.what refl (λ m. refl))
quiet_none KernelInfo o e = by_places HasNone KernelInfo o refl (λ a. by_control HasNone a.seat KernelInfoReply a.what refl (λ m. refl))
quiet_none (Restart restart) o e = by_places HasNone (Restart restart) o refl (λ a. by_control HasNone a.seat (ShutdownReply restart) a.what refl (λ m. refl))
quiet_none (Answer status) o e = by_places HasNone (Answer status) o refl (λ a. none_query a.seat status a.what)
quiet_none other o e = by_places HasNone other o refl (λ a. by_execute HasNone other a.seat a.what refl (λ m x. request_replies a.seat other m x ∙ e))

-- the sums of replies, of cells that run and of answers

replies_if : (b : Bool) (es : List Entry) (n : ℕ) → replies_in es ≡ n → replies_in (cond b es []) ≡ cond b n 0
replies_if true es n e = e
replies_if false es n e = refl

sum_none : (b : Bool) (r runs a k : ℕ) → k ≡ 0 → r + runs ≡ a → (r + cond b k 0) + runs ≡ a + cond b 0 0
sum_none true r runs a k none e = omega arith
sum_none false r runs a k none e = omega arith

sum_begins : (b : Bool) (r runs a : ℕ) → runs ≡ 0 → r + runs ≡ a → (r + cond b 0 0) + cond b 1 0 ≡ a + cond b 1 0
sum_begins true r runs a none e = omega arith
sum_begins false r runs a none e = omega arith

sum_ends : (b : Bool) (r runs a : ℕ) → runs ≡ cond b 1 0 → r + runs ≡ a → (r + cond b 1 0) + 0 ≡ a + cond b 0 0
sum_ends true r runs a one e = omega arith
sum_ends false r runs a one e = omega arith

sum_replied : (b : Bool) (r runs a : ℕ) → r + runs ≡ a → (r + cond b 1 0) + runs ≡ a + cond b 1 0
sum_replied true r runs a e = omega arith
sum_replied false r runs a e = omega arith

-- streams

text_append : (xs ys : List Entry) → text_in (xs ++ ys) ≡ text_in xs ++ text_in ys
text_append [] ys = refl
text_append (x ∷ xs) ys = ap (λ (t : List ℕ). text_told x.content ++ t) (text_append xs ys) ∙ sym (append_assoc (text_told x.content) (text_in xs) (text_in ys))

abbrev HasNoText : List Entry → Type 0
HasNoText es = text_in es ≡ []

begun_no_text : (m : Message) (e : Execute) (n : ℕ) → HasNoText (begun m e n)
begun_no_text m e n = by_one e.silent
  where
    by_one : (b : Bool) → HasNoText (begun m (record e { silent = b }) n)
    by_one true = refl
    by_one false = refl

failed_no_text : (seat n : ℕ) (m : Message) (b : Bool) (f : Failure) → HasNoText (failed seat m b f n)
failed_no_text seat n m true f = refl
failed_no_text seat n m false f = refl

ended_no_text : (seat n : ℕ) (m : Message) (b : Bool) (e : Ending) → HasNoText (ended seat m b e n)
ended_no_text seat n m b Completed = refl
ended_no_text seat n m b (Trapped trap) = failed_no_text seat n m b (trap_failure trap)
ended_no_text seat n m b (Refused refusal) = failed_no_text seat n m b (refusal_failure refusal)

-- a mark that is no flush
abbrev IsNoFlush : Kind → Type 0
IsNoFlush (Flush turns text) = ⊥
IsNoFlush other = Unit {0}

silent_complete : (seat : ℕ) (m : Message) (status : Option Completeness) (code : List ℕ) → HasNoText (answer_shown seat status m (request.IsComplete code))
silent_complete seat m None code = refl
silent_complete seat m (Some c) code = refl

silent_answer : (seat : ℕ) (m : Message) (status : Option Completeness) (q : Request) → HasNoText (answer_shown seat status m q)
silent_answer seat m status (request.IsComplete code) = silent_complete seat m status code
silent_answer seat m status request.KernelInfo = refl
silent_answer seat m status (request.Complete cursor) = refl
silent_answer seat m status request.Inspect = refl
silent_answer seat m status request.History = refl
silent_answer seat m status request.CommInfo = refl
silent_answer seat m status (request.Execute e) = refl
silent_answer seat m status request.Interrupt = refl
silent_answer seat m status (request.Shutdown restart) = refl
silent_answer seat m status (request.InputReply line) = refl
silent_answer seat m status request.Other = refl

silent_asked : (seat : ℕ) (m : Message) (status : Option Completeness) (o : Option Request) → HasNoText (option_or (answer_shown seat status m) [] o)
silent_asked seat m status None = refl
silent_asked seat m status (Some q) = silent_answer seat m status q

silent_query : (seat : ℕ) (status : Option Completeness) (w : What) → HasNoText (query_shown seat status w)
silent_query seat status (what.Shell m) = silent_asked seat m status (message_query m)
silent_query seat status what.Join = refl
silent_query seat status what.Leave = refl
silent_query seat status (what.Control m) = refl
silent_query seat status (what.Stdin m) = refl

no_text : (kind : Kind) (o : Option Arrival) → IsNoFlush kind → HasNoText (option_or (entries_of kind) [] o)
no_text (Flush turns text) o h = absurd h
no_text Join o h = by_places HasNoText Join o refl (λ a. refl)
no_text Leave o h = by_places HasNoText Leave o refl (λ a. refl)
no_text Interrupt o h = by_places HasNoText Interrupt o refl (λ a. by_control HasNoText a.seat InterruptReply a.what refl (λ m. refl))
no_text KernelInfo o h = by_places HasNoText KernelInfo o refl (λ a. by_control HasNoText a.seat KernelInfoReply a.what refl (λ m. refl))
no_text (Restart restart) o h = by_places HasNoText (Restart restart) o refl (λ a. by_control HasNoText a.seat (ShutdownReply restart) a.what refl (λ m. refl))
no_text (Answer status) o h = by_places HasNoText (Answer status) o refl (λ a. silent_query a.seat status a.what)
no_text (Begin n) o h = by_places HasNoText (Begin n) o refl (λ a. by_execute HasNoText (Begin n) a.seat a.what refl (λ m e. begun_no_text m e n))
no_text (End ending n) o h = by_places HasNoText (End ending n) o refl (λ a. by_execute HasNoText (End ending n) a.seat a.what refl (λ m e. ended_no_text a.seat n m e.silent ending))
no_text (Stop turns cause n) o h = by_places HasNoText (Stop turns cause n) o refl (λ a. by_execute HasNoText (Stop turns cause n) a.seat a.what refl (λ m e. failed_no_text a.seat n m e.silent (cause_failure cause)))
no_text other o h = by_places HasNoText other o refl (λ a. by_execute HasNoText other a.seat a.what refl (λ m e. refl))

streamed_text : (m : Message) (b : Bool) (text : List ℕ) → text_in (unless b (streamed m text)) ≡ cond b [] text
streamed_text m true text = refl
streamed_text m false [] = refl
streamed_text m false (c ∷ text) = append-nil (c ∷ text)

text_if : (b : Bool) (es : List Entry) (t : List ℕ) → text_in es ≡ t → text_in (cond b es []) ≡ cond b t []
text_if true es t e = e
text_if false es t e = refl

no_text_if : (b : Bool) (es : List Entry) → (b ≡ true → HasNoText es) → HasNoText (cond b es [])
no_text_if true es h = h refl
no_text_if false es h = refl

silent_append : (b : Bool) (xs ys : List ℕ) → cond b [] xs ++ cond b [] ys ≡ cond b [] (xs ++ ys)
silent_append true xs ys = refl
silent_append false xs ys = refl

-- an arrival before an item
asked_before : (b : Bool) (o : Option Arrival) (e : Execute) → option_at (λ (a : Arrival). execute_in a.what) (cond b None o) ≡ Some e → option_at (λ (a : Arrival). execute_in a.what) o ≡ Some e
asked_before true o e h = absurd (none-some e h)
asked_before false o e h = h

module _ {S T : Type 0} (spoken : Spoken S T) (laws : IsLanguage spoken) where
  -- what is shown by a mark for an execute request
  entries_shown : (past : Log) (at : ℕ) (kind : Kind) (e : Execute) → ((a : Arrival) → entries_of kind a ≡ execute_shown a.seat kind a.what) → execute_at at past ≡ Some e → replies_in (entries_at past (record { at = at; kind = kind })) ≡ replies_of kind
  entries_shown past at kind e same there =
      let s = is_shown kind (arrival_at at past) e same there in
      ap replies_in s.shows ∙ request_replies s.seat kind s.request e

  -- each request that was answered has one reply, once its cell no longer runs
  abbrev Replied : ℕ → Log → Type 0
  Replied at log = replies_in (shown_at at log) + runs_at at log ≡ times_closed at log

  more_replies : (past : Log) (at p n : ℕ) (kind : Kind) → replies_in (entries_at past (record { at = p; kind = kind })) ≡ n → replies_in (shown_at at (Marked (record { at = p; kind = kind }) ∷ past)) ≡ replies_in (shown_at at past) + cond (eqb p at) n 0
  more_replies past at p n kind e =
      replies_append (shown_at at past) (cond (eqb p at) (entries_at past (record { at = p; kind = kind })) [])
      ∙ ap (λ (k : ℕ). replies_in (shown_at at past) + k) (replies_if (eqb p at) _ n e)

  -- a mark that begins, ends and answers nothing
  quiet_replied : (past : Log) (at p : ℕ) (kind : Kind) → replies_of kind ≡ 0 → runs_at at (Marked (record { at = p; kind = kind }) ∷ past) ≡ runs_at at past → times_closed at (Marked (record { at = p; kind = kind }) ∷ past) ≡ times_closed at past + cond (eqb p at) 0 0 → Replied at past → Replied at (Marked (record { at = p; kind = kind }) ∷ past)
  quiet_replied past at p kind none runs same h =
      ap (λ (k : ℕ). k + runs_at at (Marked (record { at = p; kind = kind }) ∷ past)) (more_replies past at p 0 kind (quiet_none kind (arrival_at p past) none))
      ∙ ap (λ (k : ℕ). (replies_in (shown_at at past) + cond (eqb p at) 0 0) + k) runs
      ∙ sum_none (eqb p at) (replies_in (shown_at at past)) (runs_at at past) (times_closed at past) 0 refl h ∙ sym same

  mark_replied : (past : Log) (at p : ℕ) (kind : Kind) → EachFollows spoken past → MayMark spoken past (owed past) (record { at = p; kind = kind }) → Replied at past → Replied at (Marked (record { at = p; kind = kind }) ∷ past)
  mark_replied past at p (Begin n) each may h =
      let asks = begin_asks spoken past (owed past) p n may in
      ap (λ (k : ℕ). k + runs_at at (Marked (record { at = p; kind = Begin n }) ∷ past)) (more_replies past at p 0 (Begin n) (quiet_none (Begin n) (arrival_at p past) refl))
      ∙ ap (λ (k : ℕ). (replies_in (shown_at at past) + cond (eqb p at) 0 0) + k) (runs_begun at p (seat_at p past) (execute_at p past) asks.0 asks.1)
      ∙ sum_begins (eqb p at) (replies_in (shown_at at past)) (runs_at at past) (times_closed at past) (runs_none at (running past) (begin_idle spoken past (owed past) p n may)) h
  mark_replied past at p (End ending n) each may h =
      let (r, runs, f) = end_may spoken past (owed past) p n ending may in
      let there : execute_at p past ≡ Some r.request = ap (λ (q : ℕ). execute_at q past) f.request ∙ runs_asked spoken laws past each r runs in
      ap (λ (k : ℕ). k + 0) (more_replies past at p 1 (End ending n) (entries_shown past p (End ending n) r.request (λ a. refl) there))
      ∙ sum_ends (eqb p at) (replies_in (shown_at at past)) (runs_at at past) (times_closed at past) (runs_one at p (running past) r runs f.request) h
  mark_replied past at p (Stop turns cause n) each may h =
      let s = stop_may spoken past (owed past) p turns n cause may in
      let there : execute_at p past ≡ Some s.0.request = ap (λ (q : ℕ). execute_at q past) s.2 ∙ runs_asked spoken laws past each s.0 s.1 in
      ap (λ (k : ℕ). k + 0) (more_replies past at p 1 (Stop turns cause n) (entries_shown past p (Stop turns cause n) s.0.request (λ a. refl) there))
      ∙ sum_ends (eqb p at) (replies_in (shown_at at past)) (runs_at at past) (times_closed at past) (runs_one at p (running past) s.0 s.1 s.2) h
  mark_replied past at p (Refuse n) each may h =
      let asks = refuse_asks spoken past (owed past) p n may in
      ap (λ (k : ℕ). k + runs_at at past) (more_replies past at p 1 (Refuse n) (entries_shown past p (Refuse n) asks.0 (λ a. refl) asks.1))
      ∙ sum_replied (eqb p at) (replies_in (shown_at at past)) (runs_at at past) (times_closed at past) h
  mark_replied past at p Abort each may h =
      let asks = abort_asks spoken past p may in
      ap (λ (k : ℕ). k + runs_at at past) (more_replies past at p 1 Abort (entries_shown past p Abort asks.0 (λ a. refl) asks.1))
      ∙ sum_replied (eqb p at) (replies_in (shown_at at past)) (runs_at at past) (times_closed at past) h
  mark_replied past at p (Flush turns text) each may h = quiet_replied past at p (Flush turns text) refl (runs_changed at (flushed_at turns) (running past) (λ r. refl)) refl h
  mark_replied past at p Ask each may h = quiet_replied past at p Ask refl (runs_changed at asking (running past) (λ r. refl)) refl h
  mark_replied past at p (Line line) each may h = quiet_replied past at p (Line line) refl (runs_changed at (lined line) (running past) (λ r. refl)) refl h
  mark_replied past at p other each may h = quiet_replied past at p other refl refl refl h

  replied : (log : Log) → EachFollows spoken log → (at : ℕ) → Replied at log
  replied [] each at = refl
  replied (Took a ∷ past) each at =
      ap (λ (n : ℕ). replies_in (shown_at at past) + n) (ap (runs_as at) (running_took a (running past)) ∙ runs_unread at (interrupts a.what) (running past))
      ∙ replied past each.0 at
  replied (Marked m ∷ past) each at = mark_replied past at m.at m.kind each.0 each.1 (replied past each.0 at)

  -- the streams shown of a request are those of its cell
  abbrev Streamed : ℕ → Log → Type 0
  Streamed at log = (e : Execute) → execute_at at log ≡ Some e → text_in (shown_at at log) ≡ cond e.silent [] (streams at log)

  -- nothing was shown before it was taken
  nothing_shown : (past : Log) (at : ℕ) → EachFollows spoken past → arrival_at at past ≡ None → (text_in (shown_at at past) ≡ []) × (streams at past ≡ [])
  nothing_shown past at each none = (
    ap text_in (subst (λ (o : Option Arrival). AreFor o (shown_at at past)) none (addressed past at)),
    (quiet_past spoken laws past each at none).text,
  )

  took_streamed : (past : Log) (a : Arrival) (at : ℕ) → EachFollows spoken past → Streamed at past → Streamed at (Took a ∷ past)
  took_streamed past a at each h = λ e there. by_place (eqb (length past) at) refl e there
    where
      by_place : (b : Bool) → eqb (length past) at ≡ b → (e : Execute) → option_at (λ (a : Arrival). execute_in a.what) (cond b (Some a) (arrival_at at past)) ≡ Some e → text_in (shown_at at past) ≡ cond e.silent [] (streams at past)
      by_place true same e there =
          let none = nothing_shown past at each (past_none past at same) in
          none.0 ∙ sym (cond_same e.silent []) ∙ ap (λ (t : List ℕ). cond e.silent [] t) (sym none.1)
      by_place false same e there = h e there

  -- a flush
  flush_streamed : (past : Log) (at p turns : ℕ) (text : List ℕ) (x e : Execute) → execute_at p past ≡ Some x → execute_at at past ≡ Some e → text_in (shown_at at past) ≡ cond e.silent [] (streams at past) → text_in (shown_at at (Marked (record { at = p; kind = Flush turns text }) ∷ past)) ≡ cond e.silent [] (streams at past ++ cond (eqb p at) text [])
  flush_streamed past at p turns text x e asks there h =
      text_append (shown_at at past) _ ∙ ap (λ (t : List ℕ). t ++ text_in (cond (eqb p at) entries [])) h ∙ by_place (eqb p at) refl
    where
      entries : List Entry
      entries = entries_at past (record { at = p; kind = Flush turns text })

      by_place : (b : Bool) → eqb p at ≡ b → cond e.silent [] (streams at past) ++ text_in (cond b entries []) ≡ cond e.silent [] (streams at past ++ cond b text [])
      by_place true same =
          let s = is_shown (Flush turns text) (arrival_at p past) x (λ a. refl) asks in
          let request_is : x ≡ e = same_Some x e (sym asks ∙ ap (λ (q : ℕ). execute_at q past) (eqb-true p at same) ∙ there) in
          ap (λ (t : List ℕ). cond e.silent [] (streams at past) ++ t)
          (ap text_in s.shows ∙ streamed_text s.request x.silent text ∙ ap (λ (y : Execute). cond y.silent [] text) request_is)
          ∙ silent_append e.silent (streams at past) text
      by_place false same = append-nil (cond e.silent [] (streams at past)) ∙ ap (λ (t : List ℕ). cond e.silent [] t) (sym (append-nil (streams at past)))

  -- another mark
  other_streamed : (past : Log) (at p : ℕ) (kind : Kind) (e : Execute) → IsNoFlush kind → streams at (Marked (record { at = p; kind = kind }) ∷ past) ≡ streams at past ++ cond (eqb p at) [] [] → text_in (shown_at at past) ≡ cond e.silent [] (streams at past) → text_in (shown_at at (Marked (record { at = p; kind = kind }) ∷ past)) ≡ cond e.silent [] (streams at (Marked (record { at = p; kind = kind }) ∷ past))
  other_streamed past at p kind e quiet same h =
      text_append (shown_at at past) _
      ∙ ap (λ (t : List ℕ). text_in (shown_at at past) ++ t) (no_text_if (eqb p at) _ (λ b. no_text kind (arrival_at p past) quiet))
      ∙ append-nil (text_in (shown_at at past)) ∙ h
      ∙ ap (λ (t : List ℕ). cond e.silent [] t) (sym (same ∙ cond_nil (eqb p at) (streams at past)))

  mark_streamed : (past : Log) (at p : ℕ) (kind : Kind) → EachFollows spoken past → MayMark spoken past (owed past) (record { at = p; kind = kind }) → (e : Execute) → execute_at at past ≡ Some e → text_in (shown_at at past) ≡ cond e.silent [] (streams at past) → text_in (shown_at at (Marked (record { at = p; kind = kind }) ∷ past)) ≡ cond e.silent [] (streams at (Marked (record { at = p; kind = kind }) ∷ past))
  mark_streamed past at p (Flush turns text) each may e there h =
      let f = flush_may spoken past (owed past) p turns text may in
      flush_streamed past at p turns text f.0.request e (ap (λ (q : ℕ). execute_at q past) f.2.request ∙ runs_asked spoken laws past each f.0 f.1) there h
  mark_streamed past at p other each may e there h = other_streamed past at p other e tt refl h

  all_streamed : (log : Log) → EachFollows spoken log → (at : ℕ) → Streamed at log
  all_streamed [] each at = λ e there. absurd (none-some e there)
  all_streamed (Took a ∷ past) each at = took_streamed past a at each.0 (all_streamed past each.0 at)
  all_streamed (Marked m ∷ past) each at = λ e there.
      let before = asked_before (eqb (length past) at) (arrival_at at past) e there in
      mark_streamed past at m.at m.kind each.0 each.1 e before (all_streamed past each.0 at e before)

  pub shown_right : (log : Log) → EachFollows spoken log → (at : ℕ) → IsShownRight log at
  shown_right log each at = record { addressed = addressed log at; replies = replied log each at; streams = all_streamed log each at }
