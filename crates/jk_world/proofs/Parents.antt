-- Each stream and each error is for the request of the last ExecuteInput before it.
use Rattle.std.proofs.Common.{◌≡◌, ℕ, Bool, true, false, cond, List, [], ◌∷◌, ◌++◌, length, refl, sym, ◌∙◌, ap, subst, arith, Option, None, Some, eqb}
use Rattle.std.specs.Prelude.{slice_get}
use Rattle.std.proofs.lemmas.Option.{none-some, same_Some}
use Rattle.std.proofs.lemmas.Bool.{ne_eqb}
use Rattle.jk_language.specs.Parts.{Line as Given}
use Rattle.jk_language.specs.Spoken.{Spoken, IsLanguage}
use Rattle.jp_msg.specs.declared.message.Message.{Message}
use Rattle.jp_msg.specs.declared.message.Execute.{Execute}
use Rattle.jp_msg.specs.declared.message.Failure.{Failure}
use Rattle.jp_msg.specs.declared.message.Channel.TheVariants as channel
use Rattle.jk_log.specs.declared.arrival.Arrival.{Arrival}
use Rattle.jk_log.specs.declared.arrival.What.{What}
use Rattle.jk_log.specs.declared.arrival.What.TheVariants as what
use Rattle.jk_log.specs.declared.entry.Entry.{Entry}
use Rattle.jk_log.specs.declared.mark.Item.{Item}
use Rattle.jk_log.specs.declared.mark.Item.TheVariants.{Took, Marked}
use Rattle.jk_log.specs.declared.mark.Mark.{Mark}
use Rattle.jk_log.specs.declared.mark.Kind.{Kind}
use Rattle.jk_log.specs.declared.mark.Kind.TheVariants.{Join, Leave, Begin, Flush, Ask, Line, End, Stop, Refuse, Abort, Answer, Interrupt, KernelInfo, Restart}
use Rattle.jk_log.specs.declared.mark.Ending.{Ending}
use Rattle.jk_log.specs.declared.mark.Ending.TheVariants.{Completed, Trapped, Refused}
use Rattle.jk_log.specs.declared.mark.Cause.{Cause}
use Rattle.jp_msg.specs.declared.message.Completeness.{Completeness}
use Rattle.jp_msg.specs.declared.message.Output.{Output}
use Rattle.jp_msg.specs.declared.message.Output.TheVariants.{InterruptReply, KernelInfoReply, ShutdownReply}
use Rattle.jp_msg.specs.declared.message.Request.{Request}
use Rattle.jp_msg.specs.declared.message.Request.TheVariants as request
use Rattle.jk_log.specs.Asked.{message_execute, message_query, execute_in}
use Rattle.jk_log.specs.Failures.{refusal_failure, trap_failure, cause_failure}
use Rattle.jk_log.specs.Log.{Log, Running, running, waiting, arrival_at, arrival_in, execute_at, option_at, option_or, option_with, seat_at, flushed_at, lined}
use Rattle.jk_log.specs.Legal.{Due, MarkDue, AnswerDue, FlushDue, StopDue, IsForced, EachFollows, MayMark, MayCome, owed}
use Rattle.jk_log.specs.Render.{unless, streamed, begun, failed, ended, shown_of, execute_shown, answered, answer_shown, query_shown, control_shown, entries_of, entries_at, render}
use Rattle.jk_log.proofs.Logs.{execute_within}
use Rattle.jk_world.specs.Parents.{last_input, ParentsFit, input_by, role}
use Rattle.jk_world.proofs.Basics.{no_run}
use Rattle.jk_world.proofs.Dues.{begin_asks}
use Rattle.jk_world.specs.Cells.{interrupts}
use Rattle.jk_world.proofs.Streams.{flush_may, runs_asked, begun_run, run_asked, run_took, running_took}
use Rattle.jk_world.proofs.Lines.{line_runs}

-- these entries fit, and leave this request as the last begun
abbrev Shows : Option Message → List Entry → Option Message → Type 0
Shows last es next = ParentsFit last es × (last_input last es ≡ next)

shows_append : (last mid next : Option Message) (xs ys : List Entry) → Shows last xs mid → Shows mid ys next → Shows last (xs ++ ys) next
shows_append last mid next [] ys a b = subst (λ (o : Option Message). Shows o ys next) (sym a.1) b
shows_append last mid next (x ∷ xs) ys a b =
    let rest = shows_append (input_by (role x.content) x.parent last) mid next xs ys (a.0.1, a.1) b in
    ((a.0.0, rest.0), rest.1)

shell_quiet : (kind : Kind) (seat : ℕ) (last : Option Message) (m : Message) (o : Option Execute) → ((e : Execute) → Shows last (shown_of seat kind m e) last) → Shows last (option_or (shown_of seat kind m) [] o) last
shell_quiet kind seat last m None h = (tt, refl)
shell_quiet kind seat last m (Some e) h = h e

what_quiet : (kind : Kind) (seat : ℕ) (last : Option Message) (w : What) → ((m : Message) (e : Execute) → Shows last (shown_of seat kind m e) last) → Shows last (execute_shown seat kind w) last
what_quiet kind seat last (what.Shell m) h = shell_quiet kind seat last m (message_execute m) (h m)
what_quiet kind seat last what.Join h = (tt, refl)
what_quiet kind seat last what.Leave h = (tt, refl)
what_quiet kind seat last (what.Control m) h = (tt, refl)
what_quiet kind seat last (what.Stdin m) h = (tt, refl)

control_quiet : (seat : ℕ) (output : Output) (last : Option Message) (w : What) → ((m : Message) → Shows last (answered seat channel.Control m output) last) → Shows last (control_shown seat output w) last
control_quiet seat output last (what.Shell m) h = (tt, refl)
control_quiet seat output last what.Join h = (tt, refl)
control_quiet seat output last what.Leave h = (tt, refl)
control_quiet seat output last (what.Control m) h = h m
control_quiet seat output last (what.Stdin m) h = (tt, refl)

complete_quiet : (seat : ℕ) (last : Option Message) (m : Message) (status : Option Completeness) (code : List ℕ) → Shows last (answer_shown seat status m (request.IsComplete code)) last
complete_quiet seat last m None code = (tt, refl)
complete_quiet seat last m (Some c) code = ((tt, (tt, (tt, tt))), refl)

answer_quiet : (seat : ℕ) (last : Option Message) (m : Message) (status : Option Completeness) (q : Request) → Shows last (answer_shown seat status m q) last
answer_quiet seat last m status (request.IsComplete code) = complete_quiet seat last m status code
answer_quiet seat last m status request.KernelInfo = ((tt, (tt, (tt, tt))), refl)
answer_quiet seat last m status (request.Complete cursor) = ((tt, (tt, (tt, tt))), refl)
answer_quiet seat last m status request.Inspect = ((tt, (tt, (tt, tt))), refl)
answer_quiet seat last m status request.History = ((tt, (tt, (tt, tt))), refl)
answer_quiet seat last m status request.CommInfo = ((tt, (tt, (tt, tt))), refl)
answer_quiet seat last m status (request.Execute e) = (tt, refl)
answer_quiet seat last m status request.Interrupt = (tt, refl)
answer_quiet seat last m status (request.Shutdown restart) = (tt, refl)
answer_quiet seat last m status (request.InputReply line) = (tt, refl)
answer_quiet seat last m status request.Other = (tt, refl)

asked_quiet : (seat : ℕ) (last : Option Message) (m : Message) (status : Option Completeness) (o : Option Request) → Shows last (option_or (answer_shown seat status m) [] o) last
asked_quiet seat last m status None = (tt, refl)
asked_quiet seat last m status (Some q) = answer_quiet seat last m status q

query_quiet : (seat : ℕ) (last : Option Message) (status : Option Completeness) (w : What) → Shows last (query_shown seat status w) last
query_quiet seat last status (what.Shell m) = asked_quiet seat last m status (message_query m)
query_quiet seat last status what.Join = (tt, refl)
query_quiet seat last status what.Leave = (tt, refl)
query_quiet seat last status (what.Control m) = (tt, refl)
query_quiet seat last status (what.Stdin m) = (tt, refl)

option_quiet : (kind : Kind) (last : Option Message) (o : Option Arrival) → ((a : Arrival) → Shows last (entries_of kind a) last) → Shows last (option_or (entries_of kind) [] o) last
option_quiet kind last None h = (tt, refl)
option_quiet kind last (Some a) h = h a

join_shows : (last : Option Message) (o : Option Arrival) → Shows last (option_or (entries_of Join) [] o) last
join_shows last o = option_quiet Join last o (λ a. ((tt, tt), refl))

leave_shows : (last : Option Message) (o : Option Arrival) → Shows last (option_or (entries_of Leave) [] o) last
leave_shows last o = option_quiet Leave last o (λ a. ((tt, tt), refl))

ask_shows : (last : Option Message) (o : Option Arrival) → Shows last (option_or (entries_of Ask) [] o) last
ask_shows last o = option_quiet Ask last o (λ a. what_quiet Ask a.seat last a.what (λ m e. ((tt, tt), refl)))

line_shows : (line : Given) (last : Option Message) (o : Option Arrival) → Shows last (option_or (entries_of (Line line)) [] o) last
line_shows line last o = option_quiet (Line line) last o (λ a. what_quiet (Line line) a.seat last a.what (λ m e. (tt, refl)))

refuse_shows : (n : ℕ) (last : Option Message) (o : Option Arrival) → Shows last (option_or (entries_of (Refuse n)) [] o) last
refuse_shows n last o = option_quiet (Refuse n) last o (λ a. what_quiet (Refuse n) a.seat last a.what (λ m e. ((tt, (tt, (tt, tt))), refl)))

abort_shows : (last : Option Message) (o : Option Arrival) → Shows last (option_or (entries_of Abort) [] o) last
abort_shows last o = option_quiet Abort last o (λ a. what_quiet Abort a.seat last a.what (λ m e. ((tt, (tt, (tt, tt))), refl)))

interrupt_shows : (last : Option Message) (o : Option Arrival) → Shows last (option_or (entries_of Interrupt) [] o) last
interrupt_shows last o = option_quiet Interrupt last o (λ a. control_quiet a.seat InterruptReply last a.what (λ m. ((tt, (tt, (tt, tt))), refl)))

info_shows : (last : Option Message) (o : Option Arrival) → Shows last (option_or (entries_of KernelInfo) [] o) last
info_shows last o = option_quiet KernelInfo last o (λ a. control_quiet a.seat KernelInfoReply last a.what (λ m. ((tt, (tt, (tt, tt))), refl)))

restart_shows : (restart : Bool) (last : Option Message) (o : Option Arrival) → Shows last (option_or (entries_of (Restart restart)) [] o) last
restart_shows restart last o = option_quiet (Restart restart) last o (λ a. control_quiet a.seat (ShutdownReply restart) last a.what (λ m. ((tt, (tt, (tt, tt))), refl)))

answer_shows : (status : Option Completeness) (last : Option Message) (o : Option Arrival) → Shows last (option_or (entries_of (Answer status)) [] o) last
answer_shows status last o = option_quiet (Answer status) last o (λ a. query_quiet a.seat last status a.what)

-- what the marks of a cell show

begin_shows : (seat n : ℕ) (last : Option Message) (m : Message) (e : Execute) → Shows last (shown_of seat (Begin n) m e) (cond e.silent last (Some m))
begin_shows seat n last m e = by_silent e.silent
  where
    by_silent : (b : Bool) → Shows last (begun m (record e { silent = b }) n) (cond b last (Some m))
    by_silent true = ((tt, tt), refl)
    by_silent false = ((tt, (tt, tt)), refl)

flush_shows : (last : Option Message) (m : Message) (b : Bool) (text : List ℕ) → (b ≡ false → last ≡ Some m) → Shows last (unless b (streamed m text)) last
flush_shows last m true text h = (tt, refl)
flush_shows last m false [] h = (tt, refl)
flush_shows last m false (c ∷ text) h = (((m, refl, h refl), tt), refl)

failed_shows : (seat n : ℕ) (last : Option Message) (m : Message) (b : Bool) (f : Failure) → (b ≡ false → last ≡ Some m) → Shows last (failed seat m b f n) last
failed_shows seat n last m true f h = ((tt, (tt, tt)), refl)
failed_shows seat n last m false f h = (((m, refl, h refl), (tt, (tt, tt))), refl)

ended_shows : (seat n : ℕ) (last : Option Message) (m : Message) (b : Bool) (ending : Ending) → (b ≡ false → last ≡ Some m) → Shows last (ended seat m b ending n) last
ended_shows seat n last m b Completed h = ((tt, (tt, tt)), refl)
ended_shows seat n last m b (Trapped trap) h = failed_shows seat n last m b (trap_failure trap) h
ended_shows seat n last m b (Refused refusal) h = failed_shows seat n last m b (refusal_failure refusal) h

-- the request at a place

abbrev pub shell_in : What → Option Message
shell_in (what.Shell m) = Some m
shell_in what.Join = None
shell_in what.Leave = None
shell_in (what.Control m) = None
shell_in (what.Stdin m) = None

abbrev pub asker : Option Arrival → Option Message
asker o = option_at (λ (a : Arrival). shell_in a.what) o

pub record IsShown (kind : Kind) (o : Option Arrival) (e : Execute) : Type 0 where
  pub seat : ℕ
  pub request : Message
  pub asks : asker o ≡ Some request
  pub shows : option_or (entries_of kind) [] o ≡ shown_of seat kind request e

what_shown : (kind : Kind) (seat : ℕ) (w : What) (e : Execute) → execute_in w ≡ Some e → (m : Message) × (shell_in w ≡ Some m) × (execute_shown seat kind w ≡ shown_of seat kind m e)
what_shown kind seat (what.Shell m) e h = (m, refl, ap (option_or (shown_of seat kind m) []) h)
what_shown kind seat what.Join e h = absurd (none-some e h)
what_shown kind seat what.Leave e h = absurd (none-some e h)
what_shown kind seat (what.Control m) e h = absurd (none-some e h)
what_shown kind seat (what.Stdin m) e h = absurd (none-some e h)

pub is_shown : (kind : Kind) (o : Option Arrival) (e : Execute) → ((a : Arrival) → entries_of kind a ≡ execute_shown a.seat kind a.what) → option_at (λ (a : Arrival). execute_in a.what) o ≡ Some e → IsShown kind o e
is_shown kind None e same h = absurd (none-some e h)
is_shown kind (Some a) e same h =
    let s = what_shown kind a.seat a.what e h in
    record { seat = a.seat; request = s.0; asks = s.1; shows = same a ∙ s.2 }

asker_grows : (log : Log) (e : Item) (at : ℕ) (x : Execute) → execute_at at log ≡ Some x → asker (arrival_at at (e ∷ log)) ≡ asker (arrival_at at log)
asker_grows log e at x h =
    let within = execute_within log at x h in
    let apart : eqb (length log) at ≡ false = ne_eqb (length log) at (λ e. omega arith) in
    ap (λ (b : Bool). asker (cond b (arrival_in e) (arrival_at at log))) apart

-- what a log has shown
record IsOwn (log : Log) : Type 0 where
  fit : ParentsFit None (render log)
  runs : (r : Running) → running log ≡ Some r → r.request.silent ≡ false → last_input None (render log) ≡ asker (arrival_at r.at log)

module _ {S T : Type 0} (spoken : Spoken S T) where
  pub end_may : (past : Log) (dues : List Due) (at n : ℕ) (e : Ending) → MayMark spoken past dues (record { at = at; kind = End e n }) → MayCome spoken past at (End e n)
  end_may past [] at n e h = h
  end_may past (MarkDue a due ∷ dues) at n e (same, forced) = absurd (subst IsForced (sym (ap (λ (m : Mark). m.kind) same)) forced)
  end_may past (AnswerDue a ∷ dues) at n e (status, same, right) = let k : End e n ≡ Answer status = ap (λ (m : Mark). m.kind) same in cc
  end_may past (FlushDue ∷ dues) at n e h = absurd h.0
  end_may past (StopDue cause ∷ dues) at n e (t, k, is, rest) = cc

  pub stop_may : (past : Log) (dues : List Due) (at turns n : ℕ) (c : Cause) → MayMark spoken past dues (record { at = at; kind = Stop turns c n }) → (r : Running) × (running past ≡ Some r) × (at ≡ r.at)
  stop_may past [] at turns n c (is, r, runs, s) = (r, runs, s.request)
  stop_may past (MarkDue a due ∷ dues) at turns n c (same, forced) = absurd (subst IsForced (sym (ap (λ (m : Mark). m.kind) same)) forced)
  stop_may past (AnswerDue a ∷ dues) at turns n c (status, same, right) = let k : Stop turns c n ≡ Answer status = ap (λ (m : Mark). m.kind) same in cc
  stop_may past (FlushDue ∷ dues) at turns n c h = absurd h.0
  stop_may past (StopDue cause ∷ dues) at turns n c (t, k, is, (r, runs, s)) = (r, runs, s.request)

module _ {S T : Type 0} (spoken : Spoken S T) (laws : IsLanguage spoken) where
  -- one more mark, whose entries fit
  marked_own : (past : Log) (m : Mark) (next : Option Message) → IsOwn past → Shows (last_input None (render past)) (entries_at past m) next → ((r : Running) → running (Marked m ∷ past) ≡ Some r → r.request.silent ≡ false → next ≡ asker (arrival_at r.at (Marked m ∷ past))) → IsOwn (Marked m ∷ past)
  marked_own past m next h shows runs =
      let all = shows_append None (last_input None (render past)) next (render past) (entries_at past m) (h.fit, refl) shows in
      record { fit = all.0; runs = λ r e loud. all.1 ∙ runs r e loud }

  -- a mark after which the same cell runs, or none
  same_own : (past : Log) (m : Mark) → EachFollows spoken past → IsOwn past → Shows (last_input None (render past)) (entries_at past m) (last_input None (render past)) → ((r : Running) → running (Marked m ∷ past) ≡ Some r → (q : Running) × (running past ≡ Some q) × (q.at ≡ r.at) × (q.request ≡ r.request)) → IsOwn (Marked m ∷ past)
  same_own past m each h shows same =
      marked_own past m _ h shows
      (λ r e loud. (
      let s = same r e in
      h.runs s.0 s.1 (ap (λ (x : Execute). x.silent) s.3 ∙ loud)
      ∙ sym (asker_grows past (Marked m) s.0.at s.0.request (runs_asked spoken laws past each s.0 s.1))
      ∙ ap (λ (p : ℕ). asker (arrival_at p (Marked m ∷ past))) s.2
      ))

  -- what the cell that runs has shown last
  cell_last : (past : Log) (r : Running) (at : ℕ) (m : Message) → IsOwn past → running past ≡ Some r → at ≡ r.at → asker (arrival_at at past) ≡ Some m → r.request.silent ≡ false → last_input None (render past) ≡ Some m
  cell_last past r at m h runs here asks loud = h.runs r runs loud ∙ ap (λ (p : ℕ). asker (arrival_at p past)) (sym here) ∙ asks

  asked_at : (past : Log) (r : Running) (at : ℕ) → EachFollows spoken past → running past ≡ Some r → at ≡ r.at → execute_at at past ≡ Some r.request
  asked_at past r at each runs here = ap (λ (p : ℕ). execute_at p past) here ∙ runs_asked spoken laws past each r runs

  begin_own : (past : Log) (at n : ℕ) → (e : Execute) × (execute_at at past ≡ Some e) → IsOwn past → IsOwn (Marked (record { at = at; kind = Begin n }) ∷ past)
  begin_own past at n asks h =
      let s = is_shown (Begin n) (arrival_at at past) asks.0 (λ a. refl) asks.1 in
      let last = last_input None (render past) in
      marked_own past _ (cond asks.0.silent last (Some s.request)) h
      (subst (λ (es : List Entry). Shows last es (cond asks.0.silent last (Some s.request))) (sym s.shows) (begin_shows s.seat n last s.request asks.0))
      (λ r e loud. (
      let b = begun_run at (seat_at at past) (execute_at at past) r e in
      let same : asks.0 ≡ r.request = same_Some asks.0 b.0 (sym asks.1 ∙ b.1) ∙ ap (λ (r : Running). r.request) b.2 in
      ap (λ (b : Bool). cond b last (Some s.request)) (ap (λ (x : Execute). x.silent) same ∙ loud)
      ∙ sym s.asks ∙ sym (asker_grows past (Marked (record { at = at; kind = Begin n })) at asks.0 asks.1)
      ∙ ap (λ (p : ℕ). asker (arrival_at p (Marked (record { at = at; kind = Begin n }) ∷ past))) (ap (λ (r : Running). r.at) b.2)
      ))

  flush_own : (past : Log) (at turns : ℕ) (text : List ℕ) → EachFollows spoken past → MayCome spoken past at (Flush turns text) → IsOwn past → IsOwn (Marked (record { at = at; kind = Flush turns text }) ∷ past)
  flush_own past at turns text each (r, runs, f) h =
      let s = is_shown (Flush turns text) (arrival_at at past) r.request (λ a. refl) (asked_at past r at each runs f.request) in
      let last = last_input None (render past) in
      same_own past _ each h
      (subst (λ (es : List Entry). Shows last es last) (sym s.shows)
      (flush_shows last s.request r.request.silent text (cell_last past r at s.request h runs f.request s.asks)))
      (λ q e. (
      let now : flushed_at turns r ≡ q = same_Some (flushed_at turns r) q (sym (ap (option_with (flushed_at turns)) runs) ∙ e) in
      (r, runs, ap (λ (q : Running). q.at) now, ap (λ (q : Running). q.request) now)
      ))

  end_own : (past : Log) (at n : ℕ) (ending : Ending) → EachFollows spoken past → MayCome spoken past at (End ending n) → IsOwn past → IsOwn (Marked (record { at = at; kind = End ending n }) ∷ past)
  end_own past at n ending each (r, runs, f) h =
      let s = is_shown (End ending n) (arrival_at at past) r.request (λ a. refl) (asked_at past r at each runs f.request) in
      let last = last_input None (render past) in
      same_own past _ each h
      (subst (λ (es : List Entry). Shows last es last) (sym s.shows)
      (ended_shows s.seat n last s.request r.request.silent ending (cell_last past r at s.request h runs f.request s.asks)))
      (λ q e. no_run q _ e)

  stop_own : (past : Log) (at turns n : ℕ) (cause : Cause) (r : Running) → EachFollows spoken past → running past ≡ Some r → at ≡ r.at → IsOwn past → IsOwn (Marked (record { at = at; kind = Stop turns cause n }) ∷ past)
  stop_own past at turns n cause r each runs here h =
      let s = is_shown (Stop turns cause n) (arrival_at at past) r.request (λ a. refl) (asked_at past r at each runs here) in
      let last = last_input None (render past) in
      same_own past _ each h
      (subst (λ (es : List Entry). Shows last es last) (sym s.shows)
      (failed_shows s.seat n last s.request r.request.silent (cause_failure cause) (cell_last past r at s.request h runs here s.asks)))
      (λ q e. no_run q _ e)

  mark_own : (past : Log) (at : ℕ) (kind : Kind) → EachFollows spoken past → MayMark spoken past (owed past) (record { at = at; kind = kind }) → IsOwn past → IsOwn (Marked (record { at = at; kind = kind }) ∷ past)
  mark_own past at (Begin n) each may h = begin_own past at n (begin_asks spoken past (owed past) at n may) h
  mark_own past at (Flush turns text) each may h = flush_own past at turns text each (flush_may spoken past (owed past) at turns text may) h
  mark_own past at (End ending n) each may h = end_own past at n ending each (end_may spoken past (owed past) at n ending may) h
  mark_own past at (Stop turns cause n) each may h =
      let s = stop_may spoken past (owed past) at turns n cause may in
      stop_own past at turns n cause s.0 each s.1 s.2 h
  mark_own past at Ask each may h = same_own past _ each h (ask_shows _ (arrival_at at past))
      (λ r e. let q = run_asked (running past) r e in (q.0, q.1, q.2.at, q.2.request))
  mark_own past at (Line line) each may h =
      let q = line_runs spoken past at line may in
      same_own past _ each h (line_shows line _ (arrival_at at past))
      (λ r e. (
      let now : lined line q.0 ≡ r = same_Some (lined line q.0) r (sym (ap (option_with (lined line)) q.1) ∙ e) in
      (q.0, q.1, ap (λ (r : Running). r.at) now, ap (λ (r : Running). r.request) now)
      ))
  mark_own past at Join each may h = same_own past _ each h (join_shows _ (arrival_at at past)) (λ r e. (r, e, refl, refl))
  mark_own past at Leave each may h = same_own past _ each h (leave_shows _ (arrival_at at past)) (λ r e. (r, e, refl, refl))
  mark_own past at (Refuse n) each may h = same_own past _ each h (refuse_shows n _ (arrival_at at past)) (λ r e. (r, e, refl, refl))
  mark_own past at Abort each may h = same_own past _ each h (abort_shows _ (arrival_at at past)) (λ r e. (r, e, refl, refl))
  mark_own past at Interrupt each may h = same_own past _ each h (interrupt_shows _ (arrival_at at past)) (λ r e. (r, e, refl, refl))
  mark_own past at KernelInfo each may h = same_own past _ each h (info_shows _ (arrival_at at past)) (λ r e. (r, e, refl, refl))
  mark_own past at (Restart restart) each may h = same_own past _ each h (restart_shows restart _ (arrival_at at past)) (λ r e. (r, e, refl, refl))
  mark_own past at (Answer status) each may h = same_own past _ each h (answer_shows status _ (arrival_at at past)) (λ r e. (r, e, refl, refl))

  took_own : (past : Log) (a : Arrival) → EachFollows spoken past → IsOwn past → IsOwn (Took a ∷ past)
  took_own past a each h = record {
    fit = h.fit;
    runs = λ r e loud. (
        let q = run_took (interrupts a.what) (running past) r (sym (running_took a (running past)) ∙ e) in
        h.runs q.0 q.1 (ap (λ (x : Execute). x.silent) q.2.request ∙ loud)
        ∙ sym (asker_grows past (Took a) q.0.at q.0.request (runs_asked spoken laws past each q.0 q.1))
        ∙ ap (λ (p : ℕ). asker (arrival_at p (Took a ∷ past))) q.2.at
        );
  }

  own : (log : Log) → EachFollows spoken log → IsOwn log
  own [] each = record { fit = tt; runs = λ r e. no_run r _ e }
  own (Took a ∷ past) each = took_own past a each.0 (own past each.0)
  own (Marked m ∷ past) each = mark_own past m.at m.kind each.0 each.1 (own past each.0)

  pub parents_fit : (log : Log) → EachFollows spoken log → ParentsFit None (render log)
  parents_fit log each = (own log each).fit
