-- What is shown of a cell, from its busy to its idle.
use Rattle.std.proofs.Common.{◌≡◌, ◌≢◌, ◌⊎◌, ℕ, ◌+◌, ◌≤◌, Bool, true, false, cond, List, [], ◌∷◌, ◌++◌, length, refl, sym, ◌∙◌, ap, subst, append_assoc, arith, Option, None, Some, inl, inr, eqb}
use Rattle.std.specs.Prelude.{slice_get}
use Rattle.std.proofs.lemmas.List.{append-nil}
use Rattle.std.proofs.lemmas.Option.{none-some, same_Some}
use Rattle.std.proofs.lemmas.Bool.{eqb-true}
use Rattle.jk_language.specs.Spoken.{Spoken}
use Rattle.jp_msg.specs.declared.message.Completeness.{Completeness}
use Rattle.jp_msg.specs.declared.message.Content.{Content}
use Rattle.jp_msg.specs.declared.message.Content.TheVariants as content
use Rattle.jp_msg.specs.declared.message.Execute.{Execute}
use Rattle.jp_msg.specs.declared.message.Failure.{Failure}
use Rattle.jp_msg.specs.declared.message.Message.{Message}
use Rattle.jp_msg.specs.declared.message.Output.{Output}
use Rattle.jp_msg.specs.declared.message.Output.TheVariants.{ExecuteReply, InputRequest, InterruptReply, KernelInfoReply, ShutdownReply, Stream}
use Rattle.jp_msg.specs.declared.message.Channel.TheVariants.{Stdin}
use Rattle.jp_msg.specs.declared.message.Outcome.{Outcome}
use Rattle.jp_msg.specs.declared.message.Outcome.TheVariants.{Failed, Aborted}
use Rattle.jp_msg.specs.declared.message.Request.{Request}
use Rattle.jp_msg.specs.declared.message.Request.TheVariants as request
use Rattle.jk_log.specs.declared.arrival.Arrival.{Arrival}
use Rattle.jk_log.specs.declared.arrival.What.{What}
use Rattle.jk_log.specs.declared.arrival.What.TheVariants as what
use Rattle.jk_log.specs.declared.entry.Entry.{Entry}
use Rattle.jk_log.specs.declared.mark.Item.{Item}
use Rattle.jk_log.specs.declared.mark.Item.TheVariants.{Took, Marked}
use Rattle.jk_log.specs.declared.mark.Mark.{Mark}
use Rattle.jk_log.specs.declared.mark.Kind.{Kind}
use Rattle.jk_log.specs.declared.mark.Kind.TheVariants.{Join, Leave, Begin, Flush, Ask, Line, End, Stop, Refuse, Abort, Answer, Interrupt, KernelInfo, Restart}
use Rattle.jk_log.specs.declared.mark.Ending.{Ending}
use Rattle.jk_log.specs.declared.mark.Ending.TheVariants.{Completed, Trapped, Refused}
use Rattle.jk_log.specs.declared.mark.Cause.{Cause}
use Rattle.jk_log.specs.declared.mark.Cause.TheVariants as cause
use Rattle.jk_log.specs.Asked.{content_execute, content_query, execute_in, message_execute, message_query}
use Rattle.jk_log.specs.Failures.{refusal_failure, trap_failure, cause_failure}
use Rattle.jk_log.specs.Legal.{EachFollows, MayMark, owed}
use Rattle.jk_log.specs.Log.{Log, Running, arrival_at, count, option_or, running, waiting}
use Rattle.jk_log.specs.Render.{answer_shown, control_shown, entries_at, entries_of, execute_shown, failed, query_shown, shown_of, streamed}
use Rattle.jk_world.specs.Answers.{exchange, outputs_in}
use Rattle.jk_world.specs.Cells as cells
use Rattle.jk_world.specs.Cells.{answers, begins, closed_as, closed_by, count_at, count_by, ends, runs_at, times_aborted, times_answered, times_begun, times_closed, times_ended}
use Rattle.jk_world.specs.Requests.{AreFor, message_in, shown_at}
use Rattle.jk_world.specs.Shown.{AreBetween, IsBetween, IsCellShown, IsShownAs, IsTurnedAway, TellsWhy, closes, closes_by, opens, to_all, to_asker, unless}
use Rattle.jk_world.proofs.Answered.{addressed}
use Rattle.jk_world.proofs.Asks.{ask_may}
use Rattle.jk_world.proofs.Basics.{arrival_past, cond_same, cond_no}
use Rattle.jk_world.proofs.Dues.{restart_idle}
use Rattle.jk_world.proofs.Ends.{begin_idle, lives, runs_none, runs_one}
use Rattle.jk_world.proofs.Once.{answers_first, first_new, not_answered_yet}
use Rattle.jk_world.proofs.Outcomes.{begun_few, running_open, stop_stops, waiting_open}
use Rattle.jk_world.proofs.Parents.{end_may}
use Rattle.jk_world.proofs.Replied.{outputs_more, outputs_same}
use Rattle.jk_world.proofs.Streams.{flush_may}
use Rattle.std.proofs.Common.{eq-eqb}
use Rattle.std.proofs.lemmas.Bool.Decides.{eqb_tells}

-- what is begun is closed, and what is closed is answered
begun_if : (b : Bool) (kind : Kind) (m n : ℕ) → m ≤ n → m + cond b (begins kind) 0 ≤ n + cond b (cells.closes kind) 0
begun_if true (Begin k) m n h = omega arith
begun_if true (Refuse k) m n h = omega arith
begun_if true Abort m n h = omega arith
begun_if true other m n h = omega arith
begun_if false kind m n h = omega arith

begun_closed : (log : Log) (at : ℕ) → times_begun at log ≤ times_closed at log
begun_closed [] at = omega arith
begun_closed (Took a ∷ past) at = begun_closed past at
begun_closed (Marked m ∷ past) at = begun_if (eqb m.at at) m.kind (times_begun at past) (times_closed at past) (begun_closed past at)

aborted_if : (b : Bool) (kind : Kind) (m n : ℕ) → m ≤ n → m + cond b (cells.aborts kind) 0 ≤ n + cond b (cells.closes kind) 0
aborted_if true (Begin k) m n h = omega arith
aborted_if true (Refuse k) m n h = omega arith
aborted_if true Abort m n h = omega arith
aborted_if true other m n h = omega arith
aborted_if false kind m n h = omega arith

aborted_closed : (log : Log) (at : ℕ) → times_aborted at log ≤ times_closed at log
aborted_closed [] at = omega arith
aborted_closed (Took a ∷ past) at = aborted_closed past at
aborted_closed (Marked m ∷ past) at = aborted_if (eqb m.at at) m.kind (times_aborted at past) (times_closed at past) (aborted_closed past at)

closed_if : (b : Bool) (kind : Kind) (m n : ℕ) → m ≤ n → m + cond b (cells.closes kind) 0 ≤ n + cond b (answers kind) 0
closed_if true (Begin k) m n h = omega arith
closed_if true (Refuse k) m n h = omega arith
closed_if true Abort m n h = omega arith
closed_if true (Answer status) m n h = omega arith
closed_if true other m n h = omega arith
closed_if false kind m n h = omega arith

pub closed_few : (log : Log) (at : ℕ) → times_closed at log ≤ times_answered at log
closed_few [] at = omega arith
closed_few (Took a ∷ past) at = closed_few past at
closed_few (Marked m ∷ past) at = closed_if (eqb m.at at) m.kind (times_closed at past) (times_answered at past) (closed_few past at)

-- what is not ended or stopped was not so
open_ended : (at : ℕ) (log : Log) → closed_as at log ≡ None → times_ended at log ≡ 0
open_ended at [] h = refl
open_ended at (Took a ∷ past) h = open_ended at past h
open_ended at (Marked m ∷ past) h = one (eqb m.at at) m.kind (open_ended at past) h
  where
    closes_it : (b : Bool) (k : Kind) → (closed_as at past ≡ None → times_ended at past ≡ 0) → cond b (Some k) (closed_as at past) ≡ None → times_ended at past + cond b 1 0 ≡ 0
    closes_it true k before h = absurd (none-some k (sym h))
    closes_it false k before h = let z = before h in omega (arith, z)

    keeps_it : (b : Bool) → (closed_as at past ≡ None → times_ended at past ≡ 0) → cond b (closed_as at past) (closed_as at past) ≡ None → times_ended at past + cond b 0 0 ≡ 0
    keeps_it true before h = let z = before h in omega (arith, z)
    keeps_it false before h = let z = before h in omega (arith, z)

    one : (b : Bool) (k : Kind) → (closed_as at past ≡ None → times_ended at past ≡ 0) → cond b (closed_by k (closed_as at past)) (closed_as at past) ≡ None → times_ended at past + cond b (ends k) 0 ≡ 0
    one b (End ending n) before h = closes_it b (End ending n) before h
    one b (Stop turns why n) before h = closes_it b (Stop turns why n) before h
    one b other before h = keeps_it b before h

-- ---- the entries of an execute request

shell : (w : What) (e : Execute) (sent : Message) → execute_in w ≡ Some e → message_in w ≡ Some sent → (w ≡ what.Shell sent) × (message_execute sent ≡ Some e)
shell (what.Shell m) e sent asks is =
    let same = same_Some m sent is in
    (ap what.Shell same, subst (λ (m : Message). message_execute m ≡ Some e) same asks)
shell what.Join e sent asks is = absurd (none-some e asks)
shell what.Leave e sent asks is = absurd (none-some e asks)
shell (what.Control m) e sent asks is = absurd (none-some e asks)
shell (what.Stdin m) e sent asks is = absurd (none-some e asks)

no_query : (c : Content) (e : Execute) → content_execute c ≡ Some e → content_query c ≡ None
no_query (content.Request (request.Execute x)) e h = refl
no_query (content.Request request.KernelInfo) e h = absurd (none-some e h)
no_query (content.Request (request.IsComplete code)) e h = absurd (none-some e h)
no_query (content.Request (request.Complete cursor)) e h = absurd (none-some e h)
no_query (content.Request request.Inspect) e h = absurd (none-some e h)
no_query (content.Request request.History) e h = absurd (none-some e h)
no_query (content.Request request.CommInfo) e h = absurd (none-some e h)
no_query (content.Request request.Interrupt) e h = absurd (none-some e h)
no_query (content.Request (request.Shutdown restart)) e h = absurd (none-some e h)
no_query (content.Request (request.InputReply line)) e h = absurd (none-some e h)
no_query (content.Request request.Other) e h = absurd (none-some e h)
no_query (content.Output o) e h = absurd (none-some e h)

-- all of these are outputs
begun_out : (silent : Bool) (first second : Output) (sent : Message) → outputs_in (to_all sent first ∷ unless silent (to_all sent second ∷ [])) ≡ to_all sent first ∷ unless silent (to_all sent second ∷ [])
begun_out true first second sent = refl
begun_out false first second sent = refl

failed_out : (seat : ℕ) (sent : Message) (silent : Bool) (f : Failure) (n : ℕ) → outputs_in (failed seat sent silent f n) ≡ failed seat sent silent f n
failed_out seat sent true f n = refl
failed_out seat sent false f n = refl

-- what a flush shows stands between
flush_between : (seat : ℕ) (sent : Message) (e : Execute) (silent : Bool) (text : List ℕ) → e.silent ≡ silent → AreBetween seat sent e (outputs_in (cond silent [] (streamed sent text)))
flush_between seat sent e true text is = tt
flush_between seat sent e false [] is = tt
flush_between seat sent e false (c ∷ text) is = (inl (is, c, text, refl), tt)

between_more : (seat : ℕ) (sent : Message) (e : Execute) (xs ys : List Entry) → AreBetween seat sent e xs → AreBetween seat sent e ys → AreBetween seat sent e (xs ++ ys)
between_more seat sent e [] ys a b = b
between_more seat sent e (x ∷ xs) ys a b = (a.0, between_more seat sent e xs ys a.1 b)

abbrev IsQuiet : Kind → Type 0
IsQuiet (Begin n) = ⊥
IsQuiet (Flush turns text) = ⊥
IsQuiet Ask = ⊥
IsQuiet (End ending n) = ⊥
IsQuiet (Stop turns why n) = ⊥
IsQuiet (Refuse n) = ⊥
IsQuiet Abort = ⊥
IsQuiet other = Unit {0}

-- a quiet mark closes nothing
quiet_times : (b : Bool) (kind : Kind) (begun closed : ℕ) → IsQuiet kind → (begun + cond b (begins kind) 0 ≡ begun) × (closed + cond b (cells.closes kind) 0 ≡ closed)
quiet_times true Join begun closed q = (omega arith, omega arith)
quiet_times true Leave begun closed q = (omega arith, omega arith)
quiet_times true (Line line) begun closed q = (omega arith, omega arith)
quiet_times true (Answer status) begun closed q = (omega arith, omega arith)
quiet_times true Interrupt begun closed q = (omega arith, omega arith)
quiet_times true KernelInfo begun closed q = (omega arith, omega arith)
quiet_times true (Restart restart) begun closed q = (omega arith, omega arith)
quiet_times true (Begin n) begun closed q = absurd q
quiet_times true (Flush turns text) begun closed q = absurd q
quiet_times true Ask begun closed q = absurd q
quiet_times true (End ending n) begun closed q = absurd q
quiet_times true (Stop turns why n) begun closed q = absurd q
quiet_times true (Refuse n) begun closed q = absurd q
quiet_times true Abort begun closed q = absurd q
quiet_times false kind begun closed q = (omega arith, omega arith)

quiet_aborts : (b : Bool) (kind : Kind) (aborted : ℕ) → IsQuiet kind → aborted + cond b (cells.aborts kind) 0 ≡ aborted
quiet_aborts true Abort aborted q = absurd q
quiet_aborts true other aborted q = omega arith
quiet_aborts false kind aborted q = omega arith

quiet_count : (b : Bool) (kind : Kind) (n : ℕ) → IsQuiet kind → cond b (count_by kind n) n ≡ n
quiet_count true (Begin count) n q = absurd q
quiet_count true (Refuse count) n q = absurd q
quiet_count true other n q = refl
quiet_count false kind n q = refl

quiet_closed : (b : Bool) (kind : Kind) (o : Option Kind) → IsQuiet kind → cond b (closed_by kind o) o ≡ o
quiet_closed true Join o q = refl
quiet_closed true Leave o q = refl
quiet_closed true (Line line) o q = refl
quiet_closed true (Answer status) o q = refl
quiet_closed true Interrupt o q = refl
quiet_closed true KernelInfo o q = refl
quiet_closed true (Restart restart) o q = refl
quiet_closed true (Begin n) o q = absurd q
quiet_closed true (Flush turns text) o q = absurd q
quiet_closed true Ask o q = absurd q
quiet_closed true (End ending n) o q = absurd q
quiet_closed true (Stop turns why n) o q = absurd q
quiet_closed true (Refuse n) o q = absurd q
quiet_closed true Abort o q = absurd q
quiet_closed false kind o q = refl

apart_times : (b : Bool) (n k : ℕ) → b ≡ false → n + cond b k 0 ≡ n
apart_times true n k h = absurd (true_not h)
  where
    true_not : true ≡ false → ⊥
    true_not e = cc
apart_times false n k h = omega arith

module _ {S T : Type 0} (spoken : Spoken S T) (at : ℕ) (a : Arrival) (e : Execute) (sent : Message) (asks : execute_in a.what ≡ Some e) (is : message_in a.what ≡ Some sent) where
  w_is : a.what ≡ what.Shell sent
  w_is = (shell a.what e sent asks is).0

  is_cell : message_execute sent ≡ Some e
  is_cell = (shell a.what e sent asks is).1

  cell_shows : (kind : Kind) → execute_shown a.seat kind a.what ≡ shown_of a.seat kind sent e
  cell_shows kind = ap (execute_shown a.seat kind) w_is ∙ ap (option_or (shown_of a.seat kind sent) []) is_cell

  quiet : (kind : Kind) → IsQuiet kind → outputs_in (entries_of kind a) ≡ []
  quiet Join q = refl
  quiet Leave q = refl
  quiet (Line line) q = ap outputs_in (cell_shows (Line line))
  quiet (Answer status) q =
      ap (λ w. outputs_in (query_shown a.seat status w)) w_is
      ∙ ap (λ (o : Option Request). outputs_in (option_or (answer_shown a.seat status sent) [] o)) (no_query sent.content e is_cell)
  quiet Interrupt q = ap (λ w. outputs_in (control_shown a.seat InterruptReply w)) w_is
  quiet KernelInfo q = ap (λ w. outputs_in (control_shown a.seat KernelInfoReply w)) w_is
  quiet (Restart restart) q = ap (λ w. outputs_in (control_shown a.seat (ShutdownReply restart) w)) w_is
  quiet (Begin n) q = absurd q
  quiet (Flush turns text) q = absurd q
  quiet Ask q = absurd q
  quiet (End ending n) q = absurd q
  quiet (Stop turns why n) q = absurd q
  quiet (Refuse n) q = absurd q
  quiet Abort q = absurd q

  -- where the cell runs, its count is the kernel's
  record IsBegun (log : Log) : Type 0 where
    once : times_begun at log ≡ 1
    shown : IsCellShown log at a e sent
    counted : closed_as at log ≡ None → count log ≡ shown.count

  abbrev Now : Log → Type 0
  Now log =
      ((times_closed at log ≡ 0) × (outputs_in (shown_at at log) ≡ []))
      ⊎ (IsBegun log
      ⊎ ((times_begun at log ≡ 0) × (times_closed at log ≡ 1) × IsTurnedAway log at a sent))

  -- a cell that was begun and not closed runs
  open_runs : (past : Log) → EachFollows spoken past → times_begun at past ≡ 1 → closed_as at past ≡ None → (r : Running) × (running past ≡ Some r)
  open_runs past each one lives_on = from (running past) refl
    where
      from : (o : Option Running) → running past ≡ o → (r : Running) × (running past ≡ Some r)
      from (Some r) h = (r, h)
      from None h =
          let all : times_begun at past ≡ times_ended at past + runs_at at past = lives spoken past each at in
          let ended = open_ended at past lives_on in
          let none : runs_at at past ≡ 0 = runs_none at (running past) h in
          absurd (omega (arith, all, ended, none, one))

  -- an item that shows nothing of it
  record IsSame (i : Item) (past : Log) : Type 0 where
    shown : outputs_in (shown_at at (i ∷ past)) ≡ outputs_in (shown_at at past)
    closed : times_closed at (i ∷ past) ≡ times_closed at past
    begun : times_begun at (i ∷ past) ≡ times_begun at past
    aborted : times_aborted at (i ∷ past) ≡ times_aborted at past
    told : count_at at (i ∷ past) ≡ count_at at past
    ended : closed_as at (i ∷ past) ≡ closed_as at past
    counted : (r : Running) → running past ≡ Some r → count (i ∷ past) ≡ count past

  keeps_why : (i : Item) (past : Log) (outcome : Outcome) → IsSame i past → TellsWhy past at outcome → TellsWhy (i ∷ past) at outcome
  keeps_why i past outcome s (inl (one, is)) = inl (s.aborted ∙ one, is)
  keeps_why i past outcome s (inr (none, is)) = inr (s.aborted ∙ none, is ∙ ap (λ (n : ℕ). Failed n (cause_failure cause.Memory)) (sym s.told))

  keeps : (i : Item) (past : Log) → EachFollows spoken past → IsSame i past → Now past → Now (i ∷ past)
  keeps i past each s (inl (none, shown)) = inl (s.closed ∙ none, s.shown ∙ shown)
  keeps i past each s (inr (inl b)) =
      inr (inl (record {
        once = s.begun ∙ b.once;
        shown = record {
          count = b.shown.count;
          begun = s.told ∙ b.shown.begun;
          between = b.shown.between;
          are = b.shown.are;
          shown = s.shown ∙ b.shown.shown ∙ ap (λ (o : Option Kind). opens b.shown.count sent e ++ (b.shown.between ++ closes a.seat sent e b.shown.count o)) (sym s.ended);
        };
        counted = λ lives_on.
            let before = sym s.ended ∙ lives_on in
            let r = open_runs past each b.once before in
            s.counted r.0 r.1 ∙ b.counted before;
      }))
  keeps i past each s (inr (inr (none, one, away))) =
      inr (inr (s.begun ∙ none, s.closed ∙ one, record { outcome = away.outcome; why = keeps_why i past away.outcome s away.why; shown = s.shown ∙ away.shown }))

  -- the count stays while a cell runs
  count_stays : (past : Log) (p : ℕ) (kind : Kind) → EachFollows spoken past → MayMark spoken past (owed past) (record { at = p; kind = kind }) → (r : Running) → running past ≡ Some r → count (Marked (record { at = p; kind = kind }) ∷ past) ≡ count past
  count_stays past p (Begin n) each may r runs = absurd (none-some r (sym (begin_idle spoken past (owed past) p n may) ∙ runs))
  count_stays past p (Restart restart) each may r runs = absurd (none-some r (sym (restart_idle spoken past p restart each may) ∙ runs))
  count_stays past p other each may r runs = refl

  apart : (past : Log) (m : Mark) → EachFollows spoken past → MayMark spoken past (owed past) m → eqb m.at at ≡ false → IsSame (Marked m) past
  apart past m each may b = record {
    shown = ap (λ (c : Bool). outputs_in (shown_at at past ++ cond c (entries_at past m) [])) b ∙ ap outputs_in (append-nil (shown_at at past));
    closed = apart_times (eqb m.at at) (times_closed at past) (cells.closes m.kind) b;
    begun = apart_times (eqb m.at at) (times_begun at past) (begins m.kind) b;
    aborted = apart_times (eqb m.at at) (times_aborted at past) (cells.aborts m.kind) b;
    told = cond_no (eqb m.at at) _ (count_at at past) b;
    ended = cond_no (eqb m.at at) _ (closed_as at past) b;
    counted = count_stays past m.at m.kind each may;
  }

  -- what a mark at this place adds
  adds : (past : Log) (kind : Kind) (es : List Entry) → arrival_at at past ≡ Some a → outputs_in (entries_of kind a) ≡ es → outputs_in (shown_at at (Marked (record { at = at; kind = kind }) ∷ past)) ≡ outputs_in (shown_at at past) ++ es
  adds past kind es there h =
      outputs_more (shown_at at past) (cond (eqb at at) (entries_at past (record { at = at; kind = kind })) [])
      ∙ ap (λ (ys : List Entry). outputs_in (shown_at at past) ++ ys)
      (ap (λ (c : Bool). outputs_in (cond c (entries_at past (record { at = at; kind = kind })) [])) (eq-eqb at at refl)
      ∙ ap (λ (o : Option Arrival). outputs_in (option_or (entries_of kind) [] o)) there ∙ h)

  adds_none : (past : Log) (kind : Kind) → arrival_at at past ≡ Some a → outputs_in (entries_of kind a) ≡ [] → outputs_in (shown_at at (Marked (record { at = at; kind = kind }) ∷ past)) ≡ outputs_in (shown_at at past)
  adds_none past kind there h = adds past kind [] there h ∙ append-nil (outputs_in (shown_at at past))

  same_here : (past : Log) (kind : Kind) → EachFollows spoken past → MayMark spoken past (owed past) (record { at = at; kind = kind }) → arrival_at at past ≡ Some a → IsQuiet kind → IsSame (Marked (record { at = at; kind = kind })) past
  same_here past kind each may there q =
      let times = quiet_times (eqb at at) kind (times_begun at past) (times_closed at past) q in
      record {
        shown = adds_none past kind there (quiet kind q);
        closed = times.1;
        begun = times.0;
        aborted = quiet_aborts (eqb at at) kind (times_aborted at past) q;
        told = quiet_count (eqb at at) kind (count_at at past) q;
        ended = quiet_closed (eqb at at) kind (closed_as at past) q;
        counted = count_stays past at kind each may;
      }

  here : eqb at at ≡ true
  here = eq-eqb at at refl

  -- what is first of what waits waits still
  waits : (past : Log) → EachFollows spoken past → slice_get (waiting past) 0 ≡ Some at → Now past → (times_begun at past ≡ 0) × (times_closed at past ≡ 0) × (outputs_in (shown_at at past) ≡ [])
  waits past each first (inl (none, shown)) = (let b = begun_closed past at in omega (arith, b, none), none, shown)
  waits past each first (inr (inl b)) =
      let f = begun_few past at in
      let n = first_new spoken past each at first in
      let one = b.once in
      absurd (omega (arith, f, n, one))
  waits past each first (inr (inr (none, one, away))) =
      let f = closed_few past at in
      let n = first_new spoken past each at first in
      absurd (omega (arith, f, n, one))

  -- the cell that runs was begun
  runs_begun_at : (past : Log) (r : Running) → EachFollows spoken past → running past ≡ Some r → at ≡ r.at → Now past → (b : IsBegun past) × (closed_as at past ≡ None)
  runs_begun_at past r each runs same now = by now
    where
      is_one : runs_at at past ≡ 1
      is_one = runs_one at at (running past) r runs same ∙ ap (λ (b : Bool). cond b 1 0) here

      all : times_begun at past ≡ times_ended at past + runs_at at past
      all = lives spoken past each at

      lives_on : (o : Option Kind) → closed_as at past ≡ o → closed_as at past ≡ None
      lives_on None h = h
      lives_on (Some kind) h = absurd (running_open spoken past at r kind each runs same h)

      by : Now past → (b : IsBegun past) × (closed_as at past ≡ None)
      by (inl (none, shown)) = let few = begun_closed past at in let one = is_one in let lived = all in absurd (omega (arith, few, none, one, lived))
      by (inr (inl b)) = (b, lives_on (closed_as at past) refl)
      by (inr (inr (none, closed, away))) = let one = is_one in let lived = all in absurd (omega (arith, none, one, lived))

  -- it goes on, and these stand between
  grows : (past : Log) (kind : Kind) (es : List Entry) → EachFollows spoken past → MayMark spoken past (owed past) (record { at = at; kind = kind }) → arrival_at at past ≡ Some a → outputs_in (entries_of kind a) ≡ es → AreBetween a.seat sent e es → times_begun at (Marked (record { at = at; kind = kind }) ∷ past) ≡ times_begun at past → closed_as at (Marked (record { at = at; kind = kind }) ∷ past) ≡ closed_as at past → count_at at (Marked (record { at = at; kind = kind }) ∷ past) ≡ count_at at past → (b : IsBegun past) → closed_as at past ≡ None → Now (Marked (record { at = at; kind = kind }) ∷ past)
  grows past kind es each may there shows are begun ended told b lives_on =
      let c = b.shown.count in
      let ys = b.shown.between in
      inr (inl (record {
        once = begun ∙ b.once;
        shown = record {
          count = c;
          begun = told ∙ b.shown.begun;
          between = ys ++ es;
          are = between_more a.seat sent e ys es b.shown.are are;
          shown =
              adds past kind es there shows
              ∙ ap (λ (xs : List Entry). xs ++ es) (b.shown.shown ∙ ap (λ (o : Option Kind). opens c sent e ++ (ys ++ closes a.seat sent e c o)) lives_on ∙ ap (λ (zs : List Entry). opens c sent e ++ zs) (append-nil ys))
              ∙ append_assoc (opens c sent e) ys es
              ∙ ap (λ (zs : List Entry). opens c sent e ++ zs) (sym (append-nil (ys ++ es)))
              ∙ ap (λ (o : Option Kind). opens c sent e ++ ((ys ++ es) ++ closes a.seat sent e c o)) (sym (ended ∙ lives_on));
        };
        counted = λ o. let r = open_runs past each b.once lives_on in count_stays past at kind each may r.0 r.1 ∙ b.counted lives_on;
      }))

  -- it ends
  ends_so : (past : Log) (kind : Kind) → arrival_at at past ≡ Some a → closed_as at (Marked (record { at = at; kind = kind }) ∷ past) ≡ Some kind → times_begun at (Marked (record { at = at; kind = kind }) ∷ past) ≡ times_begun at past → count_at at (Marked (record { at = at; kind = kind }) ∷ past) ≡ count_at at past → (b : IsBegun past) → outputs_in (entries_of kind a) ≡ closes_by a.seat sent e b.shown.count kind → closed_as at past ≡ None → Now (Marked (record { at = at; kind = kind }) ∷ past)
  ends_so past kind there ended begun told b shows lives_on =
      let c = b.shown.count in
      let ys = b.shown.between in
      inr (inl (record {
        once = begun ∙ b.once;
        shown = record {
          count = c;
          begun = told ∙ b.shown.begun;
          between = ys;
          are = b.shown.are;
          shown =
              adds past kind (closes_by a.seat sent e c kind) there shows
              ∙ ap (λ (xs : List Entry). xs ++ closes_by a.seat sent e c kind) (b.shown.shown ∙ ap (λ (o : Option Kind). opens c sent e ++ (ys ++ closes a.seat sent e c o)) lives_on ∙ ap (λ (zs : List Entry). opens c sent e ++ zs) (append-nil ys))
              ∙ append_assoc (opens c sent e) ys (closes_by a.seat sent e c kind)
              ∙ ap (λ (o : Option Kind). opens c sent e ++ (ys ++ closes a.seat sent e c o)) (sym ended);
        };
        counted = λ o. absurd (none-some kind (sym o ∙ ended));
      }))

  begun_same : (past : Log) (k : Kind) → begins k ≡ 0 → times_begun at (Marked (record { at = at; kind = k }) ∷ past) ≡ times_begun at past
  begun_same past k h =
      ap (λ (b : Bool). times_begun at past + cond b (begins k) 0) here ∙ ap (λ (n : ℕ). times_begun at past + n) h ∙ omega arith

  ending_shows : (ending : Ending) (n c : ℕ) → n ≡ c → outputs_in (entries_of (End ending n) a) ≡ closes_by a.seat sent e c (End ending n)
  ending_shows Completed n c same = ap outputs_in (cell_shows (End Completed n)) ∙ ap (λ (k : ℕ). closes_by a.seat sent e k (End Completed n)) same
  ending_shows (Trapped trap) n c same =
      ap outputs_in (cell_shows (End (Trapped trap) n)) ∙ failed_out a.seat sent e.silent (trap_failure trap) n
      ∙ ap (λ (k : ℕ). failed a.seat sent e.silent (trap_failure trap) k) same
  ending_shows (Refused refusal) n c same =
      ap outputs_in (cell_shows (End (Refused refusal) n)) ∙ failed_out a.seat sent e.silent (refusal_failure refusal) n
      ∙ ap (λ (k : ℕ). failed a.seat sent e.silent (refusal_failure refusal) k) same

  -- it begins
  begins_so : (past : Log) (n : ℕ) → EachFollows spoken past → MayMark spoken past (owed past) (record { at = at; kind = Begin n }) → arrival_at at past ≡ Some a → Now past → Now (Marked (record { at = at; kind = Begin n }) ∷ past)
  begins_so past n each may there now =
      let first = answers_first spoken past at (Begin n) each may tt in
      let w = waits past each first now in
      let lives_on = not_closed (closed_as at past) refl first in
      let still : closed_as at (Marked (record { at = at; kind = Begin n }) ∷ past) ≡ None = cond_same (eqb at at) (closed_as at past) ∙ lives_on in
      inr (inl (record {
        once = ap (λ (b : Bool). times_begun at past + cond b 1 0) here ∙ ap (λ (k : ℕ). k + 1) w.0;
        shown = record {
          count = n;
          begun = ap (λ (b : Bool). cond b n (count_at at past)) here;
          between = [];
          are = tt;
          shown =
              adds past (Begin n) (opens n sent e) there (ap outputs_in (cell_shows (Begin n)) ∙ begun_out e.silent _ _ sent)
              ∙ ap (λ (xs : List Entry). xs ++ opens n sent e) w.2
              ∙ sym (append-nil (opens n sent e))
              ∙ ap (λ (o : Option Kind). opens n sent e ++ closes a.seat sent e n o) (sym still);
        };
        counted = λ o. refl;
      }))
    where
      not_closed : (o : Option Kind) → closed_as at past ≡ o → slice_get (waiting past) 0 ≡ Some at → closed_as at past ≡ None
      not_closed None h first = h
      not_closed (Some kind) h first = absurd (waiting_open spoken past at kind each first h)

  -- it is refused or aborted
  turned_away : (past : Log) (kind : Kind) (outcome : Outcome) → arrival_at at past ≡ Some a → (times_begun at past ≡ 0) × (times_closed at past ≡ 0) × (outputs_in (shown_at at past) ≡ []) → begins kind ≡ 0 → cells.closes kind ≡ 1 → TellsWhy (Marked (record { at = at; kind = kind }) ∷ past) at outcome → outputs_in (entries_of kind a) ≡ exchange a.seat sent (ExecuteReply outcome) → Now (Marked (record { at = at; kind = kind }) ∷ past)
  turned_away past kind outcome there w none one why shows =
      inr (inr (
        begun_same past kind none ∙ w.0,
        ap (λ (b : Bool). times_closed at past + cond b (cells.closes kind) 0) here ∙ ap (λ (n : ℕ). times_closed at past + n) one ∙ ap (λ (n : ℕ). n + 1) w.1,
        record {
          outcome = outcome;
          why = why;
          shown = adds past kind (exchange a.seat sent (ExecuteReply outcome)) there shows ∙ ap (λ (xs : List Entry). xs ++ exchange a.seat sent (ExecuteReply outcome)) w.2;
        },
      ))

  no_abort : (past : Log) → times_closed at past ≡ 0 → times_aborted at past + cond (eqb at at) 0 0 ≡ 0
  no_abort past none = let few = aborted_closed past at in ap (λ (b : Bool). times_aborted at past + cond b 0 0) here ∙ omega (arith, few, none)

  one_abort : (past : Log) → times_closed at past ≡ 0 → times_aborted at past + cond (eqb at at) 1 0 ≡ 1
  one_abort past none = let few = aborted_closed past at in ap (λ (b : Bool). times_aborted at past + cond b 1 0) here ∙ omega (arith, few, none)

  -- a mark at this place
  mark_here : (past : Log) (kind : Kind) → EachFollows spoken past → MayMark spoken past (owed past) (record { at = at; kind = kind }) → arrival_at at past ≡ Some a → Now past → Now (Marked (record { at = at; kind = kind }) ∷ past)
  mark_here past (Begin n) each may there now = begins_so past n each may there now
  mark_here past (Flush turns text) each may there now =
      let f = flush_may spoken past (owed past) at turns text may in
      let b = runs_begun_at past f.0 each f.1 f.2.request now in
      let shows = ap outputs_in (cell_shows (Flush turns text)) in
      grows past (Flush turns text) _ each may there shows (flush_between a.seat sent e e.silent text refl) (begun_same past (Flush turns text) refl) (cond_same (eqb at at) (closed_as at past)) (cond_same (eqb at at) (count_at at past)) b.0 b.1
  mark_here past Ask each may there now =
      let (asks_it, none) = ask_may spoken past (owed past) at may in
      let b = runs_begun_at past asks_it.0 each asks_it.1 asks_it.2.request now in
      grows past Ask (to_asker a.seat Stdin sent InputRequest ∷ []) each may there (ap outputs_in (cell_shows Ask)) (inr refl, tt) (begun_same past Ask refl) (cond_same (eqb at at) (closed_as at past)) (cond_same (eqb at at) (count_at at past)) b.0 b.1
  mark_here past (End ending n) each may there now =
      let f = end_may spoken past (owed past) at n ending may in
      let b = runs_begun_at past f.0 each f.1 f.2.request now in
      ends_so past (End ending n) there (ap (λ (c : Bool). cond c (Some (End ending n)) (closed_as at past)) here) (begun_same past (End ending n) refl) (cond_same (eqb at at) (count_at at past)) b.0 (ending_shows ending n b.0.shown.count (f.2.counted ∙ b.0.counted b.1)) b.1
  mark_here past (Stop turns why n) each may there now =
      let f = stop_stops spoken past (owed past) at turns n why may in
      let b = runs_begun_at past f.0 each f.1 f.2.request now in
      ends_so past (Stop turns why n) there (ap (λ (c : Bool). cond c (Some (Stop turns why n)) (closed_as at past)) here) (begun_same past (Stop turns why n) refl) (cond_same (eqb at at) (count_at at past)) b.0
      (ap outputs_in (cell_shows (Stop turns why n)) ∙ failed_out a.seat sent e.silent (cause_failure why) n ∙ ap (λ (k : ℕ). failed a.seat sent e.silent (cause_failure why) k) (f.2.counted ∙ b.0.counted b.1)) b.1
  mark_here past (Refuse n) each may there now =
      let w = waits past each (answers_first spoken past at (Refuse n) each may tt) now in
      turned_away past (Refuse n) (Failed n (cause_failure cause.Memory)) there w refl refl (inr (no_abort past w.1, ap (λ (b : Bool). Failed (cond b n (count_at at past)) (cause_failure cause.Memory)) (sym here))) (ap outputs_in (cell_shows (Refuse n)))
  mark_here past Abort each may there now =
      let w = waits past each (answers_first spoken past at Abort each may tt) now in
      turned_away past Abort Aborted there w refl refl (inl (one_abort past w.1, refl)) (ap outputs_in (cell_shows Abort))
  mark_here past Join each may there now = keeps (Marked (record { at = at; kind = Join })) past each (same_here past Join each may there tt) now
  mark_here past Leave each may there now = keeps (Marked (record { at = at; kind = Leave })) past each (same_here past Leave each may there tt) now
  mark_here past (Line line) each may there now = keeps (Marked (record { at = at; kind = Line line })) past each (same_here past (Line line) each may there tt) now
  mark_here past (Answer status) each may there now = keeps (Marked (record { at = at; kind = Answer status })) past each (same_here past (Answer status) each may there tt) now
  mark_here past Interrupt each may there now = keeps (Marked (record { at = at; kind = Interrupt })) past each (same_here past Interrupt each may there tt) now
  mark_here past KernelInfo each may there now = keeps (Marked (record { at = at; kind = KernelInfo })) past each (same_here past KernelInfo each may there tt) now
  mark_here past (Restart restart) each may there now = keeps (Marked (record { at = at; kind = Restart restart })) past each (same_here past (Restart restart) each may there tt) now

  mark_now : (past : Log) (m : Mark) → EachFollows spoken past → MayMark spoken past (owed past) m → ((eqb m.at at ≡ true) × (m.at ≡ at)) ⊎ ((eqb m.at at ≡ false) × (m.at ≢ at)) → arrival_at at past ≡ Some a → Now past → Now (Marked m ∷ past)
  mark_now past m each may (inl (b, same)) there now =
      subst (λ (m : Mark). Now (Marked m ∷ past)) (ap (λ (p : ℕ). record { at = p; kind = m.kind }) (sym same))
      (mark_here past m.kind each (subst (λ (p : ℕ). MayMark spoken past (owed past) (record { at = p; kind = m.kind })) same may) there now)
  mark_now past m each may (inr (b, other)) there now = keeps (Marked m) past each (apart past m each may b) now

  took_now : (past : Log) (new : Arrival) → EachFollows spoken past → (arrival_at at past ≡ Some a → Now past) → arrival_at at (Took new ∷ past) ≡ Some a → Now (Took new ∷ past)
  took_now past new each before there = by_place (eqb (length past) at) refl there
    where
      by_place : (b : Bool) → eqb (length past) at ≡ b → cond b (Some new) (arrival_at at past) ≡ Some a → Now (Took new ∷ past)
      by_place true b is_new =
          let same : length past ≡ at = eqb-true (length past) at b in
          let none = arrival_past past at (omega (arith, same)) in
          let unseen = not_answered_yet spoken past each at (omega (arith, same)) in
          let f = closed_few past at in
          inl (omega (arith, f, unseen), ap outputs_in (subst (λ (o : Option Arrival). AreFor o (shown_at at past)) none (addressed past at)))
      by_place false b is_old = keeps (Took new) past each (record { shown = refl; closed = refl; begun = refl; aborted = refl; told = refl; ended = refl; counted = λ r h. refl }) (before is_old)

  before_item : (b : Bool) (o : Option Arrival) → cond b None o ≡ Some a → o ≡ Some a
  before_item true o h = absurd (none-some a h)
  before_item false o h = h

  now_at : (log : Log) → EachFollows spoken log → arrival_at at log ≡ Some a → Now log
  now_at [] each there = absurd (none-some a there)
  now_at (Took new ∷ past) each there = took_now past new each.0 (λ h. now_at past each.0 h) there
  now_at (Marked m ∷ past) each there =
      let before = before_item (eqb (length past) at) (arrival_at at past) there in
      mark_now past m each.0 each.1 (eqb_tells m.at at) before (now_at past each.0 before)

  seen : (log : Log) → Now log → IsShownAs log at a e sent
  seen log (inl waiting_still) = inl waiting_still
  seen log (inr (inl b)) = inr (inl (b.once, b.shown))
  seen log (inr (inr away)) = inr (inr away)

-- each cell is shown so
pub cells_shown : {S T : Type 0} (spoken : Spoken S T) (log : Log) → EachFollows spoken log → (at : ℕ) (a : Arrival) (e : Execute) (sent : Message) → arrival_at at log ≡ Some a → execute_in a.what ≡ Some e → message_in a.what ≡ Some sent → IsShownAs log at a e sent
cells_shown spoken log each at a e sent there asks is = seen spoken at a e sent asks is log (now_at spoken at a e sent asks is log each there)
