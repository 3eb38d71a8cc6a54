-- Each step of a kernel keeps what it keeps true: its log stays legal.
use Rattle.std.proofs.Common.{zero, suc, append_assoc, ◌≡◌, ℕ, ◌+◌, ◌≤◌, Bool, true, false, cond, List, [], ◌∷◌, ◌++◌, length, map, drop, refl, sym, ◌∙◌, ap, subst, arith, Option, None, Some, inl, inr}
use Rattle.std.specs.Prelude.{find, slice_get, ◌&&◌, not}
use Rattle.std.proofs.lemmas.List.{map-append, append-nil}
use Rattle.std.proofs.Math.Seq.{drop-append_seam}
use Rattle.jk_language.specs.declared.outcome.Fault.{Fault}
use Rattle.jk_language.specs.Parts.{Line as Given, Meaning}
use Rattle.jk_language.specs.Runs.{OutcomeIs}
use Rattle.jk_language.specs.declared.outcome.Outcome.TheVariants as outcome
use Rattle.jk_language.specs.declared.outcome.Refusal.{Refusal}
use Rattle.jk_language.specs.declared.outcome.Refusal.TheVariants.{Compile}
use Rattle.jk_language.specs.Spoken.{Spoken, IsLanguage}
use Rattle.jk_language.specs.declared.outcome.Turned.{Turned}
use Rattle.jk_language.specs.declared.outcome.Turned.TheVariants as turned
use Rattle.jp_msg.specs.declared.message.Execute.{Execute}
use Rattle.jk_log.specs.declared.arrival.Arrival.{Arrival}
use Rattle.jk_log.specs.declared.arrival.Sort.{Sort}
use Rattle.jk_log.specs.declared.arrival.Sort.TheVariants as sort
use Rattle.jp_msg.specs.declared.message.Completeness.{Completeness}
use Rattle.jp_msg.specs.declared.message.Request.{Request}
use Rattle.jk_log.specs.Asked.{input_in, query_in, sort_as}
use Rattle.jk_log.specs.Queries.{IsStatusOf}
use Rattle.jk_log.specs.declared.job.Parsed.{Parsed}
use Rattle.jk_log.specs.declared.job.Parsed.TheVariants as parsed
use Rattle.jk_log.specs.declared.mark.Item.{Item}
use Rattle.jk_log.specs.declared.mark.Item.TheVariants.{Took}
use Rattle.jk_log.specs.declared.mark.Mark.{Mark}
use Rattle.jk_log.specs.declared.mark.Kind.{Kind}
use Rattle.jk_log.specs.declared.mark.Kind.TheVariants.{Join, Leave, Flush, Ask, Line, End, Stop, Refuse, Answer, Interrupt, KernelInfo, Restart}
use Rattle.jk_log.specs.declared.mark.Ending.{Ending}
use Rattle.jk_log.specs.declared.mark.Ending.TheVariants as ending
use Rattle.jk_log.specs.declared.mark.Cause.{Cause}
use Rattle.jk_log.specs.declared.mark.Cause.TheVariants as cause
use Rattle.jk_core.specs.declared.kernel.Work.{Work}
use Rattle.jk_core.specs.declared.kernel.Work.TheVariants.{Rest, NeedsParse, Ran, NeedsLine, NoMemory}
use Rattle.jk_core.specs.declared.script.Waiting.{Waiting}
use Rattle.jk_core.specs.declared.script.Task.{Task}
use Rattle.jk_core.specs.declared.script.Task.TheVariants.{Cell, Query}
use Rattle.jk_log.specs.Log.{Log, Running, waits_as, running, running_with, waiting, session, meaning, meaning_in, shown_in, stood, stood_in, count, next_count, arrivals, ended, raised, execute_at, seat_at, asker, option_with, option_or, opened, flushed_at, asking, lined, unread, nones}
use Rattle.jk_log.specs.Legal.{Answers, Flushes, Due, AnswerDue, MarkDue, FlushDue, StopDue, abort_due, due_by, due_of, Settles, dues_of, dues_after, ends_due, line_due, fails_due, dues_after_end, dues_after_stop, waiting_dues, MayAsk, Lacks, MayCome, MayMark, EndsSo, IsForced, JustFlushed, IsLegal, IsStopped, StopsFor, owed}
use Rattle.jk_core.specs.State.{KernelState, first_of, is_cell}
use Rattle.jk_core.specs.Steps.{aborting, answering, by_task, closing, failing, interrupted, shut, stopped, waits_with, took, noted, given_to, answered, taken, with_waits, begun, broken, gone_on, has_lines, sliced, written, limit, ran_after, Closes, GoesOn, GoesWithout, IsBrokenAt, AnswersFirst, Moves, Starts, StartsAs, StartsFirst, Takes, Works}
use Rattle.jk_core.specs.Kept.{IsKept, IsGoing, IsHeld, IsStanding, AllWait, IsCellAt, IsTaskAt, IsWaiting, from_cell}
use Rattle.jk_log.proofs.Logs.{execute_grows, execute_newest, executes, no_execute, queries, query_grows, query_newest}

owes_next : (log : Log) (d : Due) (ds more : List Due) → owed log ≡ d ∷ ds → drop 1 (owed log) ++ more ≡ ds ++ more
owes_next log d ds more e = rw e refl

owes_new : (log : Log) (more : List Due) → owed log ≡ [] → drop 1 (owed log) ++ more ≡ more
owes_new log more e = rw e refl

-- the cell that runs after a flush
pub flushed_runs : (o : Option Running) (r : Running) (turns : ℕ) → o ≡ Some r → option_with (flushed_at turns) o ≡ Some (flushed_at turns r)
flushed_runs o r turns e = rw e refl

pub some_same : {A : Type 0} (x y : A) → Some x ≡ Some y → x ≡ y
some_same x y e = cc

no_cell : (r : Running) (P : Type 0) → None ≡ Some r → P
no_cell r P e = cc

-- what an error leaves owed
fails_same : (o : Option Running) (r : Running) (waiting dues : List Due) → o ≡ Some r → waiting ≡ dues → fails_due o waiting ≡ cond r.request.stop_on_error dues []
fails_same o r waiting dues e f = rw e (ap (λ (ds : List Due). cond r.request.stop_on_error ds []) f)

none_left : (log : Log) → owed log ≡ [] → drop 1 (owed log) ≡ []
none_left log none = rw none refl

one_left : (log : Log) (d : Due) (ds : List Due) → owed log ≡ d ∷ ds → drop 1 (owed log) ≡ ds
one_left log d ds e = rw e refl

drop_self : (xs : List ℕ) → [] ≡ drop (length xs) xs
drop_self [] = refl
drop_self (x ∷ xs) = drop_self xs

-- what is written after nothing more is the same
nothing_more : (a rest b : List ℕ) → a ++ rest ≡ b → [] ≡ drop (length a) b → b ≡ a
nothing_more a rest b e none =
    sym e ∙ ap (λ (xs : List ℕ). a ++ xs) (sym (drop-append_seam a rest) ∙ ap (λ (xs : List ℕ). drop (length a) xs) e ∙ sym none) ∙ append-nil a

-- the first that waits
first_at : (at : ℕ) (places : List ℕ) (all : List ℕ) → at ∷ places ≡ all → slice_get all 0 ≡ Some at
first_at at places all e = subst (λ (xs : List ℕ). slice_get xs 0 ≡ Some at) e refl

raise_few : (e : Execute) (n : ℕ) → raised e n ≤ n + 1
raise_few e n = elim (e.store_history && not e.silent) as (λ b. cond b (n + 1) n ≤ n + 1) [ true ↦ omega arith | false ↦ omega arith ]

next_few : (o : Option Execute) (n : ℕ) → option_or (λ e. raised e n) n o ≤ n + 1
next_few None n = omega arith
next_few (Some e) n = raise_few e n

-- a line given is the last of the fresh ones
pub lined_runs : (o : Option Running) (r : Running) (line : Given) → o ≡ Some r → option_with (lined line) o ≡ Some (lined line r)
lined_runs o r line e = rw e refl

pub asking_runs : (o : Option Running) (r : Running) → o ≡ Some r → option_with asking o ≡ Some (asking r)
asking_runs o r e = rw e refl

-- a text more is no line that was not to be had
nones_text : (fresh : List Given) (text : List ℕ) → nones fresh ≡ [] → nones (fresh ++ Some text ∷ []) ≡ []
nones_text [] text e = refl
nones_text (None ∷ fresh) text e = cc
nones_text (Some t ∷ fresh) text e = nones_text fresh text e

pub no_lines : (fresh : List Given) → false ≡ has_lines fresh → fresh ≡ []
no_lines [] e = refl
no_lines (x ∷ fresh) e = cc

-- what an interrupt owes does not ask which lines were read
ends_unread : (why : Cause) (o : Option Running) → ends_due why o ≡ ends_due why (option_with unread o)
ends_unread why None = refl
ends_unread why (Some r) = refl

pub stops_same : (o : Option Execute) (e : Execute) → o ≡ Some e → option_or (λ (e : Execute). e.stop_on_error) false o ≡ e.stop_on_error
stops_same o e there = rw there refl

module _ {T : Type 0} where
  -- what holds for a cell, and for a query, holds for what waits
  pub by_tasks : {A : Type 0} (P : A → Type 0) (t : Task T) (cell : Option (Parsed T) → A) (query : Option Completeness → A) → ((result : Option (Parsed T)) → t ≡ Cell result → P (cell result)) → ((status : Option Completeness) → t ≡ Query status → P (query status)) → P (by_task t cell query)
  by_tasks P (Cell result) cell query c q = c result refl
  by_tasks P (Query status) cell query c q = q status refl

  -- nothing that aborting keeps changes
  pub failing_moves : (P : KernelState T → Type 0) → ((at : ℕ) (t : Task T) (k : KernelState T) → P k → P (noted at (closing t) k)) → ((ws : List (Waiting T)) (k : KernelState T) → P k → P (with_waits ws k)) → (b : Bool) (k : KernelState T) → P k → P (failing b k)
  failing_moves P note wait false k h = h
  failing_moves P note wait true k h = chain k.waits k h
    where
      chain : (ws : List (Waiting T)) (k : KernelState T) → P k → P (aborting ws k)
      chain [] k h = h
      chain (w ∷ ws) k h = chain ws (noted w.at (closing w.task) (with_waits ws k)) (note w.at w.task (with_waits ws k) (wait ws k h))

  closing_runs : (at : ℕ) (t : Task T) (k : KernelState T) → running (noted at (closing t) k).log ≡ running k.log
  closing_runs at (Cell result) k = refl
  closing_runs at (Query status) k = refl

  pub idle_fails : (b : Bool) (k : KernelState T) → running k.log ≡ None → running (failing b k).log ≡ None
  idle_fails b k e = failing_moves (λ k. running k.log ≡ None) (λ at t k h. closing_runs at t k ∙ h) (λ ws k h. h) b k e

  -- nothing that answering keeps changes
  pub answering_moves : (P : KernelState T → Type 0) → ((at : ℕ) (status : Option Completeness) (k : KernelState T) → P k → P (noted at (Answer status) k)) → ((ws : List (Waiting T)) (k : KernelState T) → P k → P (with_waits ws k)) → (ws : List (Waiting T)) (k : KernelState T) → P k → P (answering ws k)
  answering_moves P note wait [] k h = h
  answering_moves P note wait (w ∷ ws) k h =
      by_tasks P w.task (λ result. k) (λ status. answering ws (noted w.at (Answer status) (with_waits ws k))) (λ result e. h)
      (λ status e. answering_moves P note wait ws (noted w.at (Answer status) (with_waits ws k)) (note w.at status (with_waits ws k) (wait ws k h)))

  pub answering_idle : (ws : List (Waiting T)) (k : KernelState T) → running k.log ≡ None → running (answering ws k).log ≡ None
  answering_idle ws k e = answering_moves (λ k. running k.log ≡ None) (λ at status k h. h) (λ ws k h. h) ws k e

  -- from the first cell on all wait
  pub answering_waits : (ws : List (Waiting T)) (k : KernelState T) → k.waits ≡ ws → (answering ws k).waits ≡ from_cell ws
  answering_waits [] k e = e
  answering_waits (w ∷ ws) k e = by w.task (λ status. answering_waits ws (noted w.at (Answer status) (with_waits ws k)) refl)
    where
      by : (t : Task T) → ((status : Option Completeness) → (answering ws (noted w.at (Answer status) (with_waits ws k))).waits ≡ from_cell ws) → (by_task t (λ result. k) (λ status. answering ws (noted w.at (Answer status) (with_waits ws k)))).waits ≡ by_task t (λ result. w ∷ ws) (λ status. from_cell ws)
      by (Cell result) rec = e
      by (Query status) rec = rec status

  pub first_found : (ws : List (Waiting T)) → first_of (from_cell ws) ≡ find (λ (w : Waiting T). is_cell w.task) ws
  first_found [] = refl
  first_found (w ∷ ws) = by w.task (first_found ws)
    where
      by : (t : Task T) → first_of (from_cell ws) ≡ find (λ (w : Waiting T). is_cell w.task) ws → first_of (by_task t (λ result. w ∷ ws) (λ status. from_cell ws)) ≡ cond (is_cell t) (Some w) (find (λ (w : Waiting T). is_cell w.task) ws)
      by (Cell result) rec = refl
      by (Query status) rec = rec

  -- what is owed for what waits, where it is not begun any more
  abbrev pub due_as : ℕ → Task T → Due
  due_as at (Cell result) = abort_due at
  due_as at (Query status) = AnswerDue at

  abbrev pub dues_for : List (Waiting T) → List Due
  dues_for [] = []
  dues_for (w ∷ ws) = due_as w.at w.task ∷ dues_for ws

  -- an arrival is taken, and what it owes stands open
  none_more : (ws : List (Waiting T)) (places : List ℕ) → map (λ w. w.at) ws ≡ places → map (λ (w : Waiting T). w.at) (ws ++ []) ≡ places ++ []
  none_more ws places e = ap (λ (ws : List (Waiting T)). map (λ (w : Waiting T). w.at) ws) (append-nil ws) ∙ e ∙ sym (append-nil places)

  took_places : (status : Option Completeness) (s : Sort) (ws : List (Waiting T)) (places : List ℕ) (at number : ℕ) → map (λ w. w.at) ws ≡ places → map (λ (w : Waiting T). w.at) (ws ++ waits_with status s at number) ≡ places ++ waits_as s at
  took_places status sort.Execute ws places at number e = map-append (λ (w : Waiting T). w.at) ws _ ∙ ap (λ (xs : List ℕ). xs ++ at ∷ []) e
  took_places status sort.Query ws places at number e = map-append (λ (w : Waiting T). w.at) ws _ ∙ ap (λ (xs : List ℕ). xs ++ at ∷ []) e
  took_places status sort.Join ws places at number e = none_more ws places e
  took_places status sort.Leave ws places at number e = none_more ws places e
  took_places status sort.Input ws places at number e = none_more ws places e
  took_places status sort.Interrupt ws places at number e = none_more ws places e
  took_places status sort.KernelInfo ws places at number e = none_more ws places e
  took_places status (sort.Shutdown restart) ws places at number e = none_more ws places e
  took_places status sort.Other ws places at number e = none_more ws places e

  -- the cell that was begun
  pub begun_runs : (k : KernelState T) (w : Waiting T) (ws : List (Waiting T)) (e : Execute) → execute_at w.at k.log ≡ Some e → running (begun w.at (with_waits ws k)).log ≡ Some (opened w.at (seat_at w.at k.log) e)
  begun_runs k w ws e there = ap (option_with (opened w.at (seat_at w.at k.log))) there

module _ {S T : Type 0} (spoken : Spoken S T) (laws : IsLanguage spoken) where
  task_grows : (log : Log) (e : Item) (at : ℕ) (t : Task T) → IsTaskAt spoken log at t → IsTaskAt spoken (e ∷ log) at t
  task_grows log e at (Cell result) h = record { request = h.request; there = execute_grows log e at h.request h.there; right = h.right }
  task_grows log e at (Query status) h = record { request = h.request; there = query_grows log e at h.request h.there; right = h.right }

  wait_grows : (log : Log) (e : Item) (ws : List (Waiting T)) → AllWait spoken log ws → AllWait spoken (e ∷ log) ws
  wait_grows log e [] h = tt
  wait_grows log e (w ∷ ws) h = (task_grows log e w.at w.task h.0, wait_grows log e ws h.1)

  wait_more : (log : Log) (ws : List (Waiting T)) (w : Waiting T) → AllWait spoken log ws → IsWaiting spoken log w → AllWait spoken log (ws ++ w ∷ [])
  wait_more log [] w h one = (one, tt)
  wait_more log (v ∷ ws) w h one = (h.0, wait_more log ws w h.1 one)

  -- what may come, where nothing is owed
  may_mark : (log : Log) (m : Mark) → owed log ≡ [] → MayCome spoken log m.at m.kind → MayMark spoken log (owed log) m
  may_mark log m none h = rw none h

  -- the mark that is due
  may_settle : (log : Log) (m : Mark) (d : Due) (ds : List Due) → owed log ≡ d ∷ ds → Settles spoken log d m → MayMark spoken log (owed log) m
  may_settle log m d ds e h = rw e h

  -- what is owed for what waits
  task_due : (log : Log) (at : ℕ) (t : Task T) → IsTaskAt spoken log at t → due_of log at ≡ due_as at t
  task_due log at (Cell result) h = ap (λ (o : Option Execute). due_by o at) h.there
  task_due log at (Query status) h = ap (λ (o : Option Execute). due_by o at) (no_execute log at h.request h.there)

  all_due : (log : Log) (ws : List (Waiting T)) → AllWait spoken log ws → map (due_of log) (map (λ w. w.at) ws) ≡ dues_for ws
  all_due log [] h = refl
  all_due log (w ∷ ws) h = ap (λ (d : Due). d ∷ map (due_of log) (map (λ w. w.at) ws)) (task_due log w.at w.task h.0) ∙ ap (λ (ds : List Due). due_as w.at w.task ∷ ds) (all_due log ws h.1)

  waits_due : (dues : List Due) (k : KernelState T) → IsGoing spoken dues k → waiting_dues k.log ≡ dues_for k.waits
  waits_due dues k g = ap (map (due_of k.log)) (sym g.places) ∙ all_due k.log k.waits g.wait

  -- a request that waits is aborted or answered
  close_going : (t : Task T) (ws : List (Waiting T)) (w : Waiting T) (ds : List Due) (k : KernelState T) → IsTaskAt spoken k.log w.at t → k.waits ≡ w ∷ ws → IsGoing spoken (due_as w.at t ∷ ds) k → IsGoing spoken ds (noted w.at (closing t) (with_waits ws k))
  close_going (Cell result) ws w ds k there waits g =
      let places : w.at ∷ map (λ w. w.at) ws ≡ waiting k.log = subst (λ (xs : List (Waiting T)). map (λ w. w.at) xs ≡ waiting k.log) waits g.places in
      let wait = subst (AllWait spoken k.log) waits g.wait in
      record {
        each = (g.each, may_settle k.log _ (abort_due w.at) ds g.owes (refl, tt));
        owes = owes_next k.log (abort_due w.at) ds [] g.owes ∙ append-nil ds;
        places = ap (λ (xs : List ℕ). drop 1 xs) places;
        wait = wait_grows k.log _ ws wait.1;
        stands = g.stands;
        few = (let few = g.few in omega arith);
      }
  close_going (Query status) ws w ds k there waits g =
      let places : w.at ∷ map (λ w. w.at) ws ≡ waiting k.log = subst (λ (xs : List (Waiting T)). map (λ w. w.at) xs ≡ waiting k.log) waits g.places in
      let wait = subst (AllWait spoken k.log) waits g.wait in
      record {
        each = (g.each, may_settle k.log _ (AnswerDue w.at) ds g.owes (status, refl, there));
        owes = owes_next k.log (AnswerDue w.at) ds [] g.owes ∙ append-nil ds;
        places = ap (λ (xs : List ℕ). drop 1 xs) places;
        wait = wait_grows k.log _ ws wait.1;
        stands = g.stands;
        few = (let few = g.few in omega arith);
      }

  aborting_going : (ws : List (Waiting T)) (ds : List Due) (k : KernelState T) → k.waits ≡ ws → IsGoing spoken (dues_for ws ++ ds) k → IsGoing spoken ds (aborting ws k)
  aborting_going [] ds k waits g = g
  aborting_going (w ∷ ws) ds k waits g =
      aborting_going ws ds (noted w.at (closing w.task) (with_waits ws k)) refl
      (close_going w.task ws w (dues_for ws ++ ds) k (subst (AllWait spoken k.log) waits g.wait).0 waits g)

  -- an error aborts or answers what waits
  failing_going : (b : Bool) (k : KernelState T) → IsGoing spoken (cond b (dues_for k.waits) []) k → IsGoing spoken [] (failing b k)
  failing_going true k g = aborting_going k.waits [] k refl (subst (λ (ds : List Due). IsGoing spoken ds k) (sym (append-nil (dues_for k.waits))) g)
  failing_going false k g = g

  -- a query is answered in its turn
  answer_going : (status : Option Completeness) (ws : List (Waiting T)) (w : Waiting T) (k : KernelState T) → Answers spoken k.log w.at status → k.waits ≡ w ∷ ws → running k.log ≡ None → IsGoing spoken [] k → IsGoing spoken [] (noted w.at (Answer status) (with_waits ws k))
  answer_going status ws w k there waits idle g =
      let places : w.at ∷ map (λ w. w.at) ws ≡ waiting k.log = subst (λ (xs : List (Waiting T)). map (λ w. w.at) xs ≡ waiting k.log) waits g.places in
      let wait = subst (AllWait spoken k.log) waits g.wait in
      record {
        each = (g.each, may_mark k.log _ g.owes (record { idle = idle; first = first_at w.at _ _ places }, there));
        owes = owes_new k.log [] g.owes;
        places = ap (λ (xs : List ℕ). drop 1 xs) places;
        wait = wait_grows k.log _ ws wait.1;
        stands = g.stands;
        few = (let few = g.few in omega arith);
      }

  pub answering_going : (ws : List (Waiting T)) (k : KernelState T) → k.waits ≡ ws → running k.log ≡ None → IsGoing spoken [] k → IsGoing spoken [] (answering ws k)
  answering_going [] k waits idle g = g
  answering_going (w ∷ ws) k waits idle g =
      by_tasks (IsGoing spoken []) w.task (λ result. k) (λ status. answering ws (noted w.at (Answer status) (with_waits ws k))) (λ result e. g)
      (λ status e. answering_going ws (noted w.at (Answer status) (with_waits ws k)) refl idle
      (answer_going status ws w k (subst (IsTaskAt spoken k.log w.at) e (subst (AllWait spoken k.log) waits g.wait).0) waits idle g))

  none_waits : (log : Log) (ws : List (Waiting T)) → AllWait spoken log ws → AllWait spoken log (ws ++ [])
  none_waits log ws h = subst (AllWait spoken log) (sym (append-nil ws)) h

  took_wait : (status : Option Completeness) (s : Sort) (log : Log) (a : Arrival) (ws : List (Waiting T)) (number : ℕ) → sort_as a.what ≡ s → IsStatusOf spoken (query_in a.what) status → AllWait spoken (Took a ∷ log) ws → AllWait spoken (Took a ∷ log) (ws ++ waits_with status s (length log) number)
  took_wait status sort.Execute log a ws number e right h =
      let x = executes a.what e in
      wait_more (Took a ∷ log) ws _ h (record { request = x.0; there = execute_newest log a ∙ x.1; right = tt })
  took_wait status sort.Query log a ws number e right h =
      let q = queries a.what e in
      wait_more (Took a ∷ log) ws _ h (record { request = q.0; there = query_newest log a ∙ q.1; right = subst (λ (o : Option Request). IsStatusOf spoken o status) q.1 right })
  took_wait status sort.Join log a ws number e right h = none_waits (Took a ∷ log) ws h
  took_wait status sort.Leave log a ws number e right h = none_waits (Took a ∷ log) ws h
  took_wait status sort.Input log a ws number e right h = none_waits (Took a ∷ log) ws h
  took_wait status sort.Interrupt log a ws number e right h = none_waits (Took a ∷ log) ws h
  took_wait status sort.KernelInfo log a ws number e right h = none_waits (Took a ∷ log) ws h
  took_wait status (sort.Shutdown restart) log a ws number e right h = none_waits (Took a ∷ log) ws h
  took_wait status sort.Other log a ws number e right h = none_waits (Took a ∷ log) ws h

  -- a cell stands where it stood, whatever is taken
  unread_stands : (session : S) (ran : ℕ) (o : Option Running) → ((r : Running) → o ≡ Some r → IsStanding spoken session r ran) → (q : Running) → option_with unread o ≡ Some q → IsStanding spoken session q ran
  unread_stands session ran None h q e = no_cell q _ e
  unread_stands session ran (Some r) h q e =
      let stood = h r refl in
      subst (λ (q : Running). IsStanding spoken session q ran) (some_same (unread r) q e) (record { onward = stood.onward; used = stood.used; silent = stood.silent })

  stands_with : (s : Sort) (session : S) (ran : ℕ) (o : Option Running) → ((r : Running) → o ≡ Some r → IsStanding spoken session r ran) → (q : Running) → running_with s o ≡ Some q → IsStanding spoken session q ran
  stands_with sort.Join session ran o h q e = h q e
  stands_with sort.Leave session ran o h q e = h q e
  stands_with sort.Execute session ran o h q e = h q e
  stands_with sort.Query session ran o h q e = h q e
  stands_with sort.Input session ran o h q e = h q e
  stands_with sort.KernelInfo session ran o h q e = h q e
  stands_with sort.Other session ran o h q e = h q e
  stands_with sort.Interrupt session ran o h q e = unread_stands session ran o h q e
  stands_with (sort.Shutdown restart) session ran o h q e = unread_stands session ran o h q e

  took_going : (status : Option Completeness) (a : Arrival) (k : KernelState T) → IsStatusOf spoken (query_in a.what) status → ended k.log ≡ false → IsGoing spoken [] k → IsGoing spoken (dues_of (sort_as a.what) a k.log) (took status a k)
  took_going status a k right on g = record {
    each = (g.each, (g.owes, on));
    owes = refl;
    places = took_places status (sort_as a.what) k.waits (waiting k.log) (length k.log) _ g.places;
    wait = took_wait status (sort_as a.what) k.log a k.waits _ refl right (wait_grows k.log (Took a) k.waits g.wait);
    stands = stands_with (sort_as a.what) (session spoken k.log) k.ran (running k.log) g.stands;
    few = (let few = g.few in omega arith);
  }

  stands_at : (session : S) (ran : ℕ) (o : Option Running) (r : Running) → o ≡ Some r → IsStanding spoken session r ran → (q : Running) → o ≡ Some q → IsStanding spoken session q ran
  stands_at session ran o r e h q f = subst (λ (q : Running). IsStanding spoken session q ran) (some_same r q (sym e ∙ f)) h

  held_at : (session : S) (ran : ℕ) (o : Option Running) (r : Running) → o ≡ Some r → IsHeld spoken session r ran → (q : Running) → o ≡ Some q → IsHeld spoken session q ran
  held_at session ran o r e h q f = subst (λ (q : Running). IsHeld spoken session q ran) (some_same r q (sym e ∙ f)) h

  -- a cell that was given a line, or asks for one, stands where it stood
  lined_stands : (session : S) (ran : ℕ) (line : Given) (o : Option Running) → ((r : Running) → o ≡ Some r → IsStanding spoken session r ran) → (q : Running) → option_with (lined line) o ≡ Some q → IsStanding spoken session q ran
  lined_stands session ran line None h q e = no_cell q _ e
  lined_stands session ran line (Some r) h q e =
      let stood = h r refl in
      subst (λ (q : Running). IsStanding spoken session q ran) (some_same (lined line r) q e) (record { onward = stood.onward; used = stood.used; silent = stood.silent })

  lined_held : (session : S) (ran : ℕ) (text : List ℕ) (o : Option Running) → ((r : Running) → o ≡ Some r → IsHeld spoken session r ran) → (q : Running) → option_with (lined (Some text)) o ≡ Some q → IsHeld spoken session q ran
  lined_held session ran text None h q e = no_cell q _ e
  lined_held session ran text (Some r) h q e =
      let held = h r refl in
      subst (λ (q : Running). IsHeld spoken session q ran) (some_same (lined (Some text) r) q e) (record { rests = held.rests; texts = nones_text r.fresh text held.texts })

  -- a flush that may come
  pub record IsFlushOf (k : KernelState T) (r : Running) (turns : ℕ) (text : List ℕ) : Type 0 where
    pub runs : running k.log ≡ Some r
    pub fits : Flushes spoken k.log r r.at turns text

  flush_going : (dues : List Due) (k : KernelState T) (r : Running) (turns : ℕ) (text : List ℕ) → IsFlushOf k r turns text → drop 1 (owed k.log) ++ [] ≡ dues → MayMark spoken k.log (owed k.log) (record { at = r.at; kind = Flush turns text }) → (all : List Due) → IsGoing spoken all k → IsGoing spoken dues (noted r.at (Flush turns text) k)
  flush_going dues k r turns text f owes may all g = record {
    each = (g.each, may);
    owes = owes;
    places = g.places;
    wait = wait_grows k.log _ k.waits g.wait;
    stands = stands_at (session spoken k.log) turns _ (flushed_at turns r) (flushed_runs (running k.log) r turns f.runs) (record { onward = omega arith; used = f.fits.used; silent = refl });
    few = (let few = g.few in omega arith);
  }

  -- with more lines no fewer turns are used
  fed_onward : (s : S) (text : List ℕ) (fresh lines : List Given) (n : ℕ) → (spoken.cell s text lines n).turns ≤ (spoken.cell s text (lines ++ fresh) n).turns
  fed_onward s text [] lines n = subst (λ (ls : List Given). (spoken.cell s text lines n).turns ≤ (spoken.cell s text ls n).turns) (sym (append-nil lines)) (omega arith)
  fed_onward s text (line ∷ fresh) lines n =
      let one = (laws.fed s text lines line).onward n in
      let more = subst (λ (ls : List Given). (spoken.cell s text (lines ++ line ∷ []) n).turns ≤ (spoken.cell s text ls n).turns) (append_assoc lines (line ∷ []) fresh) (fed_onward s text fresh (lines ++ line ∷ []) n) in
      omega (arith, one, more)

  -- without a line since the last flush all lines are those before it
  pub meaning_shown : (s : S) (r : Running) (n : ℕ) → r.fresh ≡ [] → meaning_in spoken s r n ≡ shown_in spoken s r n
  meaning_shown s r n e = ap (λ (ls : List Given). spoken.cell s r.request.code ls n) (ap (λ (fresh : List Given). r.lines ++ fresh) e ∙ append-nil r.lines)

  -- the turns of a slice
  slice_onward : (k : KernelState T) (r : Running) (n : ℕ) → running k.log ≡ Some r → k.ran ≤ n → IsGoing spoken [] k → r.turns ≤ (meaning spoken k.log r n).turns
  slice_onward k r n runs onward g =
      let stood = g.stands r runs in
      omega (arith, stood.onward, stood.used, (laws.lawful (session spoken k.log) r.request.code r.lines).onward k.ran n onward, fed_onward (session spoken k.log) r.request.code r.fresh r.lines n)

  -- the flush at the end of a slice
  slice_flush : (k : KernelState T) (r : Running) (n : ℕ) → running k.log ≡ Some r → k.ran ≤ n → IsGoing spoken [] k → IsFlushOf k r (meaning spoken k.log r n).turns (written spoken k.log r n)
  slice_flush k r n runs onward g =
      let here = (laws.lawful (session spoken k.log) r.request.code (r.lines ++ r.fresh)).settled n in
      record {
        runs = runs;
        fits = record {
          request = refl;
          onward = slice_onward k r n runs onward g;
          used = ap (λ (m : Meaning S). m.turns) here;
          shown = ap (λ (p : Meaning S). drop (length (stood spoken k.log r).output) p.output) (sym here);
        };
      }

  flush_kept : (k : KernelState T) (r : Running) (n : ℕ) → running k.log ≡ Some r → k.ran ≤ n → IsGoing spoken [] k → IsGoing spoken [] (noted r.at (Flush (meaning spoken k.log r n).turns (written spoken k.log r n)) k)
  flush_kept k r n runs onward g =
      let f = slice_flush k r n runs onward g in
      flush_going [] k r _ _ f (owes_new k.log [] g.owes) (may_mark k.log _ g.owes (r, runs, f.fits)) [] g

  -- a cell that was flushed where it can go on
  flushed_kept : (k : KernelState T) (r : Running) (n : ℕ) → running k.log ≡ Some r → k.ran ≤ n → StopsFor cause.Interrupted (meaning spoken k.log r n).outcome → IsGoing spoken [] k → IsKept spoken (noted r.at (Flush (meaning spoken k.log r n).turns (written spoken k.log r n)) k)
  flushed_kept k r n runs onward o g =
      let m = meaning spoken k.log r n in
      let here = (laws.lawful (session spoken k.log) r.request.code (r.lines ++ r.fresh)).settled n in
      record {
        going = flush_kept k r n runs onward g;
        goes = held_at (session spoken k.log) m.turns _ (flushed_at m.turns r) (flushed_runs (running k.log) r m.turns runs)
            (record { rests = subst (λ (p : Meaning S). StopsFor cause.Interrupted p.outcome) (sym here) o; texts = refl });
      }

  -- where nothing was written and no line read, the cell stands with the output of its last flush
  pub silent_slice : (s : S) (r : Running) (n : ℕ) → r.fresh ≡ [] → r.turns ≤ n → r.turns ≤ (meaning_in spoken s r n).turns → [] ≡ drop (length (stood_in spoken s r).output) (meaning_in spoken s r n).output → IsStanding spoken s r (meaning_in spoken s r n).turns
  silent_slice s r n fresh le le_turns none =
      let m = meaning_in spoken s r n in
      let here : shown_in spoken s r m.turns ≡ m = sym (meaning_shown s r m.turns fresh) ∙ (laws.lawful s r.request.code (r.lines ++ r.fresh)).settled n in
      let more = (laws.lawful s r.request.code r.lines).output r.turns n le in
      record {
        onward = le_turns;
        used = ap (λ (m : Meaning S). m.turns) here;
        silent = ap (λ (m : Meaning S). m.output) here
            ∙ nothing_more (stood_in spoken s r).output more.0 m.output (more.1 ∙ ap (λ (m : Meaning S). m.output) (sym (meaning_shown s r n fresh))) none;
      }

  end_going : (dues : List Due) (k : KernelState T) (r : Running) (e : Ending) → running k.log ≡ Some r → JustFlushed k.log → EndsSo spoken (session spoken k.log) r.request.code (stood spoken k.log r).outcome e → dues_after_end e (running k.log) (waiting_dues k.log) ≡ dues → IsGoing spoken [] k → IsGoing spoken dues (noted r.at (End e (count k.log)) k)
  end_going dues k r e runs just ends owes g = record {
    each = (g.each, may_mark k.log _ g.owes (r, runs, record { request = refl; flushed = just; outcome = ends; counted = refl }));
    owes = owes_new k.log _ g.owes ∙ owes;
    places = g.places;
    wait = wait_grows k.log _ k.waits g.wait;
    stands = λ q e. no_cell q _ e;
    few = (let few = g.few in omega arith);
  }

  stop_going : (all ds dues : List Due) (k : KernelState T) (r : Running) (c : Cause) → running k.log ≡ Some r → MayMark spoken k.log (owed k.log) (record { at = r.at; kind = Stop r.turns c (count k.log) }) → drop 1 (owed k.log) ≡ ds → ds ++ dues_after_stop c (running k.log) (waiting_dues k.log) ≡ dues → IsGoing spoken all k → IsGoing spoken dues (noted r.at (Stop r.turns c (count k.log)) k)
  stop_going all ds dues k r c runs may left more g = record {
    each = (g.each, may);
    owes = ap (λ (ds : List Due). ds ++ dues_after_stop c (running k.log) (waiting_dues k.log)) left ∙ more;
    places = g.places;
    wait = wait_grows k.log _ k.waits g.wait;
    stands = λ q e. no_cell q _ e;
    few = (let few = g.few in omega arith);
  }

  settle_kept : (k : KernelState T) → IsGoing spoken [] k → running k.log ≡ None → IsKept spoken k
  settle_kept k g idle = record { going = g; goes = λ r e. no_cell r _ (sym idle ∙ e) }

  -- an error, with what it aborts
  fails_kept : (stops : Bool) (k : KernelState T) → running k.log ≡ None → IsGoing spoken (cond stops (dues_for k.waits) []) k → IsKept spoken (failing stops k)
  fails_kept stops k idle g = settle_kept (failing stops k) (failing_going stops k g) (idle_fails stops k idle)

  -- the cell that goes on, with what it wrote
  gone_kept : (read : Bool) (text : List ℕ) (k : KernelState T) (r : Running) (n : ℕ) → read ≡ has_lines r.fresh → text ≡ written spoken k.log r n → running k.log ≡ Some r → k.ran ≤ n → IsStopped (meaning spoken k.log r n).outcome → IsGoing spoken [] k → IsKept spoken (gone_on read r.at (meaning spoken k.log r n).turns text k)
  gone_kept read (c ∷ text) k r n f is runs onward o g =
      subst (λ (t : List ℕ). IsKept spoken (noted r.at (Flush (meaning spoken k.log r n).turns t) k)) (sym is) (flushed_kept k r n runs onward (inl o) g)
  gone_kept true [] k r n f is runs onward o g =
      subst (λ (t : List ℕ). IsKept spoken (noted r.at (Flush (meaning spoken k.log r n).turns t) k)) (sym is) (flushed_kept k r n runs onward (inl o) g)
  gone_kept false [] k r n f is runs onward o g =
      let fresh = no_lines r.fresh f in
      let m = meaning spoken k.log r n in
      let here : shown_in spoken (session spoken k.log) r m.turns ≡ m =
      sym (meaning_shown (session spoken k.log) r m.turns fresh) ∙ (laws.lawful (session spoken k.log) r.request.code (r.lines ++ r.fresh)).settled n in
      let stood = g.stands r runs in
      let le : r.turns ≤ n = omega (arith, stood.onward, onward) in
      record {
        going = record {
          each = g.each;
          owes = g.owes;
          places = g.places;
          wait = g.wait;
          stands = stands_at (session spoken k.log) m.turns _ r runs (silent_slice (session spoken k.log) r n fresh le (slice_onward k r n runs onward g) is);
          few = g.few;
        };
        goes = held_at (session spoken k.log) m.turns _ r runs
            (record { rests = inl (o.0, ap (λ (m : Meaning S). m.outcome) here ∙ o.1); texts = ap nones fresh });
      }

  -- the cell asks, directly after its flush
  ask_kept : (k : KernelState T) (r : Running) → running k.log ≡ Some r → JustFlushed k.log → (stood spoken k.log r).outcome ≡ outcome.NeedsLine → MayAsk k.log r → IsKept spoken k → IsKept spoken (noted r.at Ask k)
  ask_kept k r runs just needs may kept =
      let g = kept.going in
      let stood = g.stands r runs in
      let held = kept.goes r runs in
      record {
        going = record {
          each = (g.each, may_mark k.log _ g.owes (r, runs, record { request = refl; flushed = just; outcome = needs; may = may }));
          owes = owes_new k.log [] g.owes;
          places = g.places;
          wait = wait_grows k.log _ k.waits g.wait;
          stands = stands_at (session spoken k.log) k.ran _ (asking r) (asking_runs (running k.log) r runs) (record { onward = stood.onward; used = stood.used; silent = stood.silent });
          few = (let few = g.few in omega arith);
        };
        goes = held_at (session spoken k.log) k.ran _ (asking r) (asking_runs (running k.log) r runs) (record { rests = held.rests; texts = held.texts });
      }

  -- a slice is kept
  slice_kept : (answer : Turned) (k : KernelState T) (r : Running) (n : ℕ) → (answer ≡ turned.NeedsLine → MayAsk k.log r) → running k.log ≡ Some r → k.ran ≤ n → OutcomeIs answer (meaning spoken k.log r n).outcome → IsGoing spoken [] k → IsKept spoken (sliced spoken answer r n k)
  slice_kept turned.Stopped k r n may runs onward o g = gone_kept (has_lines r.fresh) _ k r n refl refl runs onward o g
  slice_kept turned.NeedsLine k r n may runs onward o g =
      let here = (laws.lawful (session spoken k.log) r.request.code (r.lines ++ r.fresh)).settled n in
      let m = meaning spoken k.log r n in
      let shown = noted r.at (Flush m.turns (written spoken k.log r n)) k in
      let may = may refl in
      ask_kept shown (flushed_at m.turns r) (flushed_runs (running k.log) r m.turns runs) tt (ap (λ (m : Meaning S). m.outcome) here ∙ o)
      (record { free = may.free; allowed = may.allowed; here = may.here }) (flushed_kept k r n runs onward (inr o) g)
  slice_kept turned.Ended k r n may runs onward o g =
      let here = (laws.lawful (session spoken k.log) r.request.code (r.lines ++ r.fresh)).settled n in
      let m = meaning spoken k.log r n in
      let shown = noted r.at (Flush m.turns (written spoken k.log r n)) k in
      settle_kept _
      (end_going [] shown (flushed_at m.turns r) ending.Completed (flushed_runs (running k.log) r m.turns runs) tt
      (ap (λ (m : Meaning S). m.outcome) here ∙ o) refl (flush_kept k r n runs onward g)) refl
  slice_kept (turned.Trapped trap) k r n may runs onward o g =
      let here = (laws.lawful (session spoken k.log) r.request.code (r.lines ++ r.fresh)).settled n in
      let m = meaning spoken k.log r n in
      let shown = noted r.at (Flush m.turns (written spoken k.log r n)) k in
      let now = flushed_runs (running k.log) r m.turns runs in
      fails_kept r.request.stop_on_error _ refl
      (end_going _ shown (flushed_at m.turns r) (ending.Trapped trap) now tt
      (ap (λ (m : Meaning S). m.outcome) here ∙ o) (fails_same (running shown.log) (flushed_at m.turns r) _ _ now (waits_due [] shown (flush_kept k r n runs onward g))) (flush_kept k r n runs onward g))
  slice_kept turned.NoMemory k r n may runs onward o g =
      let here = (laws.lawful (session spoken k.log) r.request.code (r.lines ++ r.fresh)).settled n in
      let m = meaning spoken k.log r n in
      let shown = noted r.at (Flush m.turns (written spoken k.log r n)) k in
      let now = flushed_runs (running k.log) r m.turns runs in
      let going = flush_kept k r n runs onward g in
      fails_kept r.request.stop_on_error _ refl
      (stop_going [] [] _ shown (flushed_at m.turns r) cause.Memory now
      (may_mark shown.log _ going.owes (refl, flushed_at m.turns r, now, record { request = refl; flushed = tt; here = refl; outcome = ap (λ (m : Meaning S). m.outcome) here ∙ o; counted = refl }))
      (none_left shown.log going.owes) (fails_same (running shown.log) (flushed_at m.turns r) _ _ now (waits_due [] shown going)) going)

  -- there is no line to be had
  none_going : (k : KernelState T) (r : Running) (n : ℕ) → running k.log ≡ Some r → Lacks spoken k.log r n → IsGoing spoken [] k → IsGoing spoken [] (noted r.at (Line None) k)
  none_going k r n runs lacks g = record {
    each = (g.each, may_mark k.log _ g.owes (r, runs, refl, n, lacks));
    owes = owes_new k.log [] g.owes;
    places = g.places;
    wait = wait_grows k.log _ k.waits g.wait;
    stands = lined_stands (session spoken k.log) k.ran None (running k.log) g.stands;
    few = (let few = g.few in omega arith);
  }

  -- a cell that went on without a line
  pub record HasGone (old k : KernelState T) (now : Running) : Type 0 where
    pub runs : running k.log ≡ Some now
    pub going : IsGoing spoken [] k
    pub ran : k.ran ≡ old.ran

  without_going : (nones n : ℕ) (r : Running) (old : KernelState T) (now : Running) (k : KernelState T) → GoesWithout spoken nones n r old now k → running old.log ≡ Some r → IsGoing spoken [] old → HasGone old k now
  without_going zero n r old now k (e, f) runs g =
      subst (λ (j : KernelState T). HasGone old j now) (sym f) (record { runs = runs ∙ ap (λ (q : Running). Some q) (sym e); going = g; ran = refl })
  without_going (suc more) n r old now k (lacks, rest) runs g =
      let h = without_going more n (lined None r) (noted r.at (Line None) old) now k rest (lined_runs (running old.log) r None runs) (none_going old r n runs lacks g) in
      record { runs = h.runs; going = h.going; ran = h.ran }

  closes_kept : (n : ℕ) (r : Running) (k : KernelState T) (work : Work) (new : KernelState T) → running k.log ≡ Some r → k.ran ≤ n → IsGoing spoken [] k → Closes spoken n r k work new → IsKept spoken new
  closes_kept n r k Rest new runs onward g c = absurd c
  closes_kept n r k NeedsParse new runs onward g c = absurd c
  closes_kept n r k Ran new runs onward g (answer, turns, last, within, given, o, e) =
      subst (IsKept spoken) (sym e) (slice_kept answer k r turns (λ same. absurd (last same)) runs within o g)
  closes_kept n r k NeedsLine new runs onward g (may, o, e) =
      subst (IsKept spoken) (sym e) (slice_kept turned.NeedsLine k r n (λ same. may) runs onward o g)
  closes_kept n r k NoMemory new runs onward g (lacks, e) =
      subst (IsKept spoken) (sym e) (flushed_kept k r n runs onward (inr lacks.0) g)

  goes_kept : (turns : ℕ) (r : Running) (old : KernelState T) (work : Work) (new : KernelState T) → running old.log ≡ Some r → IsGoing spoken [] old → GoesOn spoken turns r old work new → IsKept spoken new
  goes_kept turns r old work new runs g (nones, now, k, without, closes) =
      let h = without_going nones (limit turns old) r old now k without runs g in
      closes_kept (limit turns old) now k work new h.runs (omega (arith, h.ran)) h.going closes

  -- the cell that runs is stopped because of an interrupt or a shutdown
  stopped_going : (why : Cause) (ds dues : List Due) (k : KernelState T) (r : Running) → running k.log ≡ Some r → r.fresh ≡ [] → StopsFor why (shown_in spoken (session spoken k.log) r k.ran).outcome → ds ++ dues_after_stop why (Some (flushed_at k.ran r)) (dues_for k.waits) ≡ dues → IsGoing spoken (FlushDue ∷ StopDue why ∷ ds) k → IsGoing spoken dues (stopped why (Some r) k)
  stopped_going why ds dues k r runs fresh o more g =
      let stands = g.stands r runs in
      let same = meaning_shown (session spoken k.log) r k.ran fresh in
      let out = (stood spoken k.log r).output in
      let f : IsFlushOf k r k.ran [] = record {
        runs = runs;
        fits = record {
          request = refl;
          onward = stands.onward;
          used = ap (λ (m : Meaning S). m.turns) same ∙ stands.used;
          shown = drop_self out ∙ ap (λ (text : List ℕ). drop (length out) text) (sym (ap (λ (m : Meaning S). m.output) same ∙ stands.silent));
        };
      } in
      let flush = flush_going (StopDue why ∷ ds) k r k.ran [] f (owes_next k.log FlushDue _ [] g.owes ∙ append-nil (StopDue why ∷ ds))
      (may_settle k.log _ FlushDue _ g.owes (tt, (r, runs, f.fits))) _ g in
      let shown = noted r.at (Flush k.ran []) k in
      let now = flushed_runs (running k.log) r k.ran runs in
      stop_going _ ds dues shown (flushed_at k.ran r) why now
      (may_settle shown.log _ (StopDue why) ds flush.owes
      (k.ran, count k.log, refl, (flushed_at k.ran r, now, record { request = refl; flushed = tt; here = refl; outcome = subst (λ (p : Meaning S). StopsFor why p.outcome) (sym same) o; counted = refl })))
      (one_left shown.log (StopDue why) ds flush.owes)
      (ap (λ (o : Option Running). ds ++ dues_after_stop why o (waiting_dues shown.log)) now
      ∙ ap (λ (waiting : List Due). ds ++ dues_after_stop why (Some (flushed_at k.ran r)) waiting) (waits_due _ shown flush) ∙ more) flush

  -- a mark that is due and changes nothing else
  pub record IsPlain (at : ℕ) (kind : Kind) (k : KernelState T) : Type 0 where
    pub forced : IsForced kind
    pub runs : running (noted at kind k).log ≡ running k.log
    pub waits : waiting (noted at kind k).log ≡ waiting k.log
    pub session : session spoken (noted at kind k).log ≡ session spoken k.log
    pub counted : count (noted at kind k).log ≡ count k.log
    pub owes : dues_after kind (running k.log) (waiting_dues k.log) ≡ []
    pub ran : ran_after kind k.ran ≡ k.ran

  plain_going : (at : ℕ) (kind : Kind) (ds : List Due) (k : KernelState T) → IsPlain at kind k → IsGoing spoken (MarkDue at kind ∷ ds) k → IsGoing spoken ds (noted at kind k)
  plain_going at kind ds k p g = record {
    each = (g.each, may_settle k.log _ (MarkDue at kind) ds g.owes (refl, p.forced));
    owes = owes_next k.log (MarkDue at kind) ds _ g.owes ∙ ap (λ (more : List Due). ds ++ more) p.owes ∙ append-nil ds;
    places = g.places ∙ sym p.waits;
    wait = wait_grows k.log _ k.waits g.wait;
    stands = λ r e. subst (λ (s : S). IsStanding spoken s r (ran_after kind k.ran)) (sym p.session)
        (subst (λ (n : ℕ). IsStanding spoken (session spoken k.log) r n) (sym p.ran) (g.stands r (sym p.runs ∙ e)));
    few = (let few = g.few in let same = p.counted in omega arith);
  }

  interrupt_kept : (k : KernelState T) (at : ℕ) (o : Option Running) → running k.log ≡ o → ((r : Running) → o ≡ Some r → (r.fresh ≡ []) × StopsFor cause.Interrupted (shown_in spoken (session spoken k.log) r k.ran).outcome) → IsGoing spoken (MarkDue at Interrupt ∷ ends_due cause.Interrupted o) k → IsKept spoken (interrupted o (noted at Interrupt k))
  interrupt_kept k at None runs goes g =
      settle_kept (noted at Interrupt k) (plain_going at Interrupt [] k (record { forced = tt; runs = refl; waits = refl; session = refl; counted = refl; owes = refl; ran = refl }) g) runs
  interrupt_kept k at (Some r) runs goes g =
      let can = goes r refl in
      fails_kept r.request.stop_on_error (stopped cause.Interrupted (Some r) (noted at Interrupt k)) refl
      (stopped_going cause.Interrupted [] _ (noted at Interrupt k) r runs can.0 can.1 refl
      (plain_going at Interrupt _ k (record { forced = tt; runs = refl; waits = refl; session = refl; counted = refl; owes = refl; ran = refl }) g))

  -- after a shutdown nothing runs and nothing waits
  restart_kept : (k : KernelState T) (at : ℕ) (restart : Bool) → running k.log ≡ None → IsGoing spoken (dues_for k.waits ++ MarkDue at (Restart restart) ∷ []) k → IsKept spoken (noted at (Restart restart) (aborting k.waits k))
  restart_kept k at restart idle g =
      let last = aborting k.waits k in
      let none : running last.log ≡ None = idle_fails true k idle in
      let due = aborting_going k.waits (MarkDue at (Restart restart) ∷ []) k refl g in
      settle_kept (noted at (Restart restart) last) (record {
        each = (due.each, may_settle last.log _ (MarkDue at (Restart restart)) [] due.owes (refl, tt));
        owes = owes_next last.log (MarkDue at (Restart restart)) [] [] due.owes;
        places = due.places;
        wait = wait_grows last.log _ last.waits due.wait;
        stands = λ r e. no_cell r _ (sym none ∙ e);
        few = omega arith;
      }) none

  shut_kept : (k : KernelState T) (at : ℕ) (restart : Bool) (o : Option Running) → running k.log ≡ o → ((r : Running) → o ≡ Some r → (r.fresh ≡ []) × StopsFor cause.Interrupted (shown_in spoken (session spoken k.log) r k.ran).outcome) → IsGoing spoken (ends_due cause.Restarted o ++ dues_for k.waits ++ MarkDue at (Restart restart) ∷ []) k → IsKept spoken (shut at restart o k)
  shut_kept k at restart None runs goes g = restart_kept k at restart runs g
  shut_kept k at restart (Some r) runs goes g =
      let can = goes r refl in
      restart_kept (stopped cause.Restarted (Some r) k) at restart refl
      (stopped_going cause.Restarted _ _ k r runs can.0 can.1 (append-nil (dues_for k.waits ++ MarkDue at (Restart restart) ∷ [])) g)

  -- what an arrival owes, by its sort
  took_as : (status : Option Completeness) (s : Sort) (a : Arrival) (k : KernelState T) → sort_as a.what ≡ s → IsStatusOf spoken (query_in a.what) status → ended k.log ≡ false → IsGoing spoken [] k → IsGoing spoken (dues_of s a k.log) (took status a k)
  took_as status s a k e right on g = subst (λ (s : Sort). IsGoing spoken (dues_of s a k.log) (took status a k)) e (took_going status a k right on g)

  -- the cell that runs after an arrival
  pub runs_as : (status : Option Completeness) (s : Sort) (a : Arrival) (k : KernelState T) → sort_as a.what ≡ s → running (took status a k).log ≡ running_with s (running k.log)
  runs_as status s a k e = ap (λ (s : Sort). running_with s (running k.log)) e

  -- a shutdown adds nothing to what waits
  shutdown_waits : (status : Option Completeness) (restart : Bool) (a : Arrival) (k : KernelState T) → sort_as a.what ≡ sort.Shutdown restart → (took status a k).waits ≡ k.waits
  shutdown_waits status restart a k e = ap (λ (s : Sort). k.waits ++ waits_with status s (length k.log) (arrivals k.log + 1)) e ∙ append-nil k.waits

  -- the line for the cell that asks
  line_going : (at : ℕ) (text : List ℕ) (k : KernelState T) → IsGoing spoken (MarkDue at (Line (Some text)) ∷ []) k → IsGoing spoken [] (noted at (Line (Some text)) k)
  line_going at text k g = record {
    each = (g.each, may_settle k.log _ (MarkDue at (Line (Some text))) [] g.owes (refl, tt));
    owes = owes_next k.log (MarkDue at (Line (Some text))) [] [] g.owes;
    places = g.places;
    wait = wait_grows k.log _ k.waits g.wait;
    stands = lined_stands (session spoken k.log) k.ran (Some text) (running k.log) g.stands;
    few = (let few = g.few in omega arith);
  }

  given_kept : (line : Option (List ℕ)) (ask : Option ℕ) (k : KernelState T) → ((r : Running) → running k.log ≡ Some r → IsHeld spoken (session spoken k.log) r k.ran) → IsGoing spoken (line_due line ask) k → IsKept spoken (given_to line ask k)
  given_kept None ask k goes g = record { going = g; goes = goes }
  given_kept (Some text) None k goes g = record { going = g; goes = goes }
  given_kept (Some text) (Some at) k goes g = record {
    going = line_going at text k g;
    goes = lined_held (session spoken k.log) k.ran text (running k.log) goes;
  }

  -- the cell that an interrupt finds
  found_cell : (o : Option Running) (session : S) (ran : ℕ) → ((r : Running) → o ≡ Some r → IsHeld spoken session r ran) → (q : Running) → option_with unread o ≡ Some q → (q.fresh ≡ []) × StopsFor cause.Interrupted (shown_in spoken session q ran).outcome
  found_cell None session ran goes q e = no_cell q _ e
  found_cell (Some r) session ran goes q e =
      let held = goes r refl in
      subst (λ (q : Running). (q.fresh ≡ []) × StopsFor cause.Interrupted (shown_in spoken session q ran).outcome) (some_same (unread r) q e) (held.texts, held.rests)

  taken_kept : (status : Option Completeness) (s : Sort) (a : Arrival) (k : KernelState T) → sort_as a.what ≡ s → IsStatusOf spoken (query_in a.what) status → ended k.log ≡ false → IsKept spoken k → IsKept spoken (answered s a k.log (took status a k))
  taken_kept status sort.Execute a k e right on kept = record { going = took_as status sort.Execute a k e right on kept.going; goes = λ r f. kept.goes r (sym (runs_as status sort.Execute a k e) ∙ f) }
  taken_kept status sort.Query a k e right on kept = record { going = took_as status sort.Query a k e right on kept.going; goes = λ r f. kept.goes r (sym (runs_as status sort.Query a k e) ∙ f) }
  taken_kept status sort.Other a k e right on kept = record { going = took_as status sort.Other a k e right on kept.going; goes = λ r f. kept.goes r (sym (runs_as status sort.Other a k e) ∙ f) }
  taken_kept status sort.Join a k e right on kept = record {
    going = plain_going (length k.log) Join [] (took status a k) (record { forced = tt; runs = refl; waits = refl; session = refl; counted = refl; owes = refl; ran = refl }) (took_as status sort.Join a k e right on kept.going);
    goes = λ r f. kept.goes r (sym (runs_as status sort.Join a k e) ∙ f);
  }
  taken_kept status sort.Leave a k e right on kept = record {
    going = plain_going (length k.log) Leave [] (took status a k) (record { forced = tt; runs = refl; waits = refl; session = refl; counted = refl; owes = refl; ran = refl }) (took_as status sort.Leave a k e right on kept.going);
    goes = λ r f. kept.goes r (sym (runs_as status sort.Leave a k e) ∙ f);
  }
  taken_kept status sort.KernelInfo a k e right on kept = record {
    going = plain_going (length k.log) KernelInfo [] (took status a k) (record { forced = tt; runs = refl; waits = refl; session = refl; counted = refl; owes = refl; ran = refl }) (took_as status sort.KernelInfo a k e right on kept.going);
    goes = λ r f. kept.goes r (sym (runs_as status sort.KernelInfo a k e) ∙ f);
  }
  taken_kept status sort.Input a k e right on kept =
      given_kept (input_in a.what) (asker a.seat k.log) (took status a k) (λ r f. kept.goes r (sym (runs_as status sort.Input a k e) ∙ f)) (took_as status sort.Input a k e right on kept.going)
  taken_kept status sort.Interrupt a k e right on kept =
      let runs = runs_as status sort.Interrupt a k e in
      subst (λ (o : Option Running). IsKept spoken (interrupted o (noted (length k.log) Interrupt (took status a k)))) (sym runs)
      (interrupt_kept (took status a k) (length k.log) (option_with unread (running k.log)) runs (found_cell (running k.log) (session spoken k.log) k.ran kept.goes)
      (subst (λ (ds : List Due). IsGoing spoken (MarkDue (length k.log) Interrupt ∷ ds) (took status a k)) (ends_unread cause.Interrupted (running k.log)) (took_as status sort.Interrupt a k e right on kept.going)))
  taken_kept status (sort.Shutdown restart) a k e right on kept =
      let runs = runs_as status (sort.Shutdown restart) a k e in
      let last = MarkDue (length k.log) (Restart restart) ∷ [] in
      let waits : waiting_dues k.log ≡ dues_for (took status a k).waits = waits_due [] k kept.going ∙ ap dues_for (sym (shutdown_waits status restart a k e)) in
      subst (λ (o : Option Running). IsKept spoken (shut (length k.log) restart o (took status a k))) (sym runs)
      (shut_kept (took status a k) (length k.log) restart (option_with unread (running k.log)) runs (found_cell (running k.log) (session spoken k.log) k.ran kept.goes)
      (subst (λ (ds : List Due). IsGoing spoken (ends_due cause.Restarted (option_with unread (running k.log)) ++ ds ++ last) (took status a k)) waits
      (subst (λ (ds : List Due). IsGoing spoken (ds ++ waiting_dues k.log ++ last) (took status a k)) (ends_unread cause.Restarted (running k.log)) (took_as status (sort.Shutdown restart) a k e right on kept.going))))

  pub kept-taken : (status : Option Completeness) (a : Arrival) (k : KernelState T) → IsStatusOf spoken (query_in a.what) status → ended k.log ≡ false → IsKept spoken k → IsKept spoken (taken status a k)
  kept-taken status a k right on kept = taken_kept status (sort_as a.what) a k refl right on kept

  -- whatever is taken, or dropped, is kept
  pub kept-takes : (a : Arrival) (old new : KernelState T) → IsKept spoken old → Takes spoken a old new → IsKept spoken new
  kept-takes a old new kept (inl (over, e)) = subst (IsKept spoken) (sym e) kept
  kept-takes a old new kept (inr (on, status, right, e)) = subst (IsKept spoken) (sym e) (kept-taken status a old right on kept)

  -- the cell that waits first
  first_cell : (k : KernelState T) (w : Waiting T) (ws : List (Waiting T)) (result : Option (Parsed T)) → k.waits ≡ w ∷ ws → w.task ≡ Cell result → AllWait spoken k.log k.waits → IsCellAt spoken k.log w.at result
  first_cell k w ws result waits e all = subst (IsTaskAt spoken k.log w.at) e (subst (AllWait spoken k.log) waits all).0

  begin_kept : (k : KernelState T) (w : Waiting T) (ws : List (Waiting T)) (result : Option (Parsed T)) → k.waits ≡ w ∷ ws → w.task ≡ Cell result → running k.log ≡ None → IsGoing spoken [] k → IsGoing spoken [] (begun w.at (with_waits ws k))
  begin_kept k w ws result waits task idle kept =
      let places : w.at ∷ map (λ w. w.at) ws ≡ waiting k.log = subst (λ (xs : List (Waiting T)). map (λ w. w.at) xs ≡ waiting k.log) waits kept.places in
      let wait = subst (AllWait spoken k.log) waits kept.wait in
      let cell = first_cell k w ws result waits task kept.wait in
      let r = opened w.at (seat_at w.at k.log) cell.request in
      let zero_turns : (spoken.cell (session spoken k.log) cell.request.code [] 0).turns ≡ 0 = (let few = (laws.lawful (session spoken k.log) cell.request.code []).few 0 in omega arith) in
      record {
        each = (kept.each, may_mark k.log _ kept.owes (record { idle = idle; first = first_at w.at _ _ places; request = cell.request; there = cell.there }, refl));
        owes = owes_new k.log [] kept.owes;
        places = ap (λ (xs : List ℕ). drop 1 xs) places;
        wait = wait_grows k.log _ ws wait.1;
        stands = stands_at (session spoken k.log) 0 _ r (ap (option_with (opened w.at (seat_at w.at k.log))) cell.there) (record { onward = omega arith; used = zero_turns; silent = refl });
        few = (let few = kept.few in let next = next_few (execute_at w.at k.log) (count k.log) in omega arith);
      }

  refuse_kept : (k : KernelState T) (w : Waiting T) (ws : List (Waiting T)) (result : Option (Parsed T)) → k.waits ≡ w ∷ ws → w.task ≡ Cell result → running k.log ≡ None → IsGoing spoken [] k → IsKept spoken (noted w.at (Refuse (count k.log)) (with_waits ws k))
  refuse_kept k w ws result waits task idle g =
      let places : w.at ∷ map (λ w. w.at) ws ≡ waiting k.log = subst (λ (xs : List (Waiting T)). map (λ w. w.at) xs ≡ waiting k.log) waits g.places in
      let wait = subst (AllWait spoken k.log) waits g.wait in
      let cell = first_cell k w ws result waits task g.wait in
      settle_kept _ (record {
        each = (g.each, may_mark k.log _ g.owes (record { idle = idle; first = first_at w.at _ _ places; request = cell.request; there = cell.there }, refl));
        owes = owes_new k.log [] g.owes;
        places = ap (λ (xs : List ℕ). drop 1 xs) places;
        wait = wait_grows k.log _ ws wait.1;
        stands = g.stands;
        few = (let few = g.few in omega arith);
      }) idle

  -- a cell that does not run is begun and ended at once
  broken_kept : (k : KernelState T) (w : Waiting T) (ws : List (Waiting T)) (result : Option (Parsed T)) (refusal : Refusal) → k.waits ≡ w ∷ ws → w.task ≡ Cell result → IsBrokenAt spoken w.at refusal k.log → running k.log ≡ None → IsGoing spoken [] k → IsKept spoken (broken w.at refusal (with_waits ws k))
  broken_kept k w ws result refusal waits task wrong idle g =
      let e = wrong.request in
      let r = opened w.at (seat_at w.at k.log) e in
      let start = begun w.at (with_waits ws k) in
      let stands = laws.stands (session spoken k.log) e.code refusal wrong.breaks [] 0 in
      let runs = begun_runs k w ws e wrong.there in
      let flush = flush_kept start r 0 runs (omega arith) (begin_kept k w ws result waits task idle g) in
      let flush_now : IsGoing spoken [] (noted w.at (Flush 0 []) start) =
      subst (λ (m : Meaning S). IsGoing spoken [] (noted w.at (Flush m.turns (drop (length m.output) m.output)) start)) stands flush in
      let now = flushed_runs (running start.log) r 0 runs in
      subst (λ (b : Bool). IsKept spoken (failing b (noted w.at (End (ending.Refused refusal) (next_count w.at k.log)) (noted w.at (Flush 0 []) start)))) (sym (stops_same _ e wrong.there))
      (fails_kept e.stop_on_error _ refl
      (end_going _ (noted w.at (Flush 0 []) start) r (ending.Refused refusal) now tt (ap (λ (m : Meaning S). m.outcome) stands, wrong.breaks)
      (fails_same _ r _ _ now (waits_due [] (noted w.at (Flush 0 []) start) flush_now)) flush_now))

  found_broken : (k : KernelState T) (w : Waiting T) (ws : List (Waiting T)) (fault : Fault) → k.waits ≡ w ∷ ws → w.task ≡ Cell (Some (parsed.Fault fault)) → AllWait spoken k.log k.waits → IsBrokenAt spoken w.at (Compile fault) k.log
  found_broken k w ws fault waits task all =
      let cell = first_cell k w ws (Some (parsed.Fault fault)) waits task all in
      record { request = cell.request; there = cell.there; breaks = cell.right (session spoken k.log) }

  starts_kept : (turns : ℕ) (k : KernelState T) (work : Work) (new : KernelState T) (w : Waiting T) (ws : List (Waiting T)) (o : Option (Parsed T)) → k.waits ≡ w ∷ ws → w.task ≡ Cell o → running k.log ≡ None → IsGoing spoken [] k → Starts spoken turns w.at o (with_waits ws k) work new → IsKept spoken new
  starts_kept turns k work new w ws None waits task idle kept s = absurd s
  starts_kept turns k work new w ws (Some parsed.Memory) waits task idle kept s = subst (IsKept spoken) (sym s.1) (refuse_kept k w ws _ waits task idle kept)
  starts_kept turns k work new w ws (Some (parsed.Fault fault)) waits task idle kept s =
      subst (IsKept spoken) (sym s.1) (broken_kept k w ws _ (Compile fault) waits task (found_broken k w ws fault waits task kept.wait) idle kept)
  starts_kept turns k work new w ws (Some (parsed.Tree cell)) waits task idle kept (inl (r, runs, goes)) =
      goes_kept turns r (begun w.at (with_waits ws k)) work new runs (begin_kept k w ws _ waits task idle kept) goes
  starts_kept turns k work new w ws (Some (parsed.Tree cell)) waits task idle kept (inr (refusal, wrong, ran, e)) =
      subst (IsKept spoken) (sym e) (broken_kept k w ws _ refusal waits task wrong idle kept)

  starts_as : (turns : ℕ) (k : KernelState T) (work : Work) (new : KernelState T) (w : Waiting T) (ws : List (Waiting T)) (t : Task T) → k.waits ≡ w ∷ ws → w.task ≡ t → running k.log ≡ None → IsGoing spoken [] k → StartsAs spoken turns w.at t (with_waits ws k) work new → IsKept spoken new
  starts_as turns k work new w ws (Cell result) waits task idle kept s = starts_kept turns k work new w ws result waits task idle kept s
  starts_as turns k work new w ws (Query status) waits task idle kept s = absurd s

  first_kept : (turns : ℕ) (k : KernelState T) (work : Work) (new : KernelState T) (all : List (Waiting T)) → k.waits ≡ all → running k.log ≡ None → IsGoing spoken [] k → StartsFirst spoken turns all k work new → IsKept spoken new
  first_kept turns k work new [] waits idle kept s = absurd s
  first_kept turns k work new (w ∷ ws) waits idle kept s = starts_as turns k work new w ws w.task waits refl idle kept s

  answers_kept : (turns : ℕ) (old : KernelState T) (work : Work) (new : KernelState T) → running old.log ≡ None → IsGoing spoken [] old → AnswersFirst spoken turns old work new → IsKept spoken new
  answers_kept turns old work new idle g (inl s) =
      let k = answering old.waits old in
      first_kept turns k work new k.waits refl (answering_idle old.waits old idle) (answering_going old.waits old refl idle g) s
  answers_kept turns old work new idle g (inr (asks, none, ran, e)) =
      subst (IsKept spoken) (sym e) (settle_kept (answering old.waits old) (answering_going old.waits old refl idle g) (answering_idle old.waits old idle))

  moves_kept : (turns : ℕ) (old : KernelState T) (work : Work) (new : KernelState T) → IsKept spoken old → Moves spoken turns old work new → IsKept spoken new
  moves_kept turns old work new kept (inl (r, runs, goes)) = goes_kept turns r old work new runs kept.going goes
  moves_kept turns old work new kept (inr (idle, s)) = answers_kept turns old work new idle kept.going s

  -- whatever work does is kept
  pub kept-works : (turns : ℕ) (old : KernelState T) (answer : Work) (new : KernelState T) → IsKept spoken old → Works spoken turns old answer new → IsKept spoken new
  kept-works turns old Rest new kept s = subst (IsKept spoken) (sym s.0) kept
  kept-works turns old NeedsParse new kept s = subst (IsKept spoken) (sym s.0) kept
  kept-works turns old NoMemory new kept (inl same) = subst (IsKept spoken) (sym same) kept
  kept-works turns old NoMemory new kept (inr moves) = moves_kept turns old NoMemory new kept moves
  kept-works turns old NeedsLine new kept (asks, inl same) = subst (IsKept spoken) (sym same) kept
  kept-works turns old NeedsLine new kept (asks, inr moves) = moves_kept turns old NeedsLine new kept moves
  kept-works turns old Ran new kept s = moves_kept turns old Ran new kept s

  -- between two calls the log is legal
  pub kept_legal : (k : KernelState T) → IsKept spoken k → IsLegal spoken k.log
  kept_legal k kept = record { each = kept.going.each; settled = kept.going.owes }
