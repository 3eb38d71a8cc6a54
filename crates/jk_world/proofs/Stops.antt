-- Each stop by an interrupt or a shutdown has its reason, and each reason stops the cell that runs.
use Rattle.std.proofs.Common.{◌≡◌, ◌⊎◌, ℕ, ◌+◌, ◌≤◌, Bool, true, false, cond, List, [], ◌∷◌, ◌++◌, length, map, drop, refl, sym, ◌∙◌, ap, subst, append_assoc, arith, Option, None, Some, inl, inr, eqb, eq-eqb}
use Rattle.std.proofs.lemmas.List.{append-nil}
use Rattle.std.proofs.lemmas.Option.{none-some, same_Some}
use Rattle.std.proofs.lemmas.Bool.{eqb-true}
use Rattle.jk_language.specs.Spoken.{Spoken}
use Rattle.jp_msg.specs.declared.message.Content.{Content}
use Rattle.jp_msg.specs.declared.message.Content.TheVariants as content
use Rattle.jp_msg.specs.declared.message.Execute.{Execute}
use Rattle.jp_msg.specs.declared.message.Request.{Request}
use Rattle.jp_msg.specs.declared.message.Request.TheVariants as request
use Rattle.jk_log.specs.declared.arrival.Arrival.{Arrival}
use Rattle.jk_log.specs.declared.arrival.Sort.{Sort}
use Rattle.jk_log.specs.declared.arrival.Sort.TheVariants as sort
use Rattle.jk_log.specs.declared.arrival.What.{What}
use Rattle.jk_log.specs.declared.arrival.What.TheVariants as what
use Rattle.jk_log.specs.declared.mark.Cause.{Cause}
use Rattle.jk_log.specs.declared.mark.Cause.TheVariants.{Memory, Interrupted, Restarted}
use Rattle.jk_log.specs.declared.mark.Ending.TheVariants.{Completed, Trapped, Refused}
use Rattle.jk_log.specs.declared.mark.Item.{Item}
use Rattle.jk_log.specs.declared.mark.Item.TheVariants.{Took, Marked}
use Rattle.jk_log.specs.declared.mark.Mark.{Mark}
use Rattle.jk_log.specs.declared.mark.Kind.{Kind}
use Rattle.jk_log.specs.declared.mark.Kind.TheVariants.{Join, Leave, Begin, Flush, Ask, Line, End, Stop, Refuse, Abort, Answer, Interrupt, KernelInfo, Restart}
use Rattle.jk_log.specs.Asked.{content_sort, control_sort, input_in, shell_sort, sort_as, stdin_sort}
use Rattle.jk_log.specs.Legal.{Due, MarkDue, AnswerDue, FlushDue, StopDue, EachFollows, IsForced, MayMark, due_by, due_of, dues_after, dues_of, ends_due, fails_due, line_due, owed, waiting_dues}
use Rattle.jk_log.specs.Log.{Log, Running, asker, execute_at, running, waiting}
use Rattle.jk_log.proofs.Logs.{by_sort}
use Rattle.jk_world.specs.Cells.{begins, ends, runs_at, times, times_begun, times_ended}
use Rattle.jk_world.specs.Stops.{AreBefore, IsStopped, IsStoppedBy, Runs, StopsAreRight, content_cause, stands_before, stop, stops_for, what_cause}
use Rattle.jk_world.proofs.Ends.{lives, runs_as, runs_one}
use Rattle.jk_world.proofs.Once.{answered_at_most_once, just_flush}
use Rattle.jk_world.proofs.Outcomes.{begun_few}
use Rattle.jk_world.proofs.Parents.{stop_may}
use Rattle.jk_world.proofs.Prefixes.{each_before}

-- ---- an interrupt and a shutdown

abbrev sort_cause : Sort → Option Cause
sort_cause sort.Interrupt = Some Interrupted
sort_cause (sort.Shutdown restart) = Some Restarted
sort_cause _ = None

control_cause : (c : Content) → content_cause c ≡ sort_cause (content_sort control_sort c)
control_cause (content.Request (request.Execute e)) = refl
control_cause (content.Request request.KernelInfo) = refl
control_cause (content.Request (request.IsComplete code)) = refl
control_cause (content.Request (request.Complete cursor)) = refl
control_cause (content.Request request.Inspect) = refl
control_cause (content.Request request.History) = refl
control_cause (content.Request request.CommInfo) = refl
control_cause (content.Request request.Interrupt) = refl
control_cause (content.Request (request.Shutdown restart)) = refl
control_cause (content.Request (request.InputReply line)) = refl
control_cause (content.Request request.Other) = refl
control_cause (content.Output o) = refl

shell_cause : (c : Content) → None ≡ sort_cause (content_sort shell_sort c)
shell_cause (content.Request (request.Execute e)) = refl
shell_cause (content.Request request.KernelInfo) = refl
shell_cause (content.Request (request.IsComplete code)) = refl
shell_cause (content.Request (request.Complete cursor)) = refl
shell_cause (content.Request request.Inspect) = refl
shell_cause (content.Request request.History) = refl
shell_cause (content.Request request.CommInfo) = refl
shell_cause (content.Request request.Interrupt) = refl
shell_cause (content.Request (request.Shutdown restart)) = refl
shell_cause (content.Request (request.InputReply line)) = refl
shell_cause (content.Request request.Other) = refl
shell_cause (content.Output o) = refl

stdin_cause : (c : Content) → None ≡ sort_cause (content_sort stdin_sort c)
stdin_cause (content.Request (request.Execute e)) = refl
stdin_cause (content.Request request.KernelInfo) = refl
stdin_cause (content.Request (request.IsComplete code)) = refl
stdin_cause (content.Request (request.Complete cursor)) = refl
stdin_cause (content.Request request.Inspect) = refl
stdin_cause (content.Request request.History) = refl
stdin_cause (content.Request request.CommInfo) = refl
stdin_cause (content.Request request.Interrupt) = refl
stdin_cause (content.Request (request.Shutdown restart)) = refl
stdin_cause (content.Request (request.InputReply line)) = refl
stdin_cause (content.Request request.Other) = refl
stdin_cause (content.Output o) = refl

cause_as : (w : What) → what_cause w ≡ sort_cause (sort_as w)
cause_as (what.Control m) = control_cause m.content
cause_as (what.Shell m) = shell_cause m.content
cause_as (what.Stdin m) = stdin_cause m.content
cause_as what.Join = refl
cause_as what.Leave = refl

-- ---- the stops that are owed

abbrev NoStops : List Due → Type 0
NoStops [] = Unit {0}
NoStops (MarkDue at kind ∷ ds) = NoStops ds
NoStops (AnswerDue at ∷ ds) = NoStops ds
NoStops (FlushDue ∷ ds) = NoStops ds
NoStops (StopDue cause ∷ ds) = ⊥

-- a stop is owed next, after what may stand before it
abbrev Stopping : Cause → List Due → Type 0
Stopping cause [] = ⊥
Stopping cause (MarkDue at Interrupt ∷ ds) = Stopping cause ds
Stopping cause (MarkDue at other ∷ ds) = ⊥
Stopping cause (AnswerDue at ∷ ds) = ⊥
Stopping cause (FlushDue ∷ ds) = Stopping cause ds
Stopping cause (StopDue due ∷ ds) = (due ≡ cause) × NoStops ds

none_append : (ds es : List Due) → NoStops ds → NoStops es → NoStops (ds ++ es)
none_append [] es h k = k
none_append (MarkDue at kind ∷ ds) es h k = none_append ds es h k
none_append (AnswerDue at ∷ ds) es h k = none_append ds es h k
none_append (FlushDue ∷ ds) es h k = none_append ds es h k
none_append (StopDue cause ∷ ds) es h k = absurd h

stopping_append : (cause : Cause) (ds es : List Due) → Stopping cause ds → NoStops es → Stopping cause (ds ++ es)
stopping_append cause [] es h k = absurd h
stopping_append cause (MarkDue at Interrupt ∷ ds) es h k = stopping_append cause ds es h k
stopping_append cause (MarkDue at other ∷ ds) es h k = absurd h
stopping_append cause (AnswerDue at ∷ ds) es h k = absurd h
stopping_append cause (FlushDue ∷ ds) es h k = stopping_append cause ds es h k
stopping_append cause (StopDue due ∷ ds) es h k = (h.0, none_append ds es h.1 k)

waits_none : (log : Log) (places : List ℕ) → NoStops (map (due_of log) places)
waits_none log [] = tt
waits_none log (p ∷ ps) = one (execute_at p log) (waits_none log ps)
  where
    one : (o : Option Execute) → NoStops (map (due_of log) ps) → NoStops (due_by o p ∷ map (due_of log) ps)
    one (Some e) rest = rest
    one None rest = rest

fails_none : (o : Option Running) (ds : List Due) → NoStops ds → NoStops (fails_due o ds)
fails_none None ds h = tt
fails_none (Some r) ds h = by r.request.stop_on_error
  where
    by : (b : Bool) → NoStops (cond b ds [])
    by true = h
    by false = tt

after_none : (kind : Kind) (o : Option Running) (ds : List Due) → NoStops ds → NoStops (dues_after kind o ds)
after_none (End Completed n) o ds h = tt
after_none (End (Trapped trap) n) o ds h = fails_none o ds h
after_none (End (Refused refusal) n) o ds h = fails_none o ds h
after_none (Stop turns Memory n) o ds h = fails_none o ds h
after_none (Stop turns Interrupted n) o ds h = fails_none o ds h
after_none (Stop turns Restarted n) o ds h = tt
after_none other o ds h = tt

line_none : (text : Option (List ℕ)) (at : Option ℕ) → NoStops (line_due text at)
line_none None at = tt
line_none (Some text) None = tt
line_none (Some text) (Some at) = tt

-- ---- the reasons of stops

record IsReason (log : Log) (ds : List Due) : Type 0 where
  between : List Item
  arrival : Arrival
  before : Log
  cause : Cause
  parts : between ++ Took arrival ∷ before ≡ log
  directly : AreBefore between
  right : what_cause arrival.what ≡ Some cause
  owes : Stopping cause ds

abbrev Known : Log → List Due → Type 0
Known log ds = NoStops ds ⊎ IsReason log ds

one_more : (past : Log) (m : Mark) (ds es : List Due) → stands_before m.kind ≡ true → (r : IsReason past ds) → Stopping r.cause es → IsReason (Marked m ∷ past) es
one_more past m ds es stands r owes = record {
  between = Marked m ∷ r.between;
  arrival = r.arrival;
  before = r.before;
  cause = r.cause;
  parts = ap (λ (items : List Item). Marked m ∷ items) r.parts;
  directly = (stands, r.directly);
  right = r.right;
  owes = owes;
}

-- what stands before a stop begins and ends no cell
before_begins : (b : Bool) (kind : Kind) (n : ℕ) → stands_before kind ≡ true → n + cond b (begins kind) 0 ≡ n
before_begins b Interrupt n h = both b
  where
    both : (b : Bool) → n + cond b 0 0 ≡ n
    both true = omega arith
    both false = omega arith
before_begins b (Flush turns text) n h = both b
  where
    both : (b : Bool) → n + cond b 0 0 ≡ n
    both true = omega arith
    both false = omega arith
before_begins b other n h = cc

before_ends : (b : Bool) (kind : Kind) (n : ℕ) → stands_before kind ≡ true → n + cond b (ends kind) 0 ≡ n
before_ends b Interrupt n h = both b
  where
    both : (b : Bool) → n + cond b 0 0 ≡ n
    both true = omega arith
    both false = omega arith
before_ends b (Flush turns text) n h = both b
  where
    both : (b : Bool) → n + cond b 0 0 ≡ n
    both true = omega arith
    both false = omega arith
before_ends b other n h = cc

begun_before : (at : ℕ) (items : List Item) (log : Log) → AreBefore items → times_begun at (items ++ log) ≡ times_begun at log
begun_before at [] log h = refl
begun_before at (Took a ∷ items) log h = absurd h
begun_before at (Marked m ∷ items) log h = before_begins (eqb m.at at) m.kind (times_begun at (items ++ log)) h.0 ∙ begun_before at items log h.1

ended_before : (at : ℕ) (items : List Item) (log : Log) → AreBefore items → times_ended at (items ++ log) ≡ times_ended at log
ended_before at [] log h = refl
ended_before at (Took a ∷ items) log h = absurd h
ended_before at (Marked m ∷ items) log h = before_ends (eqb m.at at) m.kind (times_ended at (items ++ log)) h.0 ∙ ended_before at items log h.1

runs_on : (at : ℕ) (items : List Item) (log : Log) → AreBefore items → Runs log at → Runs (items ++ log) at
runs_on at items log h r = record { begun = begun_before at items log h ∙ r.begun; goes = ended_before at items log h ∙ r.goes }

ran_before : (at : ℕ) (items : List Item) (a : Arrival) (log : Log) → AreBefore items → Runs (items ++ Took a ∷ log) at → Runs log at
ran_before at items a log h r =
    record { begun = sym (begun_before at items (Took a ∷ log) h) ∙ r.begun; goes = sym (ended_before at items (Took a ∷ log) h) ∙ r.goes }

module _ {S T : Type 0} (spoken : Spoken S T) where
  -- ---- where a stop is owed, its reason is known

  interrupt_known : (past : Log) (a : Arrival) (o : Option Running) → Some Interrupted ≡ what_cause a.what → Known (Took a ∷ past) (MarkDue (length past) Interrupt ∷ ends_due Interrupted o)
  interrupt_known past a None h = inl tt
  interrupt_known past a (Some r) h = inr (record {
    between = [];
    arrival = a;
    before = past;
    cause = Interrupted;
    parts = refl;
    directly = tt;
    right = sym h;
    owes = (refl, tt);
  })

  shut_known : (past : Log) (a : Arrival) (restart : Bool) (o : Option Running) → Some Restarted ≡ what_cause a.what → Known (Took a ∷ past) ((ends_due Restarted o ++ waiting_dues past) ++ MarkDue (length past) (Restart restart) ∷ [])
  shut_known past a restart None h = inl (none_append (waiting_dues past) (MarkDue (length past) (Restart restart) ∷ []) (waits_none past (waiting past)) tt)
  shut_known past a restart (Some r) h = inr (record {
    between = [];
    arrival = a;
    before = past;
    cause = Restarted;
    parts = refl;
    directly = tt;
    right = sym h;
    owes = (refl, none_append (waiting_dues past) (MarkDue (length past) (Restart restart) ∷ []) (waits_none past (waiting past)) tt);
  })

  took_known : (past : Log) (a : Arrival) → Known (Took a ∷ past) (dues_of (sort_as a.what) a past)
  took_known past a =
      by_sort (λ s. sort_cause s ≡ what_cause a.what → Known (Took a ∷ past) (dues_of s a past)) (λ h. inl tt) (λ h. inl tt) (λ h. inl tt) (λ h. inl tt)
      (λ h. inl (line_none (input_in a.what) (asker a.seat past))) (interrupt_known past a (running past)) (λ h. inl tt)
      (λ restart. shut_known past a restart (running past)) (λ h. inl tt) (sort_as a.what) (sym (cause_as a.what))

  passes : (past : Log) (m : Mark) (ds es : List Due) → NoStops es → MayMark spoken past ds m → Known past ds → Known (Marked m ∷ past) (drop 1 ds ++ es)
  passes past m [] es more may known = inl more
  passes past m (MarkDue p kind ∷ ds) es more may (inl none) = inl (none_append ds es none more)
  passes past m (MarkDue p Interrupt ∷ ds) es more (same, forced) (inr r) =
      inr (one_more past m (MarkDue p Interrupt ∷ ds) (ds ++ es) (ap (λ (m : Mark). stands_before m.kind) same) r (stopping_append r.cause ds es r.owes more))
  passes past m (MarkDue p other ∷ ds) es more may (inr r) = absurd r.owes
  passes past m (AnswerDue p ∷ ds) es more may (inl none) = inl (none_append ds es none more)
  passes past m (AnswerDue p ∷ ds) es more may (inr r) = absurd r.owes
  passes past m (FlushDue ∷ ds) es more may (inl none) = inl (none_append ds es none more)
  passes past m (FlushDue ∷ ds) es more may (inr r) =
      inr (one_more past m (FlushDue ∷ ds) (ds ++ es) (ap stands_before (just_flush m.kind may.0).2) r (stopping_append r.cause ds es r.owes more))
  passes past m (StopDue cause ∷ ds) es more may (inl none) = absurd none
  passes past m (StopDue cause ∷ ds) es more may (inr r) = inl (none_append ds es r.owes.1 more)

  known : (log : Log) → EachFollows spoken log → Known log (owed log)
  known [] each = inl tt
  known (Took a ∷ past) each = took_known past a
  known (Marked m ∷ past) each =
      passes past m (owed past) (dues_after m.kind (running past) (waiting_dues past)) (after_none m.kind (running past) (waiting_dues past) (waits_none past (waiting past))) each.1 (known past each.0)

  -- the cell that runs was begun and goes on
  runs_now : (past : Log) (at : ℕ) (r : Running) → EachFollows spoken past → running past ≡ Some r → at ≡ r.at → Runs past at
  runs_now past at r each runs here =
      let is : runs_at at past ≡ 1 = runs_one at at (running past) r runs here ∙ ap (λ (b : Bool). cond b 1 0) (eq-eqb at at refl) in
      let all : times_begun at past ≡ times_ended at past + runs_at at past = lives spoken past each at in
      let few = begun_few past at in
      let once = answered_at_most_once spoken past each at in
      record { begun = omega (arith, is, all, few, once); goes = omega (arith, is, all, few, once) }

  -- and what was begun and goes on is the cell that runs
  run_at : (past : Log) (at : ℕ) → EachFollows spoken past → Runs past at → runs_as at (running past) ≡ 1
  run_at past at each h =
      let all : times_begun at past ≡ times_ended at past + runs_at at past = lives spoken past each at in
      let begun = h.begun in
      let goes = h.goes in
      omega (arith, all, begun, goes)

  abbrev CauseOf : Kind → Cause → Type 0
  CauseOf (Stop turns cause n) c = cause ≡ c
  CauseOf other c = Unit {0}

  stop_due : (past : Log) (ds : List Due) (at turns n : ℕ) (cause : Cause) → MayMark spoken past ds (record { at = at; kind = Stop turns cause n }) → (cause ≡ Memory) ⊎ ((rest : List Due) × (ds ≡ StopDue cause ∷ rest))
  stop_due past [] at turns n cause may = inl may.0
  stop_due past (MarkDue a due ∷ ds) at turns n cause (same, forced) = absurd (subst IsForced (sym (ap (λ (m : Mark). m.kind) same)) forced)
  stop_due past (AnswerDue a ∷ ds) at turns n cause (status, same, right) = let k : Stop turns cause n ≡ Answer status = ap (λ (m : Mark). m.kind) same in cc
  stop_due past (FlushDue ∷ ds) at turns n cause may = absurd may.0
  stop_due past (StopDue due ∷ ds) at turns n cause (t, k, is, rest) =
      let same : cause ≡ due = subst (λ (k : Kind). CauseOf k due) (sym is) refl in
      inr (ds, ap (λ (c : Cause). StopDue c ∷ ds) (sym same))

  stopped_by : (past : Log) (at turns n : ℕ) (cause : Cause) → EachFollows spoken past → MayMark spoken past (owed past) (record { at = at; kind = Stop turns cause n }) → (cause ≡ Memory) ⊎ IsStoppedBy past at cause
  stopped_by past at turns n cause each may = by (stop_due past (owed past) at turns n cause may)
    where
      run : Runs past at
      run = let s = stop_may spoken past (owed past) at turns n cause may in runs_now past at s.0 each s.1 s.2

      from : (rest : List Due) → Known past (StopDue cause ∷ rest) → IsStoppedBy past at cause
      from rest (inl none) = absurd none
      from rest (inr r) = record {
        between = r.between;
        reason = Took r.arrival;
        before = r.before;
        parts = r.parts;
        directly = r.directly;
        right = r.right ∙ ap (λ (c : Cause). Some c) (sym r.owes.0);
        ran = ran_before at r.between r.arrival r.before r.directly (subst (λ (log : Log). Runs log at) (sym r.parts) run);
      }

      by : (cause ≡ Memory) ⊎ ((rest : List Due) × (owed past ≡ StopDue cause ∷ rest)) → (cause ≡ Memory) ⊎ IsStoppedBy past at cause
      by (inl memory) = inl memory
      by (inr (rest, is)) = inr (from rest (subst (Known past) is (known past each)))

  -- ---- each reason stops the cell that runs

  interrupt_owes : (past : Log) (at : ℕ) (o : Option Running) → runs_as at o ≡ 1 → Stopping Interrupted (MarkDue (length past) Interrupt ∷ ends_due Interrupted o)
  interrupt_owes past at None h = absurd (omega (arith, h))
  interrupt_owes past at (Some r) h = (refl, tt)

  shut_owes : (past : Log) (at : ℕ) (restart : Bool) (o : Option Running) → runs_as at o ≡ 1 → Stopping Restarted ((ends_due Restarted o ++ waiting_dues past) ++ MarkDue (length past) (Restart restart) ∷ [])
  shut_owes past at restart None h = absurd (omega (arith, h))
  shut_owes past at restart (Some r) h = (refl, none_append (waiting_dues past) (MarkDue (length past) (Restart restart) ∷ []) (waits_none past (waiting past)) tt)

  took_owes : (past : Log) (a : Arrival) (at : ℕ) (cause : Cause) → what_cause a.what ≡ Some cause → runs_as at (running past) ≡ 1 → Stopping cause (dues_of (sort_as a.what) a past)
  took_owes past a at cause is run =
      by_sort (λ s. sort_cause s ≡ Some cause → Stopping cause (dues_of s a past)) (λ h. absurd (none-some cause h)) (λ h. absurd (none-some cause h)) (λ h. absurd (none-some cause h)) (λ h. absurd (none-some cause h))
      (λ h. absurd (none-some cause h)) (λ h. subst (λ (c : Cause). Stopping c (dues_of sort.Interrupt a past)) (same_Some Interrupted cause h) (interrupt_owes past at (running past) run)) (λ h. absurd (none-some cause h))
      (λ restart h. subst (λ (c : Cause). Stopping c (dues_of (sort.Shutdown restart) a past)) (same_Some Restarted cause h) (shut_owes past at restart (running past) run)) (λ h. absurd (none-some cause h))
      (sort_as a.what) (sym (cause_as a.what) ∙ is)

  -- the next mark is the stop, or one that may stand before it
  abbrev Steps : ℕ → Cause → Log → List Due → Mark → Type 0
  Steps at cause past ds m =
      ((turns : ℕ) × (count : ℕ) × (Marked m ≡ stop at turns cause count))
      ⊎ ((stands_before m.kind ≡ true) × Stopping cause (drop 1 ds ++ dues_after m.kind (running past) (waiting_dues past)))

  goes_on : (past : Log) (cause : Cause) (ds : List Due) (m : Mark) → stands_before m.kind ≡ true → Stopping cause ds → (stands_before m.kind ≡ true) × Stopping cause (ds ++ dues_after m.kind (running past) (waiting_dues past))
  goes_on past cause ds m stands h =
      (stands, stopping_append cause ds _ h (after_none m.kind (running past) (waiting_dues past) (waits_none past (waiting past))))

  -- the cell that is stopped is the one that ran
  same_run : (at p : ℕ) (o : Option Running) (r : Running) → o ≡ Some r → p ≡ r.at → runs_as at o ≡ 1 → p ≡ at
  same_run at p o r is here one = here ∙ eqb-true r.at at (by (eqb r.at at) (sym (ap (runs_as at) is) ∙ one))
    where
      by : (b : Bool) → cond {A = ℕ} b 1 0 ≡ 1 → b ≡ true
      by true h = refl
      by false h = absurd (omega (arith, h))

  steps : (past : Log) (at : ℕ) (cause : Cause) (ds : List Due) (m : Mark) → runs_as at (running past) ≡ 1 → MayMark spoken past ds m → Stopping cause ds → Steps at cause past ds m
  steps past at cause [] m run may h = absurd h
  steps past at cause (MarkDue p Interrupt ∷ ds) m run (same, forced) h =
      inr (goes_on past cause ds m (ap (λ (m : Mark). stands_before m.kind) same) h)
  steps past at cause (MarkDue p other ∷ ds) m run may h = absurd h
  steps past at cause (AnswerDue p ∷ ds) m run may h = absurd h
  steps past at cause (FlushDue ∷ ds) m run may h =
      inr (goes_on past cause ds m (ap stands_before (just_flush m.kind may.0).2) h)
  steps past at cause (StopDue due ∷ ds) m run (turns, n, is, (r, runs, s)) h =
      let here = same_run at m.at (running past) r runs s.request run in
      inl (
        turns,
        n,
        ap (λ (p : ℕ). Marked (record { at = p; kind = m.kind })) here
            ∙ ap (λ (k : Kind). Marked (record { at = at; kind = k })) is
            ∙ ap (λ (c : Cause). stop at turns c n) h.0,
      )

  later_stopped : (i : Item) (later : List Item) (at : ℕ) (cause : Cause) → IsStopped later at cause → IsStopped (i ∷ later) at cause
  later_stopped i later at cause h = record {
    after = i ∷ h.after;
    between = h.between;
    turns = h.turns;
    count = h.count;
    parts = ap (λ (items : List Item). i ∷ items) h.parts;
    directly = h.directly;
  }

  abbrev Comes : Log → ℕ → Cause → List Item → Type 0
  Comes front at cause later = (AreBefore later × Stopping cause (owed (later ++ front))) ⊎ IsStopped later at cause

  -- until it is stopped, only what may stand before comes
  comes : (front : Log) (at : ℕ) (cause : Cause) (later : List Item) → EachFollows spoken (later ++ front) → Runs front at → Stopping cause (owed front) → Comes front at cause later
  comes front at cause [] each run h = inl (tt, h)
  comes front at cause (Took a ∷ later) each run h = next (comes front at cause later each.0 run h)
    where
      next : Comes front at cause later → Comes front at cause (Took a ∷ later)
      next (inl (directly, owes)) = absurd (subst (Stopping cause) each.1.0 owes)
      next (inr stopped) = inr (later_stopped (Took a) later at cause stopped)
  comes front at cause (Marked m ∷ later) each run h = next (comes front at cause later each.0 run h)
    where
      now : AreBefore later → Steps at cause (later ++ front) (owed (later ++ front)) m → Comes front at cause (Marked m ∷ later)
      now directly (inl (turns, n, same)) =
          inr (record { after = []; between = later; turns = turns; count = n; parts = ap (λ (i : Item). i ∷ later) (sym same); directly = directly })
      now directly (inr (stands, owes)) = inl ((stands, directly), owes)

      next : Comes front at cause later → Comes front at cause (Marked m ∷ later)
      next (inl (directly, owes)) =
          now directly (steps (later ++ front) at cause (owed (later ++ front)) m (run_at (later ++ front) at each.0 (runs_on at later front directly run)) each.1 owes)
      next (inr stopped) = inr (later_stopped (Marked m) later at cause stopped)

  is_stopped : (later : List Item) (reason : Item) (past : Log) (at : ℕ) (cause : Cause) → EachFollows spoken (later ++ reason ∷ past) → owed (later ++ reason ∷ past) ≡ [] → stops_for reason ≡ Some cause → Runs past at → IsStopped later at cause
  is_stopped later (Marked m) past at cause each settled right run = absurd (none-some cause right)
  is_stopped later (Took a) past at cause each settled right run =
      from (comes (Took a ∷ past) at cause later each (record { begun = run.begun; goes = run.goes })
      (took_owes past a at cause right (run_at past at (each_before spoken (Took a ∷ past) later each).0 run)))
    where
      from : Comes (Took a ∷ past) at cause later → IsStopped later at cause
      from (inl (directly, owes)) = absurd (subst (Stopping cause) settled owes)
      from (inr stopped) = stopped

  pub stops_right : (log : Log) → EachFollows spoken log → owed log ≡ [] → StopsAreRight log
  stops_right log each settled = record {
    reasons = λ later at turns cause count past is.
        let before = each_before spoken (stop at turns cause count ∷ past) later (subst (EachFollows spoken) (sym is) each) in
        stopped_by past at turns count cause before.0 before.1;
    stopped = λ later reason past at cause is right run.
        is_stopped later reason past at cause (subst (EachFollows spoken) (sym is) each) (ap owed is ∙ settled) right run;
  }
