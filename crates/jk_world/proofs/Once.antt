-- Each request is begun, refused, aborted or answered at most once.
use Rattle.std.proofs.Common.{◌≡◌, ◌≢◌, ◌⊎◌, ℕ, ◌+◌, ◌≤◌, Bool, true, false, cond, List, [], ◌∷◌, ◌++◌, length, map, drop, refl, sym, ◌∙◌, ap, subst, arith, Option, None, Some, inl, inr, eqb}
use Rattle.std.specs.Prelude.{slice_get}
use Rattle.std.proofs.lemmas.List.{append-nil}
use Rattle.std.proofs.lemmas.Option.{none-some, same_Some}
use Rattle.std.proofs.Common.{eq-eqb}
use Rattle.std.proofs.lemmas.Bool.Decides.{eqb_tells}
use Rattle.jk_language.specs.Spoken.{Spoken}
use Rattle.jp_msg.specs.declared.message.Execute.{Execute}
use Rattle.jk_log.specs.declared.arrival.Arrival.{Arrival}
use Rattle.jk_log.specs.Asked.{sort_as, input_in}
use Rattle.jk_log.specs.declared.mark.Item.{Item}
use Rattle.jk_log.specs.declared.mark.Item.TheVariants.{Took, Marked}
use Rattle.jk_log.specs.declared.mark.Mark.{Mark}
use Rattle.jk_log.specs.declared.mark.Kind.{Kind}
use Rattle.jk_log.specs.declared.mark.Kind.TheVariants.{Join, Leave, Begin, Flush, Ask, Line, End, Stop, Refuse, Abort, Answer, Interrupt, KernelInfo, Restart}
use Rattle.jk_log.specs.declared.mark.Ending.{Ending}
use Rattle.jk_log.specs.declared.mark.Ending.TheVariants.{Completed, Trapped, Refused}
use Rattle.jk_log.specs.declared.mark.Cause.{Cause}
use Rattle.jk_log.specs.declared.mark.Cause.TheVariants.{Memory, Interrupted, Restarted}
use Rattle.jk_log.specs.Log.{Log, Running, running, waiting, waiting_after, waits_as, execute_at, asker}
use Rattle.jk_log.specs.Legal.{ends_due, line_due, Due, MarkDue, AnswerDue, FlushDue, StopDue, due_by, due_of, EachFollows, MayMark, JustFlushedBy, IsForced, owed, dues_of, dues_after, dues_after_end, dues_after_stop, fails_due}
use Rattle.jk_log.proofs.Logs.{by_sort, execute_grows}
use Rattle.jk_world.specs.Cells.{times_answered}

-- the aborts and answers that are owed are of what waits, in order
abbrev pub Fits : List Due → List ℕ → Type 0
Fits [] places = Unit {0}
Fits (FlushDue ∷ ds) places = Fits ds places
-- what follows a stop is owed only then, but for a shutdown
Fits (StopDue Memory ∷ ds) places = ds ≡ []
Fits (StopDue Interrupted ∷ ds) places = ds ≡ []
Fits (StopDue Restarted ∷ ds) places = Fits ds places
Fits (AnswerDue at ∷ ds) places = (rest : List ℕ) × (places ≡ at ∷ rest) × Fits ds rest
Fits (MarkDue at Abort ∷ ds) places = (rest : List ℕ) × (places ≡ at ∷ rest) × Fits ds rest
Fits (MarkDue at other ∷ ds) places = Fits ds places

-- what waits is aborted or answered, and then these
waits_fit : (log : Log) (places : List ℕ) (ds : List Due) → Fits ds [] → Fits (map (due_of log) places ++ ds) places
waits_fit log [] ds h = h
waits_fit log (p ∷ ps) ds h = one (execute_at p log) (waits_fit log ps ds h)
  where
    one : (o : Option Execute) → Fits (map (due_of log) ps ++ ds) ps → Fits (due_by o p ∷ (map (due_of log) ps ++ ds)) (p ∷ ps)
    one (Some e) rest = (ps, refl, rest)
    one None rest = (ps, refl, rest)

all_fit : (log : Log) (places : List ℕ) → Fits (map (due_of log) places) places
all_fit log places = subst (λ (ds : List Due). Fits ds places) (append-nil (map (due_of log) places)) (waits_fit log places [] tt)

all_fit_if : (b : Bool) (log : Log) (places : List ℕ) → Fits (cond b (map (due_of log) places) []) places
all_fit_if true log places = all_fit log places
all_fit_if false log places = tt

due_fit : (o : Option Running) (log : Log) (places : List ℕ) → Fits (fails_due o (map (due_of log) places)) places
due_fit None log places = tt
due_fit (Some r) log places = all_fit_if r.request.stop_on_error log places

end_fit : (e : Ending) (o : Option Running) (log : Log) (places : List ℕ) → Fits (dues_after_end e o (map (due_of log) places)) places
end_fit Completed o log places = tt
end_fit (Trapped trap) o log places = due_fit o log places
end_fit (Refused refusal) o log places = due_fit o log places

stops_fit : (cause : Cause) (o : Option Running) (log : Log) (places : List ℕ) → Fits (dues_after_stop cause o (map (due_of log) places)) places
stops_fit Memory o log places = due_fit o log places
stops_fit Interrupted o log places = due_fit o log places
stops_fit Restarted o log places = tt

ends_fit : (o : Option Running) (places : List ℕ) → Fits (ends_due Interrupted o) places
ends_fit None places = tt
ends_fit (Some r) places = refl

shut_fit : (o : Option Running) (log : Log) (places : List ℕ) (at : ℕ) (restart : Bool) → Fits ((ends_due Restarted o ++ map (due_of log) places) ++ MarkDue at (Restart restart) ∷ []) places
shut_fit None log places at restart = waits_fit log places (MarkDue at (Restart restart) ∷ []) tt
shut_fit (Some r) log places at restart = waits_fit log places (MarkDue at (Restart restart) ∷ []) tt

line_fit : (text : Option (List ℕ)) (at : Option ℕ) (places : List ℕ) → Fits (line_due text at) places
line_fit None at places = tt
line_fit (Some text) None places = tt
line_fit (Some text) (Some at) places = tt

took_fit : (a : Arrival) (past : Log) → Fits (dues_of (sort_as a.what) a past) (waiting past ++ waits_as (sort_as a.what) (length past))
took_fit a past =
    by_sort (λ s. Fits (dues_of s a past) (waiting past ++ waits_as s (length past))) tt tt tt tt (line_fit (input_in a.what) (asker a.seat past) _) (ends_fit (running past) _) tt
    (λ restart. subst (λ (places : List ℕ). Fits ((ends_due Restarted (running past) ++ map (due_of past) (waiting past)) ++ MarkDue (length past) (Restart restart) ∷ []) places) (sym (append-nil (waiting past))) (shut_fit (running past) past (waiting past) (length past) restart))
    tt (sort_as a.what)

none_fit : (ds : List Due) (places : List ℕ) → Fits ds places → Fits (ds ++ []) places
none_fit ds places h = subst (λ (ds : List Due). Fits ds places) (sym (append-nil ds)) h

pub just_flush : (kind : Kind) → JustFlushedBy kind → (turns : ℕ) × (text : List ℕ) × (kind ≡ Flush turns text)
just_flush (Flush turns text) h = (turns, text, refl)
just_flush Join h = absurd h
just_flush Leave h = absurd h
just_flush Ask h = absurd h
just_flush (Line line) h = absurd h
just_flush (Begin n) h = absurd h
just_flush (End ending n) h = absurd h
just_flush (Stop turns cause n) h = absurd h
just_flush (Refuse n) h = absurd h
just_flush Abort h = absurd h
just_flush (Answer status) h = absurd h
just_flush KernelInfo h = absurd h
just_flush (Restart restart) h = absurd h
just_flush Interrupt h = absurd h

-- what is owed after a mark fits what waits then
abbrev FitsAfter : List Due → Kind → Option Running → Log → List ℕ → Type 0
FitsAfter ds kind o log places = Fits (drop 1 ds ++ dues_after kind o (map (due_of log) places)) (waiting_after kind places)

drop_fit : (ds : List Due) (at : ℕ) (rest places : List ℕ) → places ≡ at ∷ rest → Fits ds rest → Fits ds (drop 1 places)
drop_fit ds at rest places e h = subst (λ (ps : List ℕ). Fits ds (drop 1 ps)) (sym e) h

stop_fit : (cause : Cause) (ds : List Due) (o : Option Running) (log : Log) (places : List ℕ) → Fits (StopDue cause ∷ ds) places → Fits (ds ++ dues_after_stop cause o (map (due_of log) places)) places
stop_fit Memory ds o log places e = subst (λ (ds : List Due). Fits (ds ++ fails_due o (map (due_of log) places)) places) (sym e) (due_fit o log places)
stop_fit Interrupted ds o log places e = subst (λ (ds : List Due). Fits (ds ++ fails_due o (map (due_of log) places)) places) (sym e) (due_fit o log places)
stop_fit Restarted ds o log places h = none_fit ds places h

forced_fit : (at : ℕ) (kind : Kind) (ds : List Due) (o : Option Running) (log : Log) (places : List ℕ) → IsForced kind → Fits (MarkDue at kind ∷ ds) places → FitsAfter (MarkDue at kind ∷ ds) kind o log places
forced_fit at Abort ds o log places f (rest, e, h) = none_fit ds (drop 1 places) (drop_fit ds at rest places e h)
forced_fit at Join ds o log places f h = none_fit ds places h
forced_fit at Leave ds o log places f h = none_fit ds places h
forced_fit at Interrupt ds o log places f h = none_fit ds places h
forced_fit at KernelInfo ds o log places f h = none_fit ds places h
forced_fit at (Restart restart) ds o log places f h = none_fit ds places h
forced_fit at (Line line) ds o log places f h = none_fit ds places h
forced_fit at Ask ds o log places f h = absurd f
forced_fit at (Answer status) ds o log places f h = absurd f
forced_fit at (Begin n) ds o log places f h = absurd f
forced_fit at (Flush turns text) ds o log places f h = absurd f
forced_fit at (End ending n) ds o log places f h = absurd f
forced_fit at (Stop turns cause n) ds o log places f h = absurd f
forced_fit at (Refuse n) ds o log places f h = absurd f

abbrev Answers : Kind → Type 0
Answers (Begin n) = Unit {0}
Answers (Refuse n) = Unit {0}
Answers Abort = Unit {0}
Answers (Answer status) = Unit {0}
Answers other = ⊥

-- a mark that is due and answers a request is an abort of the first that waits
forced_first : (at : ℕ) (kind : Kind) (ds : List Due) (places : List ℕ) → IsForced kind → Answers kind → Fits (MarkDue at kind ∷ ds) places → slice_get places 0 ≡ Some at
forced_first at Abort ds places f a (rest, e, h) = ap (λ (ps : List ℕ). slice_get ps 0) e
forced_first at (Begin n) ds places f a h = absurd f
forced_first at (Answer status) ds places f a h = absurd f
forced_first at KernelInfo ds places f a h = absurd a
forced_first at (Restart restart) ds places f a h = absurd a
forced_first at (Refuse n) ds places f a h = absurd f
forced_first at Join ds places f a h = absurd a
forced_first at Leave ds places f a h = absurd a
forced_first at Interrupt ds places f a h = absurd a
forced_first at (Line line) ds places f a h = absurd a
forced_first at Ask ds places f a h = absurd a
forced_first at (Flush turns text) ds places f a h = absurd a
forced_first at (End ending n) ds places f a h = absurd a
forced_first at (Stop turns cause n) ds places f a h = absurd a

-- how often a place stands in a list
abbrev pub is_at : ℕ → ℕ → ℕ
is_at at p = cond (eqb p at) 1 0

abbrev pub count_in : ℕ → List ℕ → ℕ
count_in at [] = 0
count_in at (p ∷ ps) = is_at at p + count_in at ps

pub count_more : (at : ℕ) (ps qs : List ℕ) → count_in at (ps ++ qs) ≡ count_in at ps + count_in at qs
count_more at [] qs = omega arith
count_more at (p ∷ ps) qs = let e = count_more at ps qs in omega arith

pub from_first : (places : List ℕ) (at : ℕ) → slice_get places 0 ≡ Some at → (rest : List ℕ) × (places ≡ at ∷ rest)
from_first [] at e = absurd (none-some at e)
from_first (p ∷ ps) at e = (ps, ap (λ (q : ℕ). q ∷ ps) (same_Some p at e))

-- how often a request was answered or waits
abbrev pub seen_at : ℕ → Log → ℕ
seen_at at log = times_answered at log + count_in at (waiting log)

pub dropped : (at p : ℕ) (places : List ℕ) → slice_get places 0 ≡ Some p → count_in at places ≡ is_at at p + count_in at (drop 1 places)
dropped at p places e =
    let first = from_first places p e in
    subst (λ (ps : List ℕ). count_in at ps ≡ is_at at p + count_in at (drop 1 ps)) (sym first.1) refl

sums : (a b c d : ℕ) → d ≡ b + c → (a + b) + c ≡ a + d
sums a b c d e = omega arith

pub answered_once : (at p a : ℕ) (places : List ℕ) → slice_get places 0 ≡ Some p → (a + is_at at p) + count_in at (drop 1 places) ≡ a + count_in at places
answered_once at p a places e = sums a (is_at at p) (count_in at (drop 1 places)) (count_in at places) (dropped at p places e)

pub not_answered : (b : Bool) (a c : ℕ) → (a + cond b 0 0) + c ≡ a + c
not_answered true a c = omega arith
not_answered false a c = omega arith

-- each place that waits has an execute request
abbrev pub AllAsk : Log → List ℕ → Type 0
AllAsk log [] = Unit {0}
AllAsk log (p ∷ ps) = ((e : Execute) × (execute_at p log ≡ Some e)) × AllAsk log ps

pub asks_grow : (log : Log) (e : Item) (ps : List ℕ) → AllAsk log ps → AllAsk (e ∷ log) ps
asks_grow log e [] h = tt
asks_grow log e (p ∷ ps) h = ((h.0.0, execute_grows log e p h.0.0 h.0.1), asks_grow log e ps h.1)

module _ {S T : Type 0} (spoken : Spoken S T) where
  mark_fit : (past : Log) (ds : List Due) (at : ℕ) (kind : Kind) → MayMark spoken past ds (record { at = at; kind = kind }) → Fits ds (waiting past) → FitsAfter ds kind (running past) past (waiting past)
  mark_fit past [] at (End ending n) may h = end_fit ending (running past) past (waiting past)
  mark_fit past [] at (Stop turns cause n) may h = stops_fit cause (running past) past (waiting past)
  mark_fit past [] at Join may h = tt
  mark_fit past [] at Leave may h = tt
  mark_fit past [] at (Begin n) may h = tt
  mark_fit past [] at (Flush turns text) may h = tt
  mark_fit past [] at Ask may h = tt
  mark_fit past [] at (Line line) may h = tt
  mark_fit past [] at (Refuse n) may h = tt
  mark_fit past [] at Abort may h = tt
  mark_fit past [] at (Answer status) may h = tt
  mark_fit past [] at Interrupt may h = tt
  mark_fit past [] at KernelInfo may h = tt
  mark_fit past [] at (Restart restart) may h = tt
  mark_fit past (MarkDue a due ∷ ds) at kind (same, forced) h =
      subst (λ (k : Kind). FitsAfter (MarkDue a due ∷ ds) k (running past) past (waiting past)) (sym (ap (λ (m : Mark). m.kind) same))
      (forced_fit a due ds (running past) past (waiting past) forced h)
  mark_fit past (AnswerDue a ∷ ds) at kind (status, same, right) (rest, e, h) =
      subst (λ (k : Kind). FitsAfter (AnswerDue a ∷ ds) k (running past) past (waiting past)) (sym (ap (λ (m : Mark). m.kind) same))
      (none_fit ds (drop 1 (waiting past)) (drop_fit ds a rest (waiting past) e h))
  mark_fit past (FlushDue ∷ ds) at kind may h =
      let just = just_flush kind may.0 in
      subst (λ (k : Kind). FitsAfter (FlushDue ∷ ds) k (running past) past (waiting past)) (sym just.2) (none_fit ds (waiting past) h)
  mark_fit past (StopDue cause ∷ ds) at kind (turns, n, e, rest) h =
      subst (λ (k : Kind). FitsAfter (StopDue cause ∷ ds) k (running past) past (waiting past)) (sym e) (stop_fit cause ds (running past) past (waiting past) h)

  -- what is owed fits what waits
  pub fits : (log : Log) → EachFollows spoken log → Fits (owed log) (waiting log)
  fits [] h = tt
  fits (Took a ∷ past) h = took_fit a past
  fits (Marked m ∷ past) h = mark_fit past (owed past) m.at m.kind h.1 (fits past h.0)

  first_waits : (past : Log) (ds : List Due) (at : ℕ) (kind : Kind) → Answers kind → MayMark spoken past ds (record { at = at; kind = kind }) → Fits ds (waiting past) → slice_get (waiting past) 0 ≡ Some at
  first_waits past [] at (Begin n) a may h = may.0.first
  first_waits past [] at (Refuse n) a may h = may.0.first
  first_waits past [] at Abort a may h = absurd may
  first_waits past [] at (Answer status) a may h = may.0.first
  first_waits past [] at KernelInfo a may h = absurd a
  first_waits past [] at (Restart restart) a may h = absurd a
  first_waits past [] at Join a may h = absurd a
  first_waits past [] at Leave a may h = absurd a
  first_waits past [] at (Flush turns text) a may h = absurd a
  first_waits past [] at Ask a may h = absurd a
  first_waits past [] at (Line line) a may h = absurd a
  first_waits past [] at (End ending n) a may h = absurd a
  first_waits past [] at (Stop turns cause n) a may h = absurd a
  first_waits past [] at Interrupt a may h = absurd a
  first_waits past (MarkDue b due ∷ ds) at kind a (same, forced) h =
      forced_first b due ds (waiting past) forced (subst Answers (ap (λ (m : Mark). m.kind) same) a) h
      ∙ ap (λ (m : Mark). Some m.at) (sym same)
  first_waits past (AnswerDue b ∷ ds) at kind a (status, same, right) (rest, e, h) =
      ap (λ (ps : List ℕ). slice_get ps 0) e ∙ ap (λ (m : Mark). Some m.at) (sym same)
  first_waits past (FlushDue ∷ ds) at kind a may h = absurd (subst Answers (just_flush kind may.0).2 a)
  first_waits past (StopDue cause ∷ ds) at kind a (turns, n, e, rest) h = absurd (subst Answers e a)

  -- what is begun, refused, aborted or answered is the first that waits
  pub answers_first : (past : Log) (at : ℕ) (kind : Kind) → EachFollows spoken past → MayMark spoken past (owed past) (record { at = at; kind = kind }) → Answers kind → slice_get (waiting past) 0 ≡ Some at
  answers_first past at kind each may a = first_waits past (owed past) at kind a may (fits past each)

  mark_seen : (past : Log) (at p : ℕ) (kind : Kind) → EachFollows spoken past → MayMark spoken past (owed past) (record { at = p; kind = kind }) → seen_at at (Marked (record { at = p; kind = kind }) ∷ past) ≡ seen_at at past
  mark_seen past at p (Begin n) each may = answered_once at p (times_answered at past) (waiting past) (answers_first past p (Begin n) each may tt)
  mark_seen past at p (Refuse n) each may = answered_once at p (times_answered at past) (waiting past) (answers_first past p (Refuse n) each may tt)
  mark_seen past at p Abort each may = answered_once at p (times_answered at past) (waiting past) (answers_first past p Abort each may tt)
  mark_seen past at p (Answer status) each may = answered_once at p (times_answered at past) (waiting past) (answers_first past p (Answer status) each may tt)
  mark_seen past at p other each may = not_answered (eqb p at) (times_answered at past) (count_in at (waiting past))

  -- at most once, and never before it was taken
  record IsOnce (at : ℕ) (log : Log) : Type 0 where
    few : seen_at at log ≤ 1
    late : length log ≤ at → seen_at at log ≡ 0

  pub more_if : (a : Arrival) (at p : ℕ) → count_in at (waits_as (sort_as a.what) p) ≤ is_at at p
  more_if a at p = by_sort (λ s. count_in at (waits_as s p) ≤ is_at at p) (omega arith) (omega arith) (omega arith) (omega arith) (omega arith) (omega arith) (omega arith) (λ restart. omega arith) (omega arith) (sort_as a.what)

  took_once : (at : ℕ) (a : Arrival) (past : Log) → IsOnce at past → IsOnce at (Took a ∷ past)
  took_once at a past h = tells (eqb_tells (length past) at)
    where
      sum : seen_at at (Took a ∷ past) ≡ times_answered at past + (count_in at (waiting past) + count_in at (waits_as (sort_as a.what) (length past)))
      sum = ap (λ (n : ℕ). times_answered at past + n) (count_more at (waiting past) _)

      tells : ((eqb (length past) at ≡ true) × (length past ≡ at)) ⊎ ((eqb (length past) at ≡ false) × (length past ≢ at)) → IsOnce at (Took a ∷ past)
      tells (inl (b, e)) =
          let one : is_at at (length past) ≡ 1 = ap (λ (b : Bool). cond b 1 0) b in
          let more = more_if a at (length past) in
          let none = h.late (omega (arith, e)) in
          record { few = omega (arith, sum, one, more, none); late = λ l. absurd (omega (arith, l, e)) }
      tells (inr (b, e)) =
          let zero_more : is_at at (length past) ≡ 0 = ap (λ (b : Bool). cond b 1 0) b in
          let more = more_if a at (length past) in
          let few = h.few in
          record { few = omega (arith, sum, zero_more, more, few); late = λ l. (let none = h.late (omega (arith, l)) in omega (arith, sum, zero_more, more, none)) }

  is_once : (at : ℕ) (log : Log) → EachFollows spoken log → IsOnce at log
  is_once at [] h = record { few = omega arith; late = λ l. refl }
  is_once at (Took a ∷ past) h = took_once at a past (is_once at past h.0)
  is_once at (Marked m ∷ past) h =
      let before = is_once at past h.0 in
      let same = mark_seen past at m.at m.kind h.0 h.1 in
      record {
        few = subst (λ (n : ℕ). n ≤ 1) (sym same) before.few;
        late = λ l. same ∙ before.late (omega (arith, l));
      }

  -- each place is begun, refused, aborted or answered at most once
  pub answered_at_most_once : (log : Log) → EachFollows spoken log → (at : ℕ) → times_answered at log ≤ 1
  answered_at_most_once log each at = let few = (is_once at log each).few in omega (arith, few)

  -- what waits first was not answered yet
  pub first_new : (log : Log) → EachFollows spoken log → (at : ℕ) → slice_get (waiting log) 0 ≡ Some at → times_answered at log ≡ 0
  first_new log each at e =
      let few = (is_once at log each).few in
      let drops = dropped at at (waiting log) e in
      let one : is_at at at ≡ 1 = ap (λ (b : Bool). cond b 1 0) (eq-eqb at at refl) in
      omega (arith, few, drops, one)

  -- nothing is answered before it was taken
  pub not_answered_yet : (log : Log) → EachFollows spoken log → (at : ℕ) → length log ≤ at → times_answered at log ≡ 0
  not_answered_yet log each at h =
      let none = (is_once at log each).late h in
      omega (arith, none)

  -- what waits was not answered yet
  pub waiting_new : (log : Log) → EachFollows spoken log → (at : ℕ) → 1 ≤ count_in at (waiting log) → times_answered at log ≡ 0
  waiting_new log each at h = let few = (is_once at log each).few in omega (arith, few, h)

  -- nothing waits before it was taken
  pub not_waiting_yet : (log : Log) → EachFollows spoken log → (at : ℕ) → length log ≤ at → count_in at (waiting log) ≡ 0
  not_waiting_yet log each at h =
      let none = (is_once at log each).late h in
      omega (arith, none)
