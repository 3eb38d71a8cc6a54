-- What stands in the marks that are owed: aborts are of execute requests, and a kernel starts anew only where no cell runs.
use Rattle.std.proofs.Common.{◌≡◌, ℕ, Bool, true, false, cond, List, [], ◌∷◌, ◌++◌, drop, length, map, refl, sym, ◌∙◌, ap, subst, Option, None, Some}
use Rattle.jp_msg.specs.declared.message.Execute.{Execute}
use Rattle.jk_language.specs.Spoken.{Spoken}
use Rattle.jk_log.specs.declared.arrival.Arrival.{Arrival}
use Rattle.jk_log.specs.declared.mark.Item.{Item}
use Rattle.jk_log.specs.declared.mark.Item.TheVariants.{Took, Marked}
use Rattle.jk_log.specs.declared.mark.Mark.{Mark}
use Rattle.jk_log.specs.declared.mark.Kind.{Kind}
use Rattle.jk_log.specs.declared.mark.Kind.TheVariants.{Join, Leave, Begin, Flush, Ask, Line, End, Stop, Refuse, Abort, Answer, Interrupt, KernelInfo, Restart}
use Rattle.jk_log.specs.declared.mark.Ending.{Ending}
use Rattle.jk_log.specs.declared.mark.Ending.TheVariants.{Completed, Trapped, Refused}
use Rattle.jk_log.specs.declared.mark.Cause.{Cause}
use Rattle.jk_log.specs.declared.mark.Cause.TheVariants.{Memory, Interrupted, Restarted}
use Rattle.jk_log.specs.Asked.{sort_as, input_in}
use Rattle.jk_log.specs.Log.{Log, Running, running, running_after, running_with, seat_at, execute_at, asker, option_with, unread, flushed_at, asking, lined}
use Rattle.jk_log.specs.Legal.{Due, MarkDue, AnswerDue, FlushDue, StopDue, IsForced, EachFollows, MayMark, abort_due, due_by, due_of, waiting_dues, ends_due, line_due, dues_of, fails_due, dues_after_end, dues_after_stop, dues_after, owed}
use Rattle.jk_log.proofs.Logs.{by_sort, execute_grows}

-- ---- an abort that is due is of an execute request

abbrev HasExecute : Log → ℕ → Type 0
HasExecute log at = (e : Execute) × (execute_at at log ≡ Some e)

abbrev AbortAsks : Log → ℕ → Kind → Type 0
AbortAsks log at Abort = HasExecute log at
AbortAsks log at other = Unit {0}

abbrev AbortsAsk : Log → List Due → Type 0
AbortsAsk log [] = Unit {0}
AbortsAsk log (MarkDue at kind ∷ ds) = AbortAsks log at kind × AbortsAsk log ds
AbortsAsk log (AnswerDue at ∷ ds) = AbortsAsk log ds
AbortsAsk log (FlushDue ∷ ds) = AbortsAsk log ds
AbortsAsk log (StopDue cause ∷ ds) = AbortsAsk log ds

abort_grows : (log : Log) (i : Item) (at : ℕ) (kind : Kind) → AbortAsks log at kind → AbortAsks (i ∷ log) at kind
abort_grows log i at Abort h = (h.0, execute_grows log i at h.0 h.1)
abort_grows log i at other h = tt

aborts_grow : (log : Log) (i : Item) (ds : List Due) → AbortsAsk log ds → AbortsAsk (i ∷ log) ds
aborts_grow log i [] h = tt
aborts_grow log i (MarkDue at kind ∷ ds) h = (abort_grows log i at kind h.0, aborts_grow log i ds h.1)
aborts_grow log i (AnswerDue at ∷ ds) h = aborts_grow log i ds h
aborts_grow log i (FlushDue ∷ ds) h = aborts_grow log i ds h
aborts_grow log i (StopDue cause ∷ ds) h = aborts_grow log i ds h

aborts_append : (log : Log) (ds es : List Due) → AbortsAsk log ds → AbortsAsk log es → AbortsAsk log (ds ++ es)
aborts_append log [] es h k = k
aborts_append log (MarkDue at kind ∷ ds) es h k = (h.0, aborts_append log ds es h.1 k)
aborts_append log (AnswerDue at ∷ ds) es h k = aborts_append log ds es h k
aborts_append log (FlushDue ∷ ds) es h k = aborts_append log ds es h k
aborts_append log (StopDue cause ∷ ds) es h k = aborts_append log ds es h k

aborts_drop : (log : Log) (ds : List Due) → AbortsAsk log ds → AbortsAsk log (drop 1 ds)
aborts_drop log [] h = tt
aborts_drop log (MarkDue at kind ∷ ds) h = h.1
aborts_drop log (AnswerDue at ∷ ds) h = h
aborts_drop log (FlushDue ∷ ds) h = h
aborts_drop log (StopDue cause ∷ ds) h = h

waits_ask : (log : Log) (places : List ℕ) → AbortsAsk log (map (due_of log) places)
waits_ask log [] = tt
waits_ask log (p ∷ ps) = one (execute_at p log) refl (waits_ask log ps)
  where
    one : (o : Option Execute) → execute_at p log ≡ o → AbortsAsk log (map (due_of log) ps) → AbortsAsk log (due_by o p ∷ map (due_of log) ps)
    one (Some e) is rest = ((e, is), rest)
    one None is rest = rest

ends_ask : (log : Log) (cause : Cause) (o : Option Running) → AbortsAsk log (ends_due cause o)
ends_ask log cause None = tt
ends_ask log cause (Some r) = tt

line_ask : (log : Log) (text : Option (List ℕ)) (at : Option ℕ) → AbortsAsk log (line_due text at)
line_ask log None at = tt
line_ask log (Some text) None = tt
line_ask log (Some text) (Some at) = (tt, tt)

fails_if : (log : Log) (b : Bool) (ds : List Due) → AbortsAsk log ds → AbortsAsk log (cond b ds [])
fails_if log true ds h = h
fails_if log false ds h = tt

fails_ask : (log : Log) (o : Option Running) (ds : List Due) → AbortsAsk log ds → AbortsAsk log (fails_due o ds)
fails_ask log None ds h = tt
fails_ask log (Some r) ds h = fails_if log r.request.stop_on_error ds h

end_asks : (log : Log) (ending : Ending) (o : Option Running) (ds : List Due) → AbortsAsk log ds → AbortsAsk log (dues_after_end ending o ds)
end_asks log Completed o ds h = tt
end_asks log (Trapped trap) o ds h = fails_ask log o ds h
end_asks log (Refused refusal) o ds h = fails_ask log o ds h

stop_asks : (log : Log) (cause : Cause) (o : Option Running) (ds : List Due) → AbortsAsk log ds → AbortsAsk log (dues_after_stop cause o ds)
stop_asks log Memory o ds h = fails_ask log o ds h
stop_asks log Interrupted o ds h = fails_ask log o ds h
stop_asks log Restarted o ds h = tt

after_asks : (log : Log) (kind : Kind) (o : Option Running) (ds : List Due) → AbortsAsk log ds → AbortsAsk log (dues_after kind o ds)
after_asks log (End ending n) o ds h = end_asks log ending o ds h
after_asks log (Stop turns cause n) o ds h = stop_asks log cause o ds h
after_asks log other o ds h = tt

took_asks : (a : Arrival) (past : Log) → AbortsAsk past (dues_of (sort_as a.what) a past)
took_asks a past =
    by_sort (λ s. AbortsAsk past (dues_of s a past)) (tt, tt) (tt, tt) tt tt (line_ask past (input_in a.what) (asker a.seat past)) (tt, ends_ask past Interrupted (running past)) (tt, tt)
    (λ restart. aborts_append past (ends_due Restarted (running past) ++ waiting_dues past) (MarkDue (length past) (Restart restart) ∷ [])
    (aborts_append past (ends_due Restarted (running past)) (waiting_dues past) (ends_ask past Restarted (running past)) (waits_ask past _)) (tt, tt))
    tt (sort_as a.what)

aborts_ask : (log : Log) → AbortsAsk log (owed log)
aborts_ask [] = tt
aborts_ask (Took a ∷ past) = aborts_grow past (Took a) (dues_of (sort_as a.what) a past) (took_asks a past)
aborts_ask (Marked m ∷ past) =
    aborts_grow past (Marked m) (drop 1 (owed past) ++ dues_after m.kind (running past) (waiting_dues past))
    (aborts_append past (drop 1 (owed past)) (dues_after m.kind (running past) (waiting_dues past)) (aborts_drop past (owed past) (aborts_ask past))
    (after_asks past m.kind (running past) (waiting_dues past) (waits_ask past _)))

-- ---- no cell runs where the kernel starts anew

abbrev IfRestart : Kind → Option Running → Type 0
IfRestart (Restart restart) o = o ≡ None
IfRestart other o = Unit {0}

-- up to the next stop
abbrev Rests : List Due → Option Running → Type 0
Rests [] o = Unit {0}
Rests (MarkDue at kind ∷ ds) o = IfRestart kind o × Rests ds o
Rests (AnswerDue at ∷ ds) o = Rests ds o
Rests (FlushDue ∷ ds) o = Rests ds o
Rests (StopDue cause ∷ ds) o = Unit {0}

if_none : (kind : Kind) → IfRestart kind None
if_none (Restart restart) = refl
if_none other = tt

rests_none : (ds : List Due) → Rests ds None
rests_none [] = tt
rests_none (MarkDue at kind ∷ ds) = (if_none kind, rests_none ds)
rests_none (AnswerDue at ∷ ds) = rests_none ds
rests_none (FlushDue ∷ ds) = rests_none ds
rests_none (StopDue cause ∷ ds) = tt

if_same : (kind : Kind) (o p : Option Running) → (o ≡ None → p ≡ None) → IfRestart kind o → IfRestart kind p
if_same (Restart restart) o p same h = same h
if_same other o p same h = tt

rests_same : (ds : List Due) (o p : Option Running) → (o ≡ None → p ≡ None) → Rests ds o → Rests ds p
rests_same [] o p same h = tt
rests_same (MarkDue at kind ∷ ds) o p same h = (if_same kind o p same h.0, rests_same ds o p same h.1)
rests_same (AnswerDue at ∷ ds) o p same h = rests_same ds o p same h
rests_same (FlushDue ∷ ds) o p same h = rests_same ds o p same h
rests_same (StopDue cause ∷ ds) o p same h = tt

rests_nil : (ds : List Due) (o : Option Running) → Rests ds o → Rests (ds ++ []) o
rests_nil [] o h = tt
rests_nil (MarkDue at kind ∷ ds) o h = (h.0, rests_nil ds o h.1)
rests_nil (AnswerDue at ∷ ds) o h = rests_nil ds o h
rests_nil (FlushDue ∷ ds) o h = rests_nil ds o h
rests_nil (StopDue cause ∷ ds) o h = tt

none_with : (f : Running → Running) (o : Option Running) → o ≡ None → option_with f o ≡ None
none_with f o e = rw e refl

abbrev StopsNone : Kind → Type 0
StopsNone (Stop turns cause n) = ⊥
StopsNone other = Unit {0}

module _ {S T : Type 0} (spoken : Spoken S T) where
  pub begin_asks : (past : Log) (ds : List Due) (at n : ℕ) → MayMark spoken past ds (record { at = at; kind = Begin n }) → (e : Execute) × (execute_at at past ≡ Some e)
  begin_asks past [] at n h = (h.0.request, h.0.there)
  begin_asks past (MarkDue a due ∷ ds) at n (same, forced) = absurd (subst IsForced (sym (ap (λ (m : Mark). m.kind) same)) forced)
  begin_asks past (AnswerDue a ∷ ds) at n (status, same, right) = let k : Begin n ≡ Answer status = ap (λ (m : Mark). m.kind) same in cc
  begin_asks past (FlushDue ∷ ds) at n h = absurd h.0
  begin_asks past (StopDue cause ∷ ds) at n (t, k, is, rest) = cc

  pub refuse_asks : (past : Log) (ds : List Due) (at n : ℕ) → MayMark spoken past ds (record { at = at; kind = Refuse n }) → (e : Execute) × (execute_at at past ≡ Some e)
  refuse_asks past [] at n h = (h.0.request, h.0.there)
  refuse_asks past (MarkDue a due ∷ ds) at n (same, forced) = absurd (subst IsForced (sym (ap (λ (m : Mark). m.kind) same)) forced)
  refuse_asks past (AnswerDue a ∷ ds) at n (status, same, right) = let k : Refuse n ≡ Answer status = ap (λ (m : Mark). m.kind) same in cc
  refuse_asks past (FlushDue ∷ ds) at n h = absurd h.0
  refuse_asks past (StopDue cause ∷ ds) at n (t, k, is, rest) = cc

  abort_may : (past : Log) (ds : List Due) (at : ℕ) → AbortsAsk past ds → MayMark spoken past ds (record { at = at; kind = Abort }) → (e : Execute) × (execute_at at past ≡ Some e)
  abort_may past [] at h may = absurd may
  abort_may past (MarkDue a due ∷ ds) at h (same, forced) =
      let one : AbortAsks past a Abort = subst (AbortAsks past a) (sym (ap (λ (m : Mark). m.kind) same)) h.0 in
      (one.0, ap (λ (m : Mark). execute_at m.at past) same ∙ one.1)
  abort_may past (AnswerDue a ∷ ds) at h (status, same, right) = let k : Abort ≡ Answer status = ap (λ (m : Mark). m.kind) same in cc
  abort_may past (FlushDue ∷ ds) at h may = absurd may.0
  abort_may past (StopDue cause ∷ ds) at h (t, k, is, rest) = cc

  pub abort_asks : (past : Log) (at : ℕ) → MayMark spoken past (owed past) (record { at = at; kind = Abort }) → (e : Execute) × (execute_at at past ≡ Some e)
  abort_asks past at may = abort_may past (owed past) at (aborts_ask past) may

  restart_may : (past : Log) (ds : List Due) (at : ℕ) (restart : Bool) → Rests ds (running past) → MayMark spoken past ds (record { at = at; kind = Restart restart }) → running past ≡ None
  restart_may past [] at restart h may = absurd may
  restart_may past (MarkDue a due ∷ ds) at restart h (same, forced) = subst (λ (k : Kind). IfRestart k (running past)) (sym (ap (λ (m : Mark). m.kind) same)) h.0
  restart_may past (AnswerDue a ∷ ds) at restart h (status, same, right) = let k : Restart restart ≡ Answer status = ap (λ (m : Mark). m.kind) same in cc
  restart_may past (FlushDue ∷ ds) at restart h may = absurd may.0
  restart_may past (StopDue cause ∷ ds) at restart h (t, k, is, rest) = cc

  rests_drop : (past : Log) (ds : List Due) (at : ℕ) (kind : Kind) (o : Option Running) → StopsNone kind → MayMark spoken past ds (record { at = at; kind = kind }) → Rests ds o → Rests (drop 1 ds) o
  rests_drop past [] at kind o none may h = tt
  rests_drop past (MarkDue a due ∷ ds) at kind o none may h = h.1
  rests_drop past (AnswerDue a ∷ ds) at kind o none may h = h
  rests_drop past (FlushDue ∷ ds) at kind o none may h = h
  rests_drop past (StopDue cause ∷ ds) at kind o none (t, n, e, rest) h = absurd (subst StopsNone e none)

  -- a mark that stops no cell, after which one runs only where one ran
  rests_on : (past : Log) (ds : List Due) (at : ℕ) (kind : Kind) (p : Option Running) → StopsNone kind → MayMark spoken past ds (record { at = at; kind = kind }) → (running past ≡ None → p ≡ None) → Rests ds (running past) → Rests (drop 1 ds ++ []) p
  rests_on past ds at kind p none may same h = rests_nil (drop 1 ds) p (rests_same (drop 1 ds) (running past) p same (rests_drop past ds at kind (running past) none may h))

  begin_free : (past : Log) (ds : List Due) (at n : ℕ) → MayMark spoken past ds (record { at = at; kind = Begin n }) → ds ≡ []
  begin_free past [] at n h = refl
  begin_free past (MarkDue a due ∷ ds) at n (same, forced) = absurd (subst IsForced (sym (ap (λ (m : Mark). m.kind) same)) forced)
  begin_free past (AnswerDue a ∷ ds) at n (status, same, right) = let k : Begin n ≡ Answer status = ap (λ (m : Mark). m.kind) same in cc
  begin_free past (FlushDue ∷ ds) at n h = absurd h.0
  begin_free past (StopDue cause ∷ ds) at n (t, k, is, rest) = cc

  mark_rests : (past : Log) (at : ℕ) (kind : Kind) → MayMark spoken past (owed past) (record { at = at; kind = kind }) → Rests (owed past) (running past) → Rests (owed (Marked (record { at = at; kind = kind }) ∷ past)) (running (Marked (record { at = at; kind = kind }) ∷ past))
  mark_rests past at (End ending n) may h = rests_none (drop 1 (owed past) ++ dues_after (End ending n) (running past) (waiting_dues past))
  mark_rests past at (Stop turns cause n) may h = rests_none (drop 1 (owed past) ++ dues_after (Stop turns cause n) (running past) (waiting_dues past))
  mark_rests past at (Begin n) may h = subst (λ (ds : List Due). Rests (drop 1 ds ++ []) (running (Marked (record { at = at; kind = Begin n }) ∷ past))) (sym (begin_free past (owed past) at n may)) tt
  mark_rests past at (Flush turns text) may h = rests_on past (owed past) at (Flush turns text) _ tt may (none_with (flushed_at turns) (running past)) h
  mark_rests past at Ask may h = rests_on past (owed past) at Ask _ tt may (none_with asking (running past)) h
  mark_rests past at (Line line) may h = rests_on past (owed past) at (Line line) _ tt may (none_with (lined line) (running past)) h
  mark_rests past at other may h = rests_on past (owed past) at other _ tt may (λ e. e) h

  line_rests : (text : Option (List ℕ)) (at : Option ℕ) (o : Option Running) → Rests (line_due text at) o
  line_rests None at o = tt
  line_rests (Some text) None o = tt
  line_rests (Some text) (Some at) o = (tt, tt)

  ends_rest : (cause : Cause) (o p : Option Running) (es : List Due) → Rests es None → (o ≡ None → p ≡ None) → Rests (ends_due cause o ++ es) p
  ends_rest cause None p es h same = rests_same es None p same h
  ends_rest cause (Some r) p es h same = tt

  shut_rests : (o p : Option Running) (es fs : List Due) → (o ≡ None → p ≡ None) → Rests ((ends_due Restarted o ++ es) ++ fs) p
  shut_rests None p es fs same = rests_same (es ++ fs) None p same (rests_none (es ++ fs))
  shut_rests (Some r) p es fs same = tt

  took_rests : (a : Arrival) (past : Log) → Rests (dues_of (sort_as a.what) a past) (running_with (sort_as a.what) (running past))
  took_rests a past =
      by_sort (λ s. Rests (dues_of s a past) (running_with s (running past))) (tt, tt) (tt, tt) tt tt (line_rests (input_in a.what) (asker a.seat past) (running past))
      (tt, stops (running past)) (tt, tt)
      (λ restart. shut_rests (running past) (option_with unread (running past)) (waiting_dues past) (MarkDue (length past) (Restart restart) ∷ []) (none_with unread (running past)))
      tt (sort_as a.what)
    where
      stops : (o : Option Running) → Rests (ends_due Interrupted o) (option_with unread o)
      stops None = tt
      stops (Some r) = tt

  rests : (log : Log) → EachFollows spoken log → Rests (owed log) (running log)
  rests [] each = tt
  rests (Took a ∷ past) each = took_rests a past
  rests (Marked m ∷ past) each = mark_rests past m.at m.kind each.1 (rests past each.0)

  -- the kernel starts anew where no cell runs
  pub restart_idle : (past : Log) (at : ℕ) (restart : Bool) → EachFollows spoken past → MayMark spoken past (owed past) (record { at = at; kind = Restart restart }) → running past ≡ None
  restart_idle past at restart each may = restart_may past (owed past) at restart (rests past each) may
