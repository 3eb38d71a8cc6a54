-- Where each request that waits was given, it stays so: a result and a slice add none.
use Rattle.std.proofs.Common.{◌≡◌, ℕ, zero, suc, Bool, true, false, cond, List, [], ◌∷◌, refl, sym, ◌∙◌, ap, subst, Option, None, Some, inl, inr}
use Rattle.std.specs.Prelude.{◌&&◌, slice_get, slice_set, nat_lt}
use Rattle.jk_language.specs.Spoken.{Spoken}
use Rattle.jk_language.specs.declared.outcome.Turned.{Turned}
use Rattle.jk_language.specs.declared.outcome.Turned.TheVariants as turned
use Rattle.jk_language.specs.declared.outcome.Refusal.{Refusal}
use Rattle.jk_log.specs.declared.job.Job.{Job}
use Rattle.jk_log.specs.declared.job.Parsed.{Parsed}
use Rattle.jk_log.specs.declared.job.Parsed.TheVariants as parsed
use Rattle.jk_core.specs.declared.kernel.Used.{Used}
use Rattle.jk_core.specs.declared.kernel.Used.TheVariants.{Kept, Stranger}
use Rattle.jk_core.specs.declared.kernel.Work.{Work}
use Rattle.jk_core.specs.declared.kernel.Work.TheVariants.{Rest, NeedsParse, Ran, NeedsLine, NoMemory}
use Rattle.jk_log.specs.declared.mark.Kind.TheVariants.{Answer, Line}
use Rattle.jk_core.specs.declared.script.Waiting.{Waiting}
use Rattle.jk_core.specs.declared.script.Task.{Task}
use Rattle.jk_core.specs.declared.script.Task.TheVariants.{Cell, Query}
use Rattle.jk_log.specs.Log.{Running, lined, meaning}
use Rattle.jk_log.specs.Results.{Reading}
use Rattle.jk_core.specs.State.{KernelState, is_cell}
use Rattle.jk_core.specs.Steps.{aborting, answering, begun, broken, closed, closing, failing, first_after, flushed, gone_on, has_lines, limit, noted, sliced, with_result, with_waits, written, AnswersFirst, Closes, GoesOn, GoesWithout, Hands, Moves, Starts, StartsAs, StartsFirst, Works}
use Rattle.jk_core.proofs.Keeps.{by_tasks, some_same}
use Rattle.jk_queues.specs.declared.line.Hand.{Hand}
use Rattle.jk_run.specs.Driver.{HasGiven}

module _ {T : Type 0} where
  -- none of these is a cell with a number past that of the last job that was given
  abbrev NonePast : ℕ → List (Waiting T) → Type 0
  NonePast given [] = Unit {0}
  NonePast given (w ∷ ws) = (is_cell w.task && nat_lt given w.number ≡ false) × NonePast given ws

  abbrev AreGiven : KernelState T → Type 0
  AreGiven k = NonePast k.given k.waits

  none_at : (w : Waiting T) (b : Bool) (rest : Option (Waiting T)) → cond b (Some w) rest ≡ None → (b ≡ false) × (rest ≡ None)
  none_at w true rest e = absurd (no_some w e)
    where
      no_some : (w : Waiting T) → Some w ≡ None → ⊥
      no_some w e = cc
  none_at w false rest e = (refl, e)

  none_past : (given : ℕ) (ws : List (Waiting T)) → first_after given ws ≡ None → NonePast given ws
  none_past given [] e = tt
  none_past given (w ∷ ws) e =
      let both = none_at w (is_cell w.task && nat_lt given w.number) (first_after given ws) e in
      (both.0, none_past given ws both.1)

  past_none : (given : ℕ) (ws : List (Waiting T)) → NonePast given ws → first_after given ws ≡ None
  past_none given [] h = refl
  past_none given (w ∷ ws) h = rw h.0 (past_none given ws h.1)

  set_past : (given : ℕ) (ws : List (Waiting T)) (i : ℕ) (w v : Waiting T) → slice_get ws i ≡ Some w → is_cell v.task ≡ is_cell w.task → v.number ≡ w.number → NonePast given ws → NonePast given (slice_set ws i v)
  set_past given [] i w v there kind same h = tt
  set_past given (x ∷ ws) zero w v there kind same h = (
    subst (λ (b : Bool). b && nat_lt given v.number ≡ false) (ap (λ (y : Waiting T). is_cell y.task) (some_same x w there) ∙ sym kind)
        (subst (λ (n : ℕ). is_cell x.task && nat_lt given n ≡ false) (ap (λ (y : Waiting T). y.number) (some_same x w there) ∙ sym same) h.0),
    h.1,
  )
  set_past given (x ∷ ws) (suc i) w v there kind same h = (h.0, set_past given ws i w v there kind same h.1)

  aborted : (ws : List (Waiting T)) (k : KernelState T) → NonePast k.given ws → AreGiven k → AreGiven (aborting ws k)
  aborted [] k all h = h
  aborted (w ∷ ws) k all h = aborted ws (noted w.at (closing w.task) (with_waits ws k)) all.1 all.1

  answered : (ws : List (Waiting T)) (k : KernelState T) → NonePast k.given ws → AreGiven k → AreGiven (answering ws k)
  answered [] k all h = h
  answered (w ∷ ws) k all h =
      by_tasks AreGiven w.task (λ result. k) (λ status. answering ws (noted w.at (Answer status) (with_waits ws k))) (λ result e. h)
      (λ status e. answered ws (noted w.at (Answer status) (with_waits ws k)) all.1 all.1)

  failed : (stops : Bool) (k : KernelState T) → AreGiven k → AreGiven (failing stops k)
  failed true k h = aborted k.waits k h h
  failed false k h = h

  closed_given : (answer : Turned) (at : ℕ) (stops : Bool) (turns n : ℕ) (k : KernelState T) → AreGiven k → AreGiven (closed answer at stops turns n k)
  closed_given turned.Stopped at stops turns n k h = h
  closed_given turned.NeedsLine at stops turns n k h = h
  closed_given turned.Ended at stops turns n k h = h
  closed_given (turned.Trapped trap) at stops turns n k h = failed stops _ h
  closed_given turned.NoMemory at stops turns n k h = failed stops _ h

  gone_given : (read : Bool) (at turns : ℕ) (text : List ℕ) (k : KernelState T) → AreGiven k → AreGiven (gone_on read at turns text k)
  gone_given true at turns [] k h = h
  gone_given false at turns [] k h = h
  gone_given read at turns (c ∷ text) k h = h

  flushed_given : (answer : Turned) (read : Bool) (at turns : ℕ) (text : List ℕ) (k : KernelState T) → AreGiven k → AreGiven (flushed answer read at turns text k)
  flushed_given turned.Stopped read at turns text k h = gone_given read at turns text k h
  flushed_given turned.NeedsLine read at turns text k h = h
  flushed_given turned.Ended read at turns text k h = h
  flushed_given (turned.Trapped trap) read at turns text k h = h
  flushed_given turned.NoMemory read at turns text k h = h

  broken_given : (at : ℕ) (refusal : Refusal) (k : KernelState T) → AreGiven k → AreGiven (broken at refusal k)
  broken_given at refusal k h = failed _ _ h

  hands_given : (p : Reading T) (old : KernelState T) (used : Used (Reading T)) (new : KernelState T) → Hands p old used new → AreGiven old → AreGiven new
  hands_given p old Kept new (i, w, there, can, e) h =
      subst AreGiven (sym e) (set_past old.given old.waits i w (with_result p.outcome w) there (ap is_cell (sym can.unread)) refl h)
  hands_given p old (Stranger back) new (b, e, none) h = subst AreGiven (sym e) h

  pub given_hands : (p : Reading T) (old : KernelState T) (used : Used (Reading T)) (new : KernelState T) → Hands p old used new → (job : Option Job) (jobs : Hand Job) → HasGiven job jobs old → HasGiven job jobs new
  given_hands p old used new hands (Some job) jobs h = h
  given_hands p old used new hands None jobs h =
      past_none new.given new.waits (hands_given p old used new hands (none_past old.given old.waits h))

module _ {S T : Type 0} (spoken : Spoken S T) where
  sliced_given : (answer : Turned) (r : Running) (n : ℕ) (k : KernelState T) → AreGiven k → AreGiven (sliced spoken answer r n k)
  sliced_given answer r n k h = closed_given answer _ _ _ _ _ (flushed_given answer _ _ _ _ _ h)

  without_given : (nones n : ℕ) (r : Running) (old : KernelState T) (now : Running) (new : KernelState T) → GoesWithout spoken nones n r old now new → AreGiven old → AreGiven new
  without_given zero n r old now new g h = subst AreGiven (sym g.1) h
  without_given (suc more) n r old now new g h = without_given more n (lined None r) (noted r.at (Line None) old) now new g.1 h

  closes_given : (n : ℕ) (r : Running) (old : KernelState T) (work : Work) (new : KernelState T) → Closes spoken n r old work new → AreGiven old → AreGiven new
  closes_given n r old Rest new c h = absurd c
  closes_given n r old NeedsParse new c h = absurd c
  closes_given n r old Ran new (answer, turns, last, onward, given, o, e) h = subst AreGiven (sym e) (sliced_given answer r turns old h)
  closes_given n r old NeedsLine new (may, o, e) h = subst AreGiven (sym e) (sliced_given turned.NeedsLine r n old h)
  closes_given n r old NoMemory new (lacks, e) h =
      subst AreGiven (sym e) (flushed_given turned.NeedsLine (has_lines r.fresh) r.at (meaning spoken old.log r n).turns (written spoken old.log r n) old h)

  goes_given : (turns : ℕ) (r : Running) (old : KernelState T) (work : Work) (new : KernelState T) → GoesOn spoken turns r old work new → AreGiven old → AreGiven new
  goes_given turns r old work new (nones, now, k, without, closes) h =
      closes_given (limit turns old) now k work new closes (without_given nones (limit turns old) r old now k without h)

  starts_given : (turns at : ℕ) (o : Option (Parsed T)) (old : KernelState T) (work : Work) (new : KernelState T) → Starts spoken turns at o old work new → AreGiven old → AreGiven new
  starts_given turns at None old work new s h = absurd s
  starts_given turns at (Some parsed.Memory) old work new s h = subst AreGiven (sym s.1) h
  starts_given turns at (Some (parsed.Fault fault)) old work new s h = subst AreGiven (sym s.1) (broken_given at _ old h)
  starts_given turns at (Some (parsed.Tree cell)) old work new (inl (r, runs, goes)) h = goes_given turns r (begun at old) work new goes h
  starts_given turns at (Some (parsed.Tree cell)) old work new (inr (refusal, wrong, ran, e)) h = subst AreGiven (sym e) (broken_given at refusal old h)

  starts_as_given : (turns at : ℕ) (t : Task T) (old : KernelState T) (work : Work) (new : KernelState T) → StartsAs spoken turns at t old work new → AreGiven old → AreGiven new
  starts_as_given turns at (Cell result) old work new s h = starts_given turns at result old work new s h
  starts_as_given turns at (Query status) old work new s h = absurd s

  first_given : (turns : ℕ) (all : List (Waiting T)) (old : KernelState T) (work : Work) (new : KernelState T) → StartsFirst spoken turns all old work new → NonePast old.given all → AreGiven new
  first_given turns [] old work new s h = absurd s
  first_given turns (w ∷ ws) old work new s h = starts_as_given turns w.at w.task (with_waits ws old) work new s h.1

  answers_given : (turns : ℕ) (old : KernelState T) (work : Work) (new : KernelState T) → AnswersFirst spoken turns old work new → AreGiven old → AreGiven new
  answers_given turns old work new (inl s) h =
      first_given turns (answering old.waits old).waits (answering old.waits old) work new s (answered old.waits old h h)
  answers_given turns old work new (inr (asks, none, ran, e)) h = subst AreGiven (sym e) (answered old.waits old h h)

  moves_given : (turns : ℕ) (old : KernelState T) (work : Work) (new : KernelState T) → Moves spoken turns old work new → AreGiven old → AreGiven new
  moves_given turns old work new (inl (r, runs, goes)) h = goes_given turns r old work new goes h
  moves_given turns old work new (inr (idle, s)) h = answers_given turns old work new s h

  works_given : (turns : ℕ) (old : KernelState T) (answer : Work) (new : KernelState T) → Works spoken turns old answer new → AreGiven old → AreGiven new
  works_given turns old Rest new s h = subst AreGiven (sym s.0) h
  works_given turns old NeedsParse new s h = subst AreGiven (sym s.0) h
  works_given turns old NoMemory new (inl same) h = subst AreGiven (sym same) h
  works_given turns old NoMemory new (inr moves) h = moves_given turns old NoMemory new moves h
  works_given turns old NeedsLine new (asks, inl same) h = subst AreGiven (sym same) h
  works_given turns old NeedsLine new (asks, inr moves) h = moves_given turns old NeedsLine new moves h
  works_given turns old Ran new s h = moves_given turns old Ran new s h

  pub given_works : (turns : ℕ) (old : KernelState T) (answer : Work) (new : KernelState T) → Works spoken turns old answer new → (job : Option Job) (jobs : Hand Job) → HasGiven job jobs old → HasGiven job jobs new
  given_works turns old answer new works (Some job) jobs h = h
  given_works turns old answer new works None jobs h =
      past_none new.given new.waits (works_given turns old answer new works (none_past old.given old.waits h))
