-- Each step of a kernel is a chain of small moves, so what each of these keeps is kept.
use Rattle.std.proofs.Common.{zero, suc, true, false, ℕ, List, [], ◌∷◌, ◌≡◌, ◌∙◌, ap, sym, subst, Option, None, Some, inl, inr}
use Rattle.jk_language.specs.declared.outcome.Turned.{Turned}
use Rattle.jk_language.specs.declared.outcome.Turned.TheVariants as turned
use Rattle.jk_log.specs.declared.job.Parsed.{Parsed}
use Rattle.jk_log.specs.declared.job.Parsed.TheVariants as parsed
use Rattle.jk_log.specs.declared.mark.Kind.{Kind}
use Rattle.jk_log.specs.declared.mark.Kind.TheVariants.{Begin, Answer, Line, Restart}
use Rattle.jk_core.specs.declared.kernel.Work.{Work}
use Rattle.jk_core.specs.declared.kernel.Work.TheVariants.{Rest, NeedsParse, Ran, NeedsLine, NoMemory}
use Rattle.jk_core.specs.declared.script.Waiting.{Waiting}
use Rattle.jk_log.specs.Log.{Running, arrival_at, meaning, next_count, lined}
use Rattle.jk_log.specs.declared.arrival.Arrival.{Arrival}
use Rattle.jk_log.specs.declared.mark.Item.TheVariants.{Marked}
use Rattle.jk_log.proofs.Logs.{arrival_grows}
use Rattle.jk_log.specs.declared.mark.Cause.{Cause}
use Rattle.std.proofs.Common.{Bool}
use Rattle.jk_core.proofs.Keeps.{answering_moves, failing_moves}
use Rattle.jk_core.specs.declared.script.Task.{Task}
use Rattle.jk_core.specs.declared.script.Task.TheVariants.{Cell, Query}
use Rattle.jk_core.specs.State.{KernelState}
use Rattle.jk_language.specs.declared.outcome.Refusal.{Refusal}
use Rattle.jk_language.specs.declared.outcome.Refusal.TheVariants.{Compile}
use Rattle.jk_core.specs.Steps.{aborting, answering, broken, closing, interrupted, shut, stops_with, has_lines, written, failing, stopped, noted, with_waits, with_ran, begun, closed, flushed, gone_on, sliced, limit, Closes, GoesOn, GoesWithout, AnswersFirst, Moves, Starts, StartsAs, StartsFirst, Works}
use Rattle.jk_language.specs.Spoken.{Spoken}

module _ {T : Type 0} where
  -- a fact that each mark keeps, each change of what waits, and each going on
  pub record IsMoved (P : KernelState T → Type 0) : Type 1 where
    pub note : (at : ℕ) (kind : Kind) (k : KernelState T) → P k → P (noted at kind k)
    pub wait : (ws : List (Waiting T)) (k : KernelState T) → P k → P (with_waits ws k)
    pub go : (turns : ℕ) (k : KernelState T) → P k → P (with_ran turns k)

  pub fails_moves : (P : KernelState T → Type 0) → IsMoved P → (b : Bool) (k : KernelState T) → P k → P (failing b k)
  fails_moves P m b k h = failing_moves P (λ at t k h. m.note at (closing t) k h) m.wait b k h

  pub stopped_moves : (P : KernelState T → Type 0) → IsMoved P → (why : Cause) (o : Option Running) (k : KernelState T) → P k → P (stopped why o k)
  stopped_moves P m why None k h = h
  stopped_moves P m why (Some r) k h = m.note _ _ _ (m.note _ _ _ h)

  pub interrupted_moves : (P : KernelState T → Type 0) → IsMoved P → (o : Option Running) (k : KernelState T) → P k → P (interrupted o k)
  interrupted_moves P m o k h = fails_moves P m (stops_with o) _ (stopped_moves P m _ o k h)

  aborting_moves : (P : KernelState T → Type 0) → IsMoved P → (ws : List (Waiting T)) (k : KernelState T) → P k → P (aborting ws k)
  aborting_moves P m [] k h = h
  aborting_moves P m (w ∷ ws) k h = aborting_moves P m ws (noted w.at (closing w.task) (with_waits ws k)) (m.note _ _ _ (m.wait _ _ h))

  -- an arrival stands where it stood
  arrival_moved : (at : ℕ) (a : Arrival) → IsMoved (λ (k : KernelState T). arrival_at at k.log ≡ Some a)
  arrival_moved at a = record { note = λ place kind k h. arrival_grows k.log (Marked (record { at = place; kind = kind })) at a h; wait = λ ws k h. h; go = λ turns k h. h }

  pub there_aborted : (at : ℕ) (a : Arrival) (why : Cause) (o : Option Running) (old mid over : KernelState T) → mid ≡ stopped why o old → over ≡ aborting mid.waits mid → arrival_at at old.log ≡ Some a → arrival_at at over.log ≡ Some a
  there_aborted at a why o old mid over m e h =
      subst (λ (k : KernelState T). arrival_at at k.log ≡ Some a) (sym (e ∙ ap (λ (k : KernelState T). aborting k.waits k) m))
      (aborting_moves (λ (k : KernelState T). arrival_at at k.log ≡ Some a) (arrival_moved at a) (stopped why o old).waits (stopped why o old) (stopped_moves (λ (k : KernelState T). arrival_at at k.log ≡ Some a) (arrival_moved at a) why o old h))

  pub shut_moves : (P : KernelState T → Type 0) → IsMoved P → (at : ℕ) (restart : Bool) (o : Option Running) (k : KernelState T) → P k → P (shut at restart o k)
  shut_moves P m at restart o k h = m.note at (Restart restart) _ (aborting_moves P m k.waits _ (stopped_moves P m _ o k h))

  pub answers_moves : (P : KernelState T → Type 0) → IsMoved P → (ws : List (Waiting T)) (k : KernelState T) → P k → P (answering ws k)
  answers_moves P m ws k h = answering_moves P (λ at status k h. m.note at (Answer status) k h) m.wait ws k h

  closed_moves : (P : KernelState T → Type 0) → IsMoved P → (answer : Turned) (at : ℕ) (stops : Bool) (turns n : ℕ) (k : KernelState T) → P k → P (closed answer at stops turns n k)
  closed_moves P m turned.Stopped at stops turns n k h = h
  closed_moves P m turned.NeedsLine at stops turns n k h = m.note _ _ _ h
  closed_moves P m turned.Ended at stops turns n k h = m.note _ _ _ h
  closed_moves P m (turned.Trapped trap) at stops turns n k h = fails_moves P m stops _ (m.note _ _ _ h)
  closed_moves P m turned.NoMemory at stops turns n k h = fails_moves P m stops _ (m.note _ _ _ h)

  gone_moves : (P : KernelState T → Type 0) → IsMoved P → (read : Bool) (at turns : ℕ) (text : List ℕ) (k : KernelState T) → P k → P (gone_on read at turns text k)
  gone_moves P m true at turns [] k h = m.note _ _ _ h
  gone_moves P m false at turns [] k h = m.go turns k h
  gone_moves P m read at turns (c ∷ text) k h = m.note _ _ _ h

  flushed_moves : (P : KernelState T → Type 0) → IsMoved P → (answer : Turned) (read : Bool) (at turns : ℕ) (text : List ℕ) (k : KernelState T) → P k → P (flushed answer read at turns text k)
  flushed_moves P m turned.Stopped read at turns text k h = gone_moves P m read at turns text k h
  flushed_moves P m turned.NeedsLine read at turns text k h = m.note _ _ _ h
  flushed_moves P m turned.Ended read at turns text k h = m.note _ _ _ h
  flushed_moves P m (turned.Trapped trap) read at turns text k h = m.note _ _ _ h
  flushed_moves P m turned.NoMemory read at turns text k h = m.note _ _ _ h

  broken_moves : (P : KernelState T → Type 0) → IsMoved P → (at : ℕ) (refusal : Refusal) (k : KernelState T) → P k → P (broken at refusal k)
  broken_moves P m at refusal k h = fails_moves P m _ _ (m.note _ _ _ (m.note _ _ _ (m.note _ _ _ h)))

module _ {S T : Type 0} (spoken : Spoken S T) where
  sliced_moves : (P : KernelState T → Type 0) → IsMoved P → (answer : Turned) (r : Running) (n : ℕ) (k : KernelState T) → P k → P (sliced spoken answer r n k)
  sliced_moves P m answer r n k h = closed_moves P m answer _ _ _ _ _ (flushed_moves P m answer _ _ _ _ _ h)

  without_moves : (P : KernelState T → Type 0) → IsMoved P → (nones n : ℕ) (r : Running) (old : KernelState T) (now : Running) (new : KernelState T) → GoesWithout spoken nones n r old now new → P old → P new
  without_moves P m zero n r old now new g h = subst P (sym g.1) h
  without_moves P m (suc more) n r old now new g h = without_moves P m more n (lined None r) (noted r.at (Line None) old) now new g.1 (m.note _ _ _ h)

  closes_moves : (P : KernelState T → Type 0) → IsMoved P → (n : ℕ) (r : Running) (old : KernelState T) (work : Work) (new : KernelState T) → Closes spoken n r old work new → P old → P new
  closes_moves P m n r old Rest new c h = absurd c
  closes_moves P m n r old NeedsParse new c h = absurd c
  closes_moves P m n r old Ran new (answer, turns, last, onward, given, o, e) h = subst P (sym e) (sliced_moves P m answer r turns old h)
  closes_moves P m n r old NeedsLine new (may, o, e) h = subst P (sym e) (sliced_moves P m turned.NeedsLine r n old h)
  closes_moves P m n r old NoMemory new (lacks, e) h = subst P (sym e) (flushed_moves P m turned.NeedsLine (has_lines r.fresh) r.at (meaning spoken old.log r n).turns (written spoken old.log r n) old h)

  goes_moves : (P : KernelState T → Type 0) → IsMoved P → (turns : ℕ) (r : Running) (old : KernelState T) (work : Work) (new : KernelState T) → GoesOn spoken turns r old work new → P old → P new
  goes_moves P m turns r old work new (nones, now, k, without, closes) h =
      closes_moves P m (limit turns old) now k work new closes (without_moves P m nones (limit turns old) r old now k without h)

  starts_moves : (P : KernelState T → Type 0) → IsMoved P → (turns at : ℕ) (o : Option (Parsed T)) (old : KernelState T) (work : Work) (new : KernelState T) → Starts spoken turns at o old work new → P old → P new
  starts_moves P m turns at None old work new s h = absurd s
  starts_moves P m turns at (Some parsed.Memory) old work new s h = subst P (sym s.1) (m.note _ _ _ h)
  starts_moves P m turns at (Some (parsed.Fault fault)) old work new s h = subst P (sym s.1) (broken_moves P m at (Compile fault) old h)
  starts_moves P m turns at (Some (parsed.Tree cell)) old work new (inl (r, runs, goes)) h =
      goes_moves P m turns r (begun at old) work new goes (m.note at (Begin (next_count at old.log)) old h)
  starts_moves P m turns at (Some (parsed.Tree cell)) old work new (inr (refusal, wrong, ran, e)) h = subst P (sym e) (broken_moves P m at refusal old h)

  starts_as_moves : (P : KernelState T → Type 0) → IsMoved P → (turns at : ℕ) (t : Task T) (old : KernelState T) (work : Work) (new : KernelState T) → StartsAs spoken turns at t old work new → P old → P new
  starts_as_moves P m turns at (Cell result) old work new s h = starts_moves P m turns at result old work new s h
  starts_as_moves P m turns at (Query status) old work new s h = absurd s

  first_moves : (P : KernelState T → Type 0) → IsMoved P → (turns : ℕ) (all : List (Waiting T)) (old : KernelState T) (work : Work) (new : KernelState T) → StartsFirst spoken turns all old work new → P old → P new
  first_moves P m turns [] old work new s h = absurd s
  first_moves P m turns (w ∷ ws) old work new s h = starts_as_moves P m turns w.at w.task _ work new s (m.wait _ _ h)

  answers_first_moves : (P : KernelState T → Type 0) → IsMoved P → (turns : ℕ) (old : KernelState T) (work : Work) (new : KernelState T) → AnswersFirst spoken turns old work new → P old → P new
  answers_first_moves P m turns old work new (inl s) h =
      first_moves P m turns (answering old.waits old).waits (answering old.waits old) work new s (answers_moves P m old.waits old h)
  answers_first_moves P m turns old work new (inr (asks, none, ran, e)) h = subst P (sym e) (answers_moves P m old.waits old h)

  pub moves_moves : (P : KernelState T → Type 0) → IsMoved P → (turns : ℕ) (old : KernelState T) (work : Work) (new : KernelState T) → Moves spoken turns old work new → P old → P new
  moves_moves P m turns old work new (inl (r, runs, goes)) h = goes_moves P m turns r old work new goes h
  moves_moves P m turns old work new (inr (idle, s)) h = answers_first_moves P m turns old work new s h

  pub works_moves : (P : KernelState T → Type 0) → IsMoved P → (turns : ℕ) (old : KernelState T) (answer : Work) (new : KernelState T) → Works spoken turns old answer new → P old → P new
  works_moves P m turns old Rest new s h = subst P (sym s.0) h
  works_moves P m turns old NeedsParse new s h = subst P (sym s.0) h
  works_moves P m turns old NoMemory new (inl same) h = subst P (sym same) h
  works_moves P m turns old NoMemory new (inr moves) h = moves_moves P m turns old NoMemory new moves h
  works_moves P m turns old NeedsLine new (asks, inl same) h = subst P (sym same) h
  works_moves P m turns old NeedsLine new (asks, inr moves) h = moves_moves P m turns old NeedsLine new moves h
  works_moves P m turns old Ran new s h = moves_moves P m turns old Ran new s h
