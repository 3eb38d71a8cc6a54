-- What one slice comes to.
use Rattle.std.proofs.Common.{◌⊎◌, ◌≡◌, ℕ, ◌≤◌, Bool, true, false, List, [], ◌∷◌, ◌++◌, refl, sym, ◌∙◌, ap, subst, arith, Option, None, Some, inl, inr}
use Rattle.std.specs.Prelude.{◌&&◌, find, not}
use Rattle.std.proofs.Common.{cond}
use Rattle.jk_log.specs.Log.{option_or}
use Rattle.std.proofs.lemmas.List.{append-nil}
use Rattle.jk_language.specs.Parts.{Line as AsLine, Meaning}
use Rattle.jk_language.specs.MachineState.{MachineState, here}
use Rattle.jk_language.specs.Runs.{line_given}
use Rattle.jk_language.specs.declared.outcome.Outcome.TheVariants as outcome
use Rattle.jk_language.specs.Spoken.{Spoken, IsLanguage}
use Rattle.jk_core.specs.declared.desk.Active.{Active}
use Rattle.jk_core.specs.declared.desk.Wants.{Wants}
use Rattle.jk_core.specs.declared.desk.Wants.TheVariants as wants
use Rattle.jk_log.specs.declared.job.Parsed.{Parsed}
use Rattle.jk_log.specs.declared.job.Parsed.TheVariants as parsed
use Rattle.jk_log.specs.declared.mark.Kind.TheVariants.{Line}
use Rattle.jk_core.specs.declared.kernel.Work.{Work}
use Rattle.jk_core.specs.declared.kernel.Work.TheVariants as work
use Rattle.jk_core.specs.declared.script.Waiting.{Waiting}
use Rattle.jp_msg.specs.declared.message.Completeness.{Completeness}
use Rattle.jk_core.specs.declared.script.Task.{Task}
use Rattle.jk_core.specs.declared.script.Task.TheVariants.{Cell, Query}
use Rattle.jk_log.specs.Log.{Log, Running, running, session, meaning, flushed_at, asking, lined, nones, left}
use Rattle.jk_log.specs.declared.arrival.Arrival.{Arrival}
use Rattle.jk_log.specs.Asked.{input_in}
use Rattle.jk_log.specs.Legal.{IsLineless}
use Rattle.jk_core.specs.State.{KernelState, first_of, is_cell}
use Rattle.jk_core.specs.Steps.{answering, begun, by_task, has_lines, limit, noted, with_waits, AnswersFirst, FirstAsks, GoesOn, GoesWithout, IsAsking, NoneStarts, Starts, StartsAs, StartsFirst, Works}
use Rattle.jk_core.specs.Kept.{IsWanting, RunsBy, StartsOr, first_is_read, from_cell, has_asked, is_asking, is_read}
use Rattle.jk_core.specs.Slices.{HasAsked, IsAtWork}
use Rattle.jk_core.proofs.Keeps.{answering_waits, flushed_runs, asking_runs, lined_runs, some_same}
use Rattle.jk_core.proofs.Turns.{seat_left}
use Rattle.std.proofs.Common.{zero, suc}

-- the cell that runs after it went on without a line
module _ {S T : Type 0} (spoken : Spoken S T) where
  runs_after : (nones n : ℕ) (r : Running) (old : KernelState T) (now : Running) (k : KernelState T) → GoesWithout spoken nones n r old now k → running old.log ≡ Some r → running k.log ≡ Some now
  runs_after zero n r old now k (e, f) runs = ap (λ (j : KernelState T). running j.log) f ∙ runs ∙ ap (λ (q : Running). Some q) (sym e)
  runs_after (suc more) n r old now k (first, rest) runs =
      runs_after more n (lined None r) (noted r.at (Line None) old) now k rest (lined_runs (running old.log) r None runs)

  goes_asking : (turns : ℕ) (r : Running) (old new : KernelState T) → running old.log ≡ Some r → GoesOn spoken turns r old work.NeedsLine new → IsAsking new.log
  goes_asking turns r old new runs (nones, now, k, without, (may, o, e)) =
      let n = limit turns old in
      let cell = asking (flushed_at (meaning spoken k.log now n).turns now) in
      subst (λ (k : KernelState T). IsAsking k.log) (sym e)
      (cell, asking_runs _ (flushed_at (meaning spoken k.log now n).turns now) (flushed_runs (running k.log) now _ (runs_after nones n r old now k without runs)), refl, may.here)

  goes_works : (turns : ℕ) (r : Running) (old : KernelState T) (does : Work) (new : KernelState T) → running old.log ≡ Some r → GoesOn spoken turns r old does new → Works spoken turns old does new
  goes_works turns r old work.Rest new runs (nones, now, k, without, closes) = absurd closes
  goes_works turns r old work.NeedsParse new runs (nones, now, k, without, closes) = absurd closes
  goes_works turns r old work.Ran new runs goes = inl (r, runs, goes)
  goes_works turns r old work.NeedsLine new runs goes = (goes_asking turns r old new runs goes, inr (inl (r, runs, goes)))
  goes_works turns r old work.NoMemory new runs goes = inr (inl (r, runs, goes))

  pub resumed : (turns : ℕ) (old got : KernelState T) (does : Work) (new : KernelState T) → got ≡ old → (r : Running) × (running got.log ≡ Some r) × GoesOn spoken turns r got does new → Works spoken turns old does new
  resumed turns old got does new e (r, runs, goes) =
      subst (λ (k : KernelState T). Works spoken turns k does new) e (goes_works turns r got does new runs goes)

  -- what waits first starts: only a cell that goes on asks
  starts_asking : (turns at : ℕ) (o : Option (Parsed T)) (old new : KernelState T) → Starts spoken turns at o old work.NeedsLine new → IsAsking new.log
  starts_asking turns at None old new s = absurd s
  starts_asking turns at (Some parsed.Memory) old new (e, f) = never_ran _ e
    where
      never_ran : (P : Type 0) → work.NeedsLine ≡ work.Ran → P
      never_ran P e = cc
  starts_asking turns at (Some (parsed.Fault fault)) old new (e, f) = never_ran _ e
    where
      never_ran : (P : Type 0) → work.NeedsLine ≡ work.Ran → P
      never_ran P e = cc
  starts_asking turns at (Some (parsed.Tree tree)) old new (inl (r, runs, goes)) = goes_asking turns r (begun at old) new runs goes
  starts_asking turns at (Some (parsed.Tree tree)) old new (inr (refusal, wrong, e, f)) = never_ran _ e
    where
      never_ran : (P : Type 0) → work.NeedsLine ≡ work.Ran → P
      never_ran P e = cc

  task_asking : (turns at : ℕ) (t : Task T) (old new : KernelState T) → StartsAs spoken turns at t old work.NeedsLine new → IsAsking new.log
  task_asking turns at (Cell result) old new s = starts_asking turns at result old new s
  task_asking turns at (Query status) old new s = absurd s

  first_asking : (turns : ℕ) (all : List (Waiting T)) (old new : KernelState T) → StartsFirst spoken turns all old work.NeedsLine new → IsAsking new.log
  first_asking turns [] old new s = absurd s
  first_asking turns (w ∷ ws) old new s = task_asking turns w.at w.task (with_waits ws old) new s

  answers_asking : (turns : ℕ) (old new : KernelState T) → AnswersFirst spoken turns old work.NeedsLine new → IsAsking new.log
  answers_asking turns old new (inl s) = first_asking turns (answering old.waits old).waits (answering old.waits old) new s
  answers_asking turns old new (inr (asks, none, e, f)) = never_ran _ e
    where
      never_ran : (P : Type 0) → work.NeedsLine ≡ work.Ran → P
      never_ran P e = cc

  -- what starts does not rest
  starts_on : (turns at : ℕ) (o : Option (Parsed T)) (old : KernelState T) (does : Work) (new : KernelState T) → ((P : Type 0) → does ≡ work.Ran → P) → ((r : Running) (k : KernelState T) → GoesOn spoken turns r k does new → ⊥) → Starts spoken turns at o old does new → ⊥
  starts_on turns at None old does new ran goes s = absurd s
  starts_on turns at (Some parsed.Memory) old does new ran goes (e, f) = ran ⊥ e
  starts_on turns at (Some (parsed.Fault fault)) old does new ran goes (e, f) = ran ⊥ e
  starts_on turns at (Some (parsed.Tree tree)) old does new ran goes (inl (r, runs, on)) = goes r (begun at old) on
  starts_on turns at (Some (parsed.Tree tree)) old does new ran goes (inr (refusal, wrong, e, f)) = ran ⊥ e

  task_on : (turns at : ℕ) (t : Task T) (old : KernelState T) (does : Work) (new : KernelState T) → ((P : Type 0) → does ≡ work.Ran → P) → ((r : Running) (k : KernelState T) → GoesOn spoken turns r k does new → ⊥) → StartsAs spoken turns at t old does new → ⊥
  task_on turns at (Cell result) old does new ran goes s = starts_on turns at result old does new ran goes s
  task_on turns at (Query status) old does new ran goes s = absurd s

  first_on : (turns : ℕ) (all : List (Waiting T)) (old : KernelState T) (does : Work) (new : KernelState T) → ((P : Type 0) → does ≡ work.Ran → P) → ((r : Running) (k : KernelState T) → GoesOn spoken turns r k does new → ⊥) → StartsFirst spoken turns all old does new → ⊥
  first_on turns [] old does new ran goes s = absurd s
  first_on turns (w ∷ ws) old does new ran goes s = task_on turns w.at w.task (with_waits ws old) does new ran goes s

  answers_on : (turns : ℕ) (old : KernelState T) (does : Work) (new : KernelState T) → ((P : Type 0) → does ≡ work.Ran → P) → ((r : Running) (k : KernelState T) → GoesOn spoken turns r k does new → ⊥) → AnswersFirst spoken turns old does new → ⊥
  answers_on turns old does new ran goes (inl s) = first_on turns (answering old.waits old).waits (answering old.waits old) does new ran goes s
  answers_on turns old does new ran goes (inr (asks, none, e, f)) = ran ⊥ e

  never_rests : (turns : ℕ) (new : KernelState T) (r : Running) (k : KernelState T) → GoesOn spoken turns r k work.Rest new → ⊥
  never_rests turns new r k (nones, now, j, without, closes) = absurd closes

  never_parses : (turns : ℕ) (new : KernelState T) (r : Running) (k : KernelState T) → GoesOn spoken turns r k work.NeedsParse new → ⊥
  never_parses turns new r k (nones, now, j, without, closes) = absurd closes

  rest_ran : (P : Type 0) → work.Rest ≡ work.Ran → P
  rest_ran P e = cc

  parse_ran : (P : Type 0) → work.NeedsParse ≡ work.Ran → P
  parse_ran P e = cc

  pub started : (turns : ℕ) (old : KernelState T) (does : Work) (new : KernelState T) → running old.log ≡ None → StartsOr spoken turns old does new → Works spoken turns old does new
  started turns old does new idle (inl (e, same)) = subst (λ (w : Work). Works spoken turns old w new) (sym e) (inl same)
  started turns old work.Rest new idle (inr s) = absurd (answers_on turns old work.Rest new rest_ran (never_rests turns new) s)
  started turns old work.NeedsParse new idle (inr s) = absurd (answers_on turns old work.NeedsParse new parse_ran (never_parses turns new) s)
  started turns old work.Ran new idle (inr s) = inr (idle, s)
  started turns old work.NeedsLine new idle (inr s) = (answers_asking turns old new s, inr (inr (idle, s)))
  started turns old work.NoMemory new idle (inr s) = inr (inr (idle, s))

  -- nothing starts where the first cell has no result
  abbrev IsUnread : List (Waiting T) → Type 0
  IsUnread ws = first_is_read ws ≡ false

  cell_unread : (t : Task T) → is_cell t ≡ true → is_read t ≡ false → t ≡ Cell None
  cell_unread (Cell None) c e = refl
  cell_unread (Cell (Some outcome)) c e = cc
  cell_unread (Query status) c e = cc

  pub first_unread : (ws : List (Waiting T)) → IsUnread ws → NoneStarts (from_cell ws)
  first_unread [] e = tt
  first_unread (w ∷ ws) e = by w.task refl (first_unread ws) e
    where
      by : (t : Task T) → w.task ≡ t → (IsUnread ws → NoneStarts (from_cell ws)) → option_or (λ (w : Waiting T). is_read w.task) false (cond (is_cell t) (Some w) (find (λ (w : Waiting T). is_cell w.task) ws)) ≡ false → NoneStarts (by_task t (λ result. w ∷ ws) (λ status. from_cell ws))
      by (Cell result) is rec e = cell_unread w.task (ap is_cell is) e
      by (Query status) is rec e = rec e

  -- the queries that wait were answered, and nothing starts
  pub answered_only : (turns : ℕ) (old new : KernelState T) → running old.log ≡ None → FirstAsks old.waits → first_is_read old.waits ≡ false → new ≡ answering old.waits old → Works spoken turns old work.Ran new
  answered_only turns old new idle asks unread e =
      inr (idle, inr (asks, subst NoneStarts (sym (answering_waits old.waits old refl)) (first_unread old.waits unread), refl, e))

  -- the first that waits
  first_asks : (t : Task T) (status : Option Completeness) → t ≡ Query status → is_cell t ≡ false
  first_asks t status e = ap is_cell e

  pub asks_first : (ws : List (Waiting T)) (w : Waiting T) (status : Option Completeness) → Some w ≡ first_of ws → w.task ≡ Query status → FirstAsks ws
  asks_first [] w status e q = none_first w _ e
    where
      none_first : (w : Waiting T) (P : Type 0) → Some w ≡ None → P
      none_first w P e = cc
  asks_first (v ∷ ws) w status e q = ap is_cell (ap (λ (w : Waiting T). w.task) (sym (some_same w v e)) ∙ q)

module _ {S T M : Type 0} (spoken : Spoken S T) (laws : IsLanguage spoken) (state : M → MachineState S) where
  -- a cell that was given all its lines can go on
  abbrev pub IsReady : Wants → Type 0
  IsReady wants.Nothing = Unit {0}
  IsReady wants.Asked = Unit {0}
  IsReady (wants.Given place) = ⊥

  waits_not : (gone : Bool) → true && not gone ≡ false → gone ≡ true
  waits_not true e = refl
  waits_not false e = cc

  fresh_none : (w : Wants) (log : Log) (r : Running) (m : MachineState S) → IsReady w → IsWanting log w r m → r.fresh ≡ []
  fresh_none wants.Nothing log r m ready h = h.1
  fresh_none wants.Asked log r m ready h = h.1
  fresh_none (wants.Given place) log r m ready h = absurd ready

  asked_so : (w : Wants) (log : Log) (r : Running) (m : MachineState S) → IsReady w → IsWanting log w r m → HasAsked w r
  asked_so wants.Nothing log r m ready h = h.0
  asked_so wants.Asked log r m ready h = h.0
  asked_so (wants.Given place) log r m ready h = absurd ready

  needs_so : (w : Wants) (log : Log) (r : Running) (m : MachineState S) (gone : Bool) → IsReady w → gone ≡ left r.seat r.at log → has_asked w && not gone ≡ false → IsWanting log w r m → r.asked ≡ true → IsLineless log r × ((here m).outcome ≡ outcome.NeedsLine)
  needs_so wants.Nothing log r m gone ready e waits h asked = false_true _ (sym h.0 ∙ asked)
    where
      false_true : (P : Type 0) → false ≡ true → P
      false_true P e = cc
  needs_so wants.Asked log r m gone ready e waits h asked = (inr (sym e ∙ waits_not gone waits), h.3)
  needs_so (wants.Given place) log r m gone ready e waits h asked = absurd ready

  pub at_work : (w : Wants) (k : KernelState T) (n : ℕ) (a : Active M) → a.wants ≡ w → IsReady w → RunsBy spoken state k a → is_asking a k.log ≡ false → k.ran ≤ n → IsAtWork spoken state k k n a
  at_work w k n a is ready h waits le =
      let r = h.runs.cell in
      let same : h.wants.0 ≡ r = some_same h.wants.0 r (sym h.wants.1 ∙ h.runs.runs) in
      let want : IsWanting k.log w r (state a.machine) = subst (λ (w : Wants). IsWanting k.log w r (state a.machine)) is
      (subst (λ (q : Running). IsWanting k.log a.wants q (state a.machine)) same h.wants.3) in
      let fresh = fresh_none w k.log r (state a.machine) ready want in
      record {
        stands = record {
          first = r;
          began = h.runs.runs;
          nones = 0;
          cell = r;
          without = (refl, refl);
          runs = h.runs.runs;
          of = h.runs.of;
          goes = h.runs.machine.goes;
          lines = h.runs.lines ∙ sym (ap (λ (ls : List AsLine). r.lines ++ ls) fresh ∙ append-nil r.lines);
          shown = h.runs.machine.shown;
          used = h.runs.machine.used;
          behind = h.runs.onward;
          onward = (let at = h.runs.turns in omega arith);
          within = (let at = h.runs.turns in omega arith);
          read = h.wants.2 ∙ ap (λ (q : Running). has_lines q.fresh) same;
          asked = subst (λ (w : Wants). HasAsked w r) (sym is) (asked_so w k.log r (state a.machine) ready want);
          left = needs_so w k.log r (state a.machine) (left a.seat a.at k.log) ready (seat_left k.log r a h.runs.of) (ap (λ (w : Wants). has_asked w && not (left a.seat a.at k.log)) (sym is) ∙ waits) want;
        };
        on = h.runs.machine.on;
      }

  pub ready_work : (k : KernelState T) (n : ℕ) (a : Active M) → (a.wants ≡ wants.Nothing) ⊎ (a.wants ≡ wants.Asked) → RunsBy spoken state k a → is_asking a k.log ≡ false → k.ran ≤ n → IsAtWork spoken state k k n a
  ready_work k n a (inl e) h waits le = at_work wants.Nothing k n a e tt h waits le
  ready_work k n a (inr e) h waits le = at_work wants.Asked k n a e tt h waits le

  -- a cell that was given its line now
  pub at_work_given : (k : KernelState T) (n : ℕ) (b : Arrival) (a : Active M) (m : M) (text : List ℕ) → a.wants ≡ wants.Given b → RunsBy spoken state k a → Some text ≡ input_in b.what → state m ≡ line_given (Some text) (state a.machine) → k.ran ≤ n → IsAtWork spoken state k k n (record a { wants = wants.Nothing; machine = m })
  at_work_given k n b a m text is h there given le =
      let r = h.runs.cell in
      let goes_same : h.wants.0 ≡ r = some_same h.wants.0 r (sym h.wants.1 ∙ h.runs.runs) in
      let want : IsWanting k.log (wants.Given b) r (state a.machine) = subst (λ (w : Wants). IsWanting k.log w r (state a.machine)) is
      (subst (λ (q : Running). IsWanting k.log a.wants q (state a.machine)) goes_same h.wants.3) in
      let fresh : r.fresh ≡ Some text ∷ [] = want.4 ∙ ap (λ (t : List ℕ). Some t ∷ []) (some_same want.2 text (sym want.3 ∙ sym there)) in
      let code = r.request.code in
      let s = session spoken k.log in
      let turns : (state m).turns ≡ k.ran = ap (λ (x : MachineState S). x.turns) given ∙ h.runs.turns in
      let lines : (state m).lines ≡ r.lines ++ Some text ∷ [] = ap (λ (x : MachineState S). x.lines) given ∙ ap (λ (ls : List AsLine). ls ++ Some text ∷ []) h.runs.lines in
      let goes_on : (ls : List AsLine) (j : ℕ) → (state m).goes ls j ≡ spoken.cell s code ls j = λ ls j. ap (λ (x : MachineState S). x.goes ls j) given ∙ h.runs.machine.goes ls j in
      let before : (spoken.cell s code r.lines k.ran).turns ≡ k.ran = ap (λ (p : Meaning S). p.turns) (sym (h.runs.machine.goes (state a.machine).lines (state a.machine).turns
      ∙ ap (λ (ls : List AsLine). spoken.cell s code ls (state a.machine).turns) h.runs.lines ∙ ap (spoken.cell s code r.lines) h.runs.turns)) ∙ h.runs.machine.used ∙ h.runs.turns in
      let least = (laws.fed s code r.lines (Some text)).onward k.ran in
      let most = (laws.lawful s code (r.lines ++ Some text ∷ [])).few k.ran in
      let now : here (state m) ≡ spoken.cell s code (r.lines ++ Some text ∷ []) k.ran = goes_on (state m).lines (state m).turns
      ∙ ap (λ (ls : List AsLine). spoken.cell s code ls (state m).turns) lines ∙ ap (spoken.cell s code (r.lines ++ Some text ∷ [])) turns in
      record {
        stands = record {
          first = r;
          began = h.runs.runs;
          nones = 0;
          cell = r;
          without = (refl, refl);
          runs = h.runs.runs;
          of = (let of = h.runs.of in record { at = of.at; seat = of.seat; stops = of.stops; allows = of.allows });
          goes = goes_on;
          lines = lines ∙ sym (ap (λ (ls : List AsLine). r.lines ++ ls) fresh);
          shown = ap (λ (x : MachineState S). x.shown) given ∙ h.runs.machine.shown;
          used = ap (λ (p : Meaning S). p.turns) now ∙ omega (arith, before, least, most) ∙ sym turns;
          behind = h.runs.onward;
          onward = omega (arith, turns);
          within = omega (arith, turns, le);
          read = h.wants.2 ∙ ap (λ (q : Running). has_lines q.fresh) goes_same;
          asked = want.0;
          left = λ asked. false_true _ (sym want.0 ∙ asked);
        };
        on = ap (λ (x : MachineState S). x.over) given ∙ h.runs.machine.on;
      }
    where
      false_true : (P : Type 0) → false ≡ true → P
      false_true P e = cc
