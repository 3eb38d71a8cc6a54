-- What stands beside the script is what the log answers.
use Rattle.std.proofs.Common.{◌⊎◌, ◌≡◌, ◌≢◌, ℕ, ◌≤◌, Bool, true, false, List, [], ◌∷◌, ◌++◌, length, drop, refl, sym, ◌∙◌, ap, subst, arith, Option, None, Some, Result, Ok, Err, OnOk, IfErr, inl, inr}
use Rattle.std.specs.Prelude.{IsTrue, find}
use Rattle.std.proofs.lemmas.List.{append-nil}
use Rattle.jk_language.specs.declared.outcome.Refusal.{Refusal}
use Rattle.jk_language.specs.Parts.{Line as AsLine, Meaning}
use Rattle.jk_language.specs.MachineState.{MachineState, here}
use Rattle.jk_language.specs.Runs.{output_taken, tells_end}
use Rattle.jk_language.specs.declared.outcome.Outcome.TheVariants as outcome
use Rattle.jk_language.specs.declared.outcome.Turned.{Turned}
use Rattle.jk_language.specs.declared.outcome.Turned.TheVariants as turned
use Rattle.jk_language.specs.Spoken.{Spoken, IsLanguage}
use Rattle.jk_language.specs.Beginning.{IsFresh}
use Rattle.jp_msg.specs.declared.message.Execute.{Execute}
use Rattle.jk_log.specs.declared.arrival.Arrival.{Arrival}
use Rattle.jk_core.specs.declared.desk.Active.{Active}
use Rattle.jk_core.specs.declared.desk.Wants.{Wants}
use Rattle.jk_core.specs.declared.desk.Wants.TheVariants as wants
use Rattle.jk_core.specs.declared.desk.Place.{Place}
use Rattle.jk_core.specs.declared.desk.Place.TheVariants.{Resting, Running as Runs}
use Rattle.jk_core.specs.declared.desk.Desk.{Desk}
use Rattle.jk_core.specs.declared.start.Opening.{Opening}
use Rattle.jk_core.specs.declared.start.Opening.TheVariants as opening
use Rattle.jk_log.specs.declared.job.Parsed.{Parsed}
use Rattle.jk_log.specs.declared.job.Parsed.TheVariants as parsed
use Rattle.jk_log.specs.Results.{IsResult}
use Rattle.jk_log.specs.declared.mark.Item.{Item}
use Rattle.jk_log.specs.declared.mark.Item.TheVariants.{Marked}
use Rattle.jk_log.specs.declared.mark.Kind.TheVariants.{Abort, Answer, Ask, Begin, End, Flush, Refuse, Stop}
use Rattle.jk_log.specs.declared.mark.Ending.TheVariants as ending
use Rattle.jk_log.specs.declared.mark.Cause.{Cause}
use Rattle.jk_log.specs.declared.mark.Cause.TheVariants as cause
use Rattle.jk_core.specs.declared.kernel.Work.{Work}
use Rattle.jk_core.specs.declared.kernel.Work.TheVariants as work
use Rattle.jk_core.specs.declared.script.Waiting.{Waiting}
use Rattle.jk_core.specs.declared.script.Task.{Task}
use Rattle.jk_core.specs.declared.script.Task.TheVariants.{Cell, Query}
use Rattle.jk_log.specs.Log.{Log, Running, running, session, count as count_of, meaning, shown_in, stood_in, next_count, option_or, option_with, opened, flushed_at, asking, left, arrival_at, execute_at, seat_at}
use Rattle.jk_log.specs.Legal.{IsLineless, MayAsk}
use Rattle.jk_core.specs.State.{KernelState, first_of, is_cell}
use Rattle.jk_core.specs.Steps.{allows_at, answering, begun, closing, broken, closed, failing, flushed as flushed_to, gone_on, has_lines, limit, noted, sliced, written, written_out, stopped, stops_at, with_waits, BeginsAt, Closes, GoesOn, GoesWithout, IsBrokenAt, Starts, StartsAs, StartsFirst, Takes}
use Rattle.jk_core.specs.Kept.{HoldsAt, IsKept, IsOf, IsRunBy, IsWanting, Opens, Stands, WantsAt, AllWait, IsCellAt, IsTaskAt}
use Rattle.jk_core.specs.Slices.{HasAsked, HasCome, IsAtWork, may_ask, place_of, work_of}
use Rattle.jk_core.proofs.Keeps.{answering_going, answering_idle, answering_moves, answering_waits, failing_moves, first_found, flushed_runs, asking_runs, no_lines, meaning_shown, silent_slice, kept-takes, some_same, stops_same}
use Rattle.jk_core.proofs.Turns.{count_same, lacks, law_of, may_by, not_lineless, not_stopped, ran_same, seat_left, stood_at}

-- answers after which no cell runs
abbrev pub IsOver : Turned → Type 0
IsOver turned.Stopped = ⊥
IsOver turned.NeedsLine = ⊥
IsOver turned.Ended = Unit {0}
IsOver (turned.Trapped trap) = Unit {0}
IsOver turned.NoMemory = Unit {0}

pub no_given : (o : Option Running) (r : Running) (P : Type 0) → o ≡ None → o ≡ Some r → P
no_given o r P e f = cc

-- answers that ask for no line
stopped_not : turned.Stopped ≢ turned.NeedsLine
stopped_not e = cc

over_not : (answer : Turned) → IsOver answer → answer ≢ turned.NeedsLine
over_not turned.Stopped o e = absurd o
over_not turned.NeedsLine o e = absurd o
over_not turned.Ended o e = cc
over_not (turned.Trapped trap) o e = cc
over_not turned.NoMemory o e = cc

module _ {T : Type 0} where
  closed_same : (answer : Turned) (at at' : ℕ) (b b' : Bool) (t t' n n' : ℕ) (k k' : KernelState T) → at ≡ at' → b ≡ b' → t ≡ t' → n ≡ n' → k ≡ k' → closed answer at b t n k ≡ closed answer at' b' t' n' k'
  closed_same answer at at' b b' t t' n n' k k' e f g h i =
      ap (λ (x : ℕ). closed answer x b t n k) e ∙ ap (λ (x : Bool). closed answer at' x t n k) f ∙ ap (λ (x : ℕ). closed answer at' b' x n k) g
      ∙ ap (λ (x : ℕ). closed answer at' b' t' x k) h ∙ ap (closed answer at' b' t' n') i

  gone_waits : (text : List ℕ) (read : Bool) (at turns : ℕ) (k : KernelState T) → (gone_on read at turns text k).waits ≡ k.waits
  gone_waits (x ∷ text) read at turns k = refl
  gone_waits [] true at turns k = refl
  gone_waits [] false at turns k = refl

  -- a flush changes nothing of what waits
  pub flushed_waits : (answer : Turned) (read : Bool) (at turns : ℕ) (text : List ℕ) (k : KernelState T) → (flushed_to answer read at turns text k).waits ≡ k.waits
  flushed_waits turned.Stopped read at turns text k = gone_waits text read at turns k
  flushed_waits turned.NeedsLine read at turns text k = refl
  flushed_waits turned.Ended read at turns text k = refl
  flushed_waits (turned.Trapped trap) read at turns text k = refl
  flushed_waits turned.NoMemory read at turns text k = refl

  stop_same : (at at' turns turns' : ℕ) (why : Cause) (n n' : ℕ) (text : List ℕ) (k : KernelState T) → at ≡ at' → turns ≡ turns' → n ≡ n' → text ≡ [] → noted at (Stop turns why n) (noted at (Flush turns text) k) ≡ noted at' (Stop turns' why n') (noted at' (Flush turns' []) k)
  stop_same at at' turns turns' why n n' text k e f g i =
      ap (λ (x : ℕ). noted x (Stop turns why n) (noted x (Flush turns text) k)) e
      ∙ ap (λ (x : ℕ). noted at' (Stop x why n) (noted at' (Flush x text) k)) f
      ∙ ap (λ (x : ℕ). noted at' (Stop turns' why x) (noted at' (Flush turns' text) k)) g
      ∙ ap (λ (x : List ℕ). noted at' (Stop turns' why n') (noted at' (Flush turns' x) k)) i

  pub none_stops : (k : KernelState T) (why : Cause) → running k.log ≡ None → k ≡ stopped why (running k.log) k
  none_stops k why e = rw e refl

  pub begun_as : (k mid : KernelState T) (at n : ℕ) → n ≡ next_count at k.log → mid ≡ noted at (Begin n) k → mid ≡ begun at k
  begun_as k mid at n c e = e ∙ ap (λ (n : ℕ). noted at (Begin n) k) c

  -- a cell that does not run
  pub broken_as : (k one two three new : KernelState T) (at n : ℕ) (b : Bool) (text : List ℕ) (refusal : Refusal) → n ≡ next_count at k.log → b ≡ stops_at at k.log → text ≡ [] → one ≡ noted at (Begin n) k → two ≡ noted at (Flush 0 text) one → three ≡ noted at (End (ending.Refused refusal) n) two → new ≡ failing b three → new ≡ broken at refusal k
  broken_as k one two three new at n b text refusal c s t e1 e2 e3 e =
      e ∙ ap (failing b) (e3 ∙ ap (noted at (End (ending.Refused refusal) n)) (e2 ∙ ap (noted at (Flush 0 text)) e1))
      ∙ ap (λ (x : Bool). failing x (noted at (End (ending.Refused refusal) n) (noted at (Flush 0 text) (noted at (Begin n) k)))) s
      ∙ ap (λ (x : List ℕ). failing (stops_at at k.log) (noted at (End (ending.Refused refusal) n) (noted at (Flush 0 x) (noted at (Begin n) k)))) t
      ∙ ap (λ (x : ℕ). failing (stops_at at k.log) (noted at (End (ending.Refused refusal) x) (noted at (Flush 0 []) (noted at (Begin x) k)))) c

  -- the state in which the first no longer waits
  popped_as : (old got popped : KernelState T) → got ≡ old → popped ≡ with_waits (drop 1 got.waits) got → popped ≡ with_waits (drop 1 old.waits) old
  popped_as old got popped g p = p ∙ ap (λ (k : KernelState T). with_waits (drop 1 k.waits) k) g

  pub same_log : (old got popped : KernelState T) → got ≡ old → popped ≡ with_waits (drop 1 got.waits) got → old.log ≡ popped.log
  same_log old got popped g p = sym (ap (λ (k : KernelState T). k.log) (popped_as old got popped g p))

module _ {S T M : Type 0} (spoken : Spoken S T) (laws : IsLanguage spoken) (state : M → MachineState S) where
  -- what a cell wants of its lines stays so as the log goes on
  wanting_grows : (w : Wants) (log : Log) (e : Item) (r : Running) (m : MachineState S) → IsWanting log w r m → IsWanting (e ∷ log) w r m
  wanting_grows wants.Nothing log e r m h = h
  wanting_grows wants.Asked log e r m h = h
  wanting_grows (wants.Given a) log e r m h = h

  pub wants_grows : (log : Log) (e : Item) (o : Option Running) (p : Place S M) → WantsAt state log o p → WantsAt state (e ∷ log) o p
  wants_grows log e o (Resting s) h = tt
  wants_grows log e o (Runs a) (r, runs, read, w) = (r, runs, read, wanting_grows a.wants log e r (state a.machine) w)

  -- aborting and answering change nothing beside the script
  abort_stands : (at : ℕ) (t : Task T) (k : KernelState T) (d : Desk S M) → Stands spoken state k d → Stands spoken state (noted at (closing t) k) d
  abort_stands at (Cell result) k d h = record { count = h.count; place = h.place; wants = wants_grows k.log (Marked (record { at = at; kind = Abort })) (running k.log) d.place h.wants }
  abort_stands at (Query status) k d h = record { count = h.count; place = h.place; wants = wants_grows k.log (Marked (record { at = at; kind = Answer status })) (running k.log) d.place h.wants }

  stands_failing : (b : Bool) (k : KernelState T) (d : Desk S M) → Stands spoken state k d → Stands spoken state (failing b k) d
  stands_failing b k d h = failing_moves (λ k. Stands spoken state k d) (λ at t k h. abort_stands at t k d h) (λ ws k h. record { count = h.count; place = h.place; wants = h.wants }) b k h

  stands_answers : (ws : List (Waiting T)) (k : KernelState T) (d : Desk S M) → Stands spoken state k d → Stands spoken state (answering ws k) d
  stands_answers ws k d h = answering_moves (λ k. Stands spoken state k d) (λ at status k h. abort_stands at (Query status) k d h) (λ ws k h. record { count = h.count; place = h.place; wants = h.wants }) ws k h

  pub stands_answered : (old new : KernelState T) (d : Desk S M) → (new ≡ old) ⊎ (new ≡ answering old.waits old) → Stands spoken state old d → Stands spoken state new d
  stands_answered old new d (inl e) h = subst (λ (k : KernelState T). Stands spoken state k d) (sym e) h
  stands_answered old new d (inr e) h = subst (λ (k : KernelState T). Stands spoken state k d) (sym e) (stands_answers old.waits old d h)

  pub stands_fails : (b : Bool) (k fin : KernelState T) (d : Desk S M) → fin ≡ failing b k → Stands spoken state k d → Stands spoken state fin d
  stands_fails b k fin d e h = subst (λ (k : KernelState T). Stands spoken state k d) (sym e) (stands_failing b k d h)

  -- an arrival that was handed back has changed nothing
  pub kept_by : {B : Type 0} (P : B → Type 0) (a : Arrival) (old new : KernelState T) (r : Result (Unit {0}) B) → IsKept spoken old → OnOk r (Takes spoken a old new) → IfErr r (λ back. P back × (new ≡ old)) → IsKept spoken new
  kept_by P a old new (Ok u) kept e f = kept-takes spoken laws a old new kept e
  kept_by P a old new (Err back) kept e f = rw f.1 kept

  -- the end of a slice, as the log tells it
  closed_as : (old k mid new : KernelState T) (n used c : ℕ) (answer : Turned) (a : Active M) → (h : HasCome spoken state old k n answer a) → used ≡ (state a.machine).turns → c ≡ count_of old.log → mid ≡ written_out spoken answer h.stands.cell h.turns k → new ≡ closed answer a.at a.stops used c mid → new ≡ sliced spoken answer h.stands.cell h.turns k
  closed_as old k mid new n used c answer a h u counted m e =
      let s = h.stands in
      e ∙ closed_same answer a.at _ a.stops _ used _ c _ mid _ s.of.at s.of.stops (u ∙ h.here) (counted ∙ sym (count_same spoken s.nones n s.first old s.cell k s.without)) m

  abbrev GoesTo : ℕ → Running → KernelState T → Work → KernelState T → Type 0
  GoesTo n r old work new = (nones : ℕ) × (now : Running) × (k : KernelState T) × GoesWithout spoken nones n r old now k × Closes spoken n now k work new

  goes_ran : (turns : ℕ) (old k mid new : KernelState T) (n used c : ℕ) (answer : Turned) (a : Active M) → (h : HasCome spoken state old k n answer a) → n ≡ limit turns old → answer ≢ turned.NeedsLine → used ≡ (state a.machine).turns → c ≡ count_of old.log → mid ≡ written_out spoken answer h.stands.cell h.turns k → new ≡ closed answer a.at a.stops used c mid → (r : Running) × (running old.log ≡ Some r) × GoesOn spoken turns r old work.Ran new
  goes_ran turns old k mid new n used c answer a h most last u counted m e =
      let s = h.stands in
      let onward : k.ran ≤ h.turns = subst (λ (x : ℕ). x ≤ h.turns) (sym (ran_same spoken s.nones n s.first old s.cell k s.without)) h.onward in (
        s.first,
        s.began,
        subst (λ (n : ℕ). GoesTo n s.first old work.Ran new) most
            (s.nones, s.cell, k, s.without, (answer, h.turns, last, onward, h.all, h.outcome, closed_as old k mid new n used c answer a h u counted m e)),
      )

  may_ask_is : (k : KernelState T) (r : Running) (a : Active M) → IsOf r a → HasAsked a.wants r → (r.asked ≡ true → IsLineless k.log r) → IsTrue (may_ask a k.log) → MayAsk k.log r
  may_ask_is k r a of asked none may = by a.wants asked
    where
      by : (w : Wants) → HasAsked w r → MayAsk k.log r
      by wants.Nothing free = may_by a.allows (left a.seat a.at k.log) k.log r free of.allows (seat_left k.log r a of) may
      by wants.Asked asked = absurd (not_lineless a.allows (left a.seat a.at k.log) k.log r of.allows (seat_left k.log r a of) may (none asked))
      by (wants.Given place) asked = absurd asked

  goes_asks : (turns : ℕ) (old k mid new : KernelState T) (n used c : ℕ) (a : Active M) → (h : HasCome spoken state old k n turned.NeedsLine a) → n ≡ limit turns old → IsTrue (may_ask a k.log) → used ≡ (state a.machine).turns → c ≡ count_of old.log → mid ≡ written_out spoken turned.NeedsLine h.stands.cell h.turns k → new ≡ noted a.at Ask mid → (r : Running) × (running old.log ≡ Some r) × GoesOn spoken turns r old work.NeedsLine new
  goes_asks turns old k mid new n used c a h most may u counted m e =
      let s = h.stands in (
        s.first,
        s.began,
        subst (λ (n : ℕ). GoesTo n s.first old work.NeedsLine new) most (
          s.nones,
          s.cell,
          k,
          s.without,
          (
            may_ask_is k s.cell a s.of s.asked (λ e. (s.left e).0) may,
            ap (λ (t : ℕ). (meaning spoken k.log s.cell t).outcome) (sym h.all) ∙ h.outcome,
            closed_as old k mid new n used c turned.NeedsLine a h u counted m e ∙ ap (λ (t : ℕ). sliced spoken turned.NeedsLine s.cell t k) h.all,
          ),
        ),
      )

  goes_at : (answer : Turned) (turns : ℕ) (old k mid new : KernelState T) (n used c : ℕ) (a : Active M) → (h : HasCome spoken state old k n answer a) → n ≡ limit turns old → (answer ≡ turned.NeedsLine → IsTrue (may_ask a k.log)) → used ≡ (state a.machine).turns → c ≡ count_of old.log → mid ≡ written_out spoken answer h.stands.cell h.turns k → new ≡ closed answer a.at a.stops used c mid → (r : Running) × (running old.log ≡ Some r) × GoesOn spoken turns r old (work_of answer) new
  goes_at turned.Stopped turns old k mid new n used c a h most may u counted m e = goes_ran turns old k mid new n used c turned.Stopped a h most stopped_not u counted m e
  goes_at turned.NeedsLine turns old k mid new n used c a h most may u counted m e = goes_asks turns old k mid new n used c a h most (may refl) u counted m e
  goes_at turned.Ended turns old k mid new n used c a h most may u counted m e = goes_ran turns old k mid new n used c turned.Ended a h most (over_not turned.Ended tt) u counted m e
  goes_at (turned.Trapped trap) turns old k mid new n used c a h most may u counted m e = goes_ran turns old k mid new n used c (turned.Trapped trap) a h most (over_not (turned.Trapped trap) tt) u counted m e
  goes_at turned.NoMemory turns old k mid new n used c a h most may u counted m e = goes_ran turns old k mid new n used c turned.NoMemory a h most (over_not turned.NoMemory tt) u counted m e

  -- the cell that runs goes on, whatever the machine answers
  pub goes_closed : (answer : Turned) (w : Work) (turns : ℕ) (old k mid new : KernelState T) (n used c : ℕ) (a : Active M) → (h : HasCome spoken state old k n answer a) → n ≡ limit turns old → (answer ≡ turned.NeedsLine → IsTrue (may_ask a k.log)) → used ≡ (state a.machine).turns → c ≡ count_of old.log → mid ≡ written_out spoken answer h.stands.cell h.turns k → w ≡ work_of answer → new ≡ closed answer a.at a.stops used c mid → (r : Running) × (running old.log ≡ Some r) × GoesOn spoken turns r old w new
  goes_closed answer w turns old k mid new n used c a h most may u counted m f e =
      subst (λ (w : Work). (r : Running) × (running old.log ≡ Some r) × GoesOn spoken turns r old w new) (sym f)
      (goes_at answer turns old k mid new n used c a h most may u counted m e)

  pub goes_stuck : (turns : ℕ) (old k new : KernelState T) (n used : ℕ) (a : Active M) → (h : HasCome spoken state old k n turned.NeedsLine a) → n ≡ limit turns old → IsLineless k.log h.stands.cell → new ≡ written_out spoken turned.NeedsLine h.stands.cell h.turns k → (r : Running) × (running old.log ≡ Some r) × GoesOn spoken turns r old work.NoMemory new
  goes_stuck turns old k new n used a h most none e =
      let s = h.stands in (
        s.first,
        s.began,
        subst (λ (n : ℕ). GoesTo n s.first old work.NoMemory new) most
            (s.nones, s.cell, k, s.without, (lacks spoken laws state old k n a h none, e ∙ ap (λ (t : ℕ). written_out spoken turned.NeedsLine s.cell t k) h.all)),
      )

  -- the machine after its output was taken, and the cell after the flush of it
  flush_runs : (old k : KernelState T) (n : ℕ) (answer : Turned) (a b : Active M) (o : Option Running) → (h : HasCome spoken state old k n answer a) → tells_end answer ≡ false → IsOf h.stands.cell b → state b.machine ≡ output_taken (state a.machine) → o ≡ Some (flushed_at (meaning spoken k.log h.stands.cell h.turns).turns h.stands.cell) → IsRunBy spoken state (session spoken k.log) o (meaning spoken k.log h.stands.cell h.turns).turns b
  flush_runs old k n answer a b o h on of same runs =
      let s = h.stands in
      let goes = meaning spoken k.log s.cell in
      let stands = stood_at spoken laws state old k n answer a h in
      let settled = (law_of spoken laws state k s.cell).settled h.turns in
      record {
        cell = flushed_at (goes h.turns).turns s.cell;
        runs = runs;
        of = record { at = of.at; seat = of.seat; stops = of.stops; allows = of.allows };
        machine = record {
          goes = λ ls j. ap (λ (x : MachineState S). x.goes ls j) same ∙ s.goes ls j;
          shown = ap (λ (x : MachineState S). x.shown) same ∙ ap (λ (p : Meaning S). length p.output) (stands ∙ sym settled);
          used = ap (λ (x : MachineState S). (here x).turns) same ∙ s.used ∙ sym (ap (λ (x : MachineState S). x.turns) same);
          on = ap (λ (x : MachineState S). x.over) same ∙ h.over ∙ on;
        };
        turns = ap (λ (x : MachineState S). x.turns) same ∙ h.here;
        onward = omega arith;
        lines = ap (λ (x : MachineState S). x.lines) same ∙ s.lines;
      }

  -- a cell that was not asked for a line since goes on
  not_asked : (old k : KernelState T) (n : ℕ) (a : Active M) (h : HasCome spoken state old k n turned.Stopped a) → h.stands.cell.asked ≡ true → ⊥
  not_asked old k n a h e =
      not_stopped _ (ap (λ (p : Meaning S). p.outcome) (sym (stood_at spoken laws state old k n turned.Stopped a h)) ∙ (h.stands.left e).1) h.outcome

  wanting_on : (w : Wants) (log : Log) (r q : Running) (m : MachineState S) → HasAsked w r → (r.asked ≡ true → ⊥) → q.asked ≡ r.asked → q.fresh ≡ [] → IsWanting log w q m
  wanting_on wants.Nothing log r q m free never e fresh = (e ∙ free, fresh)
  wanting_on wants.Asked log r q m asked never e fresh = absurd (never asked)
  wanting_on (wants.Given place) log r q m asked never e fresh = absurd asked

  -- a cell that was flushed, and is not over
  flush_stands : (old k : KernelState T) (n : ℕ) (answer : Turned) (d : Desk S M) (a b : Active M) (text : List ℕ) → (h : HasCome spoken state old k n answer a) → tells_end answer ≡ false → IsOf h.stands.cell b → state b.machine ≡ output_taken (state a.machine) → b.read ≡ false → d.count ≡ count_of old.log → IsWanting (noted h.stands.cell.at (Flush (meaning spoken k.log h.stands.cell h.turns).turns text) k).log b.wants (flushed_at (meaning spoken k.log h.stands.cell h.turns).turns h.stands.cell) (state b.machine) → Stands spoken state (noted h.stands.cell.at (Flush (meaning spoken k.log h.stands.cell h.turns).turns text) k) (record d { place = Runs b })
  flush_stands old k n answer d a b text h on of same read counted w =
      let s = h.stands in
      let runs = flushed_runs (running k.log) s.cell (meaning spoken k.log s.cell h.turns).turns s.runs in
      record {
        count = counted ∙ sym (count_same spoken s.nones n s.first old s.cell k s.without);
        place = flush_runs old k n answer a b _ h on of same runs;
        wants = (flushed_at (meaning spoken k.log s.cell h.turns).turns s.cell, runs, read, w);
      }

  of_same : (r : Running) (a : Active M) (w : Wants) (read : Bool) (m : M) → IsOf r a → IsOf r (record a { wants = w; read = read; machine = m })
  of_same r a w read m of = record { at = of.at; seat = of.seat; stops = of.stops; allows = of.allows }

  -- a cell that wrote nothing and read no line
  silent_stands : (old k : KernelState T) (n : ℕ) (d : Desk S M) (a : Active M) (m : M) → (h : HasCome spoken state old k n turned.Stopped a) → false ≡ has_lines h.stands.cell.fresh → [] ≡ written spoken k.log h.stands.cell h.turns → state m ≡ output_taken (state a.machine) → d.count ≡ count_of old.log → Stands spoken state (gone_on false h.stands.cell.at (meaning spoken k.log h.stands.cell h.turns).turns [] k) (record d { place = Runs (record a { read = false; machine = m }) })
  silent_stands old k n d a m h f is same counted =
      let s = h.stands in
      let fresh = no_lines s.cell.fresh f in
      let goes = meaning spoken k.log s.cell in
      let t = (goes h.turns).turns in
      let le : s.cell.turns ≤ t = (let behind = s.behind in let on = s.onward in let here = h.here in omega arith) in
      let before : s.cell.turns ≤ h.turns = (let behind = s.behind in let on = h.onward in omega arith) in
      let quiet = silent_slice spoken laws (session spoken k.log) s.cell h.turns fresh before le is in
      let stands = stood_at spoken laws state old k n turned.Stopped a h in
      let all : goes h.turns ≡ shown_in spoken (session spoken k.log) s.cell t = sym ((law_of spoken laws state k s.cell).settled h.turns) ∙ meaning_shown spoken laws (session spoken k.log) s.cell t fresh in
      record {
        count = counted ∙ sym (count_same spoken s.nones n s.first old s.cell k s.without);
        place = record {
          cell = s.cell;
          runs = s.runs;
          of = of_same s.cell a a.wants false m s.of;
          machine = record {
            goes = λ ls j. ap (λ (x : MachineState S). x.goes ls j) same ∙ s.goes ls j;
            shown = ap (λ (x : MachineState S). x.shown) same ∙ ap (λ (p : Meaning S). length p.output) (stands ∙ all) ∙ ap (λ (text : List ℕ). length text) quiet.silent;
            used = ap (λ (x : MachineState S). (here x).turns) same ∙ s.used ∙ sym (ap (λ (x : MachineState S). x.turns) same);
            on = ap (λ (x : MachineState S). x.over) same ∙ h.over;
          };
          turns = ap (λ (x : MachineState S). x.turns) same ∙ h.here;
          onward = le;
          lines = ap (λ (x : MachineState S). x.lines) same ∙ s.lines ∙ ap (λ (ls : List AsLine). s.cell.lines ++ ls) fresh ∙ append-nil s.cell.lines;
        };
        wants = (s.cell, s.runs, f, wanting_on a.wants k.log s.cell s.cell (state m) s.asked (not_asked old k n a h) refl fresh);
      }

  -- a cell that goes on
  on_at : (text : List ℕ) (read : Bool) (old k : KernelState T) (n : ℕ) (d : Desk S M) (a : Active M) (m : M) → (h : HasCome spoken state old k n turned.Stopped a) → read ≡ has_lines h.stands.cell.fresh → text ≡ written spoken k.log h.stands.cell h.turns → state m ≡ output_taken (state a.machine) → d.count ≡ count_of old.log → Stands spoken state (gone_on read h.stands.cell.at (meaning spoken k.log h.stands.cell h.turns).turns text k) (record d { place = Runs (record a { read = false; machine = m }) })
  on_at (x ∷ text) read old k n d a m h f is same counted =
      flush_stands old k n turned.Stopped d a (record a { read = false; machine = m }) (x ∷ text) h refl (of_same h.stands.cell a a.wants false m h.stands.of) same refl counted
      (wanting_on a.wants (noted h.stands.cell.at (Flush (meaning spoken k.log h.stands.cell h.turns).turns (x ∷ text)) k).log h.stands.cell (flushed_at (meaning spoken k.log h.stands.cell h.turns).turns h.stands.cell) (state m) h.stands.asked (not_asked old k n a h) refl refl)
  on_at [] true old k n d a m h f is same counted =
      flush_stands old k n turned.Stopped d a (record a { read = false; machine = m }) [] h refl (of_same h.stands.cell a a.wants false m h.stands.of) same refl counted
      (wanting_on a.wants (noted h.stands.cell.at (Flush (meaning spoken k.log h.stands.cell h.turns).turns []) k).log h.stands.cell (flushed_at (meaning spoken k.log h.stands.cell h.turns).turns h.stands.cell) (state m) h.stands.asked (not_asked old k n a h) refl refl)
  on_at [] false old k n d a m h f is same counted = silent_stands old k n d a m h f is same counted

  on_stands : (old k mid : KernelState T) (n : ℕ) (d : Desk S M) (a : Active M) (m : M) → (h : HasCome spoken state old k n turned.Stopped a) → mid ≡ written_out spoken turned.Stopped h.stands.cell h.turns k → state m ≡ output_taken (state a.machine) → d.count ≡ count_of old.log → Stands spoken state mid (record d { place = Runs (record a { read = false; machine = m }) })
  on_stands old k mid n d a m h e same counted =
      subst (λ (k : KernelState T). Stands spoken state k (record d { place = Runs (record a { read = false; machine = m }) })) (sym e)
      (on_at _ _ old k n d a m h refl refl same counted)

  -- where the machine stands it needs a line
  needs_line : (old k : KernelState T) (n : ℕ) (a : Active M) (m : M) → (h : HasCome spoken state old k n turned.NeedsLine a) → state m ≡ output_taken (state a.machine) → (here (state m)).outcome ≡ outcome.NeedsLine
  needs_line old k n a m h same =
      ap (λ (x : MachineState S). (here x).outcome) same ∙ ap (λ (p : Meaning S). p.outcome) (stood_at spoken laws state old k n turned.NeedsLine a h) ∙ h.outcome

  -- a cell that lacks a line, where the log has no room to say so
  wanting_stuck : (w : Wants) (log : Log) (r q : Running) (m : MachineState S) → HasAsked w r → q.asked ≡ r.asked → q.fresh ≡ [] → m.asks ≡ true → (here m).outcome ≡ outcome.NeedsLine → IsWanting log w q m
  wanting_stuck wants.Nothing log r q m free e fresh asks needs = (e ∙ free, fresh)
  wanting_stuck wants.Asked log r q m asked e fresh asks needs = (e ∙ asked, fresh, asks, needs)
  wanting_stuck (wants.Given place) log r q m asked e fresh asks needs = absurd asked

  pub stuck_stands : (old k new : KernelState T) (n : ℕ) (d : Desk S M) (a : Active M) (m : M) → (h : HasCome spoken state old k n turned.NeedsLine a) → new ≡ written_out spoken turned.NeedsLine h.stands.cell h.turns k → state m ≡ output_taken (state a.machine) → d.count ≡ count_of old.log → Stands spoken state new (record d { place = Runs (record a { read = false; machine = m }) })
  stuck_stands old k new n d a m h e same counted =
      subst (λ (k : KernelState T). Stands spoken state k (record d { place = Runs (record a { read = false; machine = m }) })) (sym e)
      (flush_stands old k n turned.NeedsLine d a (record a { read = false; machine = m }) (written spoken k.log h.stands.cell h.turns) h refl (of_same h.stands.cell a a.wants false m h.stands.of) same refl counted
      (wanting_stuck a.wants (noted h.stands.cell.at (Flush (meaning spoken k.log h.stands.cell h.turns).turns (written spoken k.log h.stands.cell h.turns)) k).log h.stands.cell (flushed_at (meaning spoken k.log h.stands.cell h.turns).turns h.stands.cell) (state m) h.stands.asked refl refl (ap (λ (x : MachineState S). x.asks) same ∙ h.asks) (needs_line old k n a m h same)))

  -- a cell that asks
  asks_at : (k : KernelState T) (r : Running) (d : Desk S M) (b : Active M) → running k.log ≡ Some r → Stands spoken state k (record d { place = Runs b }) → IsWanting (noted r.at Ask k).log wants.Asked (asking r) (state b.machine) → b.read ≡ has_lines r.fresh → Stands spoken state (noted r.at Ask k) (record d { place = Runs (record b { wants = wants.Asked }) })
  asks_at k r d b runs h w read =
      let now = asking_runs (running k.log) r runs in
      let same : h.place.cell ≡ r = some_same h.place.cell r (sym h.place.runs ∙ runs) in
      let of = subst (λ (q : Running). IsOf q b) same h.place.of in
      record {
        count = h.count;
        place = record {
          cell = asking r;
          runs = now;
          of = record { at = of.at; seat = of.seat; stops = of.stops; allows = of.allows };
          machine = record {
            goes = subst (λ (q : Running). (lines : List AsLine) (n : ℕ) → (state b.machine).goes lines n ≡ spoken.cell (session spoken k.log) q.request.code lines n) same h.place.machine.goes;
            shown = subst (λ (q : Running). (state b.machine).shown ≡ length (stood_in spoken (session spoken k.log) q).output) same h.place.machine.shown;
            used = h.place.machine.used;
            on = h.place.machine.on;
          };
          turns = h.place.turns;
          onward = subst (λ (q : Running). q.turns ≤ k.ran) same h.place.onward;
          lines = h.place.lines ∙ ap (λ (q : Running). q.lines) same;
        };
        wants = (asking r, now, read, w);
      }

  asks_stands : (old k mid new : KernelState T) (n : ℕ) (d : Desk S M) (a : Active M) (m : M) → (h : HasCome spoken state old k n turned.NeedsLine a) → mid ≡ written_out spoken turned.NeedsLine h.stands.cell h.turns k → new ≡ noted a.at Ask mid → state m ≡ output_taken (state a.machine) → d.count ≡ count_of old.log → Stands spoken state new (record d { place = Runs (record a { wants = wants.Asked; read = false; machine = m }) })
  asks_stands old k mid new n d a m h e f same counted =
      let s = h.stands in
      let flat = written_out spoken turned.NeedsLine s.cell h.turns k in
      let b = record a { read = false; machine = m } in
      subst (λ (k : KernelState T). Stands spoken state k (record d { place = Runs (record b { wants = wants.Asked }) }))
      (sym (f ∙ ap (λ (at : ℕ). noted at Ask mid) s.of.at ∙ ap (noted s.cell.at Ask) e))
      (asks_at flat (flushed_at (meaning spoken k.log s.cell h.turns).turns s.cell) d b (flushed_runs (running k.log) s.cell _ s.runs) (stuck_stands old k flat n d a m h refl same counted)
      (refl, refl, ap (λ (x : MachineState S). x.asks) same ∙ h.asks, needs_line old k n a m h same) refl)

  -- the session after an end
  ended_session : (log : Log) (r : Running) (t : ℕ) (s : S) → running log ≡ Some r → s ≡ (meaning spoken log r t).session → s ≡ option_or (λ r. (stood_in spoken (session spoken log) r).session) (session spoken log) (option_with (flushed_at t) (running log))
  ended_session log r t s runs e = rw runs e

  -- a desk at rest, where the last flush was at so many turns
  abbrev IsAtRest : KernelState T → Desk S M → ℕ → S → Type 0
  IsAtRest k d t s = (d.count ≡ count_of k.log) × (d.place ≡ Resting s) × (s ≡ option_or (λ r. (stood_in spoken (session spoken k.log) r).session) (session spoken k.log) (option_with (flushed_at t) (running k.log)))

  rests_stands : (k : KernelState T) (d : Desk S M) (s : S) → d.count ≡ count_of k.log → d.place ≡ Resting s → running k.log ≡ None → s ≡ session spoken k.log → Stands spoken state k d
  rests_stands k d s counted rests idle is = record {
    count = counted;
    place = subst (HoldsAt spoken state (session spoken k.log) (running k.log) k.ran) (sym rests) (idle, is);
    wants = subst (WantsAt state k.log (running k.log)) (sym rests) tt;
  }

  over_at : (answer : Turned) (read : Bool) (k : KernelState T) (d : Desk S M) (at t n : ℕ) (text : List ℕ) (b : Bool) (s : S) → IsOver answer → IsAtRest k d t s → Stands spoken state (closed answer at b t n (flushed_to answer read at t text k)) d
  over_at turned.Stopped read k d at t n text b s o h = absurd o
  over_at turned.NeedsLine read k d at t n text b s o h = absurd o
  over_at turned.Ended read k d at t n text b s o (counted, rests, is) = rests_stands (noted at (End ending.Completed n) (noted at (Flush t text) k)) d s counted rests refl is
  over_at (turned.Trapped trap) read k d at t n text b s o (counted, rests, is) =
      stands_failing b (noted at (End (ending.Trapped trap) n) (noted at (Flush t text) k)) d (rests_stands (noted at (End (ending.Trapped trap) n) (noted at (Flush t text) k)) d s counted rests refl is)
  over_at turned.NoMemory read k d at t n text b s o (counted, rests, is) =
      stands_failing b (noted at (Stop t cause.Memory n) (noted at (Flush t text) k)) d (rests_stands (noted at (Stop t cause.Memory n) (noted at (Flush t text) k)) d s counted rests refl is)

  -- a cell that is over
  over_stands : (old k mid new : KernelState T) (n used c : ℕ) (answer : Turned) (d e : Desk S M) (a : Active M) (m : M) → (h : HasCome spoken state old k n answer a) → IsOver answer → used ≡ (state a.machine).turns → c ≡ count_of old.log → mid ≡ written_out spoken answer h.stands.cell h.turns k → new ≡ closed answer a.at a.stops used c mid → state m ≡ output_taken (state a.machine) → d.count ≡ count_of old.log → e.count ≡ d.count → e.place ≡ Resting (here (state m)).session → Stands spoken state new e
  over_stands old k mid new n used c answer d e a m h over u counted w f same dc ec place =
      let s = h.stands in
      let t = (meaning spoken k.log s.cell h.turns).turns in
      let left : (here (state m)).session ≡ (meaning spoken k.log s.cell t).session = ap (λ (x : MachineState S). (here x).session) same
      ∙ ap (λ (p : Meaning S). p.session) (stood_at spoken laws state old k n answer a h ∙ sym ((law_of spoken laws state k s.cell).settled h.turns)) in
      subst (λ (k : KernelState T). Stands spoken state k e) (sym (closed_as old k mid new n used c answer a h u counted w f))
      (over_at answer _ k e s.cell.at t (count_of k.log) _ s.cell.request.stop_on_error (here (state m)).session over
      (ec ∙ dc ∙ sym (count_same spoken s.nones n s.first old s.cell k s.without), place, ended_session k.log s.cell t _ s.runs left))

  -- what stands beside the script is all that counts of a desk
  placed : (k : KernelState T) (d e : Desk S M) (p : Place S M) → e.count ≡ d.count → e.place ≡ p → Stands spoken state k (record d { place = p }) → Stands spoken state k e
  placed k d e p c f h = record {
    count = c ∙ h.count;
    place = subst (λ (p : Place S M). HoldsAt spoken state (session spoken k.log) (running k.log) k.ran p) (sym f) h.place;
    wants = subst (λ (p : Place S M). WantsAt state k.log (running k.log) p) (sym f) h.wants;
  }

  -- what stands beside the script at the end of a slice, whatever the machine answers
  pub closed_stands : (answer : Turned) (old k mid new : KernelState T) (n used c : ℕ) (d e : Desk S M) (a : Active M) (m : M) → (h : HasCome spoken state old k n answer a) → used ≡ (state a.machine).turns → c ≡ count_of old.log → mid ≡ written_out spoken answer h.stands.cell h.turns k → new ≡ closed answer a.at a.stops used c mid → state m ≡ output_taken (state a.machine) → d.count ≡ count_of old.log → e.count ≡ d.count → e.place ≡ place_of answer (here (state m)).session (record a { read = false; machine = m }) → Stands spoken state new e
  closed_stands turned.Stopped old k mid new n used c d e a m h u counted w f same dc ec place = placed new d e _ ec place (on_stands old k new n d a m h (f ∙ w) same dc)
  closed_stands turned.NeedsLine old k mid new n used c d e a m h u counted w f same dc ec place = placed new d e _ ec place (asks_stands old k mid new n d a m h w f same dc)
  closed_stands turned.Ended old k mid new n used c d e a m h u counted w f same dc ec place = over_stands old k mid new n used c turned.Ended d e a m h tt u counted w f same dc ec place
  closed_stands (turned.Trapped trap) old k mid new n used c d e a m h u counted w f same dc ec place = over_stands old k mid new n used c (turned.Trapped trap) d e a m h tt u counted w f same dc ec place
  closed_stands turned.NoMemory old k mid new n used c d e a m h u counted w f same dc ec place = over_stands old k mid new n used c turned.NoMemory d e a m h tt u counted w f same dc ec place

  -- what stopping comes to
  pub stop_moves : (k one two : KernelState T) (d : Desk S M) (a : Active M) (turns n : ℕ) (text : List ℕ) (why : Cause) → d.count ≡ count_of k.log → IsRunBy spoken state (session spoken k.log) (running k.log) k.ran a → turns ≡ (state a.machine).turns → text ≡ [] → n ≡ d.count → one ≡ noted a.at (Flush turns text) k → two ≡ noted a.at (Stop turns why n) one → two ≡ stopped why (running k.log) k
  stop_moves k one two d a turns n text why counted h u t c b1 b2 =
      b2 ∙ ap (λ (k : KernelState T). noted a.at (Stop turns why n) k) b1
      ∙ stop_same a.at h.cell.at turns k.ran why n _ text k h.of.at (u ∙ h.turns) (c ∙ counted) t
      ∙ ap (λ (o : Option Running). stopped why o k) (sym h.runs)

  pub stop_stands : (k new : KernelState T) (d : Desk S M) (a : Active M) (s : S) (why : Cause) → d.count ≡ count_of k.log → IsRunBy spoken state (session spoken k.log) (running k.log) k.ran a → ((r : Running) → running k.log ≡ Some r → r.fresh ≡ []) → new ≡ stopped why (running k.log) k → s ≡ (here (state a.machine)).session → Stands spoken state new (record d { place = Resting s })
  stop_stands k new d a s why counted h read e f =
      let r = h.cell in
      let fresh = read r h.runs in
      let told : s ≡ (meaning spoken k.log r k.ran).session = f ∙ ap (λ (p : Meaning S). p.session) (h.machine.goes (state a.machine).lines (state a.machine).turns
      ∙ ap (λ (ls : List AsLine). spoken.cell (session spoken k.log) r.request.code ls (state a.machine).turns) (h.lines ∙ sym (ap (λ (fresh : List AsLine). r.lines ++ fresh) fresh ∙ append-nil r.lines))
      ∙ ap (meaning spoken k.log r) h.turns) in
      subst (λ (k : KernelState T). Stands spoken state k (record d { place = Resting s })) (sym (e ∙ ap (λ (o : Option Running). stopped why o k) h.runs))
      (record { count = counted; place = (refl, ended_session k.log r k.ran s h.runs told); wants = tt })

  -- the machine of a cell that was begun
  pub begin_runs : (turns : ℕ) (k mid : KernelState T) (at n : ℕ) (a : Active M) (b : (e : Execute) × (execute_at at k.log ≡ Some e) × IsFresh spoken (session spoken k.log) e.code (state a.machine)) → a.at ≡ at → a.seat ≡ seat_at at k.log → a.stops ≡ stops_at at k.log → a.allows ≡ allows_at at k.log → a.wants ≡ wants.Nothing → a.read ≡ false → mid ≡ noted at (Begin n) k → IsAtWork spoken state mid mid (limit turns mid) a
  begin_runs turns k mid at n a (e, there, f) is_at is_seat stops allows w read b =
      let r = opened at (seat_at at k.log) e in
      let law = laws.lawful (session spoken k.log) e.code [] in
      let few = law.few 0 in
      let mine = f.turns in
      subst (λ (k : KernelState T). IsAtWork spoken state k k (limit turns k) a) (sym b) (record {
        stands = record {
          first = r;
          began = ap (option_with (opened at (seat_at at k.log))) there;
          nones = 0;
          cell = r;
          without = (refl, refl);
          runs = ap (option_with (opened at (seat_at at k.log))) there;
          of = record { at = is_at; seat = is_seat; stops = stops ∙ stops_same (execute_at at k.log) e there; allows = allows ∙ allows_same (execute_at at k.log) e there };
          goes = f.goes;
          lines = f.lines;
          shown = f.shown ∙ sym (ap (λ (text : List ℕ). length text) law.silent);
          used = ap (λ (ls : List AsLine). ((state a.machine).goes ls (state a.machine).turns).turns) f.lines ∙ ap (λ (j : ℕ). ((state a.machine).goes [] j).turns) f.turns
              ∙ ap (λ (p : Meaning S). p.turns) (f.goes [] 0) ∙ omega (arith, few, mine);
          behind = omega arith;
          onward = omega arith;
          within = omega (arith, mine);
          read = read;
          asked = subst (λ (w : Wants). HasAsked w r) (sym w) refl;
          left = λ e. absurd (was_not e);
        };
        on = f.on;
      })
    where
      was_not : false ≡ true → ⊥
      was_not e = cc

      allows_same : (o : Option Execute) (e : Execute) → o ≡ Some e → option_or (λ (e : Execute). e.allow_stdin) false o ≡ e.allow_stdin
      allows_same o e there = rw there refl

  refused_session : (s : S) (at seat : ℕ) (o : Option Execute) (refusal : Refusal) (e : Execute) → o ≡ Some e → spoken.IsRefusedFor s e.code refusal → s ≡ option_or (λ r. (stood_in spoken s r).session) s (option_with (flushed_at 0) (option_with (opened at seat) o))
  refused_session s at seat o refusal e there wrong = rw there (sym (ap (λ (m : Meaning S). m.session) (laws.stands s e.code refusal wrong [] 0)))

  pub broken_stands : (k new : KernelState T) (d : Desk S M) (at n : ℕ) (s : S) (refusal : Refusal) → IsBrokenAt spoken at refusal k.log → n ≡ next_count at k.log → s ≡ session spoken k.log → new ≡ broken at refusal k → Stands spoken state new (record d { count = n; place = Resting s })
  broken_stands k new d at n s refusal wrong c e b =
      stands_fails (stops_at at k.log) (noted at (End (ending.Refused refusal) (next_count at k.log)) (noted at (Flush 0 []) (begun at k))) new (record d { count = n; place = Resting s }) b
      (record { count = c; place = (refl, e ∙ refused_session (session spoken k.log) at (seat_at at k.log) (execute_at at k.log) refusal wrong.request wrong.there wrong.breaks); wants = tt })

  -- the first cell that waits, what came of reading it, and what comes of that
  pub record IsOpened (k : KernelState T) (w : Waiting T) (outcome : Parsed T) (o : Opening S M) : Type 0 where
    pub wait : IsCellAt spoken k.log w.at (Some outcome)
    pub opens : Opens spoken state (session spoken k.log) wait.request.code outcome o

  first_task : (log : Log) (ws : List (Waiting T)) (w : Waiting T) → AllWait spoken log ws → Some w ≡ first_of ws → IsTaskAt spoken log w.at w.task
  first_task log [] w all e = none_first w _ e
    where
      none_first : (w : Waiting T) (P : Type 0) → Some w ≡ None → P
      none_first w P e = cc
  first_task log (v ∷ ws) w all e = subst (λ (w : Waiting T). IsTaskAt spoken log w.at w.task) (sym (some_same w v e)) all.0

  -- the first cell is first once the queries before it are answered
  pub found_now : (old : KernelState T) (w : Waiting T) → Some w ≡ find (λ (w : Waiting T). is_cell w.task) old.waits → Some w ≡ first_of (answering old.waits old).waits
  found_now old w e = e ∙ sym (first_found old.waits) ∙ ap first_of (sym (answering_waits old.waits old refl))

  -- the first that waits then is the one that was found
  pub popped_first : (old got mid : KernelState T) (w : Waiting T) (o : Option (Waiting T)) → got ≡ old → mid ≡ answering got.waits got → Some w ≡ find (λ (w : Waiting T). is_cell w.task) got.waits → o ≡ first_of mid.waits → o ≡ Some w
  popped_first old got mid w o g m found is =
      is ∙ ap (λ (k : KernelState T). first_of k.waits) (m ∙ ap (λ (k : KernelState T). answering k.waits k) g)
      ∙ sym (found_now old w (subst (λ (k : KernelState T). Some w ≡ find (λ (w : Waiting T). is_cell w.task) k.waits) g found))

  pub popped_there : (v w : Waiting T) (log : Log) (a : Arrival) → Some v ≡ Some w → arrival_at v.at log ≡ Some a → arrival_at w.at log ≡ Some a
  popped_there v w log a e h = ap (λ (x : Waiting T). arrival_at x.at log) (sym (some_same v w e)) ∙ h

  pub same_session : (old : KernelState T) → session spoken (answering old.waits old).log ≡ session spoken old.log
  same_session old = answering_moves (λ k. session spoken k.log ≡ session spoken old.log) (λ at status k h. h) (λ ws k h. h) old.waits old refl

  pub same_count : (old : KernelState T) → count_of (answering old.waits old).log ≡ count_of old.log
  same_count old = answering_moves (λ k. count_of k.log ≡ count_of old.log) (λ at status k h. h) (λ ws k h. h) old.waits old refl

  -- the state from which the first cell starts: the queries before it are answered, and it waits no more
  pub record IsPopped (old popped : KernelState T) : Type 0 where
    pub same : popped ≡ with_waits (drop 1 (answering old.waits old).waits) (answering old.waits old)
    pub counted : count_of popped.log ≡ count_of old.log
    pub few : count_of popped.log ≤ length popped.log
    pub session : session spoken popped.log ≡ session spoken old.log
    pub idle : running (answering old.waits old).log ≡ None

  pub is_popped : (old got mid popped : KernelState T) → IsKept spoken old → running old.log ≡ None → got ≡ old → mid ≡ answering got.waits got → popped ≡ with_waits (drop 1 mid.waits) mid → IsPopped old popped
  is_popped old got mid popped kept idle g m p =
      let k = answering old.waits old in
      let same : mid ≡ k = m ∙ ap (λ (k : KernelState T). answering k.waits k) g in
      let out : popped ≡ with_waits (drop 1 k.waits) k = p ∙ ap (λ (k : KernelState T). with_waits (drop 1 k.waits) k) same in
      let log : popped.log ≡ k.log = ap (λ (k : KernelState T). k.log) out in
      record {
        same = out;
        counted = ap count_of log ∙ same_count old;
        few = subst (λ (log : Log). count_of log ≤ length log) (sym log) (answering_going spoken laws old.waits old refl idle kept.going).few;
        session = ap (session spoken) log ∙ same_session old;
        idle = answering_idle old.waits old idle;
      }

  pub is_opened : (old got : KernelState T) (w : Waiting T) (outcome : Parsed T) (s : S) (o : Opening S M) → IsKept spoken old → running old.log ≡ None → s ≡ session spoken old.log → got ≡ old → Some w ≡ find (λ (w : Waiting T). is_cell w.task) got.waits → w.task ≡ Cell (Some outcome) → ((text : List ℕ) → IsResult spoken text outcome → Opens spoken state s text outcome o) → IsOpened (answering old.waits old) w outcome o
  is_opened old got w outcome s o kept idle e g f r opens =
      let k = answering old.waits old in
      let going = answering_going spoken laws old.waits old refl idle kept.going in
      let found = found_now old w (subst (λ (k : KernelState T). Some w ≡ find (λ (w : Waiting T). is_cell w.task) k.waits) g f) in
      let cell : IsCellAt spoken k.log w.at (Some outcome) = subst (IsTaskAt spoken k.log w.at) r (first_task k.log k.waits w going.wait found) in
      record { wait = cell; opens = subst (λ (s : S). Opens spoken state s cell.request.code outcome o) (e ∙ sym (same_session old)) (opens cell.request.code cell.right) }

  breaks_for : (s : S) (text : List ℕ) (outcome : Parsed T) (back : S) (refusal : Refusal) → Opens spoken state s text outcome (opening.Broken back refusal) → (back ≡ s) × spoken.IsRefusedFor s text refusal
  breaks_for s text parsed.Memory back refusal h = absurd h
  breaks_for s text (parsed.Fault found) back refusal h = (h.0, h.2)
  breaks_for s text (parsed.Tree tree) back refusal h = h

  pub is_broken : (k : KernelState T) (w : Waiting T) (outcome : Parsed T) (back : S) (refusal : Refusal) → IsOpened k w outcome (opening.Broken back refusal) → IsBrokenAt spoken w.at refusal k.log
  is_broken k w outcome back refusal h = record {
    request = h.wait.request;
    there = h.wait.there;
    breaks = (breaks_for (session spoken k.log) h.wait.request.code outcome back refusal h.opens).1;
  }

  pub broken_back : (k : KernelState T) (w : Waiting T) (outcome : Parsed T) (back : S) (refusal : Refusal) → IsOpened k w outcome (opening.Broken back refusal) → back ≡ session spoken k.log
  broken_back k w outcome back refusal h = (breaks_for (session spoken k.log) h.wait.request.code outcome back refusal h.opens).0

  fresh_for : (s : S) (text : List ℕ) (outcome : Parsed T) (m : M) → Opens spoken state s text outcome (opening.Runs m) → IsFresh spoken s text (state m)
  fresh_for s text parsed.Memory m h = absurd h
  fresh_for s text (parsed.Fault found) m h = absurd h
  fresh_for s text (parsed.Tree tree) m h = h

  pub is_fresh : (k : KernelState T) (w : Waiting T) (outcome : Parsed T) (m : M) → IsOpened k w outcome (opening.Runs m) → (e : Execute) × (execute_at w.at k.log ≡ Some e) × IsFresh spoken (session spoken k.log) e.code (state m)
  is_fresh k w outcome m h = (h.wait.request, h.wait.there, fresh_for (session spoken k.log) h.wait.request.code outcome m h.opens)

  refused_for : (s : S) (text : List ℕ) (outcome : Parsed T) (back : S) → Opens spoken state s text outcome (opening.Refused back) → (back ≡ s) × (outcome ≡ parsed.Memory)
  refused_for s text parsed.Memory back h = (h, refl)
  refused_for s text (parsed.Fault found) back h = absurd h
  refused_for s text (parsed.Tree tree) back h = absurd h

  first_from : (turns : ℕ) (all : List (Waiting T)) (w : Waiting T) (o : Option (Parsed T)) (k : KernelState T) (does : Work) (new : KernelState T) → Some w ≡ first_of all → w.task ≡ Cell o → Starts spoken turns w.at o (with_waits (drop 1 all) k) does new → StartsFirst spoken turns all k does new
  first_from turns [] w o k does new e r s = none_first w _ e
    where
      none_first : (w : Waiting T) (P : Type 0) → Some w ≡ None → P
      none_first w P e = cc
  first_from turns (v ∷ ws) w o k does new e r s =
      subst (λ (v : Waiting T). StartsAs spoken turns v.at v.task (with_waits ws k) does new) (some_same w v e)
      (subst (λ (t : Task T). StartsAs spoken turns w.at t (with_waits ws k) does new) (sym r) s)

  starts_popped : (turns : ℕ) (old got popped : KernelState T) (does : Work) (new : KernelState T) (w : Waiting T) (outcome : Parsed T) → got ≡ old → Some w ≡ first_of old.waits → popped ≡ with_waits (drop 1 got.waits) got → w.task ≡ Cell (Some outcome) → Starts spoken turns w.at (Some outcome) popped does new → StartsFirst spoken turns old.waits old does new
  starts_popped turns old got popped does new w outcome g f p r s =
      first_from turns old.waits w (Some outcome) old does new f r
      (subst (λ (k : KernelState T). Starts spoken turns w.at (Some outcome) k does new) (popped_as old got popped g p) s)

  broken_starts : (turns at : ℕ) (s : S) (text : List ℕ) (outcome : Parsed T) (back : S) (refusal : Refusal) (k new : KernelState T) → Opens spoken state s text outcome (opening.Broken back refusal) → IsBrokenAt spoken at refusal k.log → new ≡ broken at refusal k → Starts spoken turns at (Some outcome) k work.Ran new
  broken_starts turns at s text parsed.Memory back refusal k new h wrong e = absurd h
  broken_starts turns at s text (parsed.Fault found) back refusal k new h wrong e = (refl, e ∙ ap (λ (f : Refusal). broken at f k) h.1)
  broken_starts turns at s text (parsed.Tree tree) back refusal k new h wrong e = inr (refusal, wrong, refl, e)

  pub first_broken : (turns : ℕ) (old got popped new : KernelState T) (w : Waiting T) (outcome : Parsed T) (back : S) (refusal : Refusal) → got ≡ old → Some w ≡ first_of old.waits → popped ≡ with_waits (drop 1 got.waits) got → w.task ≡ Cell (Some outcome) → IsOpened old w outcome (opening.Broken back refusal) → new ≡ broken w.at refusal popped → StartsFirst spoken turns old.waits old work.Ran new
  first_broken turns old got popped new w outcome back refusal g f p r h e =
      starts_popped turns old got popped work.Ran new w outcome g f p r
      (broken_starts turns w.at (session spoken old.log) h.wait.request.code outcome back refusal popped new h.opens
      (subst (IsBrokenAt spoken w.at refusal) (same_log old got popped g p) (is_broken old w outcome back refusal h)) e)

  begins_starts : (turns at : ℕ) (s : S) (text : List ℕ) (outcome : Parsed T) (m : M) (k : KernelState T) (does : Work) (new : KernelState T) → Opens spoken state s text outcome (opening.Runs m) → BeginsAt spoken turns at k does new → Starts spoken turns at (Some outcome) k does new
  begins_starts turns at s text parsed.Memory m k does new h e = absurd h
  begins_starts turns at s text (parsed.Fault found) m k does new h e = absurd h
  begins_starts turns at s text (parsed.Tree tree) m k does new h e = inl e

  pub first_begins : (turns : ℕ) (old got popped : KernelState T) (does : Work) (new : KernelState T) (w : Waiting T) (outcome : Parsed T) (m : M) → got ≡ old → Some w ≡ first_of old.waits → popped ≡ with_waits (drop 1 got.waits) got → w.task ≡ Cell (Some outcome) → IsOpened old w outcome (opening.Runs m) → BeginsAt spoken turns w.at popped does new → StartsFirst spoken turns old.waits old does new
  first_begins turns old got popped does new w outcome m g f p r h e =
      starts_popped turns old got popped does new w outcome g f p r (begins_starts turns w.at (session spoken old.log) h.wait.request.code outcome m popped does new h.opens e)

  refused_starts : (turns at n : ℕ) (outcome : Parsed T) (k new : KernelState T) → outcome ≡ parsed.Memory → n ≡ count_of k.log → new ≡ noted at (Refuse n) k → Starts spoken turns at (Some outcome) k work.Ran new
  refused_starts turns at n outcome k new o c e =
      subst (λ (p : Parsed T). Starts spoken turns at (Some p) k work.Ran new) (sym o) (refl, e ∙ ap (λ (x : ℕ). noted at (Refuse x) k) c)

  pub first_refused : (turns : ℕ) (old got popped new : KernelState T) (w : Waiting T) (outcome : Parsed T) (back : S) (n : ℕ) → got ≡ old → Some w ≡ first_of old.waits → popped ≡ with_waits (drop 1 got.waits) got → w.task ≡ Cell (Some outcome) → IsOpened old w outcome (opening.Refused back) → n ≡ count_of old.log → new ≡ noted w.at (Refuse n) popped → StartsFirst spoken turns old.waits old work.Ran new
  first_refused turns old got popped new w outcome back n g f p r h c e =
      starts_popped turns old got popped work.Ran new w outcome g f p r
      (refused_starts turns w.at n outcome popped new (refused_for (session spoken old.log) h.wait.request.code outcome back h.opens).1 (c ∙ ap count_of (same_log old got popped g p)) e)

  -- what stands after a request was refused
  pub refused_stands : (old got popped new : KernelState T) (d : Desk S M) (w : Waiting T) (outcome : Parsed T) (back : S) (n : ℕ) → got ≡ old → popped ≡ with_waits (drop 1 got.waits) got → IsOpened old w outcome (opening.Refused back) → running old.log ≡ None → d.count ≡ count_of old.log → new ≡ noted w.at (Refuse n) popped → Stands spoken state new (record d { place = Resting back })
  refused_stands old got popped new d w outcome back n g p h idle c e =
      subst (λ (k : KernelState T). Stands spoken state k (record d { place = Resting back })) (sym (e ∙ ap (noted w.at (Refuse n)) (popped_as old got popped g p)))
      (record { count = c; place = (idle, (refused_for (session spoken old.log) h.wait.request.code outcome back h.opens).0); wants = tt })
