-- A cell at work in a slice: its machine, its lines and its output.
use Rattle.std.proofs.Common.{zero, suc, append_assoc, ◌≡◌, ◌≢◌, ℕ, ◌+◌, ◌-◌, ◌*◌, ◌<◌, ◌≤◌, Bool, true, false, List, [], ◌∷◌, ◌++◌, length, drop, refl, sym, ◌∙◌, ap, subst, arith, None, inl, inr}
use Rattle.std.specs.Prelude.{IsTrue, ◌&&◌, not, IsOk, OnOk, is_err}
use Rattle.std.proofs.Common.{Result, Ok, Err}
use Rattle.jk_language.specs.Parts.{Line as Given, Meaning, IsLawful}
use Rattle.jk_language.specs.MachineState.{MachineState, here}
use Rattle.jk_language.specs.Runs.{HasTurned, IsGiven, OutcomeIs, line_given, unshown}
use Rattle.jk_language.specs.Spoken.{Spoken, IsLanguage}
use Rattle.jk_language.specs.declared.outcome.Outcome.{Outcome}
use Rattle.jk_language.specs.declared.outcome.Outcome.TheVariants as outcome
use Rattle.jk_language.specs.declared.outcome.Turned.{Turned}
use Rattle.jk_language.specs.declared.outcome.Turned.TheVariants as turned
use Rattle.jk_core.specs.declared.desk.Active.{Active}
use Rattle.jk_core.specs.declared.desk.Wants.TheVariants as wants
use Rattle.jk_log.specs.declared.mark.Kind.TheVariants.{Line}
use Rattle.jk_log.specs.Log.{Log, Running, running, session, count, meaning, stood, left, lined}
use Rattle.jk_log.specs.Legal.{IsLineless, Lacks, MayAsk}
use Rattle.jk_core.specs.State.{KernelState}
use Rattle.jk_core.specs.Steps.{flushed, has_lines, noted, written, written_out, GoesWithout}
use Rattle.jk_core.specs.Kept.{IsOf}
use Rattle.jk_core.specs.Slices.{HasCome, HasStuck, IsAtWork, IsInSlice, may_ask, weight}
use Rattle.jk_core.proofs.Keeps.{lined_runs}

pub has_more : (fresh : List Given) (line : Given) → true ≡ has_lines (fresh ++ line ∷ [])
has_more [] line = refl
has_more (x ∷ fresh) line = refl

-- the turns of a slice, by the machine's answer
given_all : (answer : Turned) (n m given : ℕ) → m ≤ n → IsGiven answer (n - m) given → IsGiven answer n (m + given)
given_all turned.Ended n m given le h = omega (arith, h)
given_all (turned.Trapped trap) n m given le h = omega (arith, h)
given_all turned.Stopped n m given le h = omega (arith, h)
given_all turned.NeedsLine n m given le h = omega (arith, h)
given_all turned.NoMemory n m given le h = omega (arith, h)

pub given_within : (answer : Turned) (n given : ℕ) → IsGiven answer n given → given ≤ n
given_within turned.Ended n given h = omega (arith, h)
given_within (turned.Trapped trap) n given h = omega (arith, h)
given_within turned.Stopped n given h = omega (arith, h)
given_within turned.NeedsLine n given h = omega (arith, h)
given_within turned.NoMemory n given h = omega (arith, h)

-- whether there is a line to be had
lineless_by : (allows gone : Bool) (log : Log) (r : Running) → allows ≡ r.request.allow_stdin → gone ≡ left r.seat r.at log → allows && not gone ≡ false → IsLineless log r
lineless_by false gone log r e f h = inl (sym e)
lineless_by true true log r e f h = inr (sym f)
lineless_by true false log r e f h = cc

pub may_by : (allows gone : Bool) (log : Log) (r : Running) → r.asked ≡ false → allows ≡ r.request.allow_stdin → gone ≡ left r.seat r.at log → IsTrue (allows && not gone) → MayAsk log r
may_by true false log r free e f h = record { free = free; allowed = sym e; here = sym f }
may_by true true log r free e f h = cc
may_by false gone log r free e f h = cc

pub not_lineless : (allows gone : Bool) (log : Log) (r : Running) → allows ≡ r.request.allow_stdin → gone ≡ left r.seat r.at log → IsTrue (allows && not gone) → IsLineless log r → ⊥
not_lineless true false log r e f h (inl none) = cc
not_lineless true false log r e f h (inr none) = cc
not_lineless true true log r e f h less = cc
not_lineless false gone log r e f h less = cc

pub seat_left : {M : Type 0} (log : Log) (r : Running) (a : Active M) → IsOf r a → left a.seat a.at log ≡ left r.seat r.at log
seat_left log r a of = ap (λ (s : ℕ). left s a.at log) of.seat ∙ ap (λ (n : ℕ). left r.seat n log) of.at

pub lineless : {M : Type 0} (log : Log) (r : Running) (a : Active M) → IsOf r a → may_ask a log ≡ false → IsLineless log r
lineless log r a of h = lineless_by a.allows (left a.seat a.at log) log r of.allows (seat_left log r a of) h

pub not_stopped : (o : Outcome) → o ≡ outcome.NeedsLine → (grows : Bool) × (o ≡ outcome.Stopped grows) → ⊥
not_stopped o e (grows, f) = cc

-- what holds where a call succeeds, of one that does
is_ok : {A B : Type 0} (P : Type 0) (r : Result A B) → IsOk r → OnOk r P → P
is_ok P (Ok x) good h = h
is_ok P (Err e) good h = cc

pub not_err : {A B : Type 0} (P : Type 0) (r : Result A B) → is_err r ≡ false → OnOk r P → P
not_err P (Ok x) good h = h
not_err P (Err e) good h = cc

module _ {S T : Type 0} (spoken : Spoken S T) where
  -- one time more there was no line
  without_more : (nones n : ℕ) (r : Running) (old : KernelState T) (now : Running) (k : KernelState T) → GoesWithout spoken nones n r old now k → Lacks spoken k.log now n → GoesWithout spoken (suc nones) n r old (lined None now) (noted now.at (Line None) k)
  without_more zero n r old now k (e, f) lacks = (
    subst (λ (j : KernelState T). Lacks spoken j.log r n) f (subst (λ (q : Running). Lacks spoken k.log q n) e lacks),
    (ap (lined None) e, ap (λ (q : Running). noted q.at (Line None) k) e ∙ ap (noted r.at (Line None)) f),
  )
  without_more (suc more) n r old now k (first, rest) lacks = (first, without_more more n (lined None r) (noted r.at (Line None) old) now k rest lacks)

  pub ran_same : (nones n : ℕ) (r : Running) (old : KernelState T) (now : Running) (k : KernelState T) → GoesWithout spoken nones n r old now k → k.ran ≡ old.ran
  ran_same zero n r old now k (e, f) = ap (λ (j : KernelState T). j.ran) f
  ran_same (suc more) n r old now k (first, rest) = ran_same more n (lined None r) (noted r.at (Line None) old) now k rest

  pub count_same : (nones n : ℕ) (r : Running) (old : KernelState T) (now : Running) (k : KernelState T) → GoesWithout spoken nones n r old now k → count k.log ≡ count old.log
  count_same zero n r old now k (e, f) = ap (λ (j : KernelState T). count j.log) f
  count_same (suc more) n r old now k (first, rest) = count_same more n (lined None r) (noted r.at (Line None) old) now k rest

module _ {S T M : Type 0} (spoken : Spoken S T) (laws : IsLanguage spoken) (state : M → MachineState S) where
  -- where the machine stands is what the cell comes to with all lines so far
  pub here_is : (old k : KernelState T) (n : ℕ) (a : Active M) (s : IsInSlice spoken state old k n a) (turns : ℕ) → (state a.machine).goes (state a.machine).lines turns ≡ meaning spoken k.log s.cell turns
  here_is old k n a s turns =
      s.goes (state a.machine).lines turns ∙ ap (λ (ls : List Given). spoken.cell (session spoken k.log) s.cell.request.code ls turns) s.lines

  pub law_of : (k : KernelState T) (r : Running) → IsLawful (meaning spoken k.log r)
  law_of k r = laws.lawful (session spoken k.log) r.request.code (r.lines ++ r.fresh)

  -- a machine went on to n turns in all
  pub come : (old k : KernelState T) (n : ℕ) (a : Active M) (m : M) (answer : Turned) → (w : IsAtWork spoken state old k n a) → HasTurned (state a.machine) (n - (state a.machine).turns) answer (state m) → HasCome spoken state old k n answer (record a { machine = m })
  come old k n a m answer w (given, all, out, same) =
      let s = w.stands in
      let before = (state a.machine).turns in
      let turns = before + given in
      let goes = meaning spoken k.log s.cell in
      let law = law_of k s.cell in
      let given_in = given_all answer n before given s.within all in
      let le = given_within answer n turns given_in in
      let came : (state a.machine).goes (state a.machine).lines turns ≡ goes turns = here_is old k n a s turns in
      let after : (state m).turns ≡ (goes turns).turns = ap (λ (x : MachineState S). x.turns) same ∙ ap (λ (p : Meaning S). p.turns) came in
      let lines : (state m).lines ≡ s.cell.lines ++ s.cell.fresh = ap (λ (x : MachineState S). x.lines) same ∙ s.lines in
      let goes_on : (ls : List Given) (j : ℕ) → (state m).goes ls j ≡ spoken.cell (session spoken k.log) s.cell.request.code ls j = λ ls j. ap (λ (x : MachineState S). x.goes ls j) same ∙ s.goes ls j in
      let now : here (state m) ≡ goes turns = goes_on (state m).lines (state m).turns
      ∙ ap (λ (ls : List Given). spoken.cell (session spoken k.log) s.cell.request.code ls (state m).turns) lines
      ∙ ap goes after ∙ law.settled turns in
      let stood : (goes before).turns ≡ before = ap (λ (p : Meaning S). p.turns) (sym (here_is old k n a s before)) ∙ s.used in
      let more = law.onward before turns (omega arith) in
      let few = law.few turns in
      record {
        stands = record {
          first = s.first;
          began = s.began;
          nones = s.nones;
          cell = s.cell;
          without = s.without;
          runs = s.runs;
          of = record { at = s.of.at; seat = s.of.seat; stops = s.of.stops; allows = s.of.allows };
          goes = goes_on;
          lines = lines;
          shown = ap (λ (x : MachineState S). x.shown) same ∙ s.shown;
          used = ap (λ (p : Meaning S). p.turns) now ∙ sym after;
          behind = s.behind;
          onward = (let on = s.onward in omega (arith, on, more, stood, after));
          within = omega (arith, few, le, after);
          read = s.read;
          asked = s.asked;
          left = λ e.
              let none = s.left e in
              let needs : (goes before).outcome ≡ outcome.NeedsLine = ap (λ (p : Meaning S). p.outcome) (sym (here_is old k n a s before)) ∙ none.1 in
              (none.0, ap (λ (p : Meaning S). p.outcome) (now ∙ law.last before turns (omega arith) (not_stopped (goes before).outcome needs)) ∙ needs);
        };
        turns = turns;
        onward = (let on = s.onward in omega arith);
        all = given_in;
        outcome = subst (λ (p : Meaning S). OutcomeIs answer p.outcome) came out;
        here = after;
        asks = ap (λ (x : MachineState S). x.asks) same;
        over = ap (λ (x : MachineState S). x.over) same;
      }

  -- what it comes to where the machine stands
  pub stood_at : (old k : KernelState T) (n : ℕ) (answer : Turned) (a : Active M) (c : HasCome spoken state old k n answer a) → here (state a.machine) ≡ meaning spoken k.log c.stands.cell c.turns
  stood_at old k n answer a c =
      here_is old k n a c.stands (state a.machine).turns ∙ ap (meaning spoken k.log c.stands.cell) c.here ∙ (law_of k c.stands.cell).settled c.turns

  -- a cell that needs a line has come to all turns
  pub lacks : (old k : KernelState T) (n : ℕ) (a : Active M) (c : HasCome spoken state old k n turned.NeedsLine a) → IsLineless k.log c.stands.cell → Lacks spoken k.log c.stands.cell n
  lacks old k n a c none = (ap (λ (t : ℕ). (meaning spoken k.log c.stands.cell t).outcome) (sym c.all) ∙ c.outcome, none)

  -- it goes on without a line
  pub goes_without : (old k mid : KernelState T) (n : ℕ) (a : Active M) (m : M) (c : HasCome spoken state old k n turned.NeedsLine a) → may_ask a k.log ≡ false → mid ≡ noted a.at (Line None) k → state m ≡ line_given None (state a.machine) → IsAtWork spoken state old mid n (record a { wants = wants.Nothing; read = true; machine = m })
  goes_without old k mid n a m c may marked same =
      let s = c.stands in
      let none = lineless k.log s.cell a s.of may in
      let t = (state a.machine).turns in
      let law = laws.lawful (session spoken k.log) s.cell.request.code (s.cell.lines ++ (s.cell.fresh ++ None ∷ [])) in
      let fed = laws.fed (session spoken k.log) s.cell.request.code (s.cell.lines ++ s.cell.fresh) None in
      let stood : (meaning spoken k.log s.cell t).turns ≡ t = ap (λ (p : Meaning S). p.turns) (sym (here_is old k n a s t)) ∙ s.used in
      let lines : (state m).lines ≡ s.cell.lines ++ (s.cell.fresh ++ None ∷ []) = ap (λ (x : MachineState S). x.lines) same ∙ ap (λ (ls : List Given). ls ++ None ∷ []) s.lines
      ∙ append_assoc s.cell.lines s.cell.fresh (None ∷ []) in
      let at_turns : (state m).turns ≡ t = ap (λ (x : MachineState S). x.turns) same in
      let goes_on : (ls : List Given) (j : ℕ) → (state m).goes ls j ≡ spoken.cell (session spoken k.log) s.cell.request.code ls j = λ ls j. ap (λ (x : MachineState S). x.goes ls j) same ∙ s.goes ls j in
      let now : here (state m) ≡ spoken.cell (session spoken k.log) s.cell.request.code (s.cell.lines ++ (s.cell.fresh ++ None ∷ [])) t = goes_on (state m).lines (state m).turns
      ∙ ap (λ (ls : List Given). spoken.cell (session spoken k.log) s.cell.request.code ls (state m).turns) lines
      ∙ ap (spoken.cell (session spoken k.log) s.cell.request.code (s.cell.lines ++ (s.cell.fresh ++ None ∷ []))) at_turns in
      let most = law.few t in
      let least = subst (λ (ls : List Given). (meaning spoken k.log s.cell t).turns ≤ (spoken.cell (session spoken k.log) s.cell.request.code ls t).turns) (append_assoc s.cell.lines s.cell.fresh (None ∷ [])) (fed.onward t) in
      subst (λ (j : KernelState T). IsAtWork spoken state old j n (record a { wants = wants.Nothing; read = true; machine = m })) (sym (marked ∙ ap (λ (at : ℕ). noted at (Line None) k) s.of.at)) (record {
        stands = record {
          first = s.first;
          began = s.began;
          nones = suc s.nones;
          cell = lined None s.cell;
          without = without_more spoken s.nones n s.first old s.cell k s.without (lacks old k n a c none);
          runs = lined_runs (running k.log) s.cell None s.runs;
          of = record { at = s.of.at; seat = s.of.seat; stops = s.of.stops; allows = s.of.allows };
          goes = goes_on;
          lines = lines;
          shown = ap (λ (x : MachineState S). x.shown) same ∙ s.shown;
          used = ap (λ (p : Meaning S). p.turns) now ∙ (omega (arith, most, least, stood)) ∙ sym at_turns;
          behind = s.behind;
          onward = (let on = s.onward in omega (arith, on, at_turns));
          within = (let within = s.within in omega (arith, within, at_turns));
          read = has_more s.cell.fresh None;
          asked = refl;
          left = λ e. absurd (not_asked e);
        };
        on = ap (λ (x : MachineState S). x.over) same ∙ c.over;
      })
    where
      not_asked : false ≡ true → ⊥
      not_asked e = cc

  -- each time that it goes on without a line a turn is used, but for the first
  fed_on : (s : S) (text : List ℕ) (lines : List Given) (n t given : ℕ) → t ≤ n → t ≡ (spoken.cell s text lines n).turns → (spoken.cell s text lines n).outcome ≡ outcome.NeedsLine → IsGiven turned.NeedsLine (n - t) given → (spoken.cell s text (lines ++ None ∷ []) (t + given)).outcome ≡ outcome.NeedsLine → (spoken.cell s text (lines ++ None ∷ []) (t + given)).turns ≢ t
  fed_on s text lines n t given le is needs all again e =
      let goes = spoken.cell s text lines in
      let fed = spoken.cell s text (lines ++ None ∷ []) in
      let stood : goes t ≡ goes n = ap goes is ∙ (laws.lawful s text lines).settled n in
      let same : fed t ≡ fed (t + given) = ap fed (sym e) ∙ (laws.lawful s text (lines ++ None ∷ [])).settled (t + given) in
      (laws.fed s text lines None).freed t (ap (λ (p : Meaning S). p.outcome) stood ∙ needs) (ap (λ (p : Meaning S). p.turns) stood ∙ sym is)
      (ap (λ (p : Meaning S). p.outcome) same ∙ again)

  fed_falls : (answer : Turned) (s : S) (text : List ℕ) (lines : List Given) (n t given after : ℕ) → t ≤ n → t ≡ (spoken.cell s text lines n).turns → (spoken.cell s text lines n).outcome ≡ outcome.NeedsLine → IsGiven answer (n - t) given → OutcomeIs answer (spoken.cell s text (lines ++ None ∷ []) (t + given)).outcome → after ≡ (spoken.cell s text (lines ++ None ∷ []) (t + given)).turns → 2 * (n - after) + weight answer < 2 * (n - t) + 1
  fed_falls answer s text lines n t given after le is needs all out now =
      let goes = spoken.cell s text lines in
      let fed = spoken.cell s text (lines ++ None ∷ []) in
      let law = laws.lawful s text (lines ++ None ∷ []) in
      let stood : (goes t).turns ≡ t = ap (λ (p : Meaning S). p.turns) (ap goes is ∙ (laws.lawful s text lines).settled n) ∙ sym is in
      let least = (laws.fed s text lines None).onward t in
      let onward = law.onward t (t + given) (omega arith) in
      let few = law.few (t + given) in
      let within = given_within answer (n - t) given all in
      by answer (omega (arith, stood, least, onward, now)) (omega (arith, few, within, le, now)) all out
    where
      by : (answer : Turned) → t ≤ after → after ≤ n → IsGiven answer (n - t) given → OutcomeIs answer (spoken.cell s text (lines ++ None ∷ []) (t + given)).outcome → 2 * (n - after) + weight answer < 2 * (n - t) + 1
      by turned.Ended low high all out = omega (arith, low, high)
      by (turned.Trapped trap) low high all out = omega (arith, low, high)
      by turned.Stopped low high all out = omega (arith, low, high)
      by turned.NoMemory low high all out = omega (arith, low, high)
      by turned.NeedsLine low high all out =
          let apart = fed_on s text lines n t given le is needs all out in
          omega (arith, low, high, now, apart)

  pub falls : (old k : KernelState T) (n : ℕ) (a : Active M) (m fin : M) (answer : Turned) → (c : HasCome spoken state old k n turned.NeedsLine a) → state m ≡ line_given None (state a.machine) → HasTurned (state m) (n - (state m).turns) answer (state fin) → 2 * (n - (state fin).turns) + weight answer < 2 * (n - (state a.machine).turns) + 1
  falls old k n a m fin answer c same (given, all, out, after) =
      let s = c.stands in
      let t = (state a.machine).turns in
      let text = s.cell.request.code in
      let lines = s.cell.lines ++ s.cell.fresh in
      let at : (state m).turns ≡ t = ap (λ (x : MachineState S). x.turns) same in
      let goes_on : (j : ℕ) → (state m).goes (state m).lines j ≡ spoken.cell (session spoken k.log) text (lines ++ None ∷ []) j = λ j.
      ap (λ (x : MachineState S). x.goes x.lines j) same ∙ s.goes ((state a.machine).lines ++ None ∷ []) j
      ∙ ap (λ (ls : List Given). spoken.cell (session spoken k.log) text (ls ++ None ∷ []) j) s.lines in
      let come : (state m).goes (state m).lines ((state m).turns + given) ≡ spoken.cell (session spoken k.log) text (lines ++ None ∷ []) (t + given) =
      goes_on ((state m).turns + given) ∙ ap (λ (x : ℕ). spoken.cell (session spoken k.log) text (lines ++ None ∷ []) (x + given)) at in
      fed_falls answer (session spoken k.log) text lines n t given (state fin).turns s.within
      (c.here ∙ ap (λ (x : ℕ). (meaning spoken k.log s.cell x).turns) c.all)
      (ap (λ (x : ℕ). (meaning spoken k.log s.cell x).outcome) (sym c.all) ∙ c.outcome)
      (subst (λ (x : ℕ). IsGiven answer (n - x) given) at all)
      (subst (λ (p : Meaning S). OutcomeIs answer p.outcome) come out)
      (ap (λ (x : MachineState S). x.turns) after ∙ ap (λ (p : Meaning S). p.turns) come)

  -- what is flushed is what the cell wrote
  pub flushed_as : (old k mid : KernelState T) (n used : ℕ) (answer : Turned) (a : Active M) (text : List ℕ) → (c : HasCome spoken state old k n answer a) → used ≡ (state a.machine).turns → text ≡ unshown (state a.machine) → mid ≡ flushed answer a.read a.at used text k → mid ≡ written_out spoken answer c.stands.cell c.turns k
  flushed_as old k mid n used answer a text c u t e =
      let s = c.stands in
      let words : text ≡ written spoken k.log s.cell c.turns = t
      ∙ ap (λ (shown : ℕ). drop shown (here (state a.machine)).output) s.shown
      ∙ ap (λ (p : Meaning S). drop (length (stood spoken k.log s.cell).output) p.output) (stood_at old k n answer a c) in
      e ∙ ap (λ (r : Bool). flushed answer r a.at used text k) s.read ∙ ap (λ (at : ℕ). flushed answer (has_lines s.cell.fresh) at used text k) s.of.at
      ∙ ap (λ (x : ℕ). flushed answer (has_lines s.cell.fresh) s.cell.at x text k) (u ∙ c.here)
      ∙ ap (λ (words : List ℕ). flushed answer (has_lines s.cell.fresh) s.cell.at (meaning spoken k.log s.cell c.turns).turns words k) words

  -- the same for an answer that is known, a log with more room, and a call that succeeded
  known : (old k : KernelState T) (n : ℕ) (a : Active M) (answer : Turned) → answer ≡ turned.NeedsLine → HasCome spoken state old k n answer a → HasCome spoken state old k n turned.NeedsLine a
  known old k n a answer e h = subst (λ (x : Turned). HasCome spoken state old k n x a) e h

  pub next_work : {E : Type 0} (old k got mid : KernelState T) (n : ℕ) (a : Active M) (m : M) (answer : Turned) (r : Result (Unit {0}) E) → answer ≡ turned.NeedsLine → HasCome spoken state old k n answer a → may_ask a k.log ≡ false → got ≡ k → mid ≡ noted a.at (Line None) got → IsOk r → OnOk r (state m ≡ line_given None (state a.machine)) → IsAtWork spoken state old mid n (record a { wants = wants.Nothing; read = true; machine = m })
  next_work old k got mid n a m answer r e h may g marked good same =
      goes_without old k mid n a m (known old k n a answer e h) may (marked ∙ ap (noted a.at (Line None)) g) (is_ok _ r good same)

  pub next_falls : {E : Type 0} (old k : KernelState T) (n : ℕ) (a : Active M) (m fin : M) (answer next : Turned) (r : Result (Unit {0}) E) → answer ≡ turned.NeedsLine → HasCome spoken state old k n answer a → IsOk r → OnOk r (state m ≡ line_given None (state a.machine)) → HasTurned (state m) (n - (state m).turns) next (state fin) → 2 * (n - (state fin).turns) + weight next < 2 * (n - (state a.machine).turns) + weight answer
  next_falls old k n a m fin answer next r e h good same t =
      subst (λ (x : Turned). 2 * (n - (state fin).turns) + weight next < 2 * (n - (state a.machine).turns) + weight x) (sym e)
      (falls old k n a m fin next (known old k n a answer e h) (is_ok _ r good same) t)

  pub is_stuck : (old k got : KernelState T) (n : ℕ) (a : Active M) (answer : Turned) → answer ≡ turned.NeedsLine → HasCome spoken state old k n answer a → may_ask a k.log ≡ false → got ≡ k → HasStuck spoken state old got n a
  is_stuck old k got n a answer e h may g =
      let come_so = known old k n a answer e h in
      subst (λ (j : KernelState T). HasStuck spoken state old j n a) (sym g) (come_so, lineless k.log come_so.stands.cell a come_so.stands.of may)
