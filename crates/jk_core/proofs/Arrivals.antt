-- What stands beside the script after an arrival.
use Rattle.std.proofs.Common.{cond, ◌≡◌, ℕ, ◌+◌, ◌≤◌, Bool, true, false, List, [], ◌∷◌, ◌++◌, length, refl, sym, ◌∙◌, ap, subst, Option, None, Some}
use Rattle.std.specs.Prelude.{◌&&◌, ◌==◌, not}
use Rattle.jk_language.specs.Parts.{Line as AsLine}
use Rattle.jk_language.specs.MachineState.{MachineState}
use Rattle.jk_language.specs.Spoken.{Spoken, IsLanguage}
use Rattle.jk_log.specs.declared.arrival.Arrival.{Arrival}
use Rattle.jk_log.specs.declared.arrival.Sort.{Sort}
use Rattle.jk_log.specs.declared.arrival.Sort.TheVariants as sort
use Rattle.jk_log.specs.Asked.{input_in, sort_as}
use Rattle.jk_core.specs.declared.desk.Active.{Active}
use Rattle.jk_core.specs.declared.desk.Wants.{Wants}
use Rattle.jk_core.specs.declared.desk.Wants.TheVariants as wants
use Rattle.jk_core.specs.declared.desk.Place.{Place}
use Rattle.jk_core.specs.declared.desk.Place.TheVariants.{Resting, Running as Runs}
use Rattle.jk_core.specs.declared.desk.Desk.{Desk}
use Rattle.jk_log.specs.declared.mark.Item.TheVariants.{Took, Marked}
use Rattle.jk_log.specs.declared.mark.Kind.TheVariants.{Interrupt, Join, KernelInfo, Leave, Line, Restart}
use Rattle.jp_msg.specs.declared.message.Completeness.{Completeness}
use Rattle.jk_log.specs.declared.mark.Cause.{Cause}
use Rattle.jk_log.specs.declared.mark.Cause.TheVariants as cause
use Rattle.jk_log.proofs.Logs.{arrival_newest}
use Rattle.jk_log.specs.Log.{Log, Running, arrivals, arrival_at, option_at, running, running_with, session, count as count_of, option_with, lined, unread, left, asker, asked_of}
use Rattle.jk_core.specs.State.{KernelState}
use Rattle.jk_core.specs.Steps.{aborting, answered, given_to, noted, shut, stops_with, took, stopped, taken}
use Rattle.jk_core.specs.Kept.{CanStop, HoldsAt, IsHeld, IsKept, IsLineBy, IsLineFor, IsRunBy, IsWanting, RunsBy, Stands, StandsFor, WantsAt, line_to, lined_up, marked_as}
use Rattle.jk_core.proofs.Keeps.{idle_fails, lined_runs, runs_as, some_same}
use Rattle.jk_core.proofs.Desks.{no_given, wants_grows}
use Rattle.jk_core.proofs.Turns.{has_more}
use Rattle.jk_core.proofs.Needed.{none_some}
use Rattle.jk_core.specs.Needed.{handed_back}
use Rattle.jk_core.proofs.Orders.{waits_few}

-- the cell that asks a seat
asking_cell : (seat at : ℕ) (log : Log) → asker seat log ≡ Some at → (r : Running) × (running log ≡ Some r) × (r.asked ≡ true) × (r.at ≡ at)
asking_cell seat at log e = by (running log) refl e
  where
    some_by : (b : Bool) (r : Running) → cond b (Some r.at) None ≡ Some at → (b ≡ true) × (r.at ≡ at)
    some_by true r e = (refl, some_same r.at at e)
    some_by false r e = cc

    first_true : (b c d : Bool) → (b && c) && d ≡ true → b ≡ true
    first_true true c d e = refl
    first_true false c d e = e

    by : (o : Option Running) → running log ≡ o → option_at (asked_of seat log) o ≡ Some at → (r : Running) × (running log ≡ Some r) × (r.asked ≡ true) × (r.at ≡ at)
    by None is f = cc
    by (Some r) is f =
        let both = some_by (r.asked && r.seat == seat && not (left r.seat r.at log)) r f in
        (r, is, first_true r.asked (r.seat == seat) (not (left r.seat r.at log)) both.0, both.1)

-- the line that arrived is one for the cell that asks
line_as : (line : Option (List ℕ)) (ask : Option ℕ) (seat : ℕ) (a : Arrival) (log : Log) (next : Log) → asker seat log ≡ ask → running next ≡ running log → input_in a.what ≡ line → IsLineFor next a (line_to line ask)
line_as None ask seat a log next e same there = tt
line_as (Some text) None seat a log next e same there = tt
line_as (Some text) (Some at) seat a log next e same there =
    let cell = asking_cell seat at log e in
    (cell.0, same ∙ cell.1, cell.2, there)

module _ {S T M : Type 0} (spoken : Spoken S T) (laws : IsLanguage spoken) (state : M → MachineState S) where
  -- an arrival that stops no cell changes nothing beside the script
  took_same : (status : Option Completeness) (a : Arrival) (k : KernelState T) (d : Desk S M) → running (took status a k).log ≡ running k.log → Stands spoken state k d → Stands spoken state (took status a k) d
  took_same status a k d same h = record {
    count = h.count;
    place = subst (λ (o : Option Running). HoldsAt spoken state (session spoken k.log) o k.ran d.place) (sym same) h.place;
    wants = subst (λ (o : Option Running). WantsAt state (Took a ∷ k.log) o d.place) (sym same) (wants_grows spoken laws state k.log (Took a) (running k.log) d.place h.wants);
  }

  -- what an interrupt finds can be stopped
  unread_holds : (session : S) (o : Option Running) (ran : ℕ) (p : Place S M) → HoldsAt spoken state session o ran p → HoldsAt spoken state session (option_with unread o) ran p
  unread_holds session o ran (Resting s) (idle, is) = (ap (option_with unread) idle, is)
  unread_holds session o ran (Runs a) h = record {
    cell = unread h.cell;
    runs = ap (option_with unread) h.runs;
    of = (let of = h.of in record { at = of.at; seat = of.seat; stops = of.stops; allows = of.allows });
    machine = (let m = h.machine in record { goes = m.goes; shown = m.shown; used = m.used; on = m.on });
    turns = h.turns;
    onward = h.onward;
    lines = h.lines;
  }

  unread_fresh : (o : Option Running) (session : S) (ran : ℕ) → ((r : Running) → o ≡ Some r → IsHeld spoken session r ran) → (q : Running) → option_with unread o ≡ Some q → q.fresh ≡ []
  unread_fresh None session ran goes q e = no_given None q _ refl e
  unread_fresh (Some r) session ran goes q e = subst (λ (q : Running). q.fresh ≡ []) (some_same (unread r) q e) (goes r refl).texts

  can_stop : (status : Option Completeness) (a : Arrival) (k : KernelState T) (d : Desk S M) → running (took status a k).log ≡ option_with unread (running k.log) → IsKept spoken k → Stands spoken state k d → CanStop spoken state (took status a k) d
  can_stop status a k d runs kept h = record {
    count = h.count;
    place = subst (λ (o : Option Running). HoldsAt spoken state (session spoken k.log) o k.ran d.place) (sym runs) (unread_holds (session spoken k.log) (running k.log) k.ran d.place h.place);
    read = λ r f. unread_fresh (running k.log) (session spoken k.log) k.ran kept.goes r (sym runs ∙ f);
  }

  -- the mark of an interrupt changes nothing of what can be stopped
  pub stops_marked : (place : ℕ) (k new : KernelState T) (d : Desk S M) → new ≡ noted place Interrupt k → CanStop spoken state k d → CanStop spoken state new d
  stops_marked place k new d e h = subst (λ (k : KernelState T). CanStop spoken state k d) (sym e) (record { count = h.count; place = h.place; read = h.read })

  asks_of : (w : Wants) (log : Log) (r : Running) (m : MachineState S) → IsWanting log w r m → r.asked ≡ true → (r.fresh ≡ []) × (m.asks ≡ true)
  asks_of wants.Nothing log r m h asked = false_true _ (sym h.0 ∙ asked)
    where
      false_true : (P : Type 0) → false ≡ true → P
      false_true P e = cc
  asks_of wants.Asked log r m h asked = (h.1, h.2)
  asks_of (wants.Given place) log r m h asked = false_true _ (sym h.0 ∙ asked)
    where
      false_true : (P : Type 0) → false ≡ true → P
      false_true P e = cc

  -- a cell that was given its line, which its machine was not given yet
  pub give_stands : (k new : KernelState T) (d : Desk S M) (a : Active M) (b : Arrival) (text : List ℕ) → d.count ≡ count_of k.log → RunsBy spoken state k a → IsLineFor k.log b (Some text) → new ≡ noted a.at (Line (Some text)) k → Stands spoken state new (record d { place = Runs (record a { wants = wants.Given b; read = true }) })
  give_stands k new d a b text counted h (q, runs, asked, there) e =
      let r = h.runs.cell in
      let same : h.wants.0 ≡ r = some_same h.wants.0 r (sym h.wants.1 ∙ h.runs.runs) in
      let mine : q ≡ r = some_same q r (sym runs ∙ h.runs.runs) in
      let want = asks_of a.wants k.log r (state a.machine) (subst (λ (q : Running). IsWanting k.log a.wants q (state a.machine)) same h.wants.3) (ap (λ (q : Running). q.asked) (sym mine) ∙ asked) in
      let fresh : r.fresh ++ Some text ∷ [] ≡ Some text ∷ [] = ap (λ (ls : List AsLine). ls ++ Some text ∷ []) want.0 in
      let now = lined_runs (running k.log) r (Some text) h.runs.runs in
      let now_reads = record a { wants = wants.Given b; read = true } in
      subst (λ (k : KernelState T). Stands spoken state k (record d { place = Runs now_reads })) (sym e) (record {
        count = counted;
        place = record {
          cell = lined (Some text) r;
          runs = now;
          of = (let of = h.runs.of in record { at = of.at; seat = of.seat; stops = of.stops; allows = of.allows });
          machine = (let m = h.runs.machine in record { goes = m.goes; shown = m.shown; used = m.used; on = m.on });
          turns = h.runs.turns;
          onward = h.runs.onward;
          lines = h.runs.lines;
        };
        wants = (lined (Some text) r, now, has_more r.fresh (Some text), (refl, want.1, text, there, fresh));
      })

  took_quiet : (status : Option Completeness) (s : Sort) (a : Arrival) (k : KernelState T) (d : Desk S M) → s ≡ sort_as a.what → running_with s (running k.log) ≡ running k.log → Stands spoken state k d → Stands spoken state (took status a k) d
  took_quiet status s a k d is same h = took_same status a k d (runs_as spoken laws status s a k (sym is) ∙ same) h

  -- what stands where an arrival was taken
  stands_for : (status : Option Completeness) (s : Sort) (a : Arrival) (k : KernelState T) (d : Desk S M) → s ≡ sort_as a.what → IsKept spoken k → Stands spoken state k d → StandsFor spoken state s (took status a k) d
  stands_for status sort.Join a k d is kept h = took_quiet status sort.Join a k d is refl h
  stands_for status sort.Leave a k d is kept h = took_quiet status sort.Leave a k d is refl h
  stands_for status sort.Execute a k d is kept h = took_quiet status sort.Execute a k d is refl h
  stands_for status sort.Query a k d is kept h = took_quiet status sort.Query a k d is refl h
  stands_for status sort.Input a k d is kept h = took_quiet status sort.Input a k d is refl h
  stands_for status sort.KernelInfo a k d is kept h = took_quiet status sort.KernelInfo a k d is refl h
  stands_for status sort.Other a k d is kept h = took_quiet status sort.Other a k d is refl h
  stands_for status sort.Interrupt a k d is kept h = can_stop status a k d (runs_as spoken laws status sort.Interrupt a k (sym is)) kept h
  stands_for status (sort.Shutdown restart) a k d is kept h = can_stop status a k d (runs_as spoken laws status (sort.Shutdown restart) a k (sym is)) kept h

  pub took_stands : (status : Option Completeness) (s : Sort) (a : Arrival) (old got mid : KernelState T) (d : Desk S M) → s ≡ sort_as a.what → got ≡ old → mid ≡ took status a got → IsKept spoken old → Stands spoken state old d → StandsFor spoken state s mid d
  took_stands status s a old got mid d is g t kept h =
      subst (λ (k : KernelState T). StandsFor spoken state s k d) (sym (t ∙ ap (took status a) g)) (stands_for status s a old d is kept h)

  -- a mark for an arrival that stops no cell changes nothing beside the script
  pub joined_stands : (place : ℕ) (k new : KernelState T) (d : Desk S M) → new ≡ noted place Join k → Stands spoken state k d → Stands spoken state new d
  joined_stands place k new d e h = subst (λ (k : KernelState T). Stands spoken state k d) (sym e)
      (record { count = h.count; place = h.place; wants = wants_grows spoken laws state k.log (Marked (record { at = place; kind = Join })) (running k.log) d.place h.wants })

  pub left_stands : (place : ℕ) (k new : KernelState T) (d : Desk S M) → new ≡ noted place Leave k → Stands spoken state k d → Stands spoken state new d
  left_stands place k new d e h = subst (λ (k : KernelState T). Stands spoken state k d) (sym e)
      (record { count = h.count; place = h.place; wants = wants_grows spoken laws state k.log (Marked (record { at = place; kind = Leave })) (running k.log) d.place h.wants })

  pub info_stands : (place : ℕ) (k new : KernelState T) (d : Desk S M) → new ≡ noted place KernelInfo k → Stands spoken state k d → Stands spoken state new d
  info_stands place k new d e h = subst (λ (k : KernelState T). Stands spoken state k d) (sym e)
      (record { count = h.count; place = h.place; wants = wants_grows spoken laws state k.log (Marked (record { at = place; kind = KernelInfo })) (running k.log) d.place h.wants })

  -- whether the error of the cell that runs aborts what waits
  pub stops_of : (session : S) (o : Option Running) (ran : ℕ) (a : Active M) → IsRunBy spoken state session o ran a → a.stops ≡ stops_with o
  stops_of session o ran a h = h.of.stops ∙ ap stops_with (sym h.runs)

  stopped_idle : (why : Cause) (o : Option Running) (k : KernelState T) → running k.log ≡ o → running (stopped why o k).log ≡ None
  stopped_idle why None k e = e
  stopped_idle why (Some r) k e = refl

  -- after a shutdown
  pub shut_stands : (old mid over new : KernelState T) (d : Desk S M) (place : ℕ) (restart : Bool) (s : S) → mid ≡ stopped cause.Restarted (running old.log) old → over ≡ aborting mid.waits mid → new ≡ noted place (Restart restart) over → s ≡ spoken.opening → Stands spoken state new (record d { count = 0; place = Resting s })
  shut_stands old mid over new d place restart s m a e opens =
      let idle : running mid.log ≡ None = ap (λ (k : KernelState T). running k.log) m ∙ stopped_idle cause.Restarted (running old.log) old refl in
      let none : running over.log ≡ None = ap (λ (k : KernelState T). running k.log) a ∙ idle_fails true mid idle in
      subst (λ (k : KernelState T). Stands spoken state k (record d { count = 0; place = Resting s })) (sym e) (record { count = refl; place = (none, opens); wants = tt })

module _ {T : Type 0} where
  -- an arrival adds at most one to what waits
  pub took_few : (status : Option Completeness) (a : Arrival) (old got mid : KernelState T) → got ≡ old → mid ≡ took status a got → length mid.waits ≤ length old.waits + 1
  took_few status a old got mid g t =
      subst (λ (k : KernelState T). length k.waits ≤ length old.waits + 1) (sym (t ∙ ap (took status a) g)) (waits_few status (sort_as a.what) (length old.log) (arrivals old.log + 1) old.waits)

  -- what a shutdown comes to
  pub shut_as : (old mid over new : KernelState T) (place : ℕ) (restart : Bool) → mid ≡ stopped cause.Restarted (running old.log) old → mid.waits ≡ old.waits → over ≡ aborting mid.waits mid → new ≡ noted place (Restart restart) over → new ≡ shut place restart (running old.log) old
  shut_as old mid over new place restart m w a e =
      e ∙ ap (noted place (Restart restart)) (a ∙ ap (λ (ws : List _). aborting ws mid) w ∙ ap (aborting old.waits) m)

  lined_as : (line : Option (List ℕ)) (ask : Option ℕ) (seat : ℕ) (log : Log) (k : KernelState T) → asker seat log ≡ ask → running k.log ≡ running log → lined_up (line_to line ask) (running k.log) k ≡ given_to line ask k
  lined_as None ask seat log k e same = refl
  lined_as (Some text) None seat log k e same = refl
  lined_as (Some text) (Some at) seat log k e same =
      let cell = asking_cell seat at log e in
      ap (λ (o : Option Running). lined_up (Some text) o k) (same ∙ cell.1) ∙ ap (λ (n : ℕ). noted n (Line (Some text)) k) cell.3

module _ {S T : Type 0} (spoken : Spoken S T) (laws : IsLanguage spoken) where
  -- the marks of an arrival, by its sort
  as_answered : (status : Option Completeness) (s : Sort) (a : Arrival) (k : KernelState T) → s ≡ sort_as a.what → marked_as s (length k.log) (line_to (input_in a.what) (asker a.seat k.log)) (took status a k) ≡ answered s a k.log (took status a k)
  as_answered status sort.Join a k is = refl
  as_answered status sort.Leave a k is = refl
  as_answered status sort.Execute a k is = refl
  as_answered status sort.Query a k is = refl
  as_answered status sort.Interrupt a k is = refl
  as_answered status sort.KernelInfo a k is = refl
  as_answered status (sort.Shutdown restart) a k is = refl
  as_answered status sort.Other a k is = refl
  as_answered status sort.Input a k is =
      lined_as (input_in a.what) (asker a.seat k.log) a.seat k.log (took status a k) refl (runs_as spoken laws status sort.Input a k (sym is))

  pub marked_taken : (status : Option Completeness) (s : Sort) (a : Arrival) (place : ℕ) (line : Option (List ℕ)) (old got mid new : KernelState T) → s ≡ sort_as a.what → got ≡ old → mid ≡ took status a got → place ≡ length got.log → line ≡ line_to (input_in a.what) (asker a.seat got.log) → new ≡ marked_as s place line mid → new ≡ taken status a old
  marked_taken status s a place line old got mid new is g t at l e =
      e ∙ ap (marked_as s place line) t ∙ ap (λ (p : ℕ). marked_as s p line (took status a got)) at
      ∙ ap (λ (line : Option (List ℕ)). marked_as s (length got.log) line (took status a got)) l
      ∙ as_answered status s a got is ∙ ap (λ (s : Sort). answered s a got.log (took status a got)) is ∙ ap (taken status a) g

  line_by : (status : Option Completeness) (s : Sort) (a : Arrival) (k : KernelState T) → s ≡ sort_as a.what → IsLineBy s (took status a k).log a (line_to (input_in a.what) (asker a.seat k.log))
  line_by status sort.Input a k is =
      line_as (input_in a.what) (asker a.seat k.log) a.seat a k.log (Took a ∷ k.log) refl (runs_as spoken laws status sort.Input a k (sym is)) refl
  line_by status sort.Join a k is = tt
  line_by status sort.Leave a k is = tt
  line_by status sort.Execute a k is = tt
  line_by status sort.Query a k is = tt
  line_by status sort.Interrupt a k is = tt
  line_by status sort.KernelInfo a k is = tt
  line_by status (sort.Shutdown restart) a k is = tt
  line_by status sort.Other a k is = tt

  pub line_for : (status : Option Completeness) (s : Sort) (a : Arrival) (line : Option (List ℕ)) (got mid : KernelState T) → s ≡ sort_as a.what → mid ≡ took status a got → line ≡ line_to (input_in a.what) (asker a.seat got.log) → IsLineBy s mid.log a line
  line_for status s a line got mid is t l =
      subst (λ (k : KernelState T). IsLineBy s k.log a line) (sym t) (subst (IsLineBy s (Took a ∷ got.log) a) (sym l) (line_by status s a got is))

  -- an arrival that waits is not marked
  pub waits_marked : (s : Sort) (a : Arrival) (place : ℕ) (line : Option (List ℕ)) (k : KernelState T) → None ≡ handed_back s a → k ≡ marked_as s place line k
  waits_marked sort.Execute a place line k e = refl
  waits_marked sort.Query a place line k e = refl
  waits_marked sort.Other a place line k e = refl
  waits_marked sort.Join a place line k e = none_some a _ e
  waits_marked sort.Leave a place line k e = none_some a _ e
  waits_marked sort.Input a place line k e = none_some a _ e
  waits_marked sort.Interrupt a place line k e = none_some a _ e
  waits_marked sort.KernelInfo a place line k e = none_some a _ e
  waits_marked (sort.Shutdown restart) a place line k e = none_some a _ e

  -- one that is handed back is the one that was taken
  pub same_back : (s : Sort) (a b : Arrival) → Some b ≡ handed_back s a → b ≡ a
  same_back sort.Execute a b e = none_some b _ (sym e)
  same_back sort.Query a b e = none_some b _ (sym e)
  same_back sort.Other a b e = some_same b a e
  same_back sort.Join a b e = some_same b a e
  same_back sort.Leave a b e = some_same b a e
  same_back sort.Input a b e = some_same b a e
  same_back sort.Interrupt a b e = some_same b a e
  same_back sort.KernelInfo a b e = some_same b a e
  same_back (sort.Shutdown restart) a b e = some_same b a e

  -- what stands beside the script where an arrival waits
  pub waits_stand : {M : Type 0} (state : M → MachineState S) (s : Sort) (a : Arrival) (k : KernelState T) (d : Desk S M) → None ≡ handed_back s a → StandsFor spoken state s k d → Stands spoken state k d
  waits_stand state sort.Execute a k d e h = h
  waits_stand state sort.Query a k d e h = h
  waits_stand state sort.Other a k d e h = h
  waits_stand state sort.Join a k d e h = h
  waits_stand state sort.Leave a k d e h = h
  waits_stand state sort.Input a k d e h = h
  waits_stand state sort.KernelInfo a k d e h = h
  waits_stand state sort.Interrupt a k d e h = none_some a _ e
  waits_stand state (sort.Shutdown restart) a k d e h = none_some a _ e

-- what was just taken stands at its place
pub there_new : {T : Type 0} (status : Option Completeness) (a b : Arrival) (place : ℕ) (got mid : KernelState T) → mid ≡ took status a got → place ≡ length got.log → b ≡ a → arrival_at place mid.log ≡ Some b
there_new status a b place got mid t at same =
    ap (λ (k : KernelState _). arrival_at place k.log) t ∙ ap (λ (p : ℕ). arrival_at p (Took a ∷ got.log)) at ∙ arrival_newest got.log a ∙ ap (λ (x : Arrival). Some x) (sym same)
