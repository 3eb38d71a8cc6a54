-- A cell asks at most once at one number of turns.
use Rattle.std.proofs.Common.{◌≡◌, ◌≢◌, ◌⊎◌, ℕ, ◌≤◌, Bool, true, false, cond, List, [], ◌∷◌, ◌++◌, length, drop, refl, sym, ◌∙◌, ap, subst, append_assoc, arith, Option, None, Some, inl, inr, eqb, eq-eqb}
use Rattle.std.proofs.lemmas.List.{append-nil}
use Rattle.std.proofs.lemmas.Option.{none-some, same_Some}
use Rattle.std.proofs.lemmas.Bool.{eqb-true}
use Rattle.jk_language.specs.declared.outcome.Outcome.TheVariants as outcome
use Rattle.jk_language.specs.Parts.{Line as Given, Meaning}
use Rattle.jk_language.specs.Spoken.{Spoken, IsLanguage}
use Rattle.jp_msg.specs.declared.message.Execute.{Execute}
use Rattle.jk_log.specs.declared.arrival.Arrival.{Arrival}
use Rattle.jk_log.specs.declared.mark.Item.{Item}
use Rattle.jk_log.specs.declared.mark.Item.TheVariants.{Took, Marked}
use Rattle.jk_log.specs.declared.mark.Mark.{Mark}
use Rattle.jk_log.specs.declared.mark.Kind.{Kind}
use Rattle.jk_log.specs.declared.mark.Kind.TheVariants.{Begin, Flush, Ask, Line, End, Stop, Answer, Interrupt, Restart}
use Rattle.jk_log.specs.declared.mark.Cause.{Cause}
use Rattle.jk_log.specs.declared.mark.Cause.TheVariants.{Interrupted, Restarted}
use Rattle.jk_log.specs.Asked.{sort_as}
use Rattle.jk_log.specs.Log.{Log, Running, left, running, running_with, seat_at, session, meaning, stood, execute_at, option_with, opened, flushed_at, asking, lined, unread}
use Rattle.jk_log.specs.Legal.{Due, MarkDue, AnswerDue, FlushDue, StopDue, IsForced, EachFollows, MayMark, MayCome, Asks, JustFlushed, owed, dues_of, ends_due, waiting_dues}
use Rattle.jk_log.proofs.Logs.{by_sort}
use Rattle.jk_world.specs.Cells.{begun_in, last_turns, interrupts}
use Rattle.jk_world.specs.Order.{AllBelow, IsFalling}
use Rattle.jk_world.specs.Input.{asks_at, AsksAreAllowed, IsAllowed, IsInputRight}
use Rattle.jk_world.proofs.Dues.{restart_idle}
use Rattle.jk_world.proofs.Basics.{no_run, cond_same}
use Rattle.jk_world.proofs.Ordered.{below_less}
use Rattle.jk_world.proofs.Once.{answers_first, just_flush}
use Rattle.jk_world.proofs.Streams.{flush_may, begun_run, first_not_begun, run_took, running_took, runs_asked, IsCell, cell_told}
use Rattle.jk_world.proofs.Lines.{line_runs}
use Rattle.jk_world.proofs.Texts.{runs_seat, texts_sent}

-- the cell that runs is to be stopped
abbrev IsStopping : List Due → Type 0
IsStopping [] = ⊥
IsStopping (StopDue cause ∷ ds) = Unit {0}
IsStopping (FlushDue ∷ ds) = IsStopping ds
IsStopping (MarkDue at kind ∷ ds) = IsStopping ds
IsStopping (AnswerDue at ∷ ds) = IsStopping ds

stopping_append : (ds es : List Due) → IsStopping ds → IsStopping (ds ++ es)
stopping_append [] es h = absurd h
stopping_append (StopDue cause ∷ ds) es h = tt
stopping_append (FlushDue ∷ ds) es h = stopping_append ds es h
stopping_append (MarkDue at kind ∷ ds) es h = stopping_append ds es h
stopping_append (AnswerDue at ∷ ds) es h = stopping_append ds es h

-- a mark that stops no cell
abbrev IsNoStop : Kind → Type 0
IsNoStop (Stop turns cause n) = ⊥
IsNoStop other = Unit {0}

module _ {S T : Type 0} (spoken : Spoken S T) where
  -- while a cell is to be stopped, only its stop changes that
  stopping_goes : (past : Log) (ds es : List Due) (at : ℕ) (kind : Kind) → IsNoStop kind → MayMark spoken past ds (record { at = at; kind = kind }) → IsStopping ds → IsStopping (drop 1 ds ++ es)
  stopping_goes past [] es at kind other may h = absurd h
  stopping_goes past (StopDue cause ∷ ds) es at kind other (t, n, e, rest) h = absurd (subst IsNoStop e other)
  stopping_goes past (FlushDue ∷ ds) es at kind other may h = stopping_append ds es h
  stopping_goes past (MarkDue a due ∷ ds) es at kind other may h = stopping_append ds es h
  stopping_goes past (AnswerDue a ∷ ds) es at kind other may h = stopping_append ds es h

  -- a question comes only where nothing is owed
  pub ask_may : (past : Log) (ds : List Due) (at : ℕ) → MayMark spoken past ds (record { at = at; kind = Ask }) → MayCome spoken past at Ask × (ds ≡ [])
  ask_may past [] at may = (may, refl)
  ask_may past (MarkDue a due ∷ ds) at (same, forced) = absurd (subst IsForced (sym (ap (λ (m : Mark). m.kind) same)) forced)
  ask_may past (AnswerDue a ∷ ds) at (status, same, right) = let k : Ask ≡ Answer status = ap (λ (m : Mark). m.kind) same in cc
  ask_may past (FlushDue ∷ ds) at may = absurd may.0
  ask_may past (StopDue cause ∷ ds) at (t, n, e, rest) = cc

  -- a cell that asked where it stands has no line yet, or needs none there
  abbrev Waits : Log → Running → Type 0
  Waits log r =
      ((r.asked ≡ true) × ((meaning spoken log r r.turns).outcome ≡ outcome.NeedsLine) × ((meaning spoken log r r.turns).turns ≡ r.turns))
      ⊎ ((meaning spoken log r r.turns).outcome ≢ outcome.NeedsLine)

  -- the cell that runs asked at fewer turns alone, or last where it stands
  abbrev HasAsked : Log → Running → List ℕ → Type 0
  HasAsked log r ns = AllBelow r.turns ns ⊎ ((rest : List ℕ) × (ns ≡ r.turns ∷ rest) × AllBelow r.turns rest × Waits log r)

  record IsAsked (log : Log) : Type 0 where
    quiet : (at : ℕ) → begun_in spoken at log ≡ None → asks_at at log ≡ []
    falls : (at : ℕ) → IsFalling (asks_at at log)
    used : (r : Running) → running log ≡ Some r → (stood spoken log r).turns ≡ r.turns
    runs : (r : Running) → running log ≡ Some r → IsStopping (owed log) ⊎ HasAsked log r (asks_at r.at log)

  -- an item with which no cell asks or begins
  others_asked : (past : Log) (i : Item) → ((p : ℕ) → asks_at p (i ∷ past) ≡ asks_at p past) → ((p : ℕ) → begun_in spoken p (i ∷ past) ≡ begun_in spoken p past) → ((r : Running) → running (i ∷ past) ≡ Some r → (stood spoken (i ∷ past) r).turns ≡ r.turns) → ((r : Running) → running (i ∷ past) ≡ Some r → IsStopping (owed (i ∷ past)) ⊎ HasAsked (i ∷ past) r (asks_at r.at past)) → IsAsked past → IsAsked (i ∷ past)
  others_asked past i asks begun used runs h = record {
    quiet = λ p e. asks p ∙ h.quiet p (sym (begun p) ∙ e);
    falls = λ p. subst IsFalling (sym (asks p)) (h.falls p);
    used = used;
    runs = λ r e. subst (λ (ns : List ℕ). IsStopping (owed (i ∷ past)) ⊎ HasAsked (i ∷ past) r ns) (sym (asks r.at)) (runs r e);
  }

  -- what was known, of the cell that runs then
  asked_as : (log : Log) (q r : Running) → q ≡ r → IsStopping (owed log) ⊎ HasAsked log q (asks_at q.at log) → IsStopping (owed log) ⊎ HasAsked log r (asks_at r.at log)
  asked_as log q r e h = subst (λ (r : Running). IsStopping (owed log) ⊎ HasAsked log r (asks_at r.at log)) e h

  -- the cell that runs was flushed where it stands
  fresh_none : (past : Log) (r : Running) → JustFlushed past → running past ≡ Some r → r.fresh ≡ []
  fresh_none [] r just runs = absurd just
  fresh_none (Took a ∷ past) r just runs = absurd just
  fresh_none (Marked m ∷ past) r just runs =
      let f = just_flush m.kind just in
      by_change f.0 (running past) (subst (λ (k : Kind). running (Marked (record { at = m.at; kind = k }) ∷ past) ≡ Some r) f.2 runs)
    where
      by_change : (turns : ℕ) (o : Option Running) → option_with (flushed_at turns) o ≡ Some r → r.fresh ≡ []
      by_change turns None e = absurd (none-some r e)
      by_change turns (Some q) e = sym (ap (λ (r : Running). r.fresh) (same_Some (flushed_at turns q) r e))

  stood_here : (log : Log) (r : Running) → r.fresh ≡ [] → meaning spoken log r r.turns ≡ stood spoken log r
  stood_here log r none = ap (λ (ls : List Given). spoken.cell (session spoken log) r.request.code ls r.turns) (ap (λ (ls : List Given). r.lines ++ ls) none ∙ append-nil r.lines)

  -- a flush at this number of turns
  flush_asked : (past : Log) (at turns : ℕ) (text : List ℕ) (q : Running) (ns : List ℕ) → q.turns ≤ turns → HasAsked past q ns → HasAsked (Marked (record { at = at; kind = Flush turns text }) ∷ past) (flushed_at turns q) ns
  flush_asked past at turns text q ns onward (inl below) = inl (below_less q.turns turns ns onward below)
  flush_asked past at turns text q ns onward (inr (rest, is, below, waits)) = by_turns (eqb q.turns turns) refl
    where
      log : Log
      log = Marked (record { at = at; kind = Flush turns text }) ∷ past

      same : q.turns ≡ turns → meaning spoken log (flushed_at turns q) turns ≡ meaning spoken past q q.turns
      same e =
          ap (λ (ls : List Given). spoken.cell (session spoken past) q.request.code ls turns) (append-nil (q.lines ++ q.fresh))
          ∙ ap (λ (n : ℕ). spoken.cell (session spoken past) q.request.code (q.lines ++ q.fresh) n) (sym e)

      waits_on : q.turns ≡ turns → Waits past q → Waits log (flushed_at turns q)
      waits_on e (inl (asked, needs, used)) =
          inl (asked, ap (λ (m : Meaning S). m.outcome) (same e) ∙ needs, ap (λ (m : Meaning S). m.turns) (same e) ∙ used ∙ e)
      waits_on e (inr other) = inr (λ needs. other (ap (λ (m : Meaning S). m.outcome) (sym (same e)) ∙ needs))

      by_turns : (b : Bool) → eqb q.turns turns ≡ b → HasAsked log (flushed_at turns q) ns
      by_turns true e =
          let equal : q.turns ≡ turns = eqb-true q.turns turns e in
          inr (rest, is ∙ ap (λ (n : ℕ). n ∷ rest) equal, below_less q.turns turns rest onward below, waits_on equal waits)
      by_turns false e =
          let apart : q.turns ≢ turns = λ same. (let one = eq-eqb q.turns turns same in cc) in
          inl (subst (AllBelow turns) (sym is) (omega (arith, onward, apart), below_less q.turns turns rest onward below))

module _ {S T : Type 0} (spoken : Spoken S T) (laws : IsLanguage spoken) where
  -- one more line
  line_asked : (past : Log) (at : ℕ) (line : Given) (q : Running) (ns : List ℕ) → HasAsked spoken past q ns → HasAsked spoken (Marked (record { at = at; kind = Line line }) ∷ past) (lined line q) ns
  line_asked past at line q ns (inl below) = inl below
  line_asked past at line q ns (inr (rest, is, below, waits)) = inr (rest, is, below, inr (needs_none waits))
    where
      one_more : meaning spoken past (lined line q) q.turns ≡ spoken.cell (session spoken past) q.request.code ((q.lines ++ q.fresh) ++ line ∷ []) q.turns
      one_more = ap (λ (ls : List Given). spoken.cell (session spoken past) q.request.code ls q.turns) (sym (append_assoc q.lines q.fresh (line ∷ [])))

      needs_none : Waits spoken past q → (meaning spoken past (lined line q) q.turns).outcome ≢ outcome.NeedsLine
      needs_none (inl (asked, needs, used)) = λ e.
          (laws.fed (session spoken past) q.request.code (q.lines ++ q.fresh) line).freed q.turns needs used (ap (λ (m : Meaning S). m.outcome) (sym one_more) ∙ e)
      needs_none (inr other) = λ e.
          other (ap (λ (m : Meaning S). m.outcome) (sym (one_more ∙ (laws.fed (session spoken past) q.request.code (q.lines ++ q.fresh) line).same q.turns other)) ∙ e)

  -- while nothing is owed no cell is to be stopped
  not_stopping : (log : Log) (r : Running) (ns : List ℕ) → owed log ≡ [] → IsStopping (owed log) ⊎ HasAsked spoken log r ns → HasAsked spoken log r ns
  not_stopping log r ns none (inl stops) = absurd (subst IsStopping none stops)
  not_stopping log r ns none (inr has) = has

  -- a cell that may ask asked at fewer turns alone
  may_ask : (past : Log) (r : Running) (ns : List ℕ) → r.asked ≡ false → (meaning spoken past r r.turns).outcome ≡ outcome.NeedsLine → HasAsked spoken past r ns → AllBelow r.turns ns
  may_ask past r ns free needs (inl below) = below
  may_ask past r ns free needs (inr (rest, is, below, inl (asked, same, used))) = cc
  may_ask past r ns free needs (inr (rest, is, below, inr other)) = absurd (other needs)

  ask_asked : (past : Log) (at : ℕ) (r : Running) → EachFollows spoken past → owed past ≡ [] → running past ≡ Some r → Asks spoken past r at → IsAsked spoken past → IsAsked spoken (Marked (record { at = at; kind = Ask }) ∷ past)
  ask_asked past at r each none runs asks h = record {
    quiet = λ p e. quiet_by (eqb at p) p refl (sym (cond_same (eqb at p) (begun_in spoken p past)) ∙ e);
    falls = λ p. falls_by (eqb at p) p refl;
    used = λ q e. subst (λ (q : Running). (stood spoken (Marked mark ∷ past) q).turns ≡ q.turns) (now q e) (h.used r runs);
    runs = λ q e. asked_as spoken (Marked mark ∷ past) (asking r) q (now q e) (inr (inr (asks_at r.at past, first, below, inl (refl, needs, ap (λ (m : Meaning S). m.turns) here ∙ h.used r runs))));
  }
    where
      mark : Mark
      mark = record { at = at; kind = Ask }

      cell : IsCell spoken past r
      cell = cell_told spoken laws past each r runs

      now : (q : Running) → running (Marked mark ∷ past) ≡ Some q → asking r ≡ q
      now q e = same_Some (asking r) q (sym (ap (option_with asking) runs) ∙ e)

      here : meaning spoken past r r.turns ≡ stood spoken past r
      here = stood_here spoken past r (fresh_none spoken past r asks.flushed runs)

      needs : (meaning spoken past r r.turns).outcome ≡ outcome.NeedsLine
      needs = ap (λ (m : Meaning S). m.outcome) here ∙ asks.outcome

      below : AllBelow r.turns (asks_at r.at past)
      below = may_ask past r (asks_at r.at past) asks.may.free needs (not_stopping past r (asks_at r.at past) none (h.runs r runs))

      first : asks_at r.at (Marked mark ∷ past) ≡ r.turns ∷ asks_at r.at past
      first =
          ap (λ (b : Bool). cond b (last_turns r.at past ∷ asks_at r.at past) (asks_at r.at past)) (eq-eqb at r.at asks.request)
          ∙ ap (λ (n : ℕ). n ∷ asks_at r.at past) cell.turns

      quiet_by : (b : Bool) (p : ℕ) → eqb at p ≡ b → begun_in spoken p past ≡ None → cond b (last_turns p past ∷ asks_at p past) (asks_at p past) ≡ []
      quiet_by true p e unbegun =
          let same : p ≡ r.at = sym (eqb-true at p e) ∙ asks.request in
          absurd (none-some (session spoken past) (sym unbegun ∙ ap (λ (p : ℕ). begun_in spoken p past) same ∙ cell.begun))
      quiet_by false p e unbegun = h.quiet p unbegun

      falls_by : (b : Bool) (p : ℕ) → eqb at p ≡ b → IsFalling (cond b (last_turns p past ∷ asks_at p past) (asks_at p past))
      falls_by true p e =
          let same : r.at ≡ p = sym asks.request ∙ eqb-true at p e in
          subst (λ (p : ℕ). IsFalling (last_turns p past ∷ asks_at p past)) same
          (subst (λ (n : ℕ). IsFalling (n ∷ asks_at r.at past)) (sym cell.turns) (below, h.falls r.at))
      falls_by false p e = h.falls p

  begin_asked : (past : Log) (at n : ℕ) → EachFollows spoken past → begun_in spoken at past ≡ None → IsAsked spoken past → IsAsked spoken (Marked (record { at = at; kind = Begin n }) ∷ past)
  begin_asked past at n each unbegun h = record {
    quiet = λ p e. cond_same (eqb at p) (asks_at p past) ∙ h.quiet p (quiet_by (eqb at p) p e);
    falls = λ p. subst IsFalling (sym (cond_same (eqb at p) (asks_at p past))) (h.falls p);
    used = λ r e. (
        let b = begun_run at (seat_at at past) (execute_at at past) r e in
        let few = (laws.lawful (session spoken past) b.0.code []).few 0 in
        subst (λ (r : Running). (stood spoken (Marked mark ∷ past) r).turns ≡ r.turns) b.2 (omega (arith, few))
        );
    runs = λ r e. (
        let b = begun_run at (seat_at at past) (execute_at at past) r e in
        asked_as spoken (Marked mark ∷ past) (opened at (seat_at at past) b.0) r b.2
        (inr (inl (subst (AllBelow 0) (sym (cond_same (eqb at at) (asks_at at past) ∙ h.quiet at unbegun)) tt)))
        );
  }
    where
      mark : Mark
      mark = record { at = at; kind = Begin n }

      quiet_by : (b : Bool) (p : ℕ) → cond b (Some (session spoken past)) (begun_in spoken p past) ≡ None → begun_in spoken p past ≡ None
      quiet_by true p e = absurd (none-some (session spoken past) (sym e))
      quiet_by false p e = e

  -- what is known after a mark that stops no cell
  goes_on : (past : Log) (at : ℕ) (kind : Kind) (q r : Running) → IsNoStop kind → MayMark spoken past (owed past) (record { at = at; kind = kind }) → (HasAsked spoken past q (asks_at q.at past) → HasAsked spoken (Marked (record { at = at; kind = kind }) ∷ past) r (asks_at r.at past)) → IsStopping (owed past) ⊎ HasAsked spoken past q (asks_at q.at past) → IsStopping (owed (Marked (record { at = at; kind = kind }) ∷ past)) ⊎ HasAsked spoken (Marked (record { at = at; kind = kind }) ∷ past) r (asks_at r.at past)
  goes_on past at kind q r other may on (inl stops) = inl (stopping_goes spoken past (owed past) _ at kind other may stops)
  goes_on past at kind q r other may on (inr has) = inr (on has)

  mark_asked : (past : Log) (at : ℕ) (kind : Kind) → EachFollows spoken past → MayMark spoken past (owed past) (record { at = at; kind = kind }) → IsAsked spoken past → IsAsked spoken (Marked (record { at = at; kind = kind }) ∷ past)
  mark_asked past at (Begin n) each may h =
      begin_asked past at n each (first_not_begun spoken past each at (answers_first spoken past at (Begin n) each may tt)) h
  mark_asked past at Ask each may h =
      let (asks, none) = ask_may spoken past (owed past) at may in
      ask_asked past at asks.0 each none asks.1 asks.2 h
  mark_asked past at (Flush turns text) each may h =
      let f = flush_may spoken past (owed past) at turns text may in
      let now : (r : Running) → running (Marked (record { at = at; kind = Flush turns text }) ∷ past) ≡ Some r → flushed_at turns f.0 ≡ r =
      λ r e. same_Some (flushed_at turns f.0) r (sym (ap (option_with (flushed_at turns)) f.1) ∙ e) in
      others_asked spoken past (Marked (record { at = at; kind = Flush turns text })) (λ p. cond_same (eqb at p) (asks_at p past)) (λ p. cond_same (eqb at p) (begun_in spoken p past))
      (λ r e. subst (λ (r : Running). (stood spoken (Marked (record { at = at; kind = Flush turns text }) ∷ past) r).turns ≡ r.turns) (now r e) f.2.used)
      (λ r e. subst (λ (r : Running). IsStopping (owed (Marked (record { at = at; kind = Flush turns text }) ∷ past)) ⊎ HasAsked spoken (Marked (record { at = at; kind = Flush turns text }) ∷ past) r (asks_at r.at past)) (now r e)
      (goes_on past at (Flush turns text) f.0 (flushed_at turns f.0) tt may (flush_asked spoken past at turns text f.0 (asks_at f.0.at past) f.2.onward) (h.runs f.0 f.1))) h
  mark_asked past at (Line line) each may h =
      let q = line_runs spoken past at line may in
      let now : (r : Running) → running (Marked (record { at = at; kind = Line line }) ∷ past) ≡ Some r → lined line q.0 ≡ r =
      λ r e. same_Some (lined line q.0) r (sym (ap (option_with (lined line)) q.1) ∙ e) in
      others_asked spoken past (Marked (record { at = at; kind = Line line })) (λ p. cond_same (eqb at p) (asks_at p past)) (λ p. cond_same (eqb at p) (begun_in spoken p past))
      (λ r e. subst (λ (r : Running). (stood spoken (Marked (record { at = at; kind = Line line }) ∷ past) r).turns ≡ r.turns) (now r e) (h.used q.0 q.1))
      (λ r e. subst (λ (r : Running). IsStopping (owed (Marked (record { at = at; kind = Line line }) ∷ past)) ⊎ HasAsked spoken (Marked (record { at = at; kind = Line line }) ∷ past) r (asks_at r.at past)) (now r e)
      (goes_on past at (Line line) q.0 (lined line q.0) tt may (line_asked past at line q.0 (asks_at q.0.at past)) (h.runs q.0 q.1))) h
  mark_asked past at (End ending n) each may h =
      others_asked spoken past (Marked (record { at = at; kind = End ending n })) (λ p. cond_same (eqb at p) (asks_at p past)) (λ p. cond_same (eqb at p) (begun_in spoken p past)) (λ r e. no_run r _ e) (λ r e. no_run r _ e) h
  mark_asked past at (Stop turns cause n) each may h =
      others_asked spoken past (Marked (record { at = at; kind = Stop turns cause n })) (λ p. cond_same (eqb at p) (asks_at p past)) (λ p. cond_same (eqb at p) (begun_in spoken p past)) (λ r e. no_run r _ e) (λ r e. no_run r _ e) h
  mark_asked past at (Restart restart) each may h =
      let idle = restart_idle spoken past at restart each may in
      others_asked spoken past (Marked (record { at = at; kind = Restart restart })) (λ p. cond_same (eqb at p) (asks_at p past)) (λ p. cond_same (eqb at p) (begun_in spoken p past)) (λ r e. no_run r _ (sym idle ∙ e)) (λ r e. no_run r _ (sym idle ∙ e)) h
  mark_asked past at other each may h =
      others_asked spoken past (Marked (record { at = at; kind = other })) (λ p. cond_same (eqb at p) (asks_at p past)) (λ p. cond_same (eqb at p) (begun_in spoken p past))
      (λ r e. h.used r e) (λ r e. goes_on past at other r r tt may (λ has. has) (h.runs r e)) h

  took_asked : (past : Log) (a : Arrival) → owed past ≡ [] → IsAsked spoken past → IsAsked spoken (Took a ∷ past)
  took_asked past a none h =
      others_asked spoken past (Took a) (λ p. refl) (λ p. refl) used
      (λ r e. by_sort (λ s. running_with s (running past) ≡ Some r → IsStopping (dues_of s a past) ⊎ HasAsked spoken (Took a ∷ past) r (asks_at r.at past))
      (λ e. inr (same r e)) (λ e. inr (same r e)) (λ e. inr (same r e)) (λ e. inr (same r e)) (λ e. inr (same r e)) (λ e. inl (stops Interrupted (running past) r e)) (λ e. inr (same r e))
      (λ restart. λ e. inl (stopping_append (ends_due Restarted (running past) ++ waiting_dues past) (MarkDue (length past) (Restart restart) ∷ []) (stopping_append (ends_due Restarted (running past)) (waiting_dues past) (stops Restarted (running past) r e))))
      (λ e. inr (same r e)) (sort_as a.what) e) h
    where
      same : (r : Running) → running past ≡ Some r → HasAsked spoken past r (asks_at r.at past)
      same r e = (not_stopping past r (asks_at r.at past) none (h.runs r e))

      stops : (cause : Cause) (o : Option Running) (r : Running) → option_with unread o ≡ Some r → IsStopping (ends_due cause o)
      stops cause None r e = absurd (none-some r e)
      stops cause (Some q) r e = tt

      used : (r : Running) → running (Took a ∷ past) ≡ Some r → (stood spoken (Took a ∷ past) r).turns ≡ r.turns
      used r e =
          let q = run_took (interrupts a.what) (running past) r (sym (running_took a (running past)) ∙ e) in
          ap (λ (x : Execute). (spoken.cell (session spoken past) x.code r.lines r.turns).turns) (sym q.2.request)
          ∙ ap (λ (ls : List Given). (spoken.cell (session spoken past) q.0.request.code ls r.turns).turns) (sym q.2.lines)
          ∙ ap (λ (n : ℕ). (spoken.cell (session spoken past) q.0.request.code q.0.lines n).turns) (sym q.2.turns)
          ∙ h.used q.0 q.1 ∙ q.2.turns

  asked : (log : Log) → EachFollows spoken log → IsAsked spoken log
  asked [] each = record { quiet = λ p e. refl; falls = λ p. tt; used = λ r e. no_run r _ e; runs = λ r e. no_run r _ e }
  asked (Took a ∷ past) each = took_asked past a each.1.0 (asked past each.0)
  asked (Marked m ∷ past) each = mark_asked past m.at m.kind each.0 each.1 (asked past each.0)

  pub input_right : (log : Log) → EachFollows spoken log → (at : ℕ) → IsInputRight log at
  input_right log each at = record { asks = (asked log each).falls at; texts = texts_sent spoken laws log each at }

  -- a cell asks only where its request allows it, and its seat is there
  kind_allowed : (past : Log) (at : ℕ) (kind : Kind) → EachFollows spoken past → MayMark spoken past (owed past) (record { at = at; kind = kind }) → IsAllowed kind at past
  kind_allowed past at Ask each may =
      let (asks, none) = ask_may spoken past (owed past) at may in
      let seat : seat_at at past ≡ asks.0.seat = ap (λ (p : ℕ). seat_at p past) asks.2.request ∙ runs_seat spoken laws past each asks.0 asks.1 in
      record {
        request = asks.0.request;
        there = ap (λ (p : ℕ). execute_at p past) asks.2.request ∙ runs_asked spoken laws past each asks.0 asks.1;
        allows = asks.2.may.allowed;
        here = ap (λ (s : ℕ). left s at past) seat ∙ ap (λ (p : ℕ). left asks.0.seat p past) asks.2.request ∙ asks.2.may.here;
      }
  kind_allowed past at other each may = tt

  pub asks_allowed : (log : Log) → EachFollows spoken log → AsksAreAllowed log
  asks_allowed [] each = tt
  asks_allowed (Took a ∷ past) each = asks_allowed past each.0
  asks_allowed (Marked m ∷ past) each = (kind_allowed past m.at m.kind each.0 each.1, asks_allowed past each.0)
