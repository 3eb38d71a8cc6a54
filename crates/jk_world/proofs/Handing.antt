-- The session goes from each cell to the next.
use Rattle.std.proofs.Common.{◌≡◌, ℕ, ◌+◌, ◌≤◌, Bool, true, false, cond, List, [], ◌∷◌, refl, sym, ◌∙◌, ap, subst, arith, Option, None, Some, eqb, eq-eqb}
use Rattle.std.specs.Prelude.{slice_get}
use Rattle.std.proofs.lemmas.Option.{none-some, same_Some}
use Rattle.std.proofs.lemmas.Bool.{ne_eqb}
use Rattle.jk_language.specs.Parts.{Line as Given}
use Rattle.jk_language.specs.Spoken.{Spoken, IsLanguage}
use Rattle.jp_msg.specs.declared.message.Execute.{Execute}
use Rattle.jk_log.specs.declared.arrival.Arrival.{Arrival}
use Rattle.jk_log.specs.declared.mark.Item.{Item}
use Rattle.jk_log.specs.declared.mark.Item.TheVariants.{Took, Marked}
use Rattle.jk_log.specs.declared.mark.Mark.{Mark}
use Rattle.jk_log.specs.declared.mark.Kind.{Kind}
use Rattle.jk_log.specs.declared.mark.Kind.TheVariants.{Begin, Flush, Ask, Line, End, Stop, Restart}
use Rattle.jk_log.specs.Log.{Log, Running, running, seat_at, waiting, session, stood, stood_in, execute_at, option_or, option_with, opened, flushed_at, asking, lined, unread}
use Rattle.jk_log.specs.Legal.{EachFollows, MayMark, owed}
use Rattle.jk_log.proofs.Logs.{execute_grows}
use Rattle.jk_world.specs.Cells.{times_begun, begun_in, last_turns, lines_at, interrupts}
use Rattle.jk_world.specs.Sessions.{begun_places, Leaves, LastLeaves, AreHandedOn, IsHandedOn, BeginsIn, AllBeginIn}
use Rattle.jk_world.proofs.Basics.{no_run, cond_same, cond_no}
use Rattle.jk_world.proofs.Once.{answers_first, answered_at_most_once, first_new, count_in, is_at}
use Rattle.jk_world.proofs.Dues.{begin_asks, restart_idle}
use Rattle.jk_world.proofs.Streams.{flush_may, cell_told, begun_run, run_asked, run_took, running_took}
use Rattle.jk_world.proofs.Parents.{end_may, stop_may}
use Rattle.jk_world.proofs.Ends.{begin_idle}
use Rattle.jk_world.proofs.Outcomes.{begun_few}
use Rattle.jk_world.proofs.Lines.{line_runs}

none_before : (change : Running → Running) (o : Option Running) → option_with change o ≡ None → o ≡ None
none_before change None e = refl
none_before change (Some r) e = absurd (none-some (change r) (sym e))

none_took : (b : Bool) (o : Option Running) → cond b (option_with unread o) o ≡ None → o ≡ None
none_took true o e = none_before unread o e
none_took false o e = e

-- as often as a place stands there, its cell was begun
counts : (b : Bool) (c t : ℕ) → c ≤ t → cond b 1 0 + c ≤ t + cond b 1 0
counts true c t e = omega arith
counts false c t e = omega arith

same_count : (b : Bool) (c t : ℕ) → c ≤ t → c ≤ t + cond b 0 0
same_count true c t e = omega arith
same_count false c t e = omega arith

begun_counted : (at : ℕ) (log : Log) → count_in at (begun_places log) ≤ times_begun at log
begun_counted at [] = omega arith
begun_counted at (Took a ∷ past) = begun_counted at past
begun_counted at (Marked m ∷ past) = by_kind m.at m.kind (begun_counted at past)
  where
    by_kind : (p : ℕ) (kind : Kind) → count_in at (begun_places past) ≤ times_begun at past → count_in at (begun_places (Marked (record { at = p; kind = kind }) ∷ past)) ≤ times_begun at (Marked (record { at = p; kind = kind }) ∷ past)
    by_kind p (Begin n) e = counts (eqb p at) _ _ e
    by_kind p (Restart restart) e = omega arith
    by_kind p other e = same_count (eqb p at) _ _ e

-- none of these is that place
abbrev AllApart : ℕ → List ℕ → Type 0
AllApart at [] = Unit {0}
AllApart at (p ∷ ps) = (eqb at p ≡ false) × AllApart at ps

apart_by : (b : Bool) (n : ℕ) → cond b 1 0 + n ≡ 0 → (b ≡ false) × (n ≡ 0)
apart_by true n e = absurd (omega (arith, e))
apart_by false n e = (refl, omega (arith, e))

not_same : (at p : ℕ) → eqb p at ≡ false → eqb at p ≡ false
not_same at p e = ne_eqb at p (λ same. (let is = eq-eqb p at (sym same) in cc))

all_apart : (at : ℕ) (places : List ℕ) → count_in at places ≡ 0 → AllApart at places
all_apart at [] e = tt
all_apart at (p ∷ ps) e = let one = apart_by (eqb p at) (count_in at ps) e in (not_same at p one.0, all_apart at ps one.1)

one_of : (at : ℕ) (places : List ℕ) → count_in at (at ∷ places) ≤ 1 → count_in at places ≡ 0
one_of at places few =
    let one : is_at at at ≡ 1 = ap (λ (b : Bool). cond b 1 0) (eq-eqb at at refl) in
    omega (arith, few, one)

module _ {S T : Type 0} (spoken : Spoken S T) where
  -- an item does not change where the cell of a place stood at its last flush
  record IsStill (past : Log) (i : Item) (at : ℕ) : Type 0 where
    begun : begun_in spoken at (i ∷ past) ≡ begun_in spoken at past
    turns : last_turns at (i ∷ past) ≡ last_turns at past
    lines : lines_at at (i ∷ past) ≡ lines_at at past

  abbrev AllStill : Log → Item → List ℕ → Type 0
  AllStill past i [] = Unit {0}
  AllStill past i (p ∷ ps) = IsStill past i p × AllStill past i ps

  all_still : (past : Log) (i : Item) (ps : List ℕ) → ((p : ℕ) → IsStill past i p) → AllStill past i ps
  all_still past i [] h = tt
  all_still past i (p ∷ ps) h = (h p, all_still past i ps h)

  -- a mark changes only what is told of its own place
  still_apart : (past : Log) (m : Mark) (ps : List ℕ) → AllApart m.at ps → AllStill past (Marked m) ps
  still_apart past m [] h = tt
  still_apart past m (p ∷ ps) h = (
    record {
      begun = cond_no (eqb m.at p) _ (begun_in spoken p past) h.0;
      turns = cond_no (eqb m.at p) _ (last_turns p past) h.0;
      lines = cond_no (eqb m.at p) _ (lines_at p past) h.0;
    },
    still_apart past m ps h.1,
  )

  leaves_still : (past : Log) (i : Item) (at : ℕ) (s : S) → IsStill past i at → Leaves spoken past at s → Leaves spoken (i ∷ past) at s
  leaves_still past i at s still h = record {
    begun = h.begun;
    request = h.request;
    begins = still.begun ∙ h.begins;
    there = execute_grows past i at h.request h.there;
    session = h.session
        ∙ ap (λ (n : ℕ). (spoken.cell h.begun h.request.code (lines_at at past) n).session) (sym still.turns)
        ∙ ap (λ (ls : List Given). (spoken.cell h.begun h.request.code ls (last_turns at (i ∷ past))).session) (sym still.lines);
  }

  last_still : (past : Log) (i : Item) (places : List ℕ) (s : S) → AllStill past i places → LastLeaves spoken past places s → LastLeaves spoken (i ∷ past) places s
  last_still past i [] s still h = h
  last_still past i (p ∷ ps) s still h = leaves_still past i p s still.0 h

  handed_still : (past : Log) (i : Item) (places : List ℕ) → AllStill past i places → AreHandedOn spoken past places → AreHandedOn spoken (i ∷ past) places
  handed_still past i [] still h = tt
  handed_still past i (p ∷ ps) still h =
      ((h.0.0, still.0.begun ∙ h.0.1, last_still past i ps h.0.0 still.1 h.0.2), handed_still past i ps still.1 h.1)

  -- the first of these may go on
  first_still : (past : Log) (i : Item) (at : ℕ) (ps : List ℕ) → begun_in spoken at (i ∷ past) ≡ begun_in spoken at past → AllStill past i ps → AreHandedOn spoken past (at ∷ ps) → AreHandedOn spoken (i ∷ past) (at ∷ ps)
  first_still past i at ps begun still h = ((h.0.0, begun ∙ h.0.1, last_still past i ps h.0.0 still h.0.2), handed_still past i ps still h.1)

  -- what is known after each item; the cell that runs was begun last
  record IsHanded (log : Log) : Type 0 where
    each : AreHandedOn spoken log (begun_places log)
    now : running log ≡ None → LastLeaves spoken log (begun_places log) (session spoken log)
    runs : (r : Running) → running log ≡ Some r → (rest : List ℕ) × (begun_places log ≡ r.at ∷ rest)

  -- an item after which every cell stands where it stood
  still_handed : (past : Log) (i : Item) → ((p : ℕ) → IsStill past i p) → begun_places (i ∷ past) ≡ begun_places past → (running (i ∷ past) ≡ None → (running past ≡ None) × (session spoken (i ∷ past) ≡ session spoken past)) → ((r : Running) → running (i ∷ past) ≡ Some r → (q : Running) × (running past ≡ Some q) × (q.at ≡ r.at)) → IsHanded past → IsHanded (i ∷ past)
  still_handed past i still same idle run h = record {
    each = subst (AreHandedOn spoken (i ∷ past)) (sym same) (handed_still past i (begun_places past) (all_still past i (begun_places past) still) h.each);
    now = λ e. (
        let before = idle e in
        subst (λ (s : S). LastLeaves spoken (i ∷ past) (begun_places (i ∷ past)) s) (sym before.1)
        (subst (λ (ps : List ℕ). LastLeaves spoken (i ∷ past) ps (session spoken past)) (sym same)
        (last_still past i (begun_places past) (session spoken past) (all_still past i (begun_places past) still) (h.now before.0)))
        );
    runs = λ r e. (
        let q = run r e in
        let before = h.runs q.0 q.1 in
        (before.0, same ∙ before.1 ∙ ap (λ (p : ℕ). p ∷ before.0) q.2)
        );
  }

module _ {S T : Type 0} (spoken : Spoken S T) (laws : IsLanguage spoken) where
  -- the cells before the one that runs are others
  rest_apart : (past : Log) (at : ℕ) (rest : List ℕ) → EachFollows spoken past → begun_places past ≡ at ∷ rest → AllApart at rest
  rest_apart past at rest each same =
      let once = answered_at_most_once spoken past each at in
      let few = begun_few past at in
      let counted : count_in at (at ∷ rest) ≤ times_begun at past = subst (λ (ps : List ℕ). count_in at ps ≤ times_begun at past) same (begun_counted at past) in
      all_apart at rest (one_of at rest (omega (arith, once, few, counted)))

  begin_handed : (past : Log) (at n : ℕ) → EachFollows spoken past → slice_get (waiting past) 0 ≡ Some at → (e : Execute) × (execute_at at past ≡ Some e) → running past ≡ None → IsHanded spoken past → IsHanded spoken (Marked (record { at = at; kind = Begin n }) ∷ past)
  begin_handed past at n each first asks idle h = record {
    each = (
      (
        session spoken past,
        ap (λ (b : Bool). cond b (Some (session spoken past)) (begun_in spoken at past)) (eq-eqb at at refl),
        last_still spoken past (Marked mark) (begun_places past) (session spoken past) still (h.now idle),
      ),
      handed_still spoken past (Marked mark) (begun_places past) still h.each,
    );
    now = λ e. absurd (none-some (opened at (seat_at at past) asks.0) (sym e ∙ ap (option_with (opened at (seat_at at past))) asks.1));
    runs = λ r e. (
        let b = begun_run at (seat_at at past) (execute_at at past) r e in
        (begun_places past, ap (λ (r : Running). r.at ∷ begun_places past) b.2)
        );
  }
    where
      mark : Mark
      mark = record { at = at; kind = Begin n }

      still : AllStill spoken past (Marked mark) (begun_places past)
      still =
          let none = first_new spoken past each at first in
          let few = begun_few past at in
          let counted = begun_counted at past in
          still_apart spoken past mark (begun_places past) (all_apart at (begun_places past) (omega (arith, none, few, counted)))

  flush_handed : (past : Log) (at turns : ℕ) (text : List ℕ) (r : Running) → EachFollows spoken past → running past ≡ Some r → at ≡ r.at → IsHanded spoken past → IsHanded spoken (Marked (record { at = at; kind = Flush turns text }) ∷ past)
  flush_handed past at turns text r each runs here h = record {
    each = subst (AreHandedOn spoken (Marked mark ∷ past)) (sym places)
        (first_still spoken past (Marked mark) at rest (cond_same (eqb at at) (begun_in spoken at past))
        (still_apart spoken past mark rest (rest_apart past at rest each places)) (subst (AreHandedOn spoken past) places h.each));
    now = λ e. no_run r _ (sym (none_before (flushed_at turns) (running past) e) ∙ runs);
    runs = λ q e. (
        let now : flushed_at turns r ≡ q = same_Some (flushed_at turns r) q (sym (ap (option_with (flushed_at turns)) runs) ∙ e) in
        (rest, places ∙ ap (λ (p : ℕ). p ∷ rest) (here ∙ ap (λ (q : Running). q.at) now))
        );
  }
    where
      mark : Mark
      mark = record { at = at; kind = Flush turns text }

      before : (rest : List ℕ) × (begun_places past ≡ r.at ∷ rest)
      before = h.runs r runs

      rest : List ℕ
      rest = before.0

      places : begun_places past ≡ at ∷ rest
      places = before.1 ∙ ap (λ (p : ℕ). p ∷ rest) (sym here)

  -- the cell that runs ends
  close_handed : (past : Log) (at : ℕ) (closing : Kind) (r : Running) → EachFollows spoken past → running past ≡ Some r → ((p : ℕ) → IsStill spoken past (Marked (record { at = at; kind = closing })) p) → begun_places (Marked (record { at = at; kind = closing }) ∷ past) ≡ begun_places past → running (Marked (record { at = at; kind = closing }) ∷ past) ≡ None → session spoken (Marked (record { at = at; kind = closing }) ∷ past) ≡ option_or (λ (r : Running). (stood_in spoken (session spoken past) r).session) (session spoken past) (running past) → IsHanded spoken past → IsHanded spoken (Marked (record { at = at; kind = closing }) ∷ past)
  close_handed past at closing r each runs still same over left h = record {
    each = subst (AreHandedOn spoken (Marked mark ∷ past)) (sym same)
        (handed_still spoken past (Marked mark) (begun_places past) (all_still spoken past (Marked mark) (begun_places past) still) h.each);
    now = λ e. subst (λ (s : S). LastLeaves spoken (Marked mark ∷ past) (begun_places (Marked mark ∷ past)) s) (sym stands)
        (subst (λ (ps : List ℕ). LastLeaves spoken (Marked mark ∷ past) ps (stood spoken past r).session) (sym (same ∙ before.1)) leaves);
    runs = λ q e. no_run q _ (sym over ∙ e);
  }
    where
      mark : Mark
      mark = record { at = at; kind = closing }

      before : (rest : List ℕ) × (begun_places past ≡ r.at ∷ rest)
      before = h.runs r runs

      stands : session spoken (Marked mark ∷ past) ≡ (stood spoken past r).session
      stands = left ∙ ap (option_or (λ (r : Running). (stood_in spoken (session spoken past) r).session) (session spoken past)) runs

      leaves : Leaves spoken (Marked mark ∷ past) r.at (stood spoken past r).session
      leaves =
          let cell = cell_told spoken laws past each r runs in
          leaves_still spoken past (Marked mark) r.at (stood spoken past r).session (still r.at) (record {
            begun = session spoken past;
            request = r.request;
            begins = cell.begun;
            there = cell.asked;
            session = ap (λ (n : ℕ). (spoken.cell (session spoken past) r.request.code r.lines n).session) (sym cell.turns)
                ∙ ap (λ (ls : List Given). (spoken.cell (session spoken past) r.request.code ls (last_turns r.at past)).session) (sym cell.lines);
          })

  mark_handed : (past : Log) (at : ℕ) (kind : Kind) → EachFollows spoken past → MayMark spoken past (owed past) (record { at = at; kind = kind }) → IsHanded spoken past → IsHanded spoken (Marked (record { at = at; kind = kind }) ∷ past)
  mark_handed past at (Begin n) each may h =
      begin_handed past at n each (answers_first spoken past at (Begin n) each may tt) (begin_asks spoken past (owed past) at n may) (begin_idle spoken past (owed past) at n may) h
  mark_handed past at (Flush turns text) each may h =
      let f = flush_may spoken past (owed past) at turns text may in
      flush_handed past at turns text f.0 each f.1 f.2.request h
  mark_handed past at (End ending n) each may h =
      let f = end_may spoken past (owed past) at n ending may in
      close_handed past at (End ending n) f.0 each f.1 (λ p. (record { begun = cond_same (eqb at p) _; turns = cond_same (eqb at p) _; lines = cond_same (eqb at p) _ })) refl refl refl h
  mark_handed past at (Stop turns cause n) each may h =
      let f = stop_may spoken past (owed past) at turns n cause may in
      close_handed past at (Stop turns cause n) f.0 each f.1 (λ p. (record { begun = cond_same (eqb at p) _; turns = cond_same (eqb at p) _; lines = cond_same (eqb at p) _ })) refl refl refl h
  mark_handed past at Ask each may h =
      still_handed spoken past _ (λ p. (record { begun = cond_same (eqb at p) _; turns = cond_same (eqb at p) _; lines = cond_same (eqb at p) _ })) refl
      (λ e. (none_before asking (running past) e, refl)) (λ r e. (let q = run_asked (running past) r e in (q.0, q.1, q.2.at))) h
  mark_handed past at (Line line) each may h =
      let q = line_runs spoken past at line may in
      still_handed spoken past _ (λ p. (record { begun = cond_same (eqb at p) _; turns = cond_same (eqb at p) _; lines = cond_same (eqb at p) _ })) refl
      (λ e. (none_before (lined line) (running past) e, refl))
      (λ r e. (q.0, q.1, ap (λ (r : Running). r.at) (same_Some (lined line q.0) r (sym (ap (option_with (lined line)) q.1) ∙ e)))) h
  mark_handed past at (Restart restart) each may h =
      let idle = restart_idle spoken past at restart each may in
      record { each = tt; now = λ e. refl; runs = λ r e. no_run r _ (sym idle ∙ e) }
  mark_handed past at other each may h =
      still_handed spoken past _ (λ p. (record { begun = cond_same (eqb at p) _; turns = cond_same (eqb at p) _; lines = cond_same (eqb at p) _ })) refl
      (λ e. (e, refl)) (λ r e. (r, e, refl)) h

  took_handed : (past : Log) (a : Arrival) → IsHanded spoken past → IsHanded spoken (Took a ∷ past)
  took_handed past a h =
      still_handed spoken past (Took a) (λ p. (record { begun = refl; turns = refl; lines = refl })) refl
      (λ e. (none_took (interrupts a.what) (running past) (sym (running_took a (running past)) ∙ e), refl))
      (λ r e. (let q = run_took (interrupts a.what) (running past) r (sym (running_took a (running past)) ∙ e) in (q.0, q.1, q.2.at))) h

  handed : (log : Log) → EachFollows spoken log → IsHanded spoken log
  handed [] each = record { each = tt; now = λ e. refl; runs = λ r e. no_run r _ e }
  handed (Took a ∷ past) each = took_handed past a (handed past each.0)
  handed (Marked m ∷ past) each = mark_handed past m.at m.kind each.0 each.1 (handed past each.0)

  pub handed_on : (log : Log) → EachFollows spoken log → IsHandedOn spoken log
  handed_on log each = let h = handed log each in record { each = h.each; now = h.now }

  kind_begins : (past : Log) (at : ℕ) (kind : Kind) → EachFollows spoken past → MayMark spoken past (owed past) (record { at = at; kind = kind }) → BeginsIn spoken kind past
  kind_begins past at (Begin n) each may = (handed_on past each).now (begin_idle spoken past (owed past) at n may)
  kind_begins past at other each may = tt

  -- each cell is begun in the session that the one before it left
  pub all_begin : (log : Log) → EachFollows spoken log → AllBeginIn spoken log
  all_begin [] each = tt
  all_begin (Took a ∷ past) each = all_begin past each.0
  all_begin (Marked m ∷ past) each = (kind_begins past m.at m.kind each.0 each.1, all_begin past each.0)
