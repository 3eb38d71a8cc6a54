-- A cell is ended or stopped as its meaning has it at the turns of its last flush.
use Rattle.std.proofs.Common.{◌≡◌, ◌≢◌, ◌⊎◌, ℕ, ◌+◌, ◌≤◌, Bool, true, false, cond, List, [], ◌∷◌, refl, sym, ◌∙◌, ap, subst, arith, Some, inl, inr, eqb, eq-eqb}
use Rattle.std.specs.Prelude.{slice_get}
use Rattle.std.proofs.lemmas.Option.{none-some, same_Some}
use Rattle.std.proofs.lemmas.Bool.Decides.{eqb_tells}
use Rattle.jk_language.specs.Parts.{Line as Given}
use Rattle.jk_language.specs.Spoken.{Spoken, IsLanguage}
use Rattle.jp_msg.specs.declared.message.Execute.{Execute}
use Rattle.jk_log.specs.declared.mark.Item.{Item}
use Rattle.jk_log.specs.declared.mark.Item.TheVariants.{Took, Marked}
use Rattle.jk_log.specs.declared.mark.Mark.{Mark}
use Rattle.jk_log.specs.declared.mark.Kind.{Kind}
use Rattle.jk_log.specs.declared.mark.Kind.TheVariants.{Begin, Flush, End, Stop, Answer}
use Rattle.jk_log.specs.declared.mark.Cause.{Cause}
use Rattle.jk_log.specs.Log.{Log, Running, running, waiting, session, stood, execute_at}
use Rattle.jk_log.specs.Legal.{Due, MarkDue, AnswerDue, FlushDue, StopDue, IsForced, EachFollows, MayMark, Stops, owed}
use Rattle.jk_log.proofs.Logs.{execute_grows}
use Rattle.jk_world.specs.Cells.{begins, answers, times_answered, times_begun, times_ended, begun_in, last_turns, lines_at, closed_as, runs_at, flushed_meaning, TellsEnd, CellIsRight}
use Rattle.jk_world.proofs.Basics.{cond_same, cond_no}
use Rattle.jk_world.proofs.Once.{answers_first, answered_at_most_once, first_new}
use Rattle.jk_world.proofs.Streams.{flush_may, cell_told, streams_right}
use Rattle.jk_world.proofs.Parents.{end_may}
use Rattle.jk_world.proofs.Ends.{lives, runs_one}

few_if : (b : Bool) (i j : ℕ) → i ≤ j → cond b i 0 ≤ cond b j 0
few_if true i j h = h
few_if false i j h = omega arith

begins_few : (kind : Kind) → begins kind ≤ answers kind
begins_few (Begin n) = omega arith
begins_few other = omega arith

-- what is begun is answered
pub begun_few : (log : Log) (at : ℕ) → times_begun at log ≤ times_answered at log
begun_few [] at = omega arith
begun_few (Took a ∷ past) at = begun_few past at
begun_few (Marked m ∷ past) at =
    let before = begun_few past at in
    let more = few_if (eqb m.at at) (begins m.kind) (answers m.kind) (begins_few m.kind) in
    omega (arith, before, more)

-- what is closed was ended
closed_ended : (log : Log) (at : ℕ) (kind : Kind) → closed_as at log ≡ Some kind → 1 ≤ times_ended at log
closed_ended [] at kind e = absurd (none-some kind e)
closed_ended (Took a ∷ past) at kind e = closed_ended past at kind e
closed_ended (Marked m ∷ past) at kind e = mark_ended m.at m.kind (closed_ended past at kind) e
  where
    later : (b : Bool) → (closed_as at past ≡ Some kind → 1 ≤ times_ended at past) → cond b (closed_as at past) (closed_as at past) ≡ Some kind → 1 ≤ times_ended at past + cond b 0 0
    later b h e = let before = h (sym (cond_same b (closed_as at past)) ∙ e) in omega (arith, before)

    closes : (k : Kind) (b : Bool) → (closed_as at past ≡ Some kind → 1 ≤ times_ended at past) → cond b (Some k) (closed_as at past) ≡ Some kind → 1 ≤ times_ended at past + cond b 1 0
    closes k true h e = omega arith
    closes k false h e = let before = h e in omega (arith, before)

    mark_ended : (p : ℕ) (k : Kind) → (closed_as at past ≡ Some kind → 1 ≤ times_ended at past) → closed_as at (Marked (record { at = p; kind = k }) ∷ past) ≡ Some kind → 1 ≤ times_ended at (Marked (record { at = p; kind = k }) ∷ past)
    mark_ended p (End ending n) h e = closes (End ending n) (eqb p at) h e
    mark_ended p (Stop turns cause n) h e = closes (Stop turns cause n) (eqb p at) h e
    mark_ended p other h e = later (eqb p at) h e

module _ {S T : Type 0} (spoken : Spoken S T) where
  pub stop_stops : (past : Log) (dues : List Due) (at turns n : ℕ) (c : Cause) → MayMark spoken past dues (record { at = at; kind = Stop turns c n }) → (r : Running) × (running past ≡ Some r) × Stops spoken past r at turns c n
  stop_stops past [] at turns n c (is, r, runs, s) = (r, runs, s)
  stop_stops past (MarkDue a due ∷ dues) at turns n c (same, forced) = absurd (subst IsForced (sym (ap (λ (m : Mark). m.kind) same)) forced)
  stop_stops past (AnswerDue a ∷ dues) at turns n c (status, same, right) = let k : Stop turns c n ≡ Answer status = ap (λ (m : Mark). m.kind) same in cc
  stop_stops past (FlushDue ∷ dues) at turns n c h = absurd h.0
  stop_stops past (StopDue cause ∷ dues) at turns n c (t, k, is, (r, runs, s)) = (r, runs, stops_as t k cause is s)
    where
      stops_as : (t k : ℕ) (cause : Cause) → Stop turns c n ≡ Stop t cause k → {r : Running} → Stops spoken past r at t cause k → Stops spoken past r at turns c n
      stops_as t k cause is {r} s =
          let et : t ≡ turns = cc in
          let ek : k ≡ n = cc in
          let ec : cause ≡ c = cc in
          subst (λ (t : ℕ). Stops spoken past r at t c n) et (subst (λ (k : ℕ). Stops spoken past r at t c k) ek (subst (λ (c : Cause). Stops spoken past r at t c k) ec s))

  -- the cell that runs was not closed
  pub running_open : (past : Log) (at : ℕ) (r : Running) (kind : Kind) → EachFollows spoken past → running past ≡ Some r → at ≡ r.at → closed_as at past ≡ Some kind → ⊥
  running_open past at r kind each runs here e =
      let ended = closed_ended past at kind e in
      let few = begun_few past at in
      let once = answered_at_most_once spoken past each at in
      let is : runs_at at past ≡ 1 = runs_one at at (running past) r runs here ∙ ap (λ (b : Bool). cond b 1 0) (eq-eqb at at refl) in
      let all : times_begun at past ≡ times_ended at past + runs_at at past = lives spoken past each at in
      omega (arith, ended, few, once, is, all)

  -- what waits first was not closed
  pub waiting_open : (past : Log) (at : ℕ) (kind : Kind) → EachFollows spoken past → slice_get (waiting past) 0 ≡ Some at → closed_as at past ≡ Some kind → ⊥
  waiting_open past at kind each first e =
      let ended = closed_ended past at kind e in
      let few = begun_few past at in
      let none = first_new spoken past each at first in
      let all : times_begun at past ≡ times_ended at past + runs_at at past = lives spoken past each at in
      omega (arith, ended, few, none, all)

module _ {S T : Type 0} (spoken : Spoken S T) (laws : IsLanguage spoken) where
  -- how a cell was closed is told right
  abbrev Told : ℕ → Log → Type 0
  Told at log =
      (s : S) (e : Execute) (kind : Kind) → closed_as at log ≡ Some kind → begun_in spoken at log ≡ Some s → execute_at at log ≡ Some e
      → TellsEnd spoken s e.code (flushed_meaning spoken log at s e) (last_turns at log) kind

  -- an item changes neither how the cell of a place was closed nor where it stood
  record IsIdle (past : Log) (i : Item) (at : ℕ) : Type 0 where
    closed : closed_as at (i ∷ past) ≡ closed_as at past
    begun : begun_in spoken at (i ∷ past) ≡ begun_in spoken at past
    turns : last_turns at (i ∷ past) ≡ last_turns at past
    lines : lines_at at (i ∷ past) ≡ lines_at at past

  same_told : (past : Log) (i : Item) (at : ℕ) → EachFollows spoken past → IsIdle past i at → Told at past → Told at (i ∷ past)
  same_told past i at each idle h = λ s e kind ends starts there.
      let q = streams_right spoken laws past each at s (sym idle.begun ∙ starts) in
      let same : q.request ≡ e = same_Some q.request e (sym (execute_grows past i at q.request q.there) ∙ there) in
      subst (λ (ls : List Given). TellsEnd spoken s e.code (spoken.cell s e.code ls (last_turns at (i ∷ past))) (last_turns at (i ∷ past)) kind) (sym idle.lines)
      (subst (λ (n : ℕ). TellsEnd spoken s e.code (spoken.cell s e.code (lines_at at past) n) n kind) (sym idle.turns)
      (h s e kind (sym idle.closed ∙ ends) (sym idle.begun ∙ starts) (q.there ∙ ap (λ (x : Execute). Some x) same)))

  -- the cell that runs is closed
  close_told : (past : Log) (at : ℕ) (r : Running) (closing : Kind) → EachFollows spoken past → running past ≡ Some r → at ≡ r.at → closed_as at (Marked (record { at = at; kind = closing }) ∷ past) ≡ Some closing → begun_in spoken at (Marked (record { at = at; kind = closing }) ∷ past) ≡ begun_in spoken at past → last_turns at (Marked (record { at = at; kind = closing }) ∷ past) ≡ last_turns at past → lines_at at (Marked (record { at = at; kind = closing }) ∷ past) ≡ lines_at at past → TellsEnd spoken (session spoken past) r.request.code (stood spoken past r) r.turns closing → Told at (Marked (record { at = at; kind = closing }) ∷ past)
  close_told past at r closing each runs here closed begun turns lines tells = λ s e kind ends starts there.
      let log : Log = Marked (record { at = at; kind = closing }) ∷ past in
      let cell = cell_told spoken laws past each r runs in
      let kind_is : closing ≡ kind = same_Some closing kind (sym closed ∙ ends) in
      let session_is : session spoken past ≡ s = same_Some (session spoken past) s (sym cell.begun ∙ ap (λ (p : ℕ). begun_in spoken p past) (sym here) ∙ sym begun ∙ starts) in
      let asked : execute_at at past ≡ Some r.request = ap (λ (p : ℕ). execute_at p past) here ∙ cell.asked in
      let request_is : r.request ≡ e = same_Some r.request e (sym (execute_grows past (Marked (record { at = at; kind = closing })) at r.request asked) ∙ there) in
      let turns_is : r.turns ≡ last_turns at log = sym (turns ∙ ap (λ (p : ℕ). last_turns p past) here ∙ cell.turns) in
      let lines_are : r.lines ≡ lines_at at log = sym (lines ∙ ap (λ (p : ℕ). lines_at p past) here ∙ cell.lines) in
      subst (λ (k : Kind). TellsEnd spoken s e.code (flushed_meaning spoken log at s e) (last_turns at log) k) kind_is
      (subst (λ (ls : List Given). TellsEnd spoken s e.code (spoken.cell s e.code ls (last_turns at log)) (last_turns at log) closing) lines_are
      (subst (λ (n : ℕ). TellsEnd spoken s e.code (spoken.cell s e.code r.lines n) n closing) turns_is
      (subst (λ (x : Execute). TellsEnd spoken s x.code (spoken.cell s x.code r.lines r.turns) r.turns closing) request_is
      (subst (λ (s : S). TellsEnd spoken s r.request.code (spoken.cell s r.request.code r.lines r.turns) r.turns closing) session_is tells))))

  here_told : (past : Log) (at : ℕ) (kind : Kind) → EachFollows spoken past → MayMark spoken past (owed past) (record { at = at; kind = kind }) → eqb at at ≡ true → Told at past → Told at (Marked (record { at = at; kind = kind }) ∷ past)
  here_told past at (Begin n) each may b h = λ s e kind ends starts there.
      absurd (waiting_open spoken past at kind each (answers_first spoken past at (Begin n) each may tt) (sym (cond_same (eqb at at) (closed_as at past)) ∙ ends))
  here_told past at (Flush turns text) each may b h = λ s e kind ends starts there.
      let f = flush_may spoken past (owed past) at turns text may in
      absurd (running_open spoken past at f.0 kind each f.1 f.2.request (sym (cond_same (eqb at at) (closed_as at past)) ∙ ends))
  here_told past at (End ending n) each may b h =
      let f = end_may spoken past (owed past) at n ending may in
      close_told past at f.0 (End ending n) each f.1 f.2.request (ap (λ (b : Bool). cond b (Some (End ending n)) (closed_as at past)) b)
      (cond_same (eqb at at) (begun_in spoken at past)) (cond_same (eqb at at) (last_turns at past)) (cond_same (eqb at at) (lines_at at past)) f.2.outcome
  here_told past at (Stop turns cause n) each may b h =
      let f = stop_stops spoken past (owed past) at turns n cause may in
      close_told past at f.0 (Stop turns cause n) each f.1 f.2.request (ap (λ (b : Bool). cond b (Some (Stop turns cause n)) (closed_as at past)) b)
      (cond_same (eqb at at) (begun_in spoken at past)) (cond_same (eqb at at) (last_turns at past)) (cond_same (eqb at at) (lines_at at past)) (f.2.here, f.2.outcome)
  here_told past at other each may b h =
      same_told past (Marked (record { at = at; kind = other })) at each
      (record {
        closed = cond_same (eqb at at) (closed_as at past);
        begun = cond_same (eqb at at) (begun_in spoken at past);
        turns = cond_same (eqb at at) (last_turns at past);
        lines = cond_same (eqb at at) (lines_at at past);
      })
      h

  mark_told : (past : Log) (m : Mark) (at : ℕ) → EachFollows spoken past → MayMark spoken past (owed past) m → ((eqb m.at at ≡ true) × (m.at ≡ at)) ⊎ ((eqb m.at at ≡ false) × (m.at ≢ at)) → ((p : ℕ) → Told p past) → Told at (Marked m ∷ past)
  mark_told past m at each may (inl (b, same)) h =
      subst (λ (p : ℕ). Told p (Marked m ∷ past)) same (here_told past m.at m.kind each may (eq-eqb m.at m.at refl) (h m.at))
  mark_told past m at each may (inr (b, apart)) h =
      same_told past (Marked m) at each
      (record {
        closed = cond_no (eqb m.at at) _ (closed_as at past) b;
        begun = cond_no (eqb m.at at) _ (begun_in spoken at past) b;
        turns = cond_no (eqb m.at at) _ (last_turns at past) b;
        lines = cond_no (eqb m.at at) _ (lines_at at past) b;
      })
      (h at)

  ends_told : (log : Log) → EachFollows spoken log → (at : ℕ) → Told at log
  ends_told [] each at = λ s e kind ends starts there. absurd (none-some kind ends)
  ends_told (Took a ∷ past) each at = same_told past (Took a) at each.0 (record { closed = refl; begun = refl; turns = refl; lines = refl }) (ends_told past each.0 at)
  ends_told (Marked m ∷ past) each at = mark_told past m at each.0 each.1 (eqb_tells m.at at) (ends_told past each.0)

  pub cells_right : (log : Log) → EachFollows spoken log → (at : ℕ) (s : S) → begun_in spoken at log ≡ Some s → CellIsRight spoken log at s
  cells_right log each at s e =
      let q = streams_right spoken laws log each at s e in
      record { request = q.request; there = q.there; shown = q.shown; used = q.used; ended = λ kind ends. ends_told log each at s q.request kind ends e q.there }
