-- The count is how many of the cells that were begun are to be stored.
use Rattle.std.proofs.Common.{◌≡◌, ℕ, ◌+◌, Bool, true, false, cond, List, [], ◌∷◌, refl, sym, ◌∙◌, ap, subst, arith, Option, Some}
use Rattle.std.specs.Prelude.{not, ◌&&◌}
use Rattle.jk_language.specs.Spoken.{Spoken}
use Rattle.jp_msg.specs.declared.message.Execute.{Execute}
use Rattle.jk_log.specs.declared.mark.Item.{Item}
use Rattle.jk_log.specs.declared.mark.Item.TheVariants.{Took, Marked}
use Rattle.jk_log.specs.declared.mark.Mark.{Mark}
use Rattle.jk_log.specs.declared.mark.Kind.{Kind}
use Rattle.jk_log.specs.declared.mark.Kind.TheVariants.{Begin, End, Stop, Refuse, Answer, Restart}
use Rattle.jk_log.specs.Log.{Log, count, next_count, raised, execute_at, option_or}
use Rattle.jk_log.specs.Legal.{Due, MarkDue, AnswerDue, FlushDue, StopDue, IsForced, EachFollows, MayMark, owed}
use Rattle.jk_log.proofs.Logs.{execute_grows}
use Rattle.jk_world.specs.Sessions.{begun_places}
use Rattle.jk_world.specs.Counts.{is_stored_at, stored_among, stored, Tells, TellCounts}
use Rattle.jk_world.proofs.Once.{AllAsk, asks_grow}
use Rattle.jk_world.proofs.Dues.{begin_asks}
use Rattle.jk_world.proofs.Parents.{end_may}
use Rattle.jk_world.proofs.Outcomes.{stop_stops}

stored_same : (log : Log) (i : Item) (at : ℕ) (e : Execute) → execute_at at log ≡ Some e → is_stored_at at (i ∷ log) ≡ is_stored_at at log
stored_same log i at e there =
    ap (option_or (λ (e : Execute). e.store_history && not e.silent) false) (execute_grows log i at e there ∙ sym there)

among_same : (log : Log) (i : Item) (places : List ℕ) → AllAsk log places → stored_among (i ∷ log) places ≡ stored_among log places
among_same log i [] asks = refl
among_same log i (p ∷ ps) asks =
    ap (λ (n : ℕ). n + cond (is_stored_at p (i ∷ log)) 1 0) (among_same log i ps asks.1)
    ∙ ap (λ (b : Bool). stored_among log ps + cond b 1 0) (stored_same log i p asks.0.0 asks.0.1)

raises : (b : Bool) (n : ℕ) → cond b (n + 1) n ≡ n + cond b 1 0
raises true n = refl
raises false n = omega arith

-- each cell that was begun has a request, and the count is right
record IsCounted (log : Log) : Type 0 where
  asks : AllAsk log (begun_places log)
  right : count log ≡ stored log

-- an item that begins nothing
same_counted : (past : Log) (i : Item) → begun_places (i ∷ past) ≡ begun_places past → count (i ∷ past) ≡ count past → IsCounted past → IsCounted (i ∷ past)
same_counted past i places same h = record {
  asks = subst (AllAsk (i ∷ past)) (sym places) (asks_grow past i (begun_places past) h.asks);
  right = same ∙ h.right ∙ sym (among_same past i (begun_places past) h.asks) ∙ ap (stored_among (i ∷ past)) (sym places);
}

module _ {S T : Type 0} (spoken : Spoken S T) where
  begin_counts : (past : Log) (dues : List Due) (at n : ℕ) → MayMark spoken past dues (record { at = at; kind = Begin n }) → n ≡ next_count at past
  begin_counts past [] at n h = h.1
  begin_counts past (MarkDue a due ∷ dues) at n (same, forced) = absurd (subst IsForced (sym (ap (λ (m : Mark). m.kind) same)) forced)
  begin_counts past (AnswerDue a ∷ dues) at n (status, same, right) = let k : Begin n ≡ Answer status = ap (λ (m : Mark). m.kind) same in cc
  begin_counts past (FlushDue ∷ dues) at n h = absurd h.0
  begin_counts past (StopDue cause ∷ dues) at n (t, k, is, rest) = cc

  refuse_counts : (past : Log) (dues : List Due) (at n : ℕ) → MayMark spoken past dues (record { at = at; kind = Refuse n }) → n ≡ count past
  refuse_counts past [] at n h = h.1
  refuse_counts past (MarkDue a due ∷ dues) at n (same, forced) = absurd (subst IsForced (sym (ap (λ (m : Mark). m.kind) same)) forced)
  refuse_counts past (AnswerDue a ∷ dues) at n (status, same, right) = let k : Refuse n ≡ Answer status = ap (λ (m : Mark). m.kind) same in cc
  refuse_counts past (FlushDue ∷ dues) at n h = absurd h.0
  refuse_counts past (StopDue cause ∷ dues) at n (t, k, is, rest) = cc

  begin_counted : (past : Log) (at n : ℕ) (e : Execute) → execute_at at past ≡ Some e → n ≡ next_count at past → IsCounted past → IsCounted (Marked (record { at = at; kind = Begin n }) ∷ past)
  begin_counted past at n e there next h = record {
    asks = ((e, execute_grows past (Marked mark) at e there), asks_grow past (Marked mark) (begun_places past) h.asks);
    right = next ∙ ap (λ (o : Option Execute). option_or (λ (e : Execute). raised e (count past)) (count past) o) there
        ∙ raises (e.store_history && not e.silent) (count past)
        ∙ ap (λ (n : ℕ). n + cond (e.store_history && not e.silent) 1 0) (h.right ∙ sym (among_same past (Marked mark) (begun_places past) h.asks))
        ∙ ap (λ (o : Option Execute). stored_among (Marked mark ∷ past) (begun_places past) + cond (option_or (λ (e : Execute). e.store_history && not e.silent) false o) 1 0)
        (sym (execute_grows past (Marked mark) at e there));
  }
    where
      mark : Mark
      mark = record { at = at; kind = Begin n }

  mark_counted : (past : Log) (at : ℕ) (kind : Kind) → EachFollows spoken past → MayMark spoken past (owed past) (record { at = at; kind = kind }) → IsCounted past → IsCounted (Marked (record { at = at; kind = kind }) ∷ past)
  mark_counted past at (Begin n) each may h =
      let asks = begin_asks spoken past (owed past) at n may in
      begin_counted past at n asks.0 asks.1 (begin_counts past (owed past) at n may) h
  mark_counted past at (Restart restart) each may h = record { asks = tt; right = refl }
  mark_counted past at other each may h = same_counted past (Marked (record { at = at; kind = other })) refl refl h

  counted : (log : Log) → EachFollows spoken log → IsCounted log
  counted [] each = record { asks = tt; right = refl }
  counted (Took a ∷ past) each = same_counted past (Took a) refl refl (counted past each.0)
  counted (Marked m ∷ past) each = mark_counted past m.at m.kind each.0 each.1 (counted past each.0)

  mark_tells : (past : Log) (at : ℕ) (kind : Kind) → MayMark spoken past (owed past) (record { at = at; kind = kind }) → IsCounted (Marked (record { at = at; kind = kind }) ∷ past) → Tells kind (stored (Marked (record { at = at; kind = kind }) ∷ past))
  mark_tells past at (Begin n) may h = h.right
  mark_tells past at (Refuse n) may h = refuse_counts past (owed past) at n may ∙ h.right
  mark_tells past at (End ending n) may h = let f = end_may spoken past (owed past) at n ending may in f.2.counted ∙ h.right
  mark_tells past at (Stop turns cause n) may h = let f = stop_stops spoken past (owed past) at turns n cause may in f.2.counted ∙ h.right
  mark_tells past at other may h = tt

  pub tell_counts : (log : Log) → EachFollows spoken log → TellCounts log
  tell_counts [] each = tt
  tell_counts (Took a ∷ past) each = tell_counts past each.0
  tell_counts (Marked m ∷ past) each =
      (mark_tells past m.at m.kind each.1 (counted (Marked m ∷ past) each), tell_counts past each.0)
