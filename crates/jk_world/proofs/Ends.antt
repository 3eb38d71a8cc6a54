-- A cell that was begun runs, or has ended once.
use Rattle.std.proofs.Common.{◌≡◌, ℕ, ◌+◌, Bool, true, false, cond, List, [], ◌∷◌, refl, sym, ◌∙◌, ap, subst, arith, Option, None, Some, eqb}
use Rattle.jk_language.specs.Spoken.{Spoken}
use Rattle.jp_msg.specs.declared.message.Execute.{Execute}
use Rattle.jk_log.specs.declared.mark.Item.TheVariants.{Took, Marked}
use Rattle.jk_log.specs.declared.mark.Mark.{Mark}
use Rattle.jk_log.specs.declared.mark.Kind.{Kind}
use Rattle.jk_log.specs.declared.mark.Kind.TheVariants.{Begin, Flush, Ask, Line, End, Stop, Answer}
use Rattle.jk_log.specs.Log.{Log, Running, running, seat_at, execute_at, option_or, option_with, opened, flushed_at, asking, lined, unread}
use Rattle.jk_log.specs.Legal.{Due, MarkDue, AnswerDue, FlushDue, StopDue, IsForced, EachFollows, MayMark, owed}
use Rattle.jk_log.specs.declared.arrival.Arrival.{Arrival}
use Rattle.jk_world.specs.Cells.{times_begun, times_ended, runs_at, interrupts, IsAnsweredOnce}
use Rattle.jk_world.proofs.Once.{answered_at_most_once}
use Rattle.jk_world.proofs.Dues.{begin_asks}
use Rattle.jk_world.proofs.Streams.{running_took}
use Rattle.jk_world.proofs.Parents.{end_may, stop_may}

abbrev pub runs_as : ℕ → Option Running → ℕ
runs_as at o = option_or (λ (r : Running). cond (eqb r.at at) 1 0) 0 o

-- nothing begins or ends
nothing : (b : Bool) (begun ended runs : ℕ) → begun ≡ ended + runs → begun + cond b 0 0 ≡ (ended + cond b 0 0) + runs
nothing true begun ended runs h = omega arith
nothing false begun ended runs h = omega arith

-- a cell begins, where none runs
starts : (b : Bool) (begun ended runs : ℕ) → runs ≡ 0 → begun ≡ ended + runs → begun + cond b 1 0 ≡ (ended + cond b 0 0) + cond b 1 0
starts true begun ended runs none h = omega arith
starts false begun ended runs none h = omega arith

-- the cell that runs ends
stops : (b : Bool) (begun ended runs : ℕ) → runs ≡ cond b 1 0 → begun ≡ ended + runs → begun + cond b 0 0 ≡ (ended + cond b 1 0) + 0
stops true begun ended runs one h = omega arith
stops false begun ended runs one h = omega arith

pub runs_begun : (at p seat : ℕ) (o : Option Execute) (e : Execute) → o ≡ Some e → runs_as at (option_with (opened p seat) o) ≡ cond (eqb p at) 1 0
runs_begun at p seat o e h = rw h refl

-- a change of the cell that runs
pub runs_changed : (at : ℕ) (change : Running → Running) (o : Option Running) → ((r : Running) → (change r).at ≡ r.at) → runs_as at (option_with change o) ≡ runs_as at o
runs_changed at change None same = refl
runs_changed at change (Some r) same = ap (λ (p : ℕ). cond (eqb p at) 1 0) (same r)

pub runs_unread : (at : ℕ) (b : Bool) (o : Option Running) → runs_as at (cond b (option_with unread o) o) ≡ runs_as at o
runs_unread at true o = runs_changed at unread o (λ r. refl)
runs_unread at false o = refl

pub runs_none : (at : ℕ) (o : Option Running) → o ≡ None → runs_as at o ≡ 0
runs_none at o e = rw e refl

pub runs_one : (at p : ℕ) (o : Option Running) (r : Running) → o ≡ Some r → p ≡ r.at → runs_as at o ≡ cond (eqb p at) 1 0
runs_one at p o r e here = ap (runs_as at) e ∙ ap (λ (p : ℕ). cond (eqb p at) 1 0) (sym here)

module _ {S T : Type 0} (spoken : Spoken S T) where
  pub begin_idle : (past : Log) (dues : List Due) (at n : ℕ) → MayMark spoken past dues (record { at = at; kind = Begin n }) → running past ≡ None
  begin_idle past [] at n h = h.0.idle
  begin_idle past (MarkDue a due ∷ dues) at n (same, forced) = absurd (subst IsForced (sym (ap (λ (m : Mark). m.kind) same)) forced)
  begin_idle past (AnswerDue a ∷ dues) at n (status, same, right) = let k : Begin n ≡ Answer status = ap (λ (m : Mark). m.kind) same in cc
  begin_idle past (FlushDue ∷ dues) at n h = absurd h.0
  begin_idle past (StopDue cause ∷ dues) at n (t, k, is, rest) = cc

  -- what was begun runs, or has ended
  abbrev pub Lives : ℕ → Log → Type 0
  Lives at log = times_begun at log ≡ times_ended at log + runs_at at log

  mark_lives : (past : Log) (at p : ℕ) (kind : Kind) → EachFollows spoken past → MayMark spoken past (owed past) (record { at = p; kind = kind }) → Lives at past → Lives at (Marked (record { at = p; kind = kind }) ∷ past)
  mark_lives past at p (Begin n) each may h =
      let asks = begin_asks spoken past (owed past) p n may in
      starts (eqb p at) (times_begun at past) (times_ended at past) (runs_at at past) (runs_none at (running past) (begin_idle past (owed past) p n may)) h
      ∙ ap (λ (k : ℕ). (times_ended at past + cond (eqb p at) 0 0) + k) (sym (runs_begun at p (seat_at p past) (execute_at p past) asks.0 asks.1))
  mark_lives past at p (Flush turns text) each may h =
      nothing (eqb p at) (times_begun at past) (times_ended at past) (runs_at at past) h
      ∙ ap (λ (k : ℕ). (times_ended at past + cond (eqb p at) 0 0) + k) (sym (runs_changed at (flushed_at turns) (running past) (λ r. refl)))
  mark_lives past at p Ask each may h =
      nothing (eqb p at) (times_begun at past) (times_ended at past) (runs_at at past) h
      ∙ ap (λ (k : ℕ). (times_ended at past + cond (eqb p at) 0 0) + k) (sym (runs_changed at asking (running past) (λ r. refl)))
  mark_lives past at p (Line line) each may h =
      nothing (eqb p at) (times_begun at past) (times_ended at past) (runs_at at past) h
      ∙ ap (λ (k : ℕ). (times_ended at past + cond (eqb p at) 0 0) + k) (sym (runs_changed at (lined line) (running past) (λ r. refl)))
  mark_lives past at p (End ending n) each may h =
      let (r, runs, f) = end_may spoken past (owed past) p n ending may in
      stops (eqb p at) (times_begun at past) (times_ended at past) (runs_at at past) (runs_one at p (running past) r runs f.request) h
  mark_lives past at p (Stop turns cause n) each may h =
      let s = stop_may spoken past (owed past) p turns n cause may in
      stops (eqb p at) (times_begun at past) (times_ended at past) (runs_at at past) (runs_one at p (running past) s.0 s.1 s.2) h
  mark_lives past at p other each may h = nothing (eqb p at) (times_begun at past) (times_ended at past) (runs_at at past) h

  took_lives : (past : Log) (a : Arrival) (at : ℕ) → Lives at past → Lives at (Took a ∷ past)
  took_lives past a at h =
      h ∙ ap (λ (n : ℕ). times_ended at past + n) (sym (ap (runs_as at) (running_took a (running past)) ∙ runs_unread at (interrupts a.what) (running past)))

  pub lives : (log : Log) → EachFollows spoken log → (at : ℕ) → Lives at log
  lives [] each at = refl
  lives (Took a ∷ past) each at = took_lives past a at (lives past each.0 at)
  lives (Marked m ∷ past) each at = mark_lives past at m.at m.kind each.0 each.1 (lives past each.0 at)

  pub once_answered : (log : Log) → EachFollows spoken log → (at : ℕ) → IsAnsweredOnce log at
  once_answered log each at = record { answered = answered_at_most_once spoken log each at; ended = lives log each at }
