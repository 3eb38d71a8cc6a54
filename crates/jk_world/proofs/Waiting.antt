-- An execute request waits until it is begun, refused or aborted.
use Rattle.std.proofs.Common.{◌≡◌, ◌≢◌, ◌⊎◌, ℕ, ◌+◌, ◌≤◌, Bool, true, false, cond, List, [], ◌∷◌, ◌++◌, length, drop, refl, sym, ◌∙◌, ap, subst, arith, Option, None, Some, inl, inr, eqb}
use Rattle.std.specs.Prelude.{slice_get}
use Rattle.std.proofs.lemmas.Option.{none-some}
use Rattle.std.proofs.lemmas.Bool.{eqb-true}
use Rattle.std.proofs.lemmas.Bool.Decides.{eqb_tells}
use Rattle.jk_language.specs.Spoken.{Spoken}
use Rattle.jp_msg.specs.declared.message.Content.{Content}
use Rattle.jp_msg.specs.declared.message.Content.TheVariants as content
use Rattle.jp_msg.specs.declared.message.Execute.{Execute}
use Rattle.jp_msg.specs.declared.message.Request.{Request}
use Rattle.jp_msg.specs.declared.message.Request.TheVariants as request
use Rattle.jk_log.specs.declared.arrival.Arrival.{Arrival}
use Rattle.jk_log.specs.declared.arrival.Sort.{Sort}
use Rattle.jk_log.specs.declared.arrival.Sort.TheVariants as sort
use Rattle.jk_log.specs.declared.arrival.What.{What}
use Rattle.jk_log.specs.declared.arrival.What.TheVariants as what
use Rattle.jk_log.specs.declared.mark.Item.TheVariants.{Took, Marked}
use Rattle.jk_log.specs.declared.mark.Kind.{Kind}
use Rattle.jk_log.specs.declared.mark.Kind.TheVariants.{Begin, Refuse, Abort, Answer}
use Rattle.jk_log.specs.Asked.{content_execute, content_sort, execute_in, shell_sort, sort_as}
use Rattle.jk_log.specs.Legal.{EachFollows, MayMark, owed}
use Rattle.jk_log.specs.Log.{Log, execute_at, option_at, arrival_at, waiting, waits_as}
use Rattle.jk_log.proofs.Logs.{no_execute}
use Rattle.jk_world.specs.Aborts.{Waits}
use Rattle.jk_world.specs.Cells.{times_closed}
use Rattle.jk_world.proofs.Once.{answered_once, answers_first, count_in, count_more, dropped, is_at, more_if, not_answered, not_answered_yet, not_waiting_yet, waiting_new}
use Rattle.jk_world.proofs.Replied.{answer_may}
use Rattle.jk_world.proofs.Shown.{closed_few}

-- an execute request is done as one
content_cell : (c : Content) (e : Execute) → content_execute c ≡ Some e → content_sort shell_sort c ≡ sort.Execute
content_cell (content.Request (request.Execute x)) e h = refl
content_cell (content.Request request.KernelInfo) e h = absurd (none-some e h)
content_cell (content.Request (request.IsComplete code)) e h = absurd (none-some e h)
content_cell (content.Request (request.Complete cursor)) e h = absurd (none-some e h)
content_cell (content.Request request.Inspect) e h = absurd (none-some e h)
content_cell (content.Request request.History) e h = absurd (none-some e h)
content_cell (content.Request request.CommInfo) e h = absurd (none-some e h)
content_cell (content.Request request.Interrupt) e h = absurd (none-some e h)
content_cell (content.Request (request.Shutdown restart)) e h = absurd (none-some e h)
content_cell (content.Request (request.InputReply line)) e h = absurd (none-some e h)
content_cell (content.Request request.Other) e h = absurd (none-some e h)
content_cell (content.Output o) e h = absurd (none-some e h)

cell_sort : (w : What) (e : Execute) → execute_in w ≡ Some e → sort_as w ≡ sort.Execute
cell_sort (what.Shell m) e h = content_cell m.content e h
cell_sort what.Join e h = absurd (none-some e h)
cell_sort what.Leave e h = absurd (none-some e h)
cell_sort (what.Control m) e h = absurd (none-some e h)
cell_sort (what.Stdin m) e h = absurd (none-some e h)

-- closed or waiting
abbrev taken_at : ℕ → Log → ℕ
taken_at at log = times_closed at log + count_in at (waiting log)

module _ {S T : Type 0} (spoken : Spoken S T) where
  took_taken : (past : Log) (a : Arrival) (at : ℕ) (e : Execute) → EachFollows spoken past → (execute_at at past ≡ Some e → taken_at at past ≡ 1) → execute_at at (Took a ∷ past) ≡ Some e → taken_at at (Took a ∷ past) ≡ 1
  took_taken past a at e each before there = by (eqb (length past) at) refl there
    where
      more : count_in at (waiting past ++ waits_as (sort_as a.what) (length past)) ≡ count_in at (waiting past) + count_in at (waits_as (sort_as a.what) (length past))
      more = count_more at (waiting past) (waits_as (sort_as a.what) (length past))

      by : (b : Bool) → eqb (length past) at ≡ b → option_at (λ (x : Arrival). execute_in x.what) (cond b (Some a) (arrival_at at past)) ≡ Some e → taken_at at (Took a ∷ past) ≡ 1
      by true b h =
          let same : length past ≡ at = eqb-true (length past) at b in
          let few = closed_few past at in
          let none = not_answered_yet spoken past each at (omega (arith, same)) in
          let not = not_waiting_yet spoken past each at (omega (arith, same)) in
          let sort_is = ap (λ (s : Sort). count_in at (waits_as s (length past))) (cell_sort a.what e h) in
          let one : is_at at (length past) ≡ 1 = ap (λ (c : Bool). cond c 1 0) b in
          let sum = more in
          omega (arith, sum, sort_is, one, not, none, few)
      by false b h =
          let most = more_if spoken a at (length past) in
          let zero : is_at at (length past) ≡ 0 = ap (λ (c : Bool). cond c 1 0) b in
          let old = before h in
          let sum = more in
          omega (arith, sum, most, zero, old)

  answer_taken : (past : Log) (p at : ℕ) (e : Execute) → slice_get (waiting past) 0 ≡ Some p → p ≢ at → (times_closed at past + cond (eqb p at) 0 0) + count_in at (drop 1 (waiting past)) ≡ taken_at at past
  answer_taken past p at e first apart = by (eqb_tells p at)
    where
      by : ((eqb p at ≡ true) × (p ≡ at)) ⊎ ((eqb p at ≡ false) × (p ≢ at)) → (times_closed at past + cond (eqb p at) 0 0) + count_in at (drop 1 (waiting past)) ≡ taken_at at past
      by (inl (b, same)) = absurd (apart same)
      by (inr (b, other)) =
          let zero : is_at at p ≡ 0 = ap (λ (c : Bool). cond c 1 0) b in
          let same = ap (λ (c : Bool). cond {A = ℕ} c 0 0) b in
          let drops = dropped at p (waiting past) first in
          omega (arith, zero, same, drops)

  mark_taken : (past : Log) (p at : ℕ) (kind : Kind) (e : Execute) → EachFollows spoken past → MayMark spoken past (owed past) (record { at = p; kind = kind }) → execute_at at past ≡ Some e → taken_at at (Marked (record { at = p; kind = kind }) ∷ past) ≡ taken_at at past
  mark_taken past p at (Begin n) e each may there = answered_once at p (times_closed at past) (waiting past) (answers_first spoken past p (Begin n) each may tt)
  mark_taken past p at (Refuse n) e each may there = answered_once at p (times_closed at past) (waiting past) (answers_first spoken past p (Refuse n) each may tt)
  mark_taken past p at Abort e each may there = answered_once at p (times_closed at past) (waiting past) (answers_first spoken past p Abort each may tt)
  mark_taken past p at (Answer status) e each may there =
      let query = answer_may spoken past (owed past) p status may in
      let no_cell = no_execute past p query.request query.there in
      answer_taken past p at e (answers_first spoken past p (Answer status) each may tt)
      (λ same. none-some e (sym no_cell ∙ ap (λ (q : ℕ). execute_at q past) same ∙ there))
  mark_taken past p at other e each may there = not_answered (eqb p at) (times_closed at past) (count_in at (waiting past))

  before_mark : (b : Bool) (o : Option Arrival) (e : Execute) → option_at (λ (a : Arrival). execute_in a.what) (cond b None o) ≡ Some e → option_at (λ (a : Arrival). execute_in a.what) o ≡ Some e
  before_mark true o e h = absurd (none-some e h)
  before_mark false o e h = h

  -- an execute request that was taken is closed once, or waits once
  taken_once : (log : Log) → EachFollows spoken log → (at : ℕ) (e : Execute) → execute_at at log ≡ Some e → taken_at at log ≡ 1
  taken_once [] each at e there = absurd (none-some e there)
  taken_once (Took a ∷ past) each at e there = took_taken past a at e each.0 (taken_once past each.0 at e) there
  taken_once (Marked m ∷ past) each at e there =
      let before = before_mark (eqb (length past) at) (arrival_at at past) e there in
      mark_taken past m.at at m.kind e each.0 each.1 before ∙ taken_once past each.0 at e before

  -- what waits stands among what waits
  pub waits_there : (log : Log) → EachFollows spoken log → (at : ℕ) → Waits log at → count_in at (waiting log) ≡ 1
  waits_there log each at w =
      let one = taken_once log each at w.request w.there in
      let none = w.still in
      omega (arith, one, none)

  pub there_waits : (log : Log) → EachFollows spoken log → (at : ℕ) (e : Execute) → execute_at at log ≡ Some e → 1 ≤ count_in at (waiting log) → Waits log at
  there_waits log each at e there h = record {
    request = e;
    there = there;
    still = let few = closed_few log at in let none = waiting_new spoken log each at h in omega (arith, few, none);
  }
