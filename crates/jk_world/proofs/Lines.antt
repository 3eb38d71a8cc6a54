-- A line is given to the cell that runs.
use Rattle.std.proofs.Common.{◌≡◌, ℕ, Bool, true, false, cond, List, [], ◌∷◌, ◌++◌, drop, length, map, refl, sym, ◌∙◌, ap, subst, Option, None, Some}
use Rattle.std.proofs.lemmas.Option.{none-some, same_Some}
use Rattle.jk_language.specs.Parts.{Line as Given}
use Rattle.jk_language.specs.Spoken.{Spoken}
use Rattle.jk_log.specs.declared.arrival.Arrival.{Arrival}
use Rattle.jk_log.specs.declared.mark.Item.TheVariants.{Took, Marked}
use Rattle.jk_log.specs.declared.mark.Mark.{Mark}
use Rattle.jk_log.specs.declared.mark.Kind.{Kind}
use Rattle.jk_log.specs.declared.mark.Kind.TheVariants.{Line, End, Stop, Answer, Restart}
use Rattle.jk_log.specs.declared.mark.Ending.{Ending}
use Rattle.jk_log.specs.declared.mark.Ending.TheVariants.{Completed, Trapped, Refused}
use Rattle.jk_log.specs.declared.mark.Cause.{Cause}
use Rattle.jk_log.specs.declared.mark.Cause.TheVariants.{Memory, Interrupted, Restarted}
use Rattle.jp_msg.specs.declared.message.Execute.{Execute}
use Rattle.jk_log.specs.Asked.{sort_as, input_in}
use Rattle.jk_log.specs.Log.{Log, Running, running, running_with, execute_at, waiting, asker, asked_of, option_at}
use Rattle.jk_log.specs.Legal.{Due, MarkDue, AnswerDue, FlushDue, StopDue, MayMark, owed, dues_of, dues_after, dues_after_end, dues_after_stop, fails_due, due_by, due_of, waiting_dues, ends_due, line_due}
use Rattle.jk_log.proofs.Logs.{by_sort}

-- a mark that is due is no line
abbrev pub IsNoLine : Due → Type 0
IsNoLine (MarkDue at (Line line)) = ⊥
IsNoLine other = Unit {0}

abbrev pub NoLines : List Due → Type 0
NoLines [] = Unit {0}
NoLines (d ∷ ds) = IsNoLine d × NoLines ds

-- a line that is due is for the cell that runs
abbrev pub IsForRunning : Due → Option Running → Type 0
IsForRunning (MarkDue at (Line line)) o = (r : Running) × (o ≡ Some r) × (at ≡ r.at)
IsForRunning other o = Unit {0}

-- none but the first mark that is owed is a line, and that is for the cell that runs
abbrev pub LinesFit : List Due → Option Running → Type 0
LinesFit [] o = Unit {0}
LinesFit (d ∷ ds) o = IsForRunning d o × NoLines ds

no_line : (d : Due) (o : Option Running) → IsNoLine d → IsForRunning d o
no_line (MarkDue at (Line line)) o h = absurd h
no_line other o h = tt

no_lines : (ds : List Due) (o : Option Running) → NoLines ds → LinesFit ds o
no_lines [] o h = tt
no_lines (d ∷ ds) o h = (no_line d o h.0, h.1)

pub no_lines_append : (ds es : List Due) → NoLines ds → NoLines es → NoLines (ds ++ es)
no_lines_append [] es h k = k
no_lines_append (d ∷ ds) es h k = (h.0, no_lines_append ds es h.1 k)

pub no_lines_after : (ds : List Due) (o : Option Running) → LinesFit ds o → NoLines (drop 1 ds)
no_lines_after [] o h = tt
no_lines_after (d ∷ ds) o h = h.1

no_waits : (log : Log) (places : List ℕ) → NoLines (map (due_of log) places)
no_waits log [] = tt
no_waits log (p ∷ ps) = (one (execute_at p log), no_waits log ps)
  where
    one : (o : Option Execute) → IsNoLine (due_by o p)
    one (Some e) = tt
    one None = tt

no_dues_if : (b : Bool) (ds : List Due) → NoLines ds → NoLines (cond b ds [])
no_dues_if true ds h = h
no_dues_if false ds h = tt

no_dues : (o : Option Running) (ds : List Due) → NoLines ds → NoLines (fails_due o ds)
no_dues None ds h = tt
no_dues (Some r) ds h = no_dues_if r.request.stop_on_error ds h

no_end_dues : (e : Ending) (o : Option Running) (ds : List Due) → NoLines ds → NoLines (dues_after_end e o ds)
no_end_dues Completed o ds h = tt
no_end_dues (Trapped trap) o ds h = no_dues o ds h
no_end_dues (Refused refusal) o ds h = no_dues o ds h

no_stop_dues : (cause : Cause) (o : Option Running) (ds : List Due) → NoLines ds → NoLines (dues_after_stop cause o ds)
no_stop_dues Memory o ds h = no_dues o ds h
no_stop_dues Interrupted o ds h = no_dues o ds h
no_stop_dues Restarted o ds h = tt

no_after : (kind : Kind) (o : Option Running) (ds : List Due) → NoLines ds → NoLines (dues_after kind o ds)
no_after (End ending n) o ds h = no_end_dues ending o ds h
no_after (Stop turns cause n) o ds h = no_stop_dues cause o ds h
no_after other o ds h = tt

pub no_line_after : (kind : Kind) (o : Option Running) (past : Log) → NoLines (dues_after kind o (waiting_dues past))
no_line_after kind o past = no_after kind o (waiting_dues past) (no_waits past (waiting past))

no_line_stops : (cause : Cause) (o : Option Running) → NoLines (ends_due cause o)
no_line_stops cause None = tt
no_line_stops cause (Some r) = (tt, (tt, tt))

pub no_line_shut : (o : Option Running) (past : Log) (at : ℕ) (restart : Bool) → NoLines ((ends_due Restarted o ++ waiting_dues past) ++ MarkDue at (Restart restart) ∷ [])
no_line_shut o past at restart =
    no_lines_append (ends_due Restarted o ++ waiting_dues past) (MarkDue at (Restart restart) ∷ [])
    (no_lines_append (ends_due Restarted o) (waiting_dues past) (no_line_stops Restarted o) (no_waits past (waiting past))) (tt, tt)

asked_at : (b : Bool) (r : Running) (at : ℕ) → cond b (Some r.at) None ≡ Some at → at ≡ r.at
asked_at true r at e = sym (same_Some r.at at e)
asked_at false r at e = absurd (none-some at e)

pub asker_runs : (seat : ℕ) (past : Log) (o : Option Running) (at : ℕ) → option_at (asked_of seat past) o ≡ Some at → (r : Running) × (o ≡ Some r) × (at ≡ r.at)
asker_runs seat past None at e = absurd (none-some at e)
asker_runs seat past (Some r) at e = (r, refl, asked_at _ r at e)

line_fits : (text : Option (List ℕ)) (at : Option ℕ) (o : Option Running) → ((place : ℕ) → at ≡ Some place → (r : Running) × (o ≡ Some r) × (place ≡ r.at)) → LinesFit (line_due text at) o
line_fits None at o h = tt
line_fits (Some text) None o h = tt
line_fits (Some text) (Some place) o h = (h place refl, tt)

took_fits : (a : Arrival) (past : Log) → LinesFit (dues_of (sort_as a.what) a past) (running_with (sort_as a.what) (running past))
took_fits a past =
    by_sort (λ s. LinesFit (dues_of s a past) (running_with s (running past))) (tt, tt) (tt, tt) tt tt
    (line_fits (input_in a.what) (asker a.seat past) (running past) (asker_runs a.seat past (running past)))
    (tt, no_line_stops Interrupted (running past)) (tt, tt)
    (λ restart. no_lines _ _ (no_line_shut (running past) past (length past) restart))
    tt (sort_as a.what)

pub lines_fit : (log : Log) → LinesFit (owed log) (running log)
lines_fit [] = tt
lines_fit (Took a ∷ past) = took_fits a past
lines_fit (Marked m ∷ past) =
    no_lines _ (running (Marked m ∷ past))
    (no_lines_append (drop 1 (owed past)) _ (no_lines_after (owed past) (running past) (lines_fit past)) (no_line_after m.kind (running past) past))

module _ {S T : Type 0} (spoken : Spoken S T) where
  line_may : (past : Log) (dues : List Due) (at : ℕ) (line : Given) → LinesFit dues (running past) → MayMark spoken past dues (record { at = at; kind = Line line }) → (r : Running) × (running past ≡ Some r) × (at ≡ r.at)
  line_may past [] at None h may = (may.0, may.1, may.2)
  line_may past [] at (Some text) h may = absurd may
  line_may past (MarkDue a due ∷ dues) at line h (same, forced) =
      let kind_is : Line line ≡ due = ap (λ (m : Mark). m.kind) same in
      let for_it : IsForRunning (MarkDue a (Line line)) (running past) = subst (λ (k : Kind). IsForRunning (MarkDue a k) (running past)) (sym kind_is) h.0 in
      (for_it.0, for_it.1, ap (λ (m : Mark). m.at) same ∙ for_it.2)
  line_may past (AnswerDue a ∷ dues) at line h (status, same, right) = let k : Line line ≡ Answer status = ap (λ (m : Mark). m.kind) same in cc
  line_may past (FlushDue ∷ dues) at line h may = absurd may.0
  line_may past (StopDue cause ∷ dues) at line h (t, n, e, rest) = cc

  -- a line is for the cell that runs
  pub line_runs : (past : Log) (at : ℕ) (line : Given) → MayMark spoken past (owed past) (record { at = at; kind = Line line }) → (r : Running) × (running past ≡ Some r) × (at ≡ r.at)
  line_runs past at line may = line_may past (owed past) at line (lines_fit past) may
