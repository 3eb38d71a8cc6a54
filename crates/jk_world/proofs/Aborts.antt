-- Each abort has a reason, and each reason aborts what waits.
use Rattle.std.proofs.Common.{◌≡◌, ◌≢◌, ◌⊎◌, ℕ, ◌+◌, ◌≤◌, Bool, true, false, cond, List, [], ◌∷◌, ◌++◌, length, map, drop, refl, sym, ◌∙◌, ap, subst, append_assoc, arith, Option, None, Some, inl, inr, eqb, eq-eqb}
use Rattle.std.specs.Prelude.{◌&&◌}
use Rattle.std.proofs.lemmas.List.{append-nil}
use Rattle.std.proofs.lemmas.Option.{none-some, same_Some}
use Rattle.std.proofs.lemmas.Bool.Decides.{eqb_tells}
use Rattle.jk_language.specs.Spoken.{Spoken, IsLanguage}
use Rattle.jp_msg.specs.declared.message.Completeness.{Completeness}
use Rattle.jp_msg.specs.declared.message.Content.{Content}
use Rattle.jp_msg.specs.declared.message.Content.TheVariants as content
use Rattle.jp_msg.specs.declared.message.Execute.{Execute}
use Rattle.jp_msg.specs.declared.message.Request.{Request}
use Rattle.jp_msg.specs.declared.message.Request.TheVariants as request
use Rattle.jk_log.specs.declared.arrival.Arrival.{Arrival}
use Rattle.jk_log.specs.declared.arrival.Sort.{Sort}
use Rattle.jk_log.specs.declared.arrival.Sort.TheVariants as sort
use Rattle.jk_log.specs.declared.arrival.What.{What}
use Rattle.jk_log.specs.declared.arrival.What.TheVariants as what
use Rattle.jk_log.specs.declared.mark.Cause.{Cause}
use Rattle.jk_log.specs.declared.mark.Cause.TheVariants.{Memory, Interrupted, Restarted}
use Rattle.jk_log.specs.declared.mark.Ending.{Ending}
use Rattle.jk_log.specs.declared.mark.Ending.TheVariants.{Completed, Trapped, Refused}
use Rattle.jk_log.specs.declared.mark.Item.{Item}
use Rattle.jk_log.specs.declared.mark.Item.TheVariants.{Took, Marked}
use Rattle.jk_log.specs.declared.mark.Mark.{Mark}
use Rattle.jk_log.specs.declared.mark.Kind.{Kind}
use Rattle.jk_log.specs.declared.mark.Kind.TheVariants.{Join, Leave, Begin, Flush, Ask, Line, End, Stop, Refuse, Abort, Answer, Interrupt, KernelInfo, Restart}
use Rattle.jk_log.specs.Asked.{content_sort, control_sort, input_in, shell_sort, sort_as, stdin_sort}
use Rattle.jk_log.specs.Legal.{Due, MarkDue, AnswerDue, FlushDue, StopDue, EachFollows, IsForced, MayMark, due_by, due_of, dues_after, dues_of, ends_due, fails_due, line_due, owed, waiting_dues}
use Rattle.jk_log.specs.Log.{Log, Running, asker, execute_at, option_or, running, waiting}
use Rattle.jk_log.proofs.Logs.{by_sort}
use Rattle.jk_world.specs.Aborts.{AbortsAreRight, AreBetween, HasReason, IsAborted, Waits, abort, content_shuts, fails, goes_between, is_between, is_reason, shuts_down, stops_on_error}
use Rattle.jk_world.proofs.Once.{Fits, count_in, fits, is_at, just_flush}
use Rattle.jk_world.proofs.Outcomes.{stop_stops}
use Rattle.jk_world.proofs.Parents.{end_may}
use Rattle.jk_world.proofs.Prefixes.{each_before}
use Rattle.jk_world.proofs.Streams.{runs_asked}
use Rattle.jk_world.proofs.Waiting.{there_waits, waits_there}

-- ---- a shutdown

abbrev is_shutdown : Sort → Bool
is_shutdown (sort.Shutdown restart) = true
is_shutdown _ = false

control_shuts : (c : Content) → content_shuts c ≡ is_shutdown (content_sort control_sort c)
control_shuts (content.Request (request.Execute e)) = refl
control_shuts (content.Request request.KernelInfo) = refl
control_shuts (content.Request (request.IsComplete code)) = refl
control_shuts (content.Request (request.Complete cursor)) = refl
control_shuts (content.Request request.Inspect) = refl
control_shuts (content.Request request.History) = refl
control_shuts (content.Request request.CommInfo) = refl
control_shuts (content.Request request.Interrupt) = refl
control_shuts (content.Request (request.Shutdown restart)) = refl
control_shuts (content.Request (request.InputReply line)) = refl
control_shuts (content.Request request.Other) = refl
control_shuts (content.Output o) = refl

shell_shuts : (c : Content) → false ≡ is_shutdown (content_sort shell_sort c)
shell_shuts (content.Request (request.Execute e)) = refl
shell_shuts (content.Request request.KernelInfo) = refl
shell_shuts (content.Request (request.IsComplete code)) = refl
shell_shuts (content.Request (request.Complete cursor)) = refl
shell_shuts (content.Request request.Inspect) = refl
shell_shuts (content.Request request.History) = refl
shell_shuts (content.Request request.CommInfo) = refl
shell_shuts (content.Request request.Interrupt) = refl
shell_shuts (content.Request (request.Shutdown restart)) = refl
shell_shuts (content.Request (request.InputReply line)) = refl
shell_shuts (content.Request request.Other) = refl
shell_shuts (content.Output o) = refl

stdin_shuts : (c : Content) → false ≡ is_shutdown (content_sort stdin_sort c)
stdin_shuts (content.Request (request.Execute e)) = refl
stdin_shuts (content.Request request.KernelInfo) = refl
stdin_shuts (content.Request (request.IsComplete code)) = refl
stdin_shuts (content.Request (request.Complete cursor)) = refl
stdin_shuts (content.Request request.Inspect) = refl
stdin_shuts (content.Request request.History) = refl
stdin_shuts (content.Request request.CommInfo) = refl
stdin_shuts (content.Request request.Interrupt) = refl
stdin_shuts (content.Request (request.Shutdown restart)) = refl
stdin_shuts (content.Request (request.InputReply line)) = refl
stdin_shuts (content.Request request.Other) = refl
stdin_shuts (content.Output o) = refl

shuts_as : (w : What) → shuts_down w ≡ is_shutdown (sort_as w)
shuts_as (what.Control m) = control_shuts m.content
shuts_as (what.Shell m) = shell_shuts m.content
shuts_as (what.Stdin m) = stdin_shuts m.content
shuts_as what.Join = refl
shuts_as what.Leave = refl

-- ---- the reasons of the aborts that are owed

abbrev NoAborts : List Due → Type 0
NoAborts [] = Unit {0}
NoAborts (MarkDue at Abort ∷ ds) = ⊥
NoAborts (MarkDue at other ∷ ds) = NoAborts ds
NoAborts (AnswerDue at ∷ ds) = NoAborts ds
NoAborts (FlushDue ∷ ds) = NoAborts ds
NoAborts (StopDue cause ∷ ds) = NoAborts ds

-- these aborts are of requests that waited, and what is owed before them may stand between
abbrev Explained : Log → List Due → Type 0
Explained before [] = Unit {0}
Explained before (MarkDue at Abort ∷ ds) = Waits before at × Explained before ds
Explained before (MarkDue at other ∷ ds) = NoAborts ds
Explained before (AnswerDue at ∷ ds) = Explained before ds
Explained before (FlushDue ∷ ds) = Explained before ds
Explained before (StopDue Restarted ∷ ds) = Explained before ds
Explained before (StopDue Memory ∷ ds) = NoAborts ds
Explained before (StopDue Interrupted ∷ ds) = NoAborts ds

record IsReason (log : Log) (ds : List Due) : Type 0 where
  between : List Item
  reason : Item
  before : Log
  parts : between ++ reason ∷ before ≡ log
  directly : AreBetween between
  right : is_reason before reason ≡ true
  owes : Explained before ds

abbrev Known : Log → List Due → Type 0
Known log ds = NoAborts ds ⊎ IsReason log ds

no_more : (ds : List Due) → NoAborts ds → NoAborts (ds ++ [])
no_more ds h = subst NoAborts (sym (append-nil ds)) h

same_more : (before : Log) (ds : List Due) → Explained before ds → Explained before (ds ++ [])
same_more before ds h = subst (Explained before) (sym (append-nil ds)) h

-- one more mark of those that may stand between
one_more : (past : Log) (m : Mark) (ds es : List Due) → goes_between m.kind ≡ true → (r : IsReason past ds) → Explained r.before es → IsReason (Marked m ∷ past) es
one_more past m ds es goes r owes = record {
  between = Marked m ∷ r.between;
  reason = r.reason;
  before = r.before;
  parts = ap (λ (items : List Item). Marked m ∷ items) r.parts;
  directly = (goes, r.directly);
  right = r.right;
  owes = owes;
}

line_none : (text : Option (List ℕ)) (at : Option ℕ) → NoAborts (line_due text at)
line_none None at = tt
line_none (Some text) None = tt
line_none (Some text) (Some at) = tt

ends_none : (cause : Cause) (o : Option Running) → NoAborts (ends_due cause o)
ends_none cause None = tt
ends_none cause (Some r) = tt

-- ---- an abort that is owed next

abbrev Owes : ℕ → List Due → Type 0
Owes at [] = ⊥
Owes at (MarkDue p Abort ∷ ds) = (p ≡ at) ⊎ Owes at ds
Owes at (MarkDue p other ∷ ds) = ⊥
Owes at (AnswerDue p ∷ ds) = Owes at ds
Owes at (FlushDue ∷ ds) = Owes at ds
Owes at (StopDue Restarted ∷ ds) = Owes at ds
Owes at (StopDue Memory ∷ ds) = ⊥
Owes at (StopDue Interrupted ∷ ds) = ⊥

owes_more : (at : ℕ) (ds : List Due) → Owes at ds → Owes at (ds ++ [])
owes_more at ds h = subst (Owes at) (sym (append-nil ds)) h

-- each request that waits is owed its abort
owes_waiting : (log : Log) (at : ℕ) (e : Execute) (places : List ℕ) (ds : List Due) → execute_at at log ≡ Some e → 1 ≤ count_in at places → Owes at (map (due_of log) places ++ ds)
owes_waiting log at e [] ds there h = absurd (omega (arith, h))
owes_waiting log at e (p ∷ ps) ds there h = by (λ more. owes_waiting log at e ps ds there more) (eqb_tells p at)
  where
    found : p ≡ at → Owes at (due_by (execute_at p log) p ∷ (map (due_of log) ps ++ ds))
    found same = subst (λ (o : Option Execute). Owes at (due_by o p ∷ (map (due_of log) ps ++ ds))) (sym (ap (λ (q : ℕ). execute_at q log) same ∙ there)) (inl same)

    passed : (o : Option Execute) → Owes at (map (due_of log) ps ++ ds) → Owes at (due_by o p ∷ (map (due_of log) ps ++ ds))
    passed None rest = rest
    passed (Some x) rest = inr rest

    by : (1 ≤ count_in at ps → Owes at (map (due_of log) ps ++ ds)) → ((eqb p at ≡ true) × (p ≡ at)) ⊎ ((eqb p at ≡ false) × (p ≢ at)) → Owes at (map (due_of log) (p ∷ ps) ++ ds)
    by rest (inl (b, same)) = found same
    by rest (inr (b, other)) =
        let zero : is_at at p ≡ 0 = ap (λ (c : Bool). cond c 1 0) b in
        passed (execute_at p log) (rest (omega (arith, h, zero)))

owes_ends : (at : ℕ) (o : Option Running) (ds : List Due) → Owes at ds → Owes at (ends_due Restarted o ++ ds)
owes_ends at None ds h = h
owes_ends at (Some r) ds h = h

module _ {S T : Type 0} (spoken : Spoken S T) where
  -- an end or a stop comes where nothing else is owed but by a shutdown
  end_free : (past : Log) (ds : List Due) (at n : ℕ) (ending : Ending) → MayMark spoken past ds (record { at = at; kind = End ending n }) → ds ≡ []
  end_free past [] at n ending h = refl
  end_free past (MarkDue a due ∷ ds) at n ending (same, forced) = absurd (subst IsForced (sym (ap (λ (m : Mark). m.kind) same)) forced)
  end_free past (AnswerDue a ∷ ds) at n ending (status, same, right) = let k : End ending n ≡ Answer status = ap (λ (m : Mark). m.kind) same in cc
  end_free past (FlushDue ∷ ds) at n ending h = absurd h.0
  end_free past (StopDue cause ∷ ds) at n ending (t, k, is, rest) = cc

  abbrev FreeBy : Cause → List Due → Type 0
  FreeBy Restarted ds = Unit {0}
  FreeBy Memory ds = ds ≡ []
  FreeBy Interrupted ds = ds ≡ []

  fits_free : (cause : Cause) (ds : List Due) (places : List ℕ) → Fits (StopDue cause ∷ ds) places → FreeBy cause ds
  fits_free Memory ds places h = h
  fits_free Interrupted ds places h = h
  fits_free Restarted ds places h = tt

  abbrev CauseOf : Kind → Cause → Type 0
  CauseOf (Stop turns cause n) c = cause ≡ c
  CauseOf other c = Unit {0}

  stop_free : (past : Log) (ds : List Due) (at turns n : ℕ) (cause : Cause) → MayMark spoken past ds (record { at = at; kind = Stop turns cause n }) → Fits ds (waiting past) → FreeBy cause (drop 1 ds)
  stop_free past [] at turns n Memory may fit = refl
  stop_free past [] at turns n Interrupted may fit = refl
  stop_free past [] at turns n Restarted may fit = tt
  stop_free past (MarkDue a due ∷ ds) at turns n cause (same, forced) fit = absurd (subst IsForced (sym (ap (λ (m : Mark). m.kind) same)) forced)
  stop_free past (AnswerDue a ∷ ds) at turns n cause (status, same, right) fit = let k : Stop turns cause n ≡ Answer status = ap (λ (m : Mark). m.kind) same in cc
  stop_free past (FlushDue ∷ ds) at turns n cause may fit = absurd may.0
  stop_free past (StopDue due ∷ ds) at turns n cause (t, k, is, rest) fit =
      let same : cause ≡ due = subst (λ (k : Kind). CauseOf k due) (sym is) refl in
      subst (λ (c : Cause). FreeBy c ds) (sym same) (fits_free due ds (waiting past) fit)

module _ {S T : Type 0} (spoken : Spoken S T) (laws : IsLanguage spoken) where
  -- ---- where aborts are owed, their reason is known

  waits_explained : (past : Log) → EachFollows spoken past → (places : List ℕ) (ds : List Due) → ((p : ℕ) → count_in p places ≤ count_in p (waiting past)) → Explained past ds → Explained past (map (due_of past) places ++ ds)
  waits_explained past each [] ds among h = h
  waits_explained past each (p ∷ ps) ds among h = one (execute_at p past) refl (waits_explained past each ps ds (λ q. (let most = among q in omega (arith, most))) h)
    where
      one : (o : Option Execute) → execute_at p past ≡ o → Explained past (map (due_of past) ps ++ ds) → Explained past (due_by o p ∷ (map (due_of past) ps ++ ds))
      one None is rest = rest
      one (Some e) is rest =
          let most = among p in
          let itself : is_at p p ≡ 1 = ap (λ (c : Bool). cond c 1 0) (eq-eqb p p refl) in
          (there_waits spoken past each p e is (omega (arith, most, itself)), rest)

  ends_explained : (past : Log) (o : Option Running) (ds : List Due) → Explained past ds → Explained past (ends_due Restarted o ++ ds)
  ends_explained past None ds h = h
  ends_explained past (Some r) ds h = h

  took_known : (past : Log) (a : Arrival) → EachFollows spoken past → Known (Took a ∷ past) (dues_of (sort_as a.what) a past)
  took_known past a each =
      by_sort (λ s. shuts_down a.what ≡ is_shutdown s → Known (Took a ∷ past) (dues_of s a past)) (λ h. inl tt) (λ h. inl tt) (λ h. inl tt) (λ h. inl tt)
      (λ h. inl (line_none (input_in a.what) (asker a.seat past))) (λ h. inl (ends_none Interrupted (running past))) (λ h. inl tt)
      (λ restart h. inr (record {
        between = [];
        reason = Took a;
        before = past;
        parts = refl;
        directly = tt;
        right = h;
        owes = owes restart;
      }))
      (λ h. inl tt) (sort_as a.what) (shuts_as a.what)
    where
      owes : (restart : Bool) → Explained past ((ends_due Restarted (running past) ++ waiting_dues past) ++ MarkDue (length past) (Restart restart) ∷ [])
      owes restart =
          subst (Explained past) (sym (append_assoc (ends_due Restarted (running past)) (waiting_dues past) (MarkDue (length past) (Restart restart) ∷ [])))
          (ends_explained past (running past) _ (waits_explained past each (waiting past) (MarkDue (length past) (Restart restart) ∷ []) (λ p. omega arith) tt))

  -- the cell that failed stops what waits, or does not
  fails_known : (past : Log) (m : Mark) (r : Running) → EachFollows spoken past → running past ≡ Some r → m.at ≡ r.at → fails m.kind ≡ true → Known (Marked m ∷ past) (fails_due (running past) (waiting_dues past))
  fails_known past m r each runs at failed =
      subst (λ (o : Option Running). Known (Marked m ∷ past) (fails_due o (waiting_dues past))) (sym runs) (by r.request.stop_on_error refl)
    where
      asked : stops_on_error m.at past ≡ r.request.stop_on_error
      asked = ap (option_or (λ (e : Execute). e.stop_on_error) false) (ap (λ (p : ℕ). execute_at p past) at ∙ runs_asked spoken laws past each r runs)

      by : (b : Bool) → r.request.stop_on_error ≡ b → Known (Marked m ∷ past) (cond b (waiting_dues past) [])
      by false is = inl tt
      by true is = inr (record {
        between = [];
        reason = Marked m;
        before = past;
        parts = refl;
        directly = tt;
        right = ap (λ (b : Bool). b && stops_on_error m.at past) failed ∙ asked ∙ is;
        owes = subst (Explained past) (append-nil (waiting_dues past)) (waits_explained past each (waiting past) [] (λ p. omega arith) tt);
      })

  free_known : (past : Log) (m : Mark) (ds es : List Due) → ds ≡ [] → Known (Marked m ∷ past) es → Known (Marked m ∷ past) (ds ++ es)
  free_known past m ds es none h = subst (λ (xs : List Due). Known (Marked m ∷ past) (xs ++ es)) (sym none) h

  -- a mark that is owed, or one where nothing is
  passes : (past : Log) (m : Mark) (ds : List Due) → MayMark spoken past ds m → Known past ds → Known (Marked m ∷ past) (drop 1 ds ++ [])
  passes past m [] may known = inl tt
  passes past m (MarkDue p Abort ∷ ds) (same, forced) (inl none) = absurd none
  passes past m (MarkDue p Abort ∷ ds) (same, forced) (inr r) =
      inr (one_more past m (MarkDue p Abort ∷ ds) (ds ++ []) (ap (λ (m : Mark). goes_between m.kind) same) r (same_more r.before ds r.owes.1))
  passes past m (MarkDue p other ∷ ds) (same, forced) (inl none) = inl (no_more ds none)
  passes past m (MarkDue p other ∷ ds) (same, forced) (inr r) = inl (no_more ds r.owes)
  passes past m (AnswerDue p ∷ ds) may (inl none) = inl (no_more ds none)
  passes past m (AnswerDue p ∷ ds) (status, same, right) (inr r) =
      inr (one_more past m (AnswerDue p ∷ ds) (ds ++ []) (ap (λ (m : Mark). goes_between m.kind) same) r (same_more r.before ds r.owes))
  passes past m (FlushDue ∷ ds) may (inl none) = inl (no_more ds none)
  passes past m (FlushDue ∷ ds) may (inr r) =
      inr (one_more past m (FlushDue ∷ ds) (ds ++ []) (ap goes_between (just_flush m.kind may.0).2) r (same_more r.before ds r.owes))
  passes past m (StopDue cause ∷ ds) may (inl none) = inl (no_more ds none)
  passes past m (StopDue Restarted ∷ ds) (turns, n, is, rest) (inr r) =
      inr (one_more past m (StopDue Restarted ∷ ds) (ds ++ []) (ap goes_between is) r (same_more r.before ds r.owes))
  passes past m (StopDue Memory ∷ ds) may (inr r) = inl (no_more ds r.owes)
  passes past m (StopDue Interrupted ∷ ds) may (inr r) = inl (no_more ds r.owes)

  end_known : (past : Log) (at n : ℕ) (ending : Ending) → EachFollows spoken past → MayMark spoken past (owed past) (record { at = at; kind = End ending n }) → fails (End ending n) ≡ true → Known (Marked (record { at = at; kind = End ending n }) ∷ past) (drop 1 (owed past) ++ fails_due (running past) (waiting_dues past))
  end_known past at n ending each may failed =
      let run = end_may spoken past (owed past) at n ending may in
      free_known past (record { at = at; kind = End ending n }) (drop 1 (owed past)) _ (ap (drop 1) (end_free spoken past (owed past) at n ending may))
      (fails_known past (record { at = at; kind = End ending n }) run.0 each run.1 run.2.request failed)

  stop_known : (past : Log) (at turns n : ℕ) (cause : Cause) → EachFollows spoken past → MayMark spoken past (owed past) (record { at = at; kind = Stop turns cause n }) → drop 1 (owed past) ≡ [] → fails (Stop turns cause n) ≡ true → Known (Marked (record { at = at; kind = Stop turns cause n }) ∷ past) (drop 1 (owed past) ++ fails_due (running past) (waiting_dues past))
  stop_known past at turns n cause each may none failed =
      let run = stop_stops spoken past (owed past) at turns n cause may in
      free_known past (record { at = at; kind = Stop turns cause n }) (drop 1 (owed past)) _ none
      (fails_known past (record { at = at; kind = Stop turns cause n }) run.0 each run.1 run.2.request failed)

  mark_known : (past : Log) (at : ℕ) (kind : Kind) → EachFollows spoken past → MayMark spoken past (owed past) (record { at = at; kind = kind }) → Known past (owed past) → Known (Marked (record { at = at; kind = kind }) ∷ past) (drop 1 (owed past) ++ dues_after kind (running past) (waiting_dues past))
  mark_known past at (End Completed n) each may known = passes past _ (owed past) may known
  mark_known past at (End (Trapped trap) n) each may known = end_known past at n (Trapped trap) each may refl
  mark_known past at (End (Refused refusal) n) each may known = end_known past at n (Refused refusal) each may refl
  mark_known past at (Stop turns Memory n) each may known = stop_known past at turns n Memory each may (stop_free spoken past (owed past) at turns n Memory may (fits spoken past each)) refl
  mark_known past at (Stop turns Interrupted n) each may known =
      stop_known past at turns n Interrupted each may (stop_free spoken past (owed past) at turns n Interrupted may (fits spoken past each)) refl
  mark_known past at (Stop turns Restarted n) each may known = passes past _ (owed past) may known
  mark_known past at other each may known = passes past _ (owed past) may known

  known : (log : Log) → EachFollows spoken log → Known log (owed log)
  known [] each = inl tt
  known (Took a ∷ past) each = took_known past a each.0
  known (Marked m ∷ past) each = mark_known past m.at m.kind each.0 each.1 (known past each.0)

  -- an abort is the mark that is owed
  abort_due : (past : Log) (ds : List Due) (at : ℕ) → MayMark spoken past ds (record { at = at; kind = Abort }) → (rest : List Due) × (ds ≡ MarkDue at Abort ∷ rest)
  abort_due past [] at may = absurd may
  abort_due past (MarkDue p kind ∷ ds) at (same, forced) = (ds, ap (λ (m : Mark). MarkDue m.at m.kind ∷ ds) (sym same))
  abort_due past (AnswerDue p ∷ ds) at (status, same, right) = let k : Abort ≡ Answer status = ap (λ (m : Mark). m.kind) same in cc
  abort_due past (FlushDue ∷ ds) at may = absurd may.0
  abort_due past (StopDue cause ∷ ds) at (t, k, is, rest) = cc

  has_reason : (past : Log) (at : ℕ) → EachFollows spoken past → MayMark spoken past (owed past) (record { at = at; kind = Abort }) → HasReason past at
  has_reason past at each may = from (subst (Known past) due.1 (known past each))
    where
      due : (rest : List Due) × (owed past ≡ MarkDue at Abort ∷ rest)
      due = abort_due past (owed past) at may

      from : Known past (MarkDue at Abort ∷ due.0) → HasReason past at
      from (inl none) = absurd none
      from (inr r) = record {
        between = r.between;
        reason = r.reason;
        before = r.before;
        parts = r.parts;
        directly = r.directly;
        right = r.right;
        waited = r.owes.0;
      }

  -- ---- after a reason each abort is owed next

  took_owes : (past : Log) (a : Arrival) (at : ℕ) (e : Execute) → execute_at at past ≡ Some e → 1 ≤ count_in at (waiting past) → shuts_down a.what ≡ true → Owes at (dues_of (sort_as a.what) a past)
  took_owes past a at e there waits shuts =
      by_sort (λ s. true ≡ is_shutdown s → Owes at (dues_of s a past)) (λ h. absurd (not_so h)) (λ h. absurd (not_so h)) (λ h. absurd (not_so h)) (λ h. absurd (not_so h)) (λ h. absurd (not_so h)) (λ h. absurd (not_so h)) (λ h. absurd (not_so h))
      (λ restart h. owes restart) (λ h. absurd (not_so h)) (sort_as a.what) (sym shuts ∙ shuts_as a.what)
    where
      not_so : true ≡ false → ⊥
      not_so h = cc

      owes : (restart : Bool) → Owes at ((ends_due Restarted (running past) ++ waiting_dues past) ++ MarkDue (length past) (Restart restart) ∷ [])
      owes restart =
          subst (Owes at) (sym (append_assoc (ends_due Restarted (running past)) (waiting_dues past) (MarkDue (length past) (Restart restart) ∷ [])))
          (owes_ends at (running past) _ (owes_waiting past at e (waiting past) _ there waits))

  both : (b c : Bool) → b && c ≡ true → (b ≡ true) × (c ≡ true)
  both true c h = (refl, h)
  both false c h = absurd (not_so h)
    where
      not_so : false ≡ true → ⊥
      not_so h = cc

  fails_owe : (past : Log) (p at : ℕ) (r : Running) (e : Execute) → EachFollows spoken past → running past ≡ Some r → p ≡ r.at → execute_at at past ≡ Some e → 1 ≤ count_in at (waiting past) → stops_on_error p past ≡ true → Owes at (fails_due (running past) (waiting_dues past))
  fails_owe past p at r e each runs same there waits stops =
      subst (λ (o : Option Running). Owes at (fails_due o (waiting_dues past))) (sym runs)
      (subst (λ (b : Bool). Owes at (cond b (waiting_dues past) [])) (sym stop)
      (subst (Owes at) (append-nil (waiting_dues past)) (owes_waiting past at e (waiting past) [] there waits)))
    where
      stop : r.request.stop_on_error ≡ true
      stop =
          sym (ap (option_or (λ (e : Execute). e.stop_on_error) false) (ap (λ (p : ℕ). execute_at p past) same ∙ runs_asked spoken laws past each r runs))
          ∙ stops

  free_owes : (at : ℕ) (ds es : List Due) → ds ≡ [] → Owes at es → Owes at (ds ++ es)
  free_owes at ds es none h = subst (λ (xs : List Due). Owes at (xs ++ es)) (sym none) h

  end_owes : (past : Log) (p at n : ℕ) (ending : Ending) (e : Execute) → EachFollows spoken past → MayMark spoken past (owed past) (record { at = p; kind = End ending n }) → execute_at at past ≡ Some e → 1 ≤ count_in at (waiting past) → stops_on_error p past ≡ true → Owes at (drop 1 (owed past) ++ fails_due (running past) (waiting_dues past))
  end_owes past p at n ending e each may there waits stops =
      let run = end_may spoken past (owed past) p n ending may in
      free_owes at (drop 1 (owed past)) _ (ap (drop 1) (end_free spoken past (owed past) p n ending may))
      (fails_owe past p at run.0 e each run.1 run.2.request there waits stops)

  stop_owes : (past : Log) (p at turns n : ℕ) (cause : Cause) (e : Execute) → EachFollows spoken past → MayMark spoken past (owed past) (record { at = p; kind = Stop turns cause n }) → drop 1 (owed past) ≡ [] → execute_at at past ≡ Some e → 1 ≤ count_in at (waiting past) → stops_on_error p past ≡ true → Owes at (drop 1 (owed past) ++ fails_due (running past) (waiting_dues past))
  stop_owes past p at turns n cause e each may none there waits stops =
      let run = stop_stops spoken past (owed past) p turns n cause may in
      free_owes at (drop 1 (owed past)) _ none (fails_owe past p at run.0 e each run.1 run.2.request there waits stops)

  mark_owes : (past : Log) (p at : ℕ) (kind : Kind) (e : Execute) → EachFollows spoken past → MayMark spoken past (owed past) (record { at = p; kind = kind }) → execute_at at past ≡ Some e → 1 ≤ count_in at (waiting past) → fails kind ≡ true → stops_on_error p past ≡ true → Owes at (drop 1 (owed past) ++ dues_after kind (running past) (waiting_dues past))
  mark_owes past p at (End (Trapped trap) n) e each may there waits failed stops = end_owes past p at n (Trapped trap) e each may there waits stops
  mark_owes past p at (End (Refused refusal) n) e each may there waits failed stops = end_owes past p at n (Refused refusal) e each may there waits stops
  mark_owes past p at (Stop turns Memory n) e each may there waits failed stops =
      stop_owes past p at turns n Memory e each may (stop_free spoken past (owed past) p turns n Memory may (fits spoken past each)) there waits stops
  mark_owes past p at (Stop turns Interrupted n) e each may there waits failed stops =
      stop_owes past p at turns n Interrupted e each may (stop_free spoken past (owed past) p turns n Interrupted may (fits spoken past each)) there waits stops
  mark_owes past p at other e each may there waits failed stops = absurd (not_so failed)
    where
      not_so : false ≡ true → ⊥
      not_so h = cc

  -- after a reason the abort is owed next
  reason_owes : (past : Log) (reason : Item) (at : ℕ) → EachFollows spoken (reason ∷ past) → is_reason past reason ≡ true → Waits past at → Owes at (owed (reason ∷ past))
  reason_owes past (Took a) at each right w =
      let one = waits_there spoken past each.0 at w in
      took_owes past a at w.request w.there (omega (arith, one)) right
  reason_owes past (Marked m) at each right w =
      let one = waits_there spoken past each.0 at w in
      let two = both (fails m.kind) (stops_on_error m.at past) right in
      mark_owes past m.at at m.kind w.request each.0 each.1 w.there (omega (arith, one)) two.0 two.1

  -- the next mark is that abort, or one that may stand before it
  abbrev Steps : ℕ → Log → List Due → Mark → Type 0
  Steps at past ds m =
      (Marked m ≡ abort at)
      ⊎ ((goes_between m.kind ≡ true) × Owes at (drop 1 ds ++ dues_after m.kind (running past) (waiting_dues past)))

  goes_on : (past : Log) (at : ℕ) (ds : List Due) (kind k : Kind) → kind ≡ k → goes_between k ≡ true → Owes at (ds ++ dues_after k (running past) (waiting_dues past)) → (goes_between kind ≡ true) × Owes at (ds ++ dues_after kind (running past) (waiting_dues past))
  goes_on past at ds kind k is goes h =
      (ap goes_between is ∙ goes, subst (λ (k : Kind). Owes at (ds ++ dues_after k (running past) (waiting_dues past))) (sym is) h)

  steps : (past : Log) (at : ℕ) (ds : List Due) (m : Mark) → MayMark spoken past ds m → Owes at ds → Steps at past ds m
  steps past at [] m may h = absurd h
  steps past at (MarkDue p Abort ∷ ds) m (same, forced) (inl here) =
      inl (ap Marked same ∙ ap abort here)
  steps past at (MarkDue p Abort ∷ ds) m (same, forced) (inr rest) =
      inr (goes_on past at ds m.kind Abort (ap (λ (m : Mark). m.kind) same) refl (owes_more at ds rest))
  steps past at (MarkDue p other ∷ ds) m may h = absurd h
  steps past at (AnswerDue p ∷ ds) m (status, same, right) h =
      inr (goes_on past at ds m.kind (Answer status) (ap (λ (m : Mark). m.kind) same) refl (owes_more at ds h))
  steps past at (FlushDue ∷ ds) m may h =
      let just = just_flush m.kind may.0 in
      inr (goes_on past at ds m.kind (Flush just.0 just.1) just.2 refl (owes_more at ds h))
  steps past at (StopDue Restarted ∷ ds) m (turns, n, is, rest) h =
      inr (goes_on past at ds m.kind (Stop turns Restarted n) is refl (owes_more at ds h))
  steps past at (StopDue Memory ∷ ds) m may h = absurd h
  steps past at (StopDue Interrupted ∷ ds) m may h = absurd h

  later_aborted : (i : Item) (later : List Item) (at : ℕ) → IsAborted later at → IsAborted (i ∷ later) at
  later_aborted i later at h = record {
    after = i ∷ h.after;
    between = h.between;
    parts = ap (λ (items : List Item). i ∷ items) h.parts;
    directly = h.directly;
  }

  -- until it is aborted, only what may stand between comes
  comes : (front : Log) (at : ℕ) (later : List Item) → EachFollows spoken (later ++ front) → Owes at (owed front) → (AreBetween later × Owes at (owed (later ++ front))) ⊎ IsAborted later at
  comes front at [] each h = inl (tt, h)
  comes front at (Took a ∷ later) each h = next (comes front at later each.0 h)
    where
      next : (AreBetween later × Owes at (owed (later ++ front))) ⊎ IsAborted later at → (AreBetween (Took a ∷ later) × Owes at (owed (Took a ∷ (later ++ front)))) ⊎ IsAborted (Took a ∷ later) at
      next (inl (directly, owes)) = absurd (subst (Owes at) each.1.0 owes)
      next (inr aborted) = inr (later_aborted (Took a) later at aborted)
  comes front at (Marked m ∷ later) each h = next (comes front at later each.0 h)
    where
      now : AreBetween later → Steps at (later ++ front) (owed (later ++ front)) m → (AreBetween (Marked m ∷ later) × Owes at (owed (Marked m ∷ (later ++ front)))) ⊎ IsAborted (Marked m ∷ later) at
      now directly (inl same) = inr (record { after = []; between = later; parts = ap (λ (i : Item). i ∷ later) (sym same); directly = directly })
      now directly (inr (goes, owes)) = inl ((goes, directly), owes)

      next : (AreBetween later × Owes at (owed (later ++ front))) ⊎ IsAborted later at → (AreBetween (Marked m ∷ later) × Owes at (owed (Marked m ∷ (later ++ front)))) ⊎ IsAborted (Marked m ∷ later) at
      next (inl (directly, owes)) = now directly (steps (later ++ front) at (owed (later ++ front)) m each.1 owes)
      next (inr aborted) = inr (later_aborted (Marked m) later at aborted)

  is_aborted : (later : List Item) (reason : Item) (past : Log) (at : ℕ) → EachFollows spoken (later ++ reason ∷ past) → owed (later ++ reason ∷ past) ≡ [] → is_reason past reason ≡ true → Waits past at → IsAborted later at
  is_aborted later reason past at each settled right w =
      from (comes (reason ∷ past) at later each (reason_owes past reason at (each_before spoken (reason ∷ past) later each) right w))
    where
      from : (AreBetween later × Owes at (owed (later ++ reason ∷ past))) ⊎ IsAborted later at → IsAborted later at
      from (inl (directly, owes)) = absurd (subst (Owes at) settled owes)
      from (inr aborted) = aborted

  pub aborts_right : (log : Log) → EachFollows spoken log → owed log ≡ [] → AbortsAreRight log
  aborts_right log each settled = record {
    reasons = λ later at past is.
        let before = each_before spoken (abort at ∷ past) later (subst (EachFollows spoken) (sym is) each) in
        has_reason past at before.0 before.1;
    aborted = λ later reason past at is right w.
        is_aborted later reason past at (subst (EachFollows spoken) (sym is) each) (ap owed is ∙ settled) right w;
  }
