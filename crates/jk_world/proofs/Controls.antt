-- What is answered as it is taken is shown so, once.
use Rattle.std.proofs.Common.{◌≡◌, ◌≢◌, ◌⊎◌, ℕ, ◌≤◌, Bool, true, false, cond, List, [], ◌∷◌, ◌++◌, length, map, drop, refl, sym, ◌∙◌, ap, subst, append_assoc, arith, Option, None, Some, inl, inr, eqb, eq-eqb}
use Rattle.std.proofs.lemmas.List.{append-nil}
use Rattle.std.proofs.lemmas.Option.{none-some, same_Some}
use Rattle.std.proofs.lemmas.Bool.{eqb-true}
use Rattle.std.proofs.lemmas.Bool.Decides.{eqb_tells}
use Rattle.jk_language.specs.Spoken.{Spoken}
use Rattle.jp_msg.specs.declared.message.Completeness.{Completeness}
use Rattle.jp_msg.specs.declared.message.Content.{Content}
use Rattle.jp_msg.specs.declared.message.Content.TheVariants as content
use Rattle.jp_msg.specs.declared.message.Execute.{Execute}
use Rattle.jp_msg.specs.declared.message.Output.{Output}
use Rattle.jp_msg.specs.declared.message.Output.TheVariants.{InterruptReply, KernelInfoReply, ShutdownReply}
use Rattle.jp_msg.specs.declared.message.Request.{Request}
use Rattle.jp_msg.specs.declared.message.Request.TheVariants as request
use Rattle.jk_log.specs.declared.arrival.Arrival.{Arrival}
use Rattle.jk_log.specs.declared.arrival.Sort.{Sort}
use Rattle.jk_log.specs.declared.arrival.Sort.TheVariants as sort
use Rattle.jk_log.specs.declared.arrival.What.{What}
use Rattle.jk_log.specs.declared.arrival.What.TheVariants as what
use Rattle.jk_log.specs.declared.entry.Entry.{Entry}
use Rattle.jk_log.specs.declared.mark.Item.TheVariants.{Took, Marked}
use Rattle.jk_log.specs.declared.mark.Mark.{Mark}
use Rattle.jk_log.specs.declared.mark.Kind.{Kind}
use Rattle.jk_log.specs.declared.mark.Kind.TheVariants.{Join, Leave, Begin, Flush, Ask, Line, End, Stop, Refuse, Abort, Answer, Interrupt, KernelInfo, Restart}
use Rattle.jk_log.specs.declared.mark.Ending.{Ending}
use Rattle.jk_log.specs.declared.mark.Ending.TheVariants.{Completed, Trapped, Refused}
use Rattle.jk_log.specs.declared.mark.Cause.{Cause}
use Rattle.jk_log.specs.declared.mark.Cause.TheVariants.{Memory, Interrupted, Restarted}
use Rattle.jk_log.specs.Asked.{content_sort, input_in, shell_sort, sort_as}
use Rattle.jk_log.specs.Legal.{JustFlushedBy, Due, MarkDue, AnswerDue, FlushDue, StopDue, EachFollows, MayCome, MayMark, dues_after, dues_after_end, dues_after_stop, dues_of, due_by, due_of, ends_due, fails_due, line_due, owed, waiting_dues}
use Rattle.jk_log.specs.Log.{Log, Running, arrival_at, asker, execute_at, option_or, running, waiting}
use Rattle.jk_log.specs.Render.{control_shown, entries_at, entries_of, execute_shown, query_shown, render}
use Rattle.jk_world.specs.Controls.{IsShownTogether, answered_at_once, exchanged}
use Rattle.jk_world.specs.Requests.{AreFor, shown_at}
use Rattle.jk_world.proofs.Answered.{addressed}
use Rattle.jk_world.proofs.Basics.{arrival_past}

-- the mark of an arrival that is answered as it is taken
abbrev mark_of : Sort → Option Kind
mark_of sort.Join = Some Join
mark_of sort.Leave = Some Leave
mark_of sort.Interrupt = Some Interrupt
mark_of sort.KernelInfo = Some KernelInfo
mark_of (sort.Shutdown restart) = Some (Restart restart)
mark_of _ = None

-- another mark
abbrev IsPlain : Kind → Type 0
IsPlain Join = ⊥
IsPlain Leave = ⊥
IsPlain Interrupt = ⊥
IsPlain KernelInfo = ⊥
IsPlain (Restart restart) = ⊥
IsPlain other = Unit {0}

-- of the marks that are owed, this one is at this place
abbrev NotOwed : ℕ → List Due → Type 0
NotOwed at [] = Unit {0}
NotOwed at (MarkDue p kind ∷ ds) = (IsPlain kind ⊎ (p ≢ at)) × NotOwed at ds
NotOwed at (AnswerDue p ∷ ds) = NotOwed at ds
NotOwed at (FlushDue ∷ ds) = NotOwed at ds
NotOwed at (StopDue cause ∷ ds) = NotOwed at ds

abbrev Owes : ℕ → Kind → List Due → Type 0
Owes at kind [] = ⊥
Owes at kind (MarkDue p k ∷ ds) = ((p ≡ at) × (k ≡ kind) × NotOwed at ds) ⊎ ((IsPlain k ⊎ (p ≢ at)) × Owes at kind ds)
Owes at kind (AnswerDue p ∷ ds) = Owes at kind ds
Owes at kind (FlushDue ∷ ds) = Owes at kind ds
Owes at kind (StopDue cause ∷ ds) = Owes at kind ds

not_append : (at : ℕ) (xs ys : List Due) → NotOwed at xs → NotOwed at ys → NotOwed at (xs ++ ys)
not_append at [] ys a b = b
not_append at (MarkDue p kind ∷ xs) ys a b = (a.0, not_append at xs ys a.1 b)
not_append at (AnswerDue p ∷ xs) ys a b = not_append at xs ys a b
not_append at (FlushDue ∷ xs) ys a b = not_append at xs ys a b
not_append at (StopDue cause ∷ xs) ys a b = not_append at xs ys a b

owes_append : (at : ℕ) (kind : Kind) (xs ys : List Due) → Owes at kind xs → NotOwed at ys → Owes at kind (xs ++ ys)
owes_append at kind [] ys a b = absurd a
owes_append at kind (MarkDue p k ∷ xs) ys (inl (same, is, rest)) b = inl (same, is, not_append at xs ys rest b)
owes_append at kind (MarkDue p k ∷ xs) ys (inr (other, rest)) b = inr (other, owes_append at kind xs ys rest b)
owes_append at kind (AnswerDue p ∷ xs) ys a b = owes_append at kind xs ys a b
owes_append at kind (FlushDue ∷ xs) ys a b = owes_append at kind xs ys a b
owes_append at kind (StopDue cause ∷ xs) ys a b = owes_append at kind xs ys a b

owes_after : (at : ℕ) (kind : Kind) (xs ys : List Due) → NotOwed at xs → Owes at kind ys → Owes at kind (xs ++ ys)
owes_after at kind [] ys a b = b
owes_after at kind (MarkDue p k ∷ xs) ys a b = inr (a.0, owes_after at kind xs ys a.1 b)
owes_after at kind (AnswerDue p ∷ xs) ys a b = owes_after at kind xs ys a b
owes_after at kind (FlushDue ∷ xs) ys a b = owes_after at kind xs ys a b
owes_after at kind (StopDue cause ∷ xs) ys a b = owes_after at kind xs ys a b

-- aborts, answers and stops are other marks
waits_not : (at : ℕ) (log : Log) (places : List ℕ) → NotOwed at (map (due_of log) places)
waits_not at log [] = tt
waits_not at log (p ∷ ps) = one (execute_at p log) (waits_not at log ps)
  where
    one : (o : Option Execute) → NotOwed at (map (due_of log) ps) → NotOwed at (due_by o p ∷ map (due_of log) ps)
    one (Some e) rest = (inl tt, rest)
    one None rest = rest

fails_not : (at : ℕ) (o : Option Running) (ds : List Due) → NotOwed at ds → NotOwed at (fails_due o ds)
fails_not at None ds h = tt
fails_not at (Some r) ds h = by r.request.stop_on_error
  where
    by : (b : Bool) → NotOwed at (cond b ds [])
    by true = h
    by false = tt

after_not : (at : ℕ) (kind : Kind) (o : Option Running) (ds : List Due) → NotOwed at ds → NotOwed at (dues_after kind o ds)
after_not at (End Completed n) o ds h = tt
after_not at (End (Trapped trap) n) o ds h = fails_not at o ds h
after_not at (End (Refused refusal) n) o ds h = fails_not at o ds h
after_not at (Stop turns Memory n) o ds h = fails_not at o ds h
after_not at (Stop turns Interrupted n) o ds h = fails_not at o ds h
after_not at (Stop turns Restarted n) o ds h = tt
after_not at other o ds h = tt

ends_not : (at : ℕ) (cause : Cause) (o : Option Running) → NotOwed at (ends_due cause o)
ends_not at cause None = tt
ends_not at cause (Some r) = tt

line_not : (at : ℕ) (text : Option (List ℕ)) (o : Option ℕ) → NotOwed at (line_due text o)
line_not at None o = tt
line_not at (Some text) None = tt
line_not at (Some text) (Some p) = (inl tt, tt)

-- what a later arrival owes
later_not : (at : ℕ) (s : Sort) (a : Arrival) (past : Log) → length past ≢ at → NotOwed at (dues_of s a past)
later_not at sort.Join a past apart = (inr apart, tt)
later_not at sort.Leave a past apart = (inr apart, tt)
later_not at sort.Interrupt a past apart = (inr apart, ends_not at Interrupted (running past))
later_not at sort.Input a past apart = line_not at (input_in a.what) (asker a.seat past)
later_not at sort.KernelInfo a past apart = (inr apart, tt)
later_not at (sort.Shutdown restart) a past apart =
    not_append at (ends_due Restarted (running past) ++ waiting_dues past) (MarkDue (length past) (Restart restart) ∷ [])
    (not_append at (ends_due Restarted (running past)) (waiting_dues past) (ends_not at Restarted (running past)) (waits_not at past (waiting past))) (inr apart, tt)
later_not at sort.Execute a past apart = tt
later_not at sort.Query a past apart = tt
later_not at sort.Other a past apart = tt

-- what an arrival that is answered as it is taken owes
own_owes : (s : Sort) (a : Arrival) (past : Log) (kind : Kind) → mark_of s ≡ Some kind → Owes (length past) kind (dues_of s a past)
own_owes sort.Join a past kind h = inl (refl, same_Some Join kind h, tt)
own_owes sort.Leave a past kind h = inl (refl, same_Some Leave kind h, tt)
own_owes sort.Interrupt a past kind h = inl (refl, same_Some Interrupt kind h, ends_not (length past) Interrupted (running past))
own_owes sort.KernelInfo a past kind h = inl (refl, same_Some KernelInfo kind h, tt)
own_owes (sort.Shutdown restart) a past kind h =
    owes_after (length past) kind (ends_due Restarted (running past) ++ waiting_dues past) (MarkDue (length past) (Restart restart) ∷ [])
    (not_append (length past) (ends_due Restarted (running past)) (waiting_dues past) (ends_not (length past) Restarted (running past)) (waits_not (length past) past (waiting past)))
    (inl (refl, same_Some (Restart restart) kind h, tt))
own_owes sort.Execute a past kind h = absurd (none-some kind h)
own_owes sort.Query a past kind h = absurd (none-some kind h)
own_owes sort.Input a past kind h = absurd (none-some kind h)
own_owes sort.Other a past kind h = absurd (none-some kind h)

-- what is answered as it is taken came on no shell channel
shell_none : (r : Request) (kind : Kind) → mark_of (shell_sort r) ≡ Some kind → ⊥
shell_none (request.Execute e) kind h = none-some kind h
shell_none request.KernelInfo kind h = none-some kind h
shell_none (request.IsComplete code) kind h = none-some kind h
shell_none (request.Complete cursor) kind h = none-some kind h
shell_none request.Inspect kind h = none-some kind h
shell_none request.History kind h = none-some kind h
shell_none request.CommInfo kind h = none-some kind h
shell_none request.Interrupt kind h = none-some kind h
shell_none (request.Shutdown restart) kind h = none-some kind h
shell_none (request.InputReply line) kind h = none-some kind h
shell_none request.Other kind h = none-some kind h

content_none : (c : Content) (kind : Kind) → mark_of (content_sort shell_sort c) ≡ Some kind → ⊥
content_none (content.Request r) kind h = shell_none r kind h
content_none (content.Output o) kind h = none-some kind h

execute_quiet : (seat : ℕ) (k : Kind) (w : What) (kind : Kind) → mark_of (sort_as w) ≡ Some kind → execute_shown seat k w ≡ []
execute_quiet seat k (what.Shell m) kind h = absurd (content_none m.content kind h)
execute_quiet seat k what.Join kind h = refl
execute_quiet seat k what.Leave kind h = refl
execute_quiet seat k (what.Control m) kind h = refl
execute_quiet seat k (what.Stdin m) kind h = refl

query_quiet : (seat : ℕ) (status : Option Completeness) (w : What) (kind : Kind) → mark_of (sort_as w) ≡ Some kind → query_shown seat status w ≡ []
query_quiet seat status (what.Shell m) kind h = absurd (content_none m.content kind h)
query_quiet seat status what.Join kind h = refl
query_quiet seat status what.Leave kind h = refl
query_quiet seat status (what.Control m) kind h = refl
query_quiet seat status (what.Stdin m) kind h = refl

-- another mark shows nothing of it
plain_quiet : (k : Kind) (a : Arrival) (kind : Kind) → IsPlain k → mark_of (sort_as a.what) ≡ Some kind → entries_of k a ≡ []
plain_quiet (Begin n) a kind p h = execute_quiet a.seat (Begin n) a.what kind h
plain_quiet (Flush turns text) a kind p h = execute_quiet a.seat (Flush turns text) a.what kind h
plain_quiet Ask a kind p h = execute_quiet a.seat Ask a.what kind h
plain_quiet (Line line) a kind p h = execute_quiet a.seat (Line line) a.what kind h
plain_quiet (End ending n) a kind p h = execute_quiet a.seat (End ending n) a.what kind h
plain_quiet (Stop turns why n) a kind p h = execute_quiet a.seat (Stop turns why n) a.what kind h
plain_quiet (Refuse n) a kind p h = execute_quiet a.seat (Refuse n) a.what kind h
plain_quiet Abort a kind p h = execute_quiet a.seat Abort a.what kind h
plain_quiet (Answer status) a kind p h = query_quiet a.seat status a.what kind h
plain_quiet Join a kind p h = absurd p
plain_quiet Leave a kind p h = absurd p
plain_quiet Interrupt a kind p h = absurd p
plain_quiet KernelInfo a kind p h = absurd p
plain_quiet (Restart restart) a kind p h = absurd p

flush_plain : (k : Kind) → JustFlushedBy k → IsPlain k
flush_plain (Flush turns text) h = tt
flush_plain Join h = absurd h
flush_plain Leave h = absurd h
flush_plain Interrupt h = absurd h
flush_plain KernelInfo h = absurd h
flush_plain (Restart restart) h = absurd h
flush_plain other h = tt

control_is : (a : Arrival) (o : Output) (w : What) → control_shown a.seat o w ≡ exchanged a o w
control_is a o (what.Control m) = refl
control_is a o what.Join = refl
control_is a o what.Leave = refl
control_is a o (what.Shell m) = refl
control_is a o (what.Stdin m) = refl

entries_are : (s : Sort) (a : Arrival) (entries : List Entry) → answered_at_once s a ≡ Some entries → (kind : Kind) × (mark_of s ≡ Some kind) × (entries_of kind a ≡ entries)
entries_are sort.Join a entries h = (Join, refl, same_Some _ entries h)
entries_are sort.Leave a entries h = (Leave, refl, same_Some _ entries h)
entries_are sort.Interrupt a entries h = (Interrupt, refl, control_is a InterruptReply a.what ∙ same_Some _ entries h)
entries_are sort.KernelInfo a entries h = (KernelInfo, refl, control_is a KernelInfoReply a.what ∙ same_Some _ entries h)
entries_are (sort.Shutdown restart) a entries h = (Restart restart, refl, control_is a (ShutdownReply restart) a.what ∙ same_Some _ entries h)
entries_are sort.Execute a entries h = absurd (none-some entries h)
entries_are sort.Query a entries h = absurd (none-some entries h)
entries_are sort.Input a entries h = absurd (none-some entries h)
entries_are sort.Other a entries h = absurd (none-some entries h)

module _ {S T : Type 0} (spoken : Spoken S T) (at : ℕ) (a : Arrival) (kind : Kind) (own : mark_of (sort_as a.what) ≡ Some kind) where
  may_plain : (past : Log) (p : ℕ) (k : Kind) → MayCome spoken past p k → IsPlain k
  may_plain past p Join h = absurd h
  may_plain past p Leave h = absurd h
  may_plain past p Interrupt h = absurd h
  may_plain past p KernelInfo h = absurd h
  may_plain past p (Restart restart) h = absurd h
  may_plain past p other h = tt

  -- a mark that is another, or at another place
  shows_same : (past : Log) (m : Mark) → arrival_at at past ≡ Some a → IsPlain m.kind ⊎ (m.at ≢ at) → shown_at at (Marked m ∷ past) ≡ shown_at at past
  shows_same past m there other = by (eqb_tells m.at at)
    where
      nothing : IsPlain m.kind ⊎ (m.at ≢ at) → m.at ≡ at → entries_at past m ≡ []
      nothing (inl plain) same =
          ap (λ (p : ℕ). option_or (entries_of m.kind) [] (arrival_at p past)) same
          ∙ ap (option_or (entries_of m.kind) []) there ∙ plain_quiet m.kind a kind plain own
      nothing (inr apart) same = absurd (apart same)

      by : ((eqb m.at at ≡ true) × (m.at ≡ at)) ⊎ ((eqb m.at at ≡ false) × (m.at ≢ at)) → shown_at at (Marked m ∷ past) ≡ shown_at at past
      by (inl (b, same)) =
          ap (λ (c : Bool). shown_at at past ++ cond c (entries_at past m) []) b
          ∙ ap (λ (es : List Entry). shown_at at past ++ es) (nothing other same) ∙ append-nil (shown_at at past)
      by (inr (b, apart)) = ap (λ (c : Bool). shown_at at past ++ cond c (entries_at past m) []) b ∙ append-nil (shown_at at past)

  still : (past : Log) (m : Mark) → shown_at at (Marked m ∷ past) ≡ shown_at at past → IsShownTogether past at (entries_of kind a) → IsShownTogether (Marked m ∷ past) at (entries_of kind a)
  still past m same is = record {
    all = same ∙ is.all;
    before = is.before;
    after = is.after ++ entries_at past m;
    together =
        ap (λ (es : List Entry). is.before ++ es) (sym (append_assoc (entries_of kind a) is.after (entries_at past m)))
        ∙ sym (append_assoc is.before (entries_of kind a ++ is.after) (entries_at past m))
        ∙ ap (λ (es : List Entry). es ++ entries_at past m) is.together;
  }

  -- it is shown, or its mark is owed
  abbrev Standing : List Due → Log → Type 0
  Standing ds log = ((shown_at at log ≡ []) × Owes at kind ds) ⊎ (NotOwed at ds × IsShownTogether log at (entries_of kind a))

  -- the mark that is owed
  marked_now : (past : Log) (m : Mark) (ds : List Due) → arrival_at at past ≡ Some a → shown_at at past ≡ [] → m.at ≡ at → m.kind ≡ kind → NotOwed at ds → Standing ds (Marked m ∷ past)
  marked_now past m ds there none same is rest =
      let es : entries_at past m ≡ entries_of kind a =
      ap (λ (p : ℕ). option_or (entries_of m.kind) [] (arrival_at p past)) same ∙ ap (option_or (entries_of m.kind) []) there ∙ ap (λ (k : Kind). entries_of k a) is in
      inr (
        rest,
        record {
          all =
              ap (λ (xs : List Entry). xs ++ cond (eqb m.at at) (entries_at past m) []) none
              ∙ ap (λ (c : Bool). cond c (entries_at past m) []) (eq-eqb m.at at same) ∙ es;
          before = render past;
          after = [];
          together = ap (λ (xs : List Entry). render past ++ xs) (append-nil (entries_of kind a) ∙ sym es);
        },
      )

  -- another mark
  passes : (past : Log) (m : Mark) (ds es : List Due) → arrival_at at past ≡ Some a → IsPlain m.kind ⊎ (m.at ≢ at) → NotOwed at es → Standing ds past → Standing (ds ++ es) (Marked m ∷ past)
  passes past m ds es there other more (inl (none, owes)) = inl (shows_same past m there other ∙ none, owes_append at kind ds es owes more)
  passes past m ds es there other more (inr (rest, is)) = inr (not_append at ds es rest more, still past m (shows_same past m there other) is)

  mark_by : (past : Log) (m : Mark) (ds es : List Due) → MayMark spoken past ds m → arrival_at at past ≡ Some a → NotOwed at es → Standing ds past → Standing (drop 1 ds ++ es) (Marked m ∷ past)
  mark_by past m [] es may there more now = passes past m [] es there (inl (may_plain past m.at m.kind may)) more now
  mark_by past m (MarkDue p k ∷ ds) es (same, forced) there more (inl (none, inl (here, is, rest))) =
      marked_now past m (ds ++ es) there none (ap (λ (m : Mark). m.at) same ∙ here) (ap (λ (m : Mark). m.kind) same ∙ is) (not_append at ds es rest more)
  mark_by past m (MarkDue p k ∷ ds) es (same, forced) there more (inl (none, inr (other, rest))) =
      passes past m ds es there (moved other) more (inl (none, rest))
    where
      moved : IsPlain k ⊎ (p ≢ at) → IsPlain m.kind ⊎ (m.at ≢ at)
      moved (inl plain) = inl (subst IsPlain (sym (ap (λ (m : Mark). m.kind) same)) plain)
      moved (inr apart) = inr (λ h. apart (sym (ap (λ (m : Mark). m.at) same) ∙ h))
  mark_by past m (MarkDue p k ∷ ds) es (same, forced) there more (inr (not, is)) =
      passes past m ds es there (moved not.0) more (inr (not.1, is))
    where
      moved : IsPlain k ⊎ (p ≢ at) → IsPlain m.kind ⊎ (m.at ≢ at)
      moved (inl plain) = inl (subst IsPlain (sym (ap (λ (m : Mark). m.kind) same)) plain)
      moved (inr apart) = inr (λ h. apart (sym (ap (λ (m : Mark). m.at) same) ∙ h))
  mark_by past m (AnswerDue p ∷ ds) es (status, same, right) there more now =
      passes past m ds es there (inl (subst IsPlain (sym (ap (λ (m : Mark). m.kind) same)) tt)) more now
  mark_by past m (FlushDue ∷ ds) es may there more now = passes past m ds es there (inl (flush_plain m.kind may.0)) more now
  mark_by past m (StopDue cause ∷ ds) es (turns, n, is, rest) there more now = passes past m ds es there (inl (subst IsPlain (sym is) tt)) more now

  took_by : (past : Log) (new : Arrival) → owed past ≡ [] → (arrival_at at past ≡ Some a → Standing (owed past) past) → arrival_at at (Took new ∷ past) ≡ Some a → Standing (owed (Took new ∷ past)) (Took new ∷ past)
  took_by past new settled before there = by_place (eqb_tells (length past) at) there
    where
      older : Standing (owed past) past → length past ≢ at → Standing (owed (Took new ∷ past)) (Took new ∷ past)
      older (inl (none, owes)) apart = absurd (subst (Owes at kind) settled owes)
      older (inr (rest, is)) apart = inr (later_not at (sort_as new.what) new past apart, record { all = is.all; before = is.before; after = is.after; together = is.together })

      by_place : ((eqb (length past) at ≡ true) × (length past ≡ at)) ⊎ ((eqb (length past) at ≡ false) × (length past ≢ at)) → arrival_at at (Took new ∷ past) ≡ Some a → Standing (owed (Took new ∷ past)) (Took new ∷ past)
      by_place (inl (b, same)) there =
          let is : new ≡ a = same_Some new a (sym (ap (λ (c : Bool). cond c (Some new) (arrival_at at past)) b) ∙ there) in
          let none = arrival_past past at (omega (arith, same)) in
          inl (
            subst (λ (o : Option Arrival). AreFor o (shown_at at past)) none (addressed past at),
            subst (λ (p : ℕ). Owes p kind (dues_of (sort_as new.what) new past)) same
                (own_owes (sort_as new.what) new past kind (ap (λ (x : Arrival). mark_of (sort_as x.what)) is ∙ own)),
          )
      by_place (inr (b, apart)) there = older (before (sym (ap (λ (c : Bool). cond c (Some new) (arrival_at at past)) b) ∙ there)) apart

  before_it : (b : Bool) (o : Option Arrival) → cond b None o ≡ Some a → o ≡ Some a
  before_it true o h = absurd (none-some a h)
  before_it false o h = h

  stands : (log : Log) → EachFollows spoken log → arrival_at at log ≡ Some a → Standing (owed log) log
  stands [] each there = absurd (none-some a there)
  stands (Took new ∷ past) each there = took_by past new each.1.0 (λ h. stands past each.0 h) there
  stands (Marked m ∷ past) each there =
      let before = before_it (eqb (length past) at) (arrival_at at past) there in
      mark_by past m (owed past) (dues_after m.kind (running past) (waiting_dues past)) each.1 before (after_not at m.kind (running past) (waiting_dues past) (waits_not at past (waiting past))) (stands past each.0 before)

  -- where nothing is owed it is shown
  settled_shown : (log : Log) → owed log ≡ [] → Standing (owed log) log → IsShownTogether log at (entries_of kind a)
  settled_shown log settled (inl (none, owes)) = absurd (subst (Owes at kind) settled owes)
  settled_shown log settled (inr (rest, is)) = is

pub controls_shown : {S T : Type 0} (spoken : Spoken S T) (log : Log) → EachFollows spoken log → owed log ≡ [] → (at : ℕ) (a : Arrival) (entries : List Entry) → arrival_at at log ≡ Some a → answered_at_once (sort_as a.what) a ≡ Some entries → IsShownTogether log at entries
controls_shown spoken log each settled at a entries there h =
    let k = entries_are (sort_as a.what) a entries h in
    subst (IsShownTogether log at) k.2 (settled_shown spoken at a k.0 k.1 log settled (stands spoken at a k.0 k.1 log each there))
