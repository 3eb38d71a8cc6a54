-- What a recorder's notebook holds of a code cell.
use Rattle.std.proofs.Common.{◌≡◌, ℕ, pos, List, [], ◌∷◌, ◌++◌, append_assoc, ℤ, Bool, true, false, not, ◌&&◌, ◌||◌, cond, refl, sym, ◌∙◌, ap, ap₂, subst, Option, None, Some}
use Rattle.std.specs.Prelude.{is_some, codes}
use Rattle.std.specs.List.{list_any}
use Rattle.std.specs.Str.{bytes_eq}
use Rattle.std.proofs.lemmas.List.{append-nil}
use Rattle.std.proofs.lemmas.Option.{none-some, same_Some}
use Rattle.jp_msg.specs.declared.message.Content.{Content}
use Rattle.jp_msg.specs.declared.message.Content.TheVariants as content
use Rattle.jp_msg.specs.declared.message.Execute.{Execute}
use Rattle.jp_msg.specs.declared.message.Message.{Message}
use Rattle.jp_msg.specs.declared.message.Output.{Output as MessageOutput}
use Rattle.jp_msg.specs.declared.message.Output.TheVariants as shown
use Rattle.jp_msg.specs.declared.message.Request.{Request}
use Rattle.jp_msg.specs.declared.message.Request.TheVariants as request
use Rattle.jk_log.specs.Asked.{content_execute}
use Rattle.jk_log.specs.Log.{option_or}
use Rattle.jk_log.specs.declared.entry.Entry.{Entry}
use Rattle.jk_log.specs.declared.entry.Told.{Told}
use Rattle.jk_log.specs.declared.entry.Told.TheVariants as told
use Rattle.nb_doc.specs.declared.notebook.Cell.{Cell}
use Rattle.nb_doc.specs.declared.notebook.Execution.{Execution}
use Rattle.nb_doc.specs.declared.notebook.Notebook.{Notebook}
use Rattle.nb_doc.specs.declared.notebook.Output.{Output}
use Rattle.nb_doc.proofs.Among.{same_itself}
use Rattle.nb_record.specs.declared.event.Event.{Event}
use Rattle.nb_record.specs.declared.event.Event.TheVariants.{Begins, Passes, Writes, Ends, Puts, Nothing}
use Rattle.nb_record.specs.Book as book
use Rattle.nb_record.specs.Book.{Item, Shown, Put, cells, current, current_after, event, event_of, executed, executed_after, has_code, is_id, kept_run, lasts, lasts_after, run, run_after, run_in, running, target, wish_of, with_output}
use Rattle.nb_record.proofs.Books.{both, executed_is_code, has_code-book, run_in-book}
use Rattle.jk_world.specs.Recorded.{AllLeave, CellsAreRecorded, Holds, IsBegunFor, NeverBegun, begins_cell, begins_other, begun_for, counts, ends_cell, is_stored, last_put, leaves, outputs_of, outputs_until, shows_begin, shows_end, shows_output}

-- ---- what an entry means to the book

stored_content : (c : Content) → book.is_stored c ≡ option_or (λ (e : Execute). e.store_history && not e.silent) false (content_execute c)
stored_content (content.Request (request.Execute e)) = refl
stored_content (content.Request request.KernelInfo) = refl
stored_content (content.Request (request.IsComplete code)) = refl
stored_content (content.Request (request.Complete cursor)) = refl
stored_content (content.Request request.Inspect) = refl
stored_content (content.Request request.History) = refl
stored_content (content.Request request.CommInfo) = refl
stored_content (content.Request request.Interrupt) = refl
stored_content (content.Request (request.Shutdown restart)) = refl
stored_content (content.Request (request.InputReply line)) = refl
stored_content (content.Request request.Other) = refl
stored_content (content.Output o) = refl

-- an event tells what the entry shows
abbrev Tells : List Cell → Option Message → Told → Event → Type 0
Tells cs p c (Begins wish source count) = (shows_begin p c ≡ true) × (shows_output p c ≡ []) × (begun_for cs p c ≡ Some (target cs wish))
Tells cs p c Passes = (shows_begin p c ≡ true) × (shows_output p c ≡ []) × (begun_for cs p c ≡ None)
Tells cs p c (Writes o) = (shows_begin p c ≡ false) × (shows_output p c ≡ o ∷ []) × (begun_for cs p c ≡ None)
Tells cs p c (Puts n) = ⊥
Tells cs p c other = (shows_begin p c ≡ false) × (shows_output p c ≡ []) × (begun_for cs p c ≡ None)

begin_tells : (cs : List Cell) (m : Message) (code : List ℕ) (count : ℕ) → Tells cs (Some m) (told.Output (shown.ExecuteInput code count)) (book.begins m code count)
begin_tells cs m code count = by (is_stored m) refl
  where
    same : book.is_stored m.content ≡ is_stored m
    same = stored_content m.content

    by : (b : Bool) → is_stored m ≡ b → Tells cs (Some m) (told.Output (shown.ExecuteInput code count)) (cond (book.is_stored m.content) (Begins (wish_of m) code count) Passes)
    by true is =
        subst (λ (b : Bool). Tells cs (Some m) (told.Output (shown.ExecuteInput code count)) (cond b (Begins (wish_of m) code count) Passes)) (sym (same ∙ is))
        (refl, refl, ap (λ (b : Bool). cond b (Some (target cs (wish_of m))) None) is)
    by false is =
        subst (λ (b : Bool). Tells cs (Some m) (told.Output (shown.ExecuteInput code count)) (cond b (Begins (wish_of m) code count) Passes)) (sym (same ∙ is))
        (refl, refl, ap (λ (b : Bool). cond b (Some (target cs (wish_of m))) None) is)

output_tells : (cs : List Cell) (m : Message) (o : MessageOutput) → Tells cs (Some m) (told.Output o) (book.event_told m o)
output_tells cs m (shown.ExecuteInput code count) = begin_tells cs m code count
output_tells cs m (shown.Stream text) = (refl, refl, refl)
output_tells cs m (shown.Error f) = (refl, refl, refl)
output_tells cs m (shown.Status state) = (refl, refl, refl)
output_tells cs m shown.InputRequest = (refl, refl, refl)
output_tells cs m (shown.ExecuteReply outcome) = (refl, refl, refl)
output_tells cs m shown.KernelInfoReply = (refl, refl, refl)
output_tells cs m (shown.IsCompleteReply answer) = (refl, refl, refl)
output_tells cs m (shown.CompleteReply cursor) = (refl, refl, refl)
output_tells cs m shown.InspectReply = (refl, refl, refl)
output_tells cs m shown.HistoryReply = (refl, refl, refl)
output_tells cs m shown.CommInfoReply = (refl, refl, refl)
output_tells cs m shown.InterruptReply = (refl, refl, refl)
output_tells cs m (shown.ShutdownReply restart) = (refl, refl, refl)

entry_tells : (cs : List Cell) (p : Option Message) (c : Told) → Tells cs p c (event_of p c)
entry_tells cs None c = (refl, refl, refl)
entry_tells cs (Some m) (told.Output o) = output_tells cs m o
entry_tells cs (Some m) (told.Joined seat n) = (refl, refl, refl)
entry_tells cs (Some m) (told.Left seat n) = (refl, refl, refl)

-- ---- truth values

or_false : (b : Bool) → b || false ≡ b
or_false true = refl
or_false false = refl

not_is : (b : Bool) → not b ≡ true → b ≡ false
not_is true h = cc
not_is false h = refl

and_no : (b : Bool) → b && false ≡ false
and_no true = refl
and_no false = refl

nil_either : (b : Bool) (xs : List Output) → xs ++ cond b [] [] ≡ xs
nil_either true xs = append-nil xs
nil_either false xs = append-nil xs

abbrev run_with : Option ℤ → List Output → Execution
run_with count outputs = record { execution_count = count; outputs = outputs }

and_yes : (b : Bool) → b && true ≡ b
and_yes true = refl
and_yes false = refl

-- a run with these outputs too, where the cell was begun last
abbrev added : Bool → Execution → List Output → Execution
added now r more = run_with r.execution_count (r.outputs ++ cond now more [])

added_none : (now : Bool) (r : Execution) (more : List Output) → more ≡ [] → r ≡ added now r more
added_none now r more none =
    ap (run_with r.execution_count) (sym (nil_either now r.outputs))
    ∙ ap (λ (xs : List Output). run_with r.execution_count (r.outputs ++ cond now xs [])) (sym none)

added_one : (now : Bool) (r : Execution) (o : Output) (more : List Output) → more ≡ o ∷ [] → cond now (with_output r o) r ≡ added now r more
added_one true r o more one = ap (λ (xs : List Output). run_with r.execution_count (r.outputs ++ xs)) (sym one)
added_one false r o more one = ap (run_with r.execution_count) (sym (append-nil r.outputs))

-- one more item after others
joins : (now any : Bool) (xs ys zs : List Output) → (xs ++ cond now ys []) ++ cond (now && not any) zs [] ≡ xs ++ cond now (ys ++ cond any [] zs) []
joins true true xs ys zs = append_assoc xs ys []
joins true false xs ys zs = append_assoc xs ys zs
joins false any xs ys zs = append_assoc xs [] []

no_later : (now any b : Bool) → (now && not any) && not b ≡ now && not (b || any)
no_later true true true = refl
no_later true true false = refl
no_later true false true = refl
no_later true false false = refl
no_later false any b = refl

-- a put with a count leaves what an executed cell has, one without takes it away where the cell does not run
kept_same : (runs : Bool) (o : Option ℤ) (outputs : List Output) (before : Execution) → is_some o ≡ true → kept_run runs (run_with o outputs) before ≡ before
kept_same true o outputs before h = refl
kept_same false None outputs before h = cc
kept_same false (Some n) outputs before h = refl

kept_none : (runs : Bool) (o : Option ℤ) (outputs : List Output) (before : Execution) → runs ≡ false → o ≡ None → kept_run runs (run_with o outputs) before ≡ run_with None []
kept_none true o outputs before r h = cc
kept_none false None outputs before r h = refl
kept_none false (Some n) outputs before r h = cc

-- ---- whether the request that began last has not ended

lasts_begun : (b : Bool) (wish : Option (List ℕ)) (code : List ℕ) (count : ℕ) (before : Bool) → lasts_after (cond b (Begins wish code count) Passes) before ≡ true
lasts_begun true wish code count before = refl
lasts_begun false wish code count before = refl

lasts_told : (m : Message) (o : MessageOutput) (before : Bool) → lasts_after (book.event_told m o) before ≡ (shows_begin (Some m) (told.Output o) || (not (shows_end (Some m) (told.Output o)) && before))
lasts_told m (shown.ExecuteInput code count) before = lasts_begun (book.is_stored m.content) (wish_of m) code count before
lasts_told m (shown.Stream text) before = refl
lasts_told m (shown.Error f) before = refl
lasts_told m (shown.Status state) before = refl
lasts_told m shown.InputRequest before = refl
lasts_told m (shown.ExecuteReply outcome) before = refl
lasts_told m shown.KernelInfoReply before = refl
lasts_told m (shown.IsCompleteReply answer) before = refl
lasts_told m (shown.CompleteReply cursor) before = refl
lasts_told m shown.InspectReply before = refl
lasts_told m shown.HistoryReply before = refl
lasts_told m shown.CommInfoReply before = refl
lasts_told m shown.InterruptReply before = refl
lasts_told m (shown.ShutdownReply restart) before = refl

lasts_entry : (p : Option Message) (c : Told) (before : Bool) → lasts_after (event_of p c) before ≡ (shows_begin p c || (not (shows_end p c) && before))
lasts_entry None c before = refl
lasts_entry (Some m) (told.Output o) before = lasts_told m o before
lasts_entry (Some m) (told.Joined seat n) before = refl
lasts_entry (Some m) (told.Left seat n) before = refl

lasts_item : (i : Item) (before : Bool) → lasts_after (event i) before ≡ (begins_cell i || (not (ends_cell i) && before))
lasts_item (Shown e) before = lasts_entry e.parent e.content before
lasts_item (Put n) before = refl

-- where one has ended, and none has begun, the request that began last has ended
still_ended : (begin end any over before : Bool) → (begin || any) ≡ false → ((begin || end) || over) ≡ true → (any ≡ false → over ≡ true → before ≡ false) → (begin || (not end && before)) ≡ false
still_ended true end any over before none one h = cc
still_ended false true any over before none one h = refl
still_ended false false any over before none one h = h none one

ended_lasts : (since past : List Item) → list_any begins_cell since ≡ false → list_any (λ (i : Item). begins_cell i || ends_cell i) since ≡ true → lasts (since ++ past) ≡ false
ended_lasts [] past none one = cc
ended_lasts (i ∷ since) past none one =
    lasts_item i (lasts (since ++ past))
    ∙ still_ended (begins_cell i) (ends_cell i) (list_any begins_cell since) (list_any (λ (i : Item). begins_cell i || ends_cell i) since) (lasts (since ++ past)) none one (ended_lasts since past)

-- a cell does not run where another request was begun last, or its own has ended
not_running : (goes : Bool) (id : List ℕ) (now : Option (List ℕ)) (begun : Bool) → is_id id now ≡ not begun → (begun ≡ false → goes ≡ false) → is_id id (cond goes now None) ≡ false
not_running false id now begun h over = refl
not_running true id now true h over = h
not_running true id now false h over = cc (over refl)

-- the event of a stored request that is begun
begun_event : (cs : List Cell) (id : List ℕ) (p : Option Message) (c : Told) (code : List ℕ) (count : ℕ) → c ≡ told.Output (shown.ExecuteInput code count) → begun_for cs p c ≡ Some id
    → (wish : Option (List ℕ)) × (event_of p c ≡ Begins wish code count) × (target cs wish ≡ id)
begun_event cs id None c code count is h = absurd (none-some id h)
begun_event cs id (Some m) c code count is h =
    subst (λ (c : Told). begun_for cs (Some m) c ≡ Some id → (wish : Option (List ℕ)) × (event_of (Some m) c ≡ Begins wish code count) × (target cs wish ≡ id)) (sym is)
    (by (is_stored m) refl) h
  where
    by : (b : Bool) → is_stored m ≡ b → cond (is_stored m) (Some (target cs (wish_of m))) None ≡ Some id → (wish : Option (List ℕ)) × (cond (book.is_stored m.content) (Begins (wish_of m) code count) Passes ≡ Begins wish code count) × (target cs wish ≡ id)
    by true is h = (
      wish_of m,
      ap (λ (b : Bool). cond b (Begins (wish_of m) code count) Passes) (stored_content m.content ∙ is),
      same_Some (target cs (wish_of m)) id (sym (ap (λ (b : Bool). cond b (Some (target cs (wish_of m))) None) is) ∙ h),
    )
    by false is h = absurd (none-some id (sym (ap (λ (b : Bool). cond b (Some (target cs (wish_of m))) None) is) ∙ h))

module _ (base : Notebook) (id : List ℕ) where
  -- ---- what one more item does

  begins_run : (past : List Item) (i : Item) (wish : Option (List ℕ)) (source : List ℕ) (n : ℕ) → event i ≡ Begins wish source n → run base (i ∷ past) id ≡ cond (bytes_eq id (target (cells base past) wish)) (run_with (Some (pos n)) []) (run base past id)
  begins_run past i wish source n e = ap (λ (v : Event). run_after v (cells base past) (current base past) (running base past) id (executed base past id) (run base past id)) e

  passes_run : (past : List Item) (i : Item) → event i ≡ Passes → run base (i ∷ past) id ≡ run base past id
  passes_run past i e = ap (λ (v : Event). run_after v (cells base past) (current base past) (running base past) id (executed base past id) (run base past id)) e

  writes_run : (past : List Item) (i : Item) (o : Output) → event i ≡ Writes o → run base (i ∷ past) id ≡ cond (is_id id (current base past)) (with_output (run base past id) o) (run base past id)
  writes_run past i o e = ap (λ (v : Event). run_after v (cells base past) (current base past) (running base past) id (executed base past id) (run base past id)) e

  nothing_run : (past : List Item) (i : Item) → event i ≡ Nothing → run base (i ∷ past) id ≡ run base past id
  nothing_run past i e = ap (λ (v : Event). run_after v (cells base past) (current base past) (running base past) id (executed base past id) (run base past id)) e

  ends_run : (past : List Item) (i : Item) → event i ≡ Ends → run base (i ∷ past) id ≡ run base past id
  ends_run past i e = ap (λ (v : Event). run_after v (cells base past) (current base past) (running base past) id (executed base past id) (run base past id)) e

  event_executed : (past : List Item) (i : Item) (v : Event) → event i ≡ v → executed base (i ∷ past) id ≡ executed_after v (cells base past) id (executed base past id)
  event_executed past i v e = ap (λ (v : Event). executed_after v (cells base past) id (executed base past id)) e

  event_current : (past : List Item) (i : Item) (v : Event) → event i ≡ v → is_id id (current base (i ∷ past)) ≡ is_id id (current_after v (cells base past) (current base past))
  event_current past i v e = ap (λ (v : Event). is_id id (current_after v (cells base past) (current base past))) e

  -- what is known of a cell: what it has, whether it was executed, and whether it was begun last
  record IsKnown (items : List Item) (r : Execution) (was now : Bool) : Type 0 where
    run : run base items id ≡ r
    executed : executed base items id ≡ was
    current : is_id id (current base items) ≡ now

  -- a stored request is begun for another cell
  apart_from : (cs : List Cell) (p : Option Message) (c : Told) (wish : Option (List ℕ)) → begun_for cs p c ≡ Some (target cs wish) → not (is_id id (begun_for cs p c)) ≡ true → bytes_eq id (target cs wish) ≡ false
  apart_from cs p c wish f other = not_is (bytes_eq id (target cs wish)) (sym (ap (λ (o : Option (List ℕ)). not (is_id id o)) f) ∙ other)

  -- an entry that begins nothing for the cell
  shown_known : (past : List Item) (e : Entry) (r : Execution) (was now : Bool) → not (is_id id (begun_for (cells base past) e.parent e.content)) ≡ true → IsKnown past r was now
      → IsKnown (Shown e ∷ past) (added now r (shows_output e.parent e.content)) was (now && not (shows_begin e.parent e.content))
  shown_known past e r was now other h = by (event (Shown e)) refl (entry_tells (cells base past) e.parent e.content)
    where
      by : (v : Event) → event (Shown e) ≡ v → Tells (cells base past) e.parent e.content v → IsKnown (Shown e ∷ past) (added now r (shows_output e.parent e.content)) was (now && not (shows_begin e.parent e.content))
      by (Begins wish source n) is (begin, none, for) =
          let apart = apart_from (cells base past) e.parent e.content wish for other in
          record {
            run = begins_run past (Shown e) wish source n is ∙ ap (λ (b : Bool). cond b (run_with (Some (pos n)) []) (run base past id)) apart ∙ h.run ∙ added_none now r _ none;
            executed = event_executed past (Shown e) (Begins wish source n) is ∙ ap (λ (b : Bool). b || executed base past id) apart ∙ h.executed;
            current = event_current past (Shown e) (Begins wish source n) is ∙ apart ∙ sym (ap (λ (b : Bool). now && not b) begin ∙ and_no now);
          }
      by Passes is (begin, none, for) = record {
        run = passes_run past (Shown e) is ∙ h.run ∙ added_none now r _ none;
        executed = event_executed past (Shown e) Passes is ∙ h.executed;
        current = event_current past (Shown e) Passes is ∙ sym (ap (λ (b : Bool). now && not b) begin ∙ and_no now);
      }
      by (Writes o) is (begin, one, for) = record {
        run =
            writes_run past (Shown e) o is
            ∙ ap₂ (λ (b : Bool) (x : Execution). cond b (with_output x o) x) h.current h.run
            ∙ added_one now r o _ one;
        executed = event_executed past (Shown e) (Writes o) is ∙ h.executed;
        current = event_current past (Shown e) (Writes o) is ∙ h.current ∙ sym (ap (λ (b : Bool). now && not b) begin ∙ and_yes now);
      }
      by (Puts n) is tells = absurd tells
      by Ends is (begin, none, for) = record {
        run = ends_run past (Shown e) is ∙ h.run ∙ added_none now r _ none;
        executed = event_executed past (Shown e) Ends is ∙ h.executed;
        current = event_current past (Shown e) Ends is ∙ h.current ∙ sym (ap (λ (b : Bool). now && not b) begin ∙ and_yes now);
      }
      by Nothing is (begin, none, for) = record {
        run = nothing_run past (Shown e) is ∙ h.run ∙ added_none now r _ none;
        executed = event_executed past (Shown e) Nothing is ∙ h.executed;
        current = event_current past (Shown e) Nothing is ∙ h.current ∙ sym (ap (λ (b : Bool). now && not b) begin ∙ and_yes now);
      }

  -- a put of an executed cell
  put_run : (past : List Item) (n : Notebook) → executed base past id ≡ true → run base (Put n ∷ past) id ≡ kept_run (is_id id (running base past)) (run_in n.cells id) (run base past id)
  put_run past n was = ap (λ (b : Bool). cond b (kept_run (is_id id (running base past)) (run_in n.cells id) (run base past id)) (run_in n.cells id)) was

  put_executed : (past : List Item) (n : Notebook) → has_code n.cells id ≡ true → executed base past id ≡ true → executed base (Put n ∷ past) id ≡ true
  put_executed past n there was = ap₂ (λ (a b : Bool). a && b) there was

  leaves_known : (past : List Item) (i : Item) (r : Execution) (now : Bool) → leaves (cells base past) id i ≡ true → IsKnown past r true now → IsKnown (i ∷ past) (added now r (outputs_of i)) true (now && not (begins_cell i))
  leaves_known past (Shown e) r now other h = shown_known past e r true now other h
  leaves_known past (Put n) r now counts h =
      let two = both (has_code n.cells id) (is_some (run_in n.cells id).execution_count) counts in
      record {
        run =
            put_run past n h.executed
            ∙ kept_same (is_id id (running base past)) (run_in n.cells id).execution_count (run_in n.cells id).outputs (run base past id) two.1
            ∙ h.run ∙ added_none now r [] refl;
        executed = put_executed past n two.0 h.executed;
        current = h.current ∙ sym (and_yes now);
      }

  -- all that came later left the cell what it had, and added what was shown until the next cell was begun
  later_known : (past later : List Item) (r : Execution) (now : Bool) → AllLeave base id past later → IsKnown past r true now
      → IsKnown (later ++ past) (added now r (outputs_until later)) true (now && not (list_any begins_cell later))
  later_known past [] r now all h = record { run = h.run ∙ added_none now r [] refl; executed = h.executed; current = h.current ∙ sym (and_yes now) }
  later_known past (i ∷ later) r now all h =
      let before = later_known past later r now all.1 h in
      let any = list_any begins_cell later in
      let next = leaves_known (later ++ past) i (added now r (outputs_until later)) (now && not any) all.0 before in
      record {
        run = next.run ∙ ap (run_with r.execution_count) (joins now any r.outputs (outputs_until later) (outputs_of i));
        executed = next.executed;
        current = next.current ∙ no_later now any (begins_cell i);
      }

  -- a stored request is begun for the cell
  begun_known : (past : List Item) (e : Entry) (count : ℕ) → IsBegunFor base past e id count → IsKnown (Shown e ∷ past) (run_with (Some (pos count)) []) true true
  begun_known past e count b =
      let v = begun_event (cells base past) id e.parent e.content b.code count b.content b.cell in
      let same : bytes_eq id (target (cells base past) v.0) ≡ true = ap (bytes_eq id) v.2 ∙ same_itself id in
      record {
        run = begins_run past (Shown e) v.0 b.code count v.1 ∙ ap (λ (b : Bool). cond b (run_with (Some (pos count)) []) (run base past id)) same;
        executed = event_executed past (Shown e) (Begins v.0 b.code count) v.1 ∙ ap (λ (b : Bool). b || executed base past id) same;
        current = event_current past (Shown e) (Begins v.0 b.code count) v.1 ∙ same;
      }

  -- ---- what the notebook holds

  known_holds : (items : List Item) (r : Execution) (now : Bool) → IsKnown items r true now → Holds (book.book base items) id r
  known_holds items r now h =
      let there = executed_is_code base items id h.executed in
      (has_code-book base items (cells base items) id ∙ there, run_in-book base items (cells base items) id there ∙ h.run)

  begun_holds : (later past : List Item) (e : Entry) (count : ℕ) → IsBegunFor base past e id count → AllLeave base id (Shown e ∷ past) later
      → Holds (book.book base (later ++ Shown e ∷ past)) id (run_with (Some (pos count)) (outputs_until later))
  begun_holds later past e count b all =
      known_holds (later ++ Shown e ∷ past) (run_with (Some (pos count)) (outputs_until later)) (true && not (list_any begins_cell later))
      (later_known (Shown e ∷ past) later (run_with (Some (pos count)) []) true all (begun_known past e count b))

  cleared_holds : (later since past : List Item) (n : Notebook) (e : Entry) (count : ℕ) → IsBegunFor base past e id count → AllLeave base id (Shown e ∷ past) since → has_code n.cells id ≡ true → (run_in n.cells id).execution_count ≡ None
      → list_any (λ (i : Item). begins_cell i || ends_cell i) since ≡ true → AllLeave base id (Put n ∷ (since ++ Shown e ∷ past)) later
      → Holds (book.book base (later ++ Put n ∷ (since ++ Shown e ∷ past))) id (run_with None (cond (list_any begins_cell since) [] (outputs_until later)))
  cleared_holds later since past n e count b all there none ended rest =
      let before = later_known (Shown e ∷ past) since (run_with (Some (pos count)) []) true all (begun_known past e count b) in
      let old = since ++ Shown e ∷ past in
      let now = not (list_any begins_cell since) in
      let still : is_id id (running base old) ≡ false =
      not_running (lasts old) id (current base old) (list_any begins_cell since) before.current (λ (h : list_any begins_cell since ≡ false). ended_lasts since (Shown e ∷ past) h ended) in
      let put : IsKnown (Put n ∷ old) (run_with None []) true now = record {
        run = put_run old n before.executed ∙ kept_none (is_id id (running base old)) (run_in n.cells id).execution_count (run_in n.cells id).outputs (run base old id) still none;
        executed = put_executed old n there before.executed;
        current = before.current;
      } in
      let all_known = later_known (Put n ∷ old) later (run_with None []) now rest put in
      subst (λ (xs : List Output). Holds (book.book base (later ++ Put n ∷ old)) id (run_with None xs)) (turned (list_any begins_cell since) (outputs_until later))
      (known_holds (later ++ Put n ∷ old) _ _ all_known)
    where
      turned : (b : Bool) (xs : List Output) → cond (not b) xs [] ≡ cond b [] xs
      turned true xs = refl
      turned false xs = refl

  -- a cell for which nothing was begun
  never_known : (items : List Item) → NeverBegun base id items → IsKnown items (run_in (last_put base items).cells id) false false
  never_known [] never = record { run = refl; executed = refl; current = refl }
  never_known (Shown e ∷ past) never =
      let r = run_in (last_put base past).cells id in
      let next = shown_known past e r false false never.0 (never_known past never.1) in
      record { run = next.run ∙ ap (run_with r.execution_count) (append-nil r.outputs); executed = next.executed; current = next.current }
  never_known (Put n ∷ past) never =
      let before = never_known past never.1 in
      record {
        run = ap (λ (b : Bool). cond b (kept_run (is_id id (running base past)) (run_in n.cells id) (run base past id)) (run_in n.cells id)) before.executed;
        executed = ap (λ (b : Bool). has_code n.cells id && b) before.executed ∙ and_no (has_code n.cells id);
        current = before.current;
      }

  never_holds : (items : List Item) → NeverBegun base id items → has_code (book.book base items).cells id ≡ true → run_in (book.book base items).cells id ≡ run_in (last_put base items).cells id
  never_holds items never there =
      run_in-book base items (cells base items) id (sym (has_code-book base items (cells base items) id) ∙ there) ∙ (never_known items never).run

-- each code cell of a recorder's notebook holds what it must
pub cells_recorded : (base : Notebook) (items : List Item) → CellsAreRecorded base items
cells_recorded base items = record {
  begun = λ later past e id count is b all. subst (λ (items : List Item). Holds (book.book base items) id (run_with (Some (pos count)) (outputs_until later))) is (begun_holds base id later past e count b all);
  cleared = λ later since past n e id count is b all there none ended rest.
      subst (λ (items : List Item). Holds (book.book base items) id (run_with None (cond (list_any begins_cell since) [] (outputs_until later)))) is
      (cleared_holds base id later since past n e count b all there none ended rest);
  untouched = λ id never there. never_holds base id items never there;
}
