-- The texts that a cell is given were sent by the seat of its request.
use Rattle.std.proofs.Common.{◌≡◌, ℕ, Bool, true, false, cond, List, [], ◌∷◌, ◌++◌, drop, length, refl, sym, ◌∙◌, ap, subst, append_assoc, arith, Option, None, Some, inl, inr, eqb, eq-eqb}
use Rattle.std.specs.Prelude.{not, ◌&&◌}
use Rattle.std.proofs.lemmas.List.{append-nil}
use Rattle.std.proofs.lemmas.Option.{none-some, same_Some}
use Rattle.std.proofs.lemmas.Bool.{eqb-true, ne_eqb}
use Rattle.jk_language.specs.Parts.{Line as Given}
use Rattle.jk_language.specs.Spoken.{Spoken, IsLanguage}
use Rattle.jp_msg.specs.declared.message.Execute.{Execute}
use Rattle.jk_log.specs.declared.arrival.Arrival.{Arrival}
use Rattle.jk_log.specs.declared.mark.Item.TheVariants.{Took, Marked}
use Rattle.jk_log.specs.declared.mark.Mark.{Mark}
use Rattle.jk_log.specs.declared.mark.Kind.{Kind}
use Rattle.jk_log.specs.declared.mark.Kind.TheVariants.{Join, Leave, Begin, Flush, Ask, Line, End, Stop, Answer, Interrupt, KernelInfo}
use Rattle.jk_log.specs.Asked.{sort_as, input_in}
use Rattle.jk_log.specs.Log.{Log, Running, running, seat_at, arrival_at, execute_at, asker, asked_of, left, nones, option_at, option_or, option_with, flushed_at, lined}
use Rattle.jk_log.specs.Legal.{Due, MarkDue, AnswerDue, FlushDue, StopDue, EachFollows, MayMark, owed, dues_of, line_due}
use Rattle.jk_log.proofs.Logs.{by_sort, execute_within}
use Rattle.jk_world.specs.Cells.{lines_at, fresh_lines, interrupts}
use Rattle.jk_world.specs.Input.{texts_in, all_lines, listed, sent_lines, IsPartOf}
use Rattle.jk_world.proofs.Basics.{no_run, cond_same, arrival_past}
use Rattle.jk_world.proofs.Streams.{flush_may, run_took, run_asked, running_took, begun_run, runs_asked, quiet_past}
use Rattle.jk_world.proofs.Lines.{NoLines, line_runs, no_lines_after, no_lines_append, no_line_after, no_line_shut, lines_fit}

-- lists in lists

part_more : {A : Type 0} (xs ys zs : List A) → IsPartOf xs ys → IsPartOf xs (ys ++ zs)
part_more [] ys zs h = tt
part_more (x ∷ xs) [] zs h = absurd h
part_more (x ∷ xs) (y ∷ ys) zs (inl (e, h)) = inl (e, part_more xs ys zs h)
part_more (x ∷ xs) (y ∷ ys) zs (inr h) = inr (part_more (x ∷ xs) ys zs h)

part_last : {A : Type 0} (x : A) (ys : List A) → IsPartOf (x ∷ []) (ys ++ x ∷ [])
part_last x [] = inl (refl, tt)
part_last x (y ∷ ys) = inr (part_last x ys)

part_snoc : {A : Type 0} (xs ys : List A) (x : A) → IsPartOf xs ys → IsPartOf (xs ++ x ∷ []) (ys ++ x ∷ [])
part_snoc [] ys x h = part_last x ys
part_snoc (w ∷ xs) [] x h = absurd h
part_snoc (w ∷ xs) (y ∷ ys) x (inl (e, h)) = inl (e, part_snoc xs ys x h)
part_snoc (w ∷ xs) (y ∷ ys) x (inr h) = inr (part_snoc (w ∷ xs) ys x h)

part_less : {A : Type 0} (xs zs ys : List A) → IsPartOf (xs ++ zs) ys → IsPartOf xs ys
part_less [] zs ys h = tt
part_less (x ∷ xs) zs [] h = absurd h
part_less (x ∷ xs) zs (y ∷ ys) (inl (e, h)) = inl (e, part_less xs zs ys h)
part_less (x ∷ xs) zs (y ∷ ys) (inr h) = inr (part_less (x ∷ xs) zs ys h)

texts_append : (xs ys : List Given) → texts_in (xs ++ ys) ≡ texts_in xs ++ texts_in ys
texts_append [] ys = refl
texts_append (None ∷ xs) ys = texts_append xs ys
texts_append (Some text ∷ xs) ys = ap (λ (ts : List (List ℕ)). text ∷ ts) (texts_append xs ys)

no_texts : (xs : List Given) → texts_in (nones xs) ≡ []
no_texts [] = refl
no_texts (None ∷ xs) = no_texts xs
no_texts (Some text ∷ xs) = no_texts xs

-- an arrival drops at most texts that were not read
texts_took : (b : Bool) (lines fresh : List Given) (ys : List (List ℕ)) → IsPartOf (texts_in (lines ++ fresh)) ys → IsPartOf (texts_in (lines ++ cond b (nones fresh) fresh)) ys
texts_took true lines fresh ys h =
    subst (λ (ts : List (List ℕ)). IsPartOf ts ys) (sym (texts_append lines (nones fresh) ∙ ap (λ (ts : List (List ℕ)). texts_in lines ++ ts) (no_texts fresh) ∙ append-nil (texts_in lines)))
    (part_less (texts_in lines) (texts_in fresh) ys (subst (λ (ts : List (List ℕ)). IsPartOf ts ys) (texts_append lines fresh) h))
texts_took false lines fresh ys h = h

-- the lines that were sent before an arrival
abbrev sent_before : ℕ → Log → List (List ℕ)
sent_before seat [] = []
sent_before seat (Took a ∷ past) = sent_lines seat past
sent_before seat (Marked m ∷ past) = sent_lines seat past

all_sent : (log : Log) (seat : ℕ) (xs : List (List ℕ)) → IsPartOf xs (sent_before seat log) → IsPartOf xs (sent_lines seat log)
all_sent [] seat xs h = h
all_sent (Took a ∷ past) seat xs h = part_more xs (sent_lines seat past) _ h
all_sent (Marked m ∷ past) seat xs h = h

-- a mark does not change whose request stands at a place
seat_marked : (past : Log) (m : Mark) (at : ℕ) → seat_at at (Marked m ∷ past) ≡ seat_at at past
seat_marked past m at = by_place (eqb (length past) at) refl
  where
    by_place : (b : Bool) → eqb (length past) at ≡ b → option_or (λ (a : Arrival). a.seat) 0 (cond b None (arrival_at at past)) ≡ seat_at at past
    by_place true e =
        let same : length past ≡ at = eqb-true (length past) at e in
        sym (ap (option_or (λ (a : Arrival). a.seat) 0) (arrival_past past at (omega (arith, same))))
    by_place false e = refl

module _ {S T : Type 0} (spoken : Spoken S T) where
  -- no line may come where none is owed
  no_line_may : (past : Log) (ds : List Due) (at : ℕ) (text : List ℕ) → NoLines ds → MayMark spoken past ds (record { at = at; kind = Line (Some text) }) → ⊥
  no_line_may past [] at text h may = may
  no_line_may past (MarkDue a due ∷ ds) at text h (same, forced) =
      let kind_is : Line (Some text) ≡ due = ap (λ (m : Mark). m.kind) same in
      (subst (λ (k : Kind). NoLines (MarkDue a k ∷ ds)) (sym kind_is) h).0
  no_line_may past (AnswerDue a ∷ ds) at text h (status, same, right) = let k : Line (Some text) ≡ Answer status = ap (λ (m : Mark). m.kind) same in cc
  no_line_may past (FlushDue ∷ ds) at text h may = may.0
  no_line_may past (StopDue cause ∷ ds) at text h (t, n, e, rest) = cc

  -- a text that may come was sent by the arrival before it, and is for the cell that asks its seat
  line_sent : (past : Log) (sent : Option (List ℕ)) (asks : Option ℕ) (at : ℕ) (text : List ℕ) → MayMark spoken past (line_due sent asks) (record { at = at; kind = Line (Some text) }) → (sent ≡ Some text) × (asks ≡ Some at)
  line_sent past None asks at text may = absurd may
  line_sent past (Some other) None at text may = absurd may
  line_sent past (Some other) (Some place) at text (same, forced) =
      let kind_is : Line (Some text) ≡ Line (Some other) = ap (λ (m : Mark). m.kind) same in
      let at_is : at ≡ place = ap (λ (m : Mark). m.at) same in
      (cc, ap (λ (p : ℕ). Some p) (sym at_is))

  took_sent : (a : Arrival) (past : Log) (at : ℕ) (text : List ℕ) → MayMark spoken (Took a ∷ past) (owed (Took a ∷ past)) (record { at = at; kind = Line (Some text) }) → (input_in a.what ≡ Some text) × (asker a.seat past ≡ Some at)
  took_sent a past at text =
      by_sort (λ s. MayMark spoken (Took a ∷ past) (dues_of s a past) (record { at = at; kind = Line (Some text) }) → (input_in a.what ≡ Some text) × (asker a.seat past ≡ Some at))
      (λ may. (let k : Line (Some text) ≡ Join = ap (λ (m : Mark). m.kind) may.0 in cc))
      (λ may. (let k : Line (Some text) ≡ Leave = ap (λ (m : Mark). m.kind) may.0 in cc))
      (λ may. absurd may)
      (λ may. absurd may)
      (λ may. line_sent (Took a ∷ past) (input_in a.what) (asker a.seat past) at text may)
      (λ may. (let k : Line (Some text) ≡ Interrupt = ap (λ (m : Mark). m.kind) may.0 in cc))
      (λ may. (let k : Line (Some text) ≡ KernelInfo = ap (λ (m : Mark). m.kind) may.0 in cc))
      (λ restart. λ may. absurd (no_line_may (Took a ∷ past) _ at text (no_line_shut (running past) past (length past) restart) may))
      (λ may. absurd may)
      (sort_as a.what)

-- the asker is the cell that runs, and of that seat
asked_seat : (asked left : Bool) (mine seat place at : ℕ) → cond ((asked && eqb mine seat) && not left) (Some place) None ≡ Some at → (place ≡ at) × (mine ≡ seat)
asked_seat false left mine seat place at e = absurd (none-some at e)
asked_seat true left mine seat place at e = by_seat (eqb mine seat) refl e
  where
    by_seat : (b : Bool) → eqb mine seat ≡ b → cond (b && not left) (Some place) None ≡ Some at → (place ≡ at) × (mine ≡ seat)
    by_seat true same e = (by_left left e, eqb-true mine seat same)
      where
        by_left : (l : Bool) → cond (not l) (Some place) None ≡ Some at → place ≡ at
        by_left true e = absurd (none-some at e)
        by_left false e = same_Some place at e
    by_seat false same e = absurd (none-some at e)

asker_is : (seat : ℕ) (past : Log) (o : Option Running) (at : ℕ) → option_at (asked_of seat past) o ≡ Some at → (r : Running) × (o ≡ Some r) × (r.at ≡ at) × (r.seat ≡ seat)
asker_is seat past None at e = absurd (none-some at e)
asker_is seat past (Some r) at e = let is = asked_seat r.asked (left r.seat r.at past) r.seat seat r.at at e in (r, refl, is.0, is.1)

seat_took : (past : Log) (a : Arrival) (at : ℕ) (x : Execute) → execute_at at past ≡ Some x → seat_at at (Took a ∷ past) ≡ seat_at at past
seat_took past a at x there =
    let within = execute_within past at x there in
    let apart : eqb (length past) at ≡ false = ne_eqb (length past) at (λ e. omega arith) in
    ap (λ (b : Bool). option_or (λ (a : Arrival). a.seat) 0 (cond b (Some a) (arrival_at at past))) apart

module _ {S T : Type 0} (spoken : Spoken S T) (laws : IsLanguage spoken) where
  -- the cell that runs is of the seat of its request
  abbrev pub HasSeat : Log → Type 0
  HasSeat log = (r : Running) → running log ≡ Some r → seat_at r.at log ≡ r.seat

  seat_kept : (past : Log) (m : Mark) (q r : Running) → running past ≡ Some q → q.at ≡ r.at → q.seat ≡ r.seat → HasSeat past → seat_at r.at (Marked m ∷ past) ≡ r.seat
  seat_kept past m q r runs at seat h = seat_marked past m r.at ∙ ap (λ (p : ℕ). seat_at p past) (sym at) ∙ h q runs ∙ seat

  mark_seat : (past : Log) (at : ℕ) (kind : Kind) → MayMark spoken past (owed past) (record { at = at; kind = kind }) → HasSeat past → HasSeat (Marked (record { at = at; kind = kind }) ∷ past)
  mark_seat past at (Begin n) may h = λ r e.
      let b = begun_run at (seat_at at past) (execute_at at past) r e in
      seat_marked past (record { at = at; kind = Begin n }) r.at ∙ ap (λ (p : ℕ). seat_at p past) (sym (ap (λ (r : Running). r.at) b.2)) ∙ ap (λ (r : Running). r.seat) b.2
  mark_seat past at (Flush turns text) may h = λ r e.
      let f = flush_may spoken past (owed past) at turns text may in
      let now : flushed_at turns f.0 ≡ r = same_Some (flushed_at turns f.0) r (sym (ap (option_with (flushed_at turns)) f.1) ∙ e) in
      seat_kept past (record { at = at; kind = Flush turns text }) f.0 r f.1 (ap (λ (r : Running). r.at) now) (ap (λ (r : Running). r.seat) now) h
  mark_seat past at (Line line) may h = λ r e.
      let q = line_runs spoken past at line may in
      let now : lined line q.0 ≡ r = same_Some (lined line q.0) r (sym (ap (option_with (lined line)) q.1) ∙ e) in
      seat_kept past (record { at = at; kind = Line line }) q.0 r q.1 (ap (λ (r : Running). r.at) now) (ap (λ (r : Running). r.seat) now) h
  mark_seat past at Ask may h = λ r e.
      let q = run_asked (running past) r e in
      seat_kept past (record { at = at; kind = Ask }) q.0 r q.1 q.2.at q.2.seat h
  mark_seat past at (End ending n) may h = λ r e. no_run r _ e
  mark_seat past at (Stop turns cause n) may h = λ r e. no_run r _ e
  mark_seat past at other may h = λ r e. seat_kept past (record { at = at; kind = other }) r r e refl refl h

  pub runs_seat : (log : Log) → EachFollows spoken log → HasSeat log
  runs_seat [] each = λ r e. no_run r _ e
  runs_seat (Took a ∷ past) each = λ r e.
      let q = run_took (interrupts a.what) (running past) r (sym (running_took a (running past)) ∙ e) in
      ap (λ (p : ℕ). seat_at p (Took a ∷ past)) (sym q.2.at)
      ∙ seat_took past a q.0.at q.0.request (runs_asked spoken laws past each.0 q.0 q.1)
      ∙ runs_seat past each.0 q.0 q.1 ∙ q.2.seat
  runs_seat (Marked m ∷ past) each = mark_seat past m.at m.kind each.1 (runs_seat past each.0)

  -- the texts among the lines of a request were sent by its seat, before the last arrival
  abbrev FromSeat : ℕ → Log → Type 0
  FromSeat at log = IsPartOf (texts_in (all_lines at log)) (sent_before (seat_at at log) log)

  took_from : (past : Log) (a : Arrival) (at : ℕ) → EachFollows spoken past → FromSeat at past → FromSeat at (Took a ∷ past)
  took_from past a at each h = texts_took (interrupts a.what) (lines_at at past) (fresh_lines at past) _ (by_place (eqb (length past) at) refl)
    where
      by_place : (b : Bool) → eqb (length past) at ≡ b → IsPartOf (texts_in (all_lines at past)) (sent_lines (option_or (λ (a : Arrival). a.seat) 0 (cond b (Some a) (arrival_at at past))) past)
      by_place true e =
          let same : length past ≡ at = eqb-true (length past) at e in
          let quiet = quiet_past spoken laws past each at (arrival_past past at (omega (arith, same))) in
          subst (λ (ls : List Given). IsPartOf (texts_in ls) (sent_lines a.seat past)) (sym (ap (λ (ls : List Given). ls ++ fresh_lines at past) quiet.lines ∙ quiet.fresh)) tt
      by_place false e = all_sent past (seat_at at past) (texts_in (all_lines at past)) h

  -- after a mark that gives nothing
  same_from : (past : Log) (m : Mark) (at : ℕ) → texts_in (all_lines at (Marked m ∷ past)) ≡ texts_in (all_lines at past) → FromSeat at past → FromSeat at (Marked m ∷ past)
  same_from past m at same h =
      subst (λ (ts : List (List ℕ)). IsPartOf ts (sent_lines (seat_at at (Marked m ∷ past)) past)) (sym same)
      (subst (λ (seat : ℕ). IsPartOf (texts_in (all_lines at past)) (sent_lines seat past)) (sym (seat_marked past m at))
      (all_sent past (seat_at at past) (texts_in (all_lines at past)) h))

  flush_lines : (b : Bool) (lines fresh : List Given) → cond b (lines ++ fresh) lines ++ cond b [] fresh ≡ lines ++ fresh
  flush_lines true lines fresh = append-nil (lines ++ fresh)
  flush_lines false lines fresh = refl

  none_given : (b c : Bool) (lines fresh : List Given) → texts_in (cond c lines lines ++ cond b (fresh ++ None ∷ []) fresh) ≡ texts_in (lines ++ fresh)
  none_given true c lines fresh =
      ap (λ (ls : List Given). texts_in (ls ++ (fresh ++ None ∷ []))) (cond_same c lines)
      ∙ ap texts_in (sym (append_assoc lines fresh (None ∷ []))) ∙ texts_append (lines ++ fresh) (None ∷ []) ∙ append-nil (texts_in (lines ++ fresh))
  none_given false c lines fresh = ap (λ (ls : List Given). texts_in (ls ++ fresh)) (cond_same c lines)

  text_given : (b c : Bool) (text : List ℕ) (lines fresh : List Given) → b ≡ true → texts_in (cond c lines lines ++ cond b (fresh ++ Some text ∷ []) fresh) ≡ texts_in (lines ++ fresh) ++ text ∷ []
  text_given true c text lines fresh e =
      ap (λ (ls : List Given). texts_in (ls ++ (fresh ++ Some text ∷ []))) (cond_same c lines)
      ∙ ap texts_in (sym (append_assoc lines fresh (Some text ∷ []))) ∙ texts_append (lines ++ fresh) (Some text ∷ [])
  text_given false c text lines fresh e = cc

  -- a text is given to this place
  text_from : (past : Log) (at : ℕ) (text : List ℕ) → EachFollows spoken past → MayMark spoken past (owed past) (record { at = at; kind = Line (Some text) }) → FromSeat at past → FromSeat at (Marked (record { at = at; kind = Line (Some text) }) ∷ past)
  text_from [] at text each may h = absurd may
  text_from (Took a ∷ past) at text each may h =
      let log : Log = Took a ∷ past in
      let mark : Mark = record { at = at; kind = Line (Some text) } in
      let sent = took_sent spoken a past at text may in
      let cell = asker_is a.seat past (running past) at sent.1 in
      let asks : execute_at at past ≡ Some cell.0.request = ap (λ (p : ℕ). execute_at p past) (sym cell.2) ∙ runs_asked spoken laws past each.0 cell.0 cell.1 in
      let seat_is : seat_at at log ≡ a.seat =
      seat_took past a at cell.0.request asks ∙ ap (λ (p : ℕ). seat_at p past) (sym cell.2) ∙ runs_seat past each.0 cell.0 cell.1 ∙ cell.3 in
      let all : sent_lines (seat_at at log) log ≡ sent_lines (seat_at at log) past ++ text ∷ [] =
      ap (λ (b : Bool). sent_lines (seat_at at log) past ++ cond b (listed (input_in a.what)) []) (eq-eqb a.seat (seat_at at log) (sym seat_is))
      ∙ ap (λ (o : Option (List ℕ)). sent_lines (seat_at at log) past ++ listed o) sent.0 in
      subst (λ (ts : List (List ℕ)). IsPartOf ts (sent_lines (seat_at at (Marked mark ∷ log)) log))
      (sym (text_given (eqb at at) (eqb at at) text (lines_at at log) (fresh_lines at log) (eq-eqb at at refl)))
      (subst (λ (seat : ℕ). IsPartOf (texts_in (all_lines at log) ++ text ∷ []) (sent_lines seat log)) (sym (seat_marked log mark at))
      (subst (λ (ys : List (List ℕ)). IsPartOf (texts_in (all_lines at log) ++ text ∷ []) ys) (sym all)
      (part_snoc (texts_in (all_lines at log)) (sent_lines (seat_at at log) past) text h)))
  text_from (Marked m ∷ past) at text each may h =
      absurd (no_line_may spoken (Marked m ∷ past) (owed (Marked m ∷ past)) at text
      (no_lines_append (drop 1 (owed past)) _ (no_lines_after (owed past) (running past) (lines_fit past)) (no_line_after m.kind (running past) past)) may)

  mark_from : (past : Log) (at p : ℕ) (kind : Kind) → EachFollows spoken past → MayMark spoken past (owed past) (record { at = p; kind = kind }) → FromSeat at past → FromSeat at (Marked (record { at = p; kind = kind }) ∷ past)
  mark_from past at p (Line None) each may h =
      same_from past (record { at = p; kind = Line None }) at (none_given (eqb p at) (eqb p at) (lines_at at past) (fresh_lines at past)) h
  mark_from past at p (Line (Some text)) each may h = by_place (eqb p at) refl
    where
      mark : Mark
      mark = record { at = p; kind = Line (Some text) }

      by_place : (b : Bool) → eqb p at ≡ b → FromSeat at (Marked mark ∷ past)
      by_place true e =
          let same : p ≡ at = eqb-true p at e in
          subst (λ (q : ℕ). FromSeat q (Marked mark ∷ past)) same (text_from past p text each may (subst (λ (q : ℕ). FromSeat q past) (sym same) h))
      by_place false e =
          same_from past mark at
          (ap (λ (b : Bool). texts_in (cond b (lines_at at past) (lines_at at past) ++ cond b (fresh_lines at past ++ Some text ∷ []) (fresh_lines at past))) e) h
  mark_from past at p (Flush turns text) each may h =
      same_from past (record { at = p; kind = Flush turns text }) at (ap texts_in (flush_lines (eqb p at) (lines_at at past) (fresh_lines at past))) h
  mark_from past at p other each may h =
      same_from past (record { at = p; kind = other }) at
      (ap (λ (ls : List Given). texts_in (ls ++ cond (eqb p at) (fresh_lines at past) (fresh_lines at past))) (cond_same (eqb p at) (lines_at at past))
      ∙ ap (λ (ls : List Given). texts_in (lines_at at past ++ ls)) (cond_same (eqb p at) (fresh_lines at past))) h

  from_seat : (log : Log) → EachFollows spoken log → (at : ℕ) → FromSeat at log
  from_seat [] each at = tt
  from_seat (Took a ∷ past) each at = took_from past a at each.0 (from_seat past each.0 at)
  from_seat (Marked m ∷ past) each at = mark_from past at m.at m.kind each.0 each.1 (from_seat past each.0 at)

  pub texts_sent : (log : Log) → EachFollows spoken log → (at : ℕ) → IsPartOf (texts_in (all_lines at log)) (sent_lines (seat_at at log) log)
  texts_sent log each at = all_sent log (seat_at at log) (texts_in (all_lines at log)) (from_seat log each at)
