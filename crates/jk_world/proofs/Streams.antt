-- The streams of a begun cell are the output that its meaning has at its last flush.
use Rattle.std.proofs.Common.{◌≡◌, ◌≢◌, ◌⊎◌, ℕ, ◌+◌, ◌≤◌, Bool, true, false, cond, List, [], ◌∷◌, ◌++◌, length, drop, refl, sym, ◌∙◌, ap, subst, append_assoc, arith, Option, None, Some, inl, inr, eqb, eq-eqb}
use Rattle.std.specs.Prelude.{slice_get}
use Rattle.std.proofs.lemmas.List.{append-nil, drop_at}
use Rattle.std.proofs.lemmas.Option.{none-some, same_Some}
use Rattle.std.proofs.lemmas.Bool.Decides.{eqb_tells}
use Rattle.jk_language.specs.Parts.{Line as Given}
use Rattle.jk_language.specs.Spoken.{Spoken, IsLanguage}
use Rattle.jp_msg.specs.declared.message.Message.{Message}
use Rattle.jp_msg.specs.declared.message.Execute.{Execute}
use Rattle.jk_log.specs.declared.arrival.Arrival.{Arrival}
use Rattle.jk_log.specs.declared.arrival.What.{What}
use Rattle.jk_log.specs.declared.arrival.What.TheVariants as what
use Rattle.jk_log.specs.declared.mark.Item.{Item}
use Rattle.jk_log.specs.declared.mark.Item.TheVariants.{Took, Marked}
use Rattle.jk_log.specs.declared.mark.Mark.{Mark}
use Rattle.jk_log.specs.declared.mark.Kind.{Kind}
use Rattle.jk_log.specs.declared.mark.Kind.TheVariants.{Begin, Flush, Ask, Line, End, Stop, Refuse, Abort, Answer, Restart}
use Rattle.jp_msg.specs.declared.message.Content.{Content}
use Rattle.jp_msg.specs.declared.message.Content.TheVariants as content
use Rattle.jp_msg.specs.declared.message.Request.{Request}
use Rattle.jp_msg.specs.declared.message.Request.TheVariants as request
use Rattle.jk_log.specs.Asked.{sort_as, execute_in, content_sort, shell_sort, control_sort, stdin_sort}
use Rattle.jk_log.specs.Log.{Log, Running, running, running_with, seat_at, arrival_at, option_at, waiting, session, meaning, stood, execute_at, option_with, opened, flushed_at, asking, lined, unread, nones}
use Rattle.jk_log.specs.Legal.{Due, MarkDue, AnswerDue, FlushDue, StopDue, IsForced, EachFollows, MayMark, MayCome, owed}
use Rattle.jk_log.proofs.Logs.{execute_grows}
use Rattle.jk_world.specs.Cells.{times_answered, streams, last_turns, fresh_lines, lines_at, begun_in, interrupts, request_interrupts, content_interrupts, flushed_meaning}
use Rattle.jk_world.proofs.Basics.{no_run, cond_same, cond_nil}
use Rattle.jk_world.proofs.Once.{answers_first, first_new}
use Rattle.jk_world.proofs.Dues.{begin_asks, restart_idle}
use Rattle.jk_world.proofs.Lines.{line_runs}

no_some : {A : Type 0} (x : A) (P : Type 0) → Some x ≡ None → P
no_some x P e = cc

-- an interrupt or a shutdown
by_control : (c : Content) (o : Option Running) → running_with (content_sort control_sort c) o ≡ cond (content_interrupts c) (option_with unread o) o
by_control (content.Request (request.Execute e)) o = refl
by_control (content.Request request.KernelInfo) o = refl
by_control (content.Request (request.IsComplete code)) o = refl
by_control (content.Request (request.Complete cursor)) o = refl
by_control (content.Request request.Inspect) o = refl
by_control (content.Request request.History) o = refl
by_control (content.Request request.CommInfo) o = refl
by_control (content.Request request.Interrupt) o = refl
by_control (content.Request (request.Shutdown restart)) o = refl
by_control (content.Request (request.InputReply line)) o = refl
by_control (content.Request request.Other) o = refl
by_control (content.Output x) o = refl

by_shell : (c : Content) (o : Option Running) → running_with (content_sort shell_sort c) o ≡ o
by_shell (content.Request (request.Execute e)) o = refl
by_shell (content.Request request.KernelInfo) o = refl
by_shell (content.Request (request.IsComplete code)) o = refl
by_shell (content.Request (request.Complete cursor)) o = refl
by_shell (content.Request request.Inspect) o = refl
by_shell (content.Request request.History) o = refl
by_shell (content.Request request.CommInfo) o = refl
by_shell (content.Request request.Interrupt) o = refl
by_shell (content.Request (request.Shutdown restart)) o = refl
by_shell (content.Request (request.InputReply line)) o = refl
by_shell (content.Request request.Other) o = refl
by_shell (content.Output x) o = refl

by_stdin : (c : Content) (o : Option Running) → running_with (content_sort stdin_sort c) o ≡ o
by_stdin (content.Request (request.Execute e)) o = refl
by_stdin (content.Request request.KernelInfo) o = refl
by_stdin (content.Request (request.IsComplete code)) o = refl
by_stdin (content.Request (request.Complete cursor)) o = refl
by_stdin (content.Request request.Inspect) o = refl
by_stdin (content.Request request.History) o = refl
by_stdin (content.Request request.CommInfo) o = refl
by_stdin (content.Request request.Interrupt) o = refl
by_stdin (content.Request (request.Shutdown restart)) o = refl
by_stdin (content.Request (request.InputReply line)) o = refl
by_stdin (content.Request request.Other) o = refl
by_stdin (content.Output x) o = refl

pub running_took : (a : Arrival) (o : Option Running) → running_with (sort_as a.what) o ≡ cond (interrupts a.what) (option_with unread o) o
running_took a o = by_what a.what
  where
    by_what : (w : What) → running_with (sort_as w) o ≡ cond (interrupts w) (option_with unread o) o
    by_what (what.Control m) = by_control m.content o
    by_what what.Join = refl
    by_what what.Leave = refl
    by_what (what.Shell m) = by_shell m.content o
    by_what (what.Stdin m) = by_stdin m.content o

-- the same cell, which was given these lines since its last flush
pub record IsSame (q r : Running) (since : List Given) : Type 0 where
  pub at : q.at ≡ r.at
  pub seat : q.seat ≡ r.seat
  pub request : q.request ≡ r.request
  pub turns : q.turns ≡ r.turns
  pub lines : q.lines ≡ r.lines
  pub fresh : since ≡ r.fresh

same_as : (q r : Running) → q ≡ r → IsSame q r q.fresh
same_as q r e = record {
  at = ap (λ (r : Running). r.at) e;
  seat = ap (λ (r : Running). r.seat) e;
  request = ap (λ (r : Running). r.request) e;
  turns = ap (λ (r : Running). r.turns) e;
  lines = ap (λ (r : Running). r.lines) e;
  fresh = ap (λ (r : Running). r.fresh) e;
}

-- the cell that runs, after an arrival
pub run_took : (b : Bool) (o : Option Running) (r : Running) → cond b (option_with unread o) o ≡ Some r → (q : Running) × (o ≡ Some q) × IsSame q r (cond b (nones q.fresh) q.fresh)
run_took true None r e = no_run r _ e
run_took true (Some q) r e =
    let same = same_Some (unread q) r e in (
      q,
      refl,
      record {
        at = ap (λ (r : Running). r.at) same;
        seat = ap (λ (r : Running). r.seat) same;
        request = ap (λ (r : Running). r.request) same;
        turns = ap (λ (r : Running). r.turns) same;
        lines = ap (λ (r : Running). r.lines) same;
        fresh = ap (λ (r : Running). r.fresh) same;
      },
    )
run_took false None r e = no_run r _ e
run_took false (Some q) r e = (q, refl, same_as q r (same_Some q r e))

-- the cell that runs, after it asked
pub run_asked : (o : Option Running) (r : Running) → option_with asking o ≡ Some r → (q : Running) × (o ≡ Some q) × IsSame q r q.fresh
run_asked None r e = no_run r _ e
run_asked (Some q) r e =
    let same = same_Some (asking q) r e in (
      q,
      refl,
      record {
        at = ap (λ (r : Running). r.at) same;
        seat = ap (λ (r : Running). r.seat) same;
        request = ap (λ (r : Running). r.request) same;
        turns = ap (λ (r : Running). r.turns) same;
        lines = ap (λ (r : Running). r.lines) same;
        fresh = ap (λ (r : Running). r.fresh) same;
      },
    )

-- the cell that was begun
pub begun_run : (at seat : ℕ) (o : Option Execute) (r : Running) → option_with (opened at seat) o ≡ Some r → (e : Execute) × (o ≡ Some e) × (opened at seat e ≡ r)
begun_run at seat None r e = no_run r _ e
begun_run at seat (Some x) r e = (x, refl, same_Some (opened at seat x) r e)

pub none_or : {A : Type 0} (o : Option A) (P : Type 0) → (o ≡ None → P) → ((x : A) → o ≡ Some x → P) → P
none_or None P n s = n refl
none_or (Some x) P n s = s x refl

none_unread : (b : Bool) (lines : List Given) → lines ≡ [] → cond b (nones lines) lines ≡ []
none_unread true lines e = ap nones e
none_unread false lines e = e

-- a text and the rest after it
rest_joins : (xs ys rest : List ℕ) → xs ++ rest ≡ ys → xs ++ drop (length xs) ys ≡ ys
rest_joins xs ys rest e = ap (λ (t : List ℕ). xs ++ drop (length xs) t) (sym e) ∙ ap (λ (t : List ℕ). xs ++ t) (drop_at xs rest (length xs) refl) ∙ e

module _ {S T : Type 0} (spoken : Spoken S T) where
  -- the streams of a begun cell, joined, are the output of its meaning at its last flush
  pub record StreamsAreRight (log : Log) (at : ℕ) (begun : S) : Type 0 where
    pub request : Execute
    pub there : execute_at at log ≡ Some request
    pub shown : streams at log ≡ (flushed_meaning spoken log at begun request).output
    pub used : (flushed_meaning spoken log at begun request).turns ≡ last_turns at log

  -- what a log tells of the cell that runs
  pub record IsCell (log : Log) (r : Running) : Type 0 where
    pub asked : execute_at r.at log ≡ Some r.request
    pub begun : begun_in spoken r.at log ≡ Some (session spoken log)
    pub turns : last_turns r.at log ≡ r.turns
    pub lines : lines_at r.at log ≡ r.lines
    pub fresh : fresh_lines r.at log ≡ r.fresh

-- a place at which no cell was begun
pub record IsQuiet (log : Log) (at : ℕ) : Type 0 where
  pub text : streams at log ≡ []
  pub turns : last_turns at log ≡ 0
  pub lines : lines_at at log ≡ []
  pub fresh : fresh_lines at log ≡ []

module _ {S T : Type 0} (spoken : Spoken S T) where
  -- a flush is one that may come, owed or not
  pub flush_may : (past : Log) (dues : List Due) (at turns : ℕ) (text : List ℕ) → MayMark spoken past dues (record { at = at; kind = Flush turns text }) → MayCome spoken past at (Flush turns text)
  flush_may past [] at turns text h = h
  flush_may past (MarkDue a due ∷ dues) at turns text (same, forced) = absurd (subst IsForced (sym (ap (λ (m : Mark). m.kind) same)) forced)
  flush_may past (AnswerDue a ∷ dues) at turns text (status, same, right) = let k : Flush turns text ≡ Answer status = ap (λ (m : Mark). m.kind) same in cc
  flush_may past (FlushDue ∷ dues) at turns text h = h.1
  flush_may past (StopDue cause ∷ dues) at turns text (t, n, e, rest) = cc

  -- what is begun was begun by a mark
  begun_once : (log : Log) (at : ℕ) (s : S) → begun_in spoken at log ≡ Some s → 1 ≤ times_answered at log
  begun_once [] at s e = absurd (none-some s e)
  begun_once (Took a ∷ past) at s e = begun_once past at s e
  begun_once (Marked m ∷ past) at s e = mark_once m.at m.kind (begun_once past at s) e
    where
      later : (n : ℕ) (b : Bool) → (begun_in spoken at past ≡ Some s → 1 ≤ times_answered at past) → cond b (begun_in spoken at past) (begun_in spoken at past) ≡ Some s → 1 ≤ times_answered at past + cond b n 0
      later n b h e = let before = h (sym (cond_same b (begun_in spoken at past)) ∙ e) in omega arith

      begins : (b : Bool) → (begun_in spoken at past ≡ Some s → 1 ≤ times_answered at past) → cond b (Some (session spoken past)) (begun_in spoken at past) ≡ Some s → 1 ≤ times_answered at past + cond b 1 0
      begins true h e = omega arith
      begins false h e = let before = h e in omega arith

      mark_once : (p : ℕ) (kind : Kind) → (begun_in spoken at past ≡ Some s → 1 ≤ times_answered at past) → begun_in spoken at (Marked (record { at = p; kind = kind }) ∷ past) ≡ Some s → 1 ≤ times_answered at (Marked (record { at = p; kind = kind }) ∷ past)
      mark_once p (Begin n) h e = begins (eqb p at) h e
      mark_once p (Refuse n) h e = later 1 (eqb p at) h e
      mark_once p Abort h e = later 1 (eqb p at) h e
      mark_once p (Answer status) h e = later 1 (eqb p at) h e
      mark_once p other h e = later 0 (eqb p at) h e

  -- what waits first was not begun
  pub first_not_begun : (log : Log) → EachFollows spoken log → (at : ℕ) → slice_get (waiting log) 0 ≡ Some at → begun_in spoken at log ≡ None
  first_not_begun log each at first = none_or (begun_in spoken at log) _ (λ e. e) (λ s e. absurd (let once = begun_once log at s e in let none = first_new spoken log each at first in omega (arith, once, none)))

  -- what a log tells of its cells
  record IsTold (log : Log) : Type 0 where
    quiet : (at : ℕ) → begun_in spoken at log ≡ None → IsQuiet log at
    runs : (r : Running) → running log ≡ Some r → IsCell spoken log r
    right : (at : ℕ) (s : S) → begun_in spoken at log ≡ Some s → StreamsAreRight spoken log at s

  -- the cell that runs is told of as before
  same_cell : (past : Log) (q r : Running) (since : List Given) → IsCell spoken past q → IsSame q r since → (log : Log) → execute_at q.at log ≡ Some q.request → begun_in spoken q.at log ≡ begun_in spoken q.at past → session spoken log ≡ session spoken past → last_turns q.at log ≡ last_turns q.at past → lines_at q.at log ≡ lines_at q.at past → fresh_lines q.at log ≡ since → IsCell spoken log r
  same_cell past q r since c same log asked begun handed turns lines news = record {
    asked = ap (λ (p : ℕ). execute_at p log) (sym same.at) ∙ asked ∙ ap (λ (e : Execute). Some e) same.request;
    begun = ap (λ (p : ℕ). begun_in spoken p log) (sym same.at) ∙ begun ∙ c.begun ∙ ap (λ (s : S). Some s) (sym handed);
    turns = ap (λ (p : ℕ). last_turns p log) (sym same.at) ∙ turns ∙ c.turns ∙ same.turns;
    lines = ap (λ (p : ℕ). lines_at p log) (sym same.at) ∙ lines ∙ c.lines ∙ same.lines;
    fresh = ap (λ (p : ℕ). fresh_lines p log) (sym same.at) ∙ news ∙ same.fresh;
  }

  -- a mark that shows no text, begins nothing and gives no line
  record IsPlain (past : Log) (m : Mark) : Type 0 where
    begun : (at : ℕ) → begun_in spoken at (Marked m ∷ past) ≡ begun_in spoken at past
    shown : (at : ℕ) → streams at (Marked m ∷ past) ≡ streams at past
    turns : (at : ℕ) → last_turns at (Marked m ∷ past) ≡ last_turns at past
    lines : (at : ℕ) → lines_at at (Marked m ∷ past) ≡ lines_at at past
    fresh : (at : ℕ) → fresh_lines at (Marked m ∷ past) ≡ fresh_lines at past
    runs : (r : Running) → running (Marked m ∷ past) ≡ Some r → (q : Running) × (running past ≡ Some q) × IsSame q r q.fresh
    handed : (r : Running) → running (Marked m ∷ past) ≡ Some r → session spoken (Marked m ∷ past) ≡ session spoken past

  -- the same streams, turns and lines
  same_right : (past : Log) (i : Item) (at : ℕ) (s : S) → streams at (i ∷ past) ≡ streams at past → last_turns at (i ∷ past) ≡ last_turns at past → lines_at at (i ∷ past) ≡ lines_at at past → StreamsAreRight spoken past at s → StreamsAreRight spoken (i ∷ past) at s
  same_right past i at s shown turns lines q = record {
    request = q.request;
    there = execute_grows past i at q.request q.there;
    shown = shown ∙ q.shown ∙ ap (λ (n : ℕ). (spoken.cell s q.request.code (lines_at at past) n).output) (sym turns)
        ∙ ap (λ (ls : List Given). (spoken.cell s q.request.code ls (last_turns at (i ∷ past))).output) (sym lines);
    used = ap (λ (ls : List Given). (spoken.cell s q.request.code ls (last_turns at (i ∷ past))).turns) lines
        ∙ ap (λ (n : ℕ). (spoken.cell s q.request.code (lines_at at past) n).turns) turns ∙ q.used ∙ sym turns;
  }

  plain_told : (past : Log) (m : Mark) → IsPlain past m → IsTold past → IsTold (Marked m ∷ past)
  plain_told past m p h = record {
    quiet = λ at e. (
        let q = h.quiet at (sym (p.begun at) ∙ e) in
        record { text = p.shown at ∙ q.text; turns = p.turns at ∙ q.turns; lines = p.lines at ∙ q.lines; fresh = p.fresh at ∙ q.fresh }
        );
    runs = λ r e. (
        let before = p.runs r e in
        let c = h.runs before.0 before.1 in
        same_cell past before.0 r before.0.fresh c before.2 (Marked m ∷ past) (execute_grows past (Marked m) before.0.at before.0.request c.asked) (p.begun before.0.at) (p.handed r e) (p.turns before.0.at) (p.lines before.0.at) (p.fresh before.0.at ∙ c.fresh)
        );
    right = λ at s e. same_right past (Marked m) at s (p.shown at) (p.turns at) (p.lines at) (h.right at s (sym (p.begun at) ∙ e));
  }

  took_told : (past : Log) (a : Arrival) → IsTold past → IsTold (Took a ∷ past)
  took_told past a h = record {
    quiet = λ at e. (
        let q = h.quiet at e in
        record { text = q.text; turns = q.turns; lines = q.lines; fresh = none_unread (interrupts a.what) (fresh_lines at past) q.fresh }
        );
    runs = λ r e. (
        let before = run_took (interrupts a.what) (running past) r (sym (running_took a (running past)) ∙ e) in
        let c = h.runs before.0 before.1 in
        same_cell past before.0 r _ c before.2 (Took a ∷ past) (execute_grows past (Took a) before.0.at before.0.request c.asked) refl refl refl refl (ap (λ (ls : List Given). cond (interrupts a.what) (nones ls) ls) c.fresh)
        );
    right = λ at s e. same_right past (Took a) at s refl refl refl (h.right at s e);
  }

  given_apart : (b : Bool) (line : Given) (xs : List Given) → b ≡ false → cond b (xs ++ line ∷ []) xs ≡ xs
  given_apart b line xs e = rw e refl

  line_told : (past : Log) (at : ℕ) (line : Given) (r : Running) → running past ≡ Some r → at ≡ r.at → IsTold past → IsTold (Marked (record { at = at; kind = Line line }) ∷ past)
  line_told past at line r runs here h = record {
    quiet = λ p e. quiet_by p (sym (cond_same (eqb at p) (begun_in spoken p past)) ∙ e) (eqb_tells at p);
    runs = λ q e. (
        let same : lined line r ≡ q = same_Some (lined line r) q (sym (ap (option_with (lined line)) runs) ∙ e) in
        same_cell past r q (r.fresh ++ line ∷ []) cell
        (record {
          at = ap (λ (q : Running). q.at) same;
          seat = ap (λ (q : Running). q.seat) same;
          request = ap (λ (q : Running). q.request) same;
          turns = ap (λ (q : Running). q.turns) same;
          lines = ap (λ (q : Running). q.lines) same;
          fresh = ap (λ (q : Running). q.fresh) same;
        })
        (Marked mark ∷ past) (execute_grows past (Marked mark) r.at r.request cell.asked) (cond_same (eqb at r.at) (begun_in spoken r.at past)) refl
        (cond_same (eqb at r.at) (last_turns r.at past)) (cond_same (eqb at r.at) (lines_at r.at past))
        (ap (λ (b : Bool). cond b (fresh_lines r.at past ++ line ∷ []) (fresh_lines r.at past)) (eq-eqb at r.at here) ∙ ap (λ (ls : List Given). ls ++ line ∷ []) cell.fresh)
        );
    right = λ p s e.
        same_right past (Marked mark) p s (cond_nil (eqb at p) (streams p past)) (cond_same (eqb at p) (last_turns p past)) (cond_same (eqb at p) (lines_at p past))
        (h.right p s (sym (cond_same (eqb at p) (begun_in spoken p past)) ∙ e));
  }
    where
      mark : Mark
      mark = record { at = at; kind = Line line }

      cell : IsCell spoken past r
      cell = h.runs r runs

      quiet_by : (p : ℕ) → begun_in spoken p past ≡ None → ((eqb at p ≡ true) × (at ≡ p)) ⊎ ((eqb at p ≡ false) × (at ≢ p)) → IsQuiet (Marked mark ∷ past) p
      quiet_by p e (inl (b, same)) =
          absurd (none-some (session spoken past) (sym e ∙ ap (λ (p : ℕ). begun_in spoken p past) (sym same ∙ here) ∙ cell.begun))
      quiet_by p e (inr (b, apart)) =
          let q = h.quiet p e in
          record {
            text = cond_nil (eqb at p) (streams p past) ∙ q.text;
            turns = cond_same (eqb at p) (last_turns p past) ∙ q.turns;
            lines = cond_same (eqb at p) (lines_at p past) ∙ q.lines;
            fresh = given_apart (eqb at p) line (fresh_lines p past) b ∙ q.fresh;
          }

module _ {S T : Type 0} (spoken : Spoken S T) (laws : IsLanguage spoken) where
  -- with more lines and turns the output goes on
  output_on : (session : S) (text : List ℕ) (xs ys : List Given) (n m : ℕ) → n ≤ m → (rest : List ℕ) × ((spoken.cell session text xs n).output ++ rest ≡ (spoken.cell session text (xs ++ ys) m).output)
  output_on session text xs [] n m h =
      let goes = (laws.lawful session text xs).output n m h in
      (goes.0, goes.1 ∙ ap (λ (ls : List Given). (spoken.cell session text ls m).output) (sym (append-nil xs)))
  output_on session text xs (y ∷ ys) n m h =
      let fed = (laws.fed session text xs y).output n in
      let goes = output_on session text (xs ++ y ∷ []) ys n m h in (
        fed.0 ++ goes.0,
        sym (append_assoc (spoken.cell session text xs n).output fed.0 goes.0)
            ∙ ap (λ (t : List ℕ). t ++ goes.0) fed.1 ∙ goes.1
            ∙ ap (λ (ls : List Given). (spoken.cell session text ls m).output) (append_assoc xs (y ∷ []) ys),
      )

  begin_told : (past : Log) (at n : ℕ) → EachFollows spoken past → slice_get (waiting past) 0 ≡ Some at → (e : Execute) × (execute_at at past ≡ Some e) → IsTold spoken past → IsTold spoken (Marked (record { at = at; kind = Begin n }) ∷ past)
  begin_told past at n each first asks h = record {
    quiet = λ p e. quiet_by (eqb at p) p e (h.quiet p);
    runs = λ r e. (
        let b = begun_run at (seat_at at past) (execute_at at past) r e in
        let here : at ≡ r.at = ap (λ (r : Running). r.at) b.2 in
        record {
          asked = execute_grows past (Marked mark) r.at r.request
              (ap (λ (p : ℕ). execute_at p past) (sym here) ∙ b.1 ∙ ap (λ (r : Running). Some r.request) b.2);
          begun = ap (λ (b : Bool). cond b (Some (session spoken past)) (begun_in spoken r.at past)) (eq-eqb at r.at here);
          turns = cond_same (eqb at r.at) (last_turns r.at past) ∙ ap (λ (p : ℕ). last_turns p past) (sym here) ∙ before.turns ∙ ap (λ (r : Running). r.turns) b.2;
          lines = cond_same (eqb at r.at) (lines_at r.at past) ∙ ap (λ (p : ℕ). lines_at p past) (sym here) ∙ before.lines ∙ ap (λ (r : Running). r.lines) b.2;
          fresh = cond_same (eqb at r.at) (fresh_lines r.at past) ∙ ap (λ (p : ℕ). fresh_lines p past) (sym here) ∙ before.fresh ∙ ap (λ (r : Running). r.fresh) b.2;
        }
        );
    right = λ p s e. right_by p s e (eqb_tells at p);
  }
    where
      mark : Mark
      mark = record { at = at; kind = Begin n }

      before : IsQuiet past at
      before = h.quiet at (first_not_begun spoken past each at first)

      quiet_by : (b : Bool) (p : ℕ) → cond b (Some (session spoken past)) (begun_in spoken p past) ≡ None → (begun_in spoken p past ≡ None → IsQuiet past p) → IsQuiet (Marked mark ∷ past) p
      quiet_by true p e q = no_some (session spoken past) _ e
      quiet_by false p e q =
          let r = q e in
          record {
            text = cond_nil (eqb at p) (streams p past) ∙ r.text;
            turns = cond_same (eqb at p) (last_turns p past) ∙ r.turns;
            lines = cond_same (eqb at p) (lines_at p past) ∙ r.lines;
            fresh = cond_same (eqb at p) (fresh_lines p past) ∙ r.fresh;
          }

      -- without a turn none is used
      none_used : (n : ℕ) (s : S) (code : List ℕ) → n ≡ 0 → (spoken.cell s code [] n).turns ≡ n
      none_used n s code e =
          let few : (spoken.cell s code [] n).turns ≤ n = (laws.lawful s code []).few n in
          omega (arith, few, e)

      right_by : (p : ℕ) (s : S) → begun_in spoken p (Marked mark ∷ past) ≡ Some s → ((eqb at p ≡ true) × (at ≡ p)) ⊎ ((eqb at p ≡ false) × (at ≢ p)) → StreamsAreRight spoken (Marked mark ∷ past) p s
      right_by p s e (inl (b, same)) =
          record {
            request = asks.0;
            there = execute_grows past (Marked mark) p asks.0 (ap (λ (p : ℕ). execute_at p past) (sym same) ∙ asks.1);
            shown = cond_nil (eqb at p) (streams p past) ∙ ap (λ (p : ℕ). streams p past) (sym same) ∙ before.text
                ∙ sym (laws.lawful s asks.0.code []).silent
                ∙ ap (λ (n : ℕ). (spoken.cell s asks.0.code [] n).output)
                (sym (cond_same (eqb at p) (last_turns p past) ∙ ap (λ (p : ℕ). last_turns p past) (sym same) ∙ before.turns))
                ∙ ap (λ (ls : List Given). (spoken.cell s asks.0.code ls (last_turns p (Marked mark ∷ past))).output)
                (sym (cond_same (eqb at p) (lines_at p past) ∙ ap (λ (p : ℕ). lines_at p past) (sym same) ∙ before.lines));
            used = ap (λ (ls : List Given). (spoken.cell s asks.0.code ls (last_turns p (Marked mark ∷ past))).turns)
                (cond_same (eqb at p) (lines_at p past) ∙ ap (λ (p : ℕ). lines_at p past) (sym same) ∙ before.lines)
                ∙ none_used (last_turns p (Marked mark ∷ past)) s asks.0.code
                (cond_same (eqb at p) (last_turns p past) ∙ ap (λ (p : ℕ). last_turns p past) (sym same) ∙ before.turns);
          }
      right_by p s e (inr (b, apart)) =
          same_right spoken past (Marked mark) p s (cond_nil (eqb at p) (streams p past)) (cond_same (eqb at p) (last_turns p past)) (cond_same (eqb at p) (lines_at p past))
          (h.right p s (sym (ap (λ (b : Bool). cond b (Some (session spoken past)) (begun_in spoken p past)) b) ∙ e))

  flush_told : (past : Log) (at turns : ℕ) (text : List ℕ) → MayCome spoken past at (Flush turns text) → IsTold spoken past → IsTold spoken (Marked (record { at = at; kind = Flush turns text }) ∷ past)
  flush_told past at turns text (r, runs, f) h = record {
    quiet = λ p e. quiet_by p (sym (begun_same p) ∙ e) (eqb_tells at p);
    runs = λ q e. (
        let now : flushed_at turns r ≡ q = same_Some (flushed_at turns r) q (sym (ap (option_with (flushed_at turns)) runs) ∙ e) in
        let there : r.at ≡ q.at = ap (λ (q : Running). q.at) now in
        let here : eqb at q.at ≡ true = eq-eqb at q.at (f.request ∙ there) in
        record {
          asked = execute_grows past (Marked mark) q.at q.request
              (ap (λ (p : ℕ). execute_at p past) (sym there) ∙ cell.asked ∙ ap (λ (q : Running). Some q.request) now);
          begun = begun_same q.at ∙ ap (λ (p : ℕ). begun_in spoken p past) (sym there) ∙ cell.begun;
          turns = ap (λ (b : Bool). cond b turns (last_turns q.at past)) here ∙ ap (λ (q : Running). q.turns) now;
          lines = ap (λ (b : Bool). cond b (lines_at q.at past ++ fresh_lines q.at past) (lines_at q.at past)) here
              ∙ ap (λ (p : ℕ). lines_at p past ++ fresh_lines p past) (sym there) ∙ all_lines ∙ ap (λ (q : Running). q.lines) now;
          fresh = ap (λ (b : Bool). cond b [] (fresh_lines q.at past)) here ∙ ap (λ (q : Running). q.fresh) now;
        }
        );
    right = λ p s e. right_by p s (sym (begun_same p) ∙ e) (eqb_tells at p);
  }
    where
      mark : Mark
      mark = record { at = at; kind = Flush turns text }

      cell : IsCell spoken past r
      cell = h.runs r runs

      all_lines : lines_at r.at past ++ fresh_lines r.at past ≡ r.lines ++ r.fresh
      all_lines = ap (λ (ls : List Given). ls ++ fresh_lines r.at past) cell.lines ∙ ap (λ (ls : List Given). r.lines ++ ls) cell.fresh

      begun_same : (p : ℕ) → begun_in spoken p (Marked mark ∷ past) ≡ begun_in spoken p past
      begun_same p = cond_same (eqb at p) (begun_in spoken p past)

      quiet_by : (p : ℕ) → begun_in spoken p past ≡ None → ((eqb at p ≡ true) × (at ≡ p)) ⊎ ((eqb at p ≡ false) × (at ≢ p)) → IsQuiet (Marked mark ∷ past) p
      quiet_by p e (inl (b, same)) =
          absurd (none-some (session spoken past) (sym e ∙ ap (λ (p : ℕ). begun_in spoken p past) (sym same ∙ f.request) ∙ cell.begun))
      quiet_by p e (inr (b, apart)) =
          let q = h.quiet p e in
          record {
            text = ap (λ (b : Bool). streams p past ++ cond b text []) b ∙ append-nil (streams p past) ∙ q.text;
            turns = ap (λ (b : Bool). cond b turns (last_turns p past)) b ∙ q.turns;
            lines = ap (λ (b : Bool). cond b (lines_at p past ++ fresh_lines p past) (lines_at p past)) b ∙ q.lines;
            fresh = ap (λ (b : Bool). cond b [] (fresh_lines p past)) b ∙ q.fresh;
          }

      right_by : (p : ℕ) (s : S) → begun_in spoken p past ≡ Some s → ((eqb at p ≡ true) × (at ≡ p)) ⊎ ((eqb at p ≡ false) × (at ≢ p)) → StreamsAreRight spoken (Marked mark ∷ past) p s
      right_by p s e (inl (b, same)) =
          let here : p ≡ r.at = sym same ∙ f.request in
          let q = h.right p s e in
          let session_is : s ≡ session spoken past = same_Some s (session spoken past) (sym e ∙ ap (λ (p : ℕ). begun_in spoken p past) here ∙ cell.begun) in
          let request_is : q.request ≡ r.request = same_Some q.request r.request (sym q.there ∙ ap (λ (p : ℕ). execute_at p past) here ∙ cell.asked) in
          let turns_is : last_turns p past ≡ r.turns = ap (λ (p : ℕ). last_turns p past) here ∙ cell.turns in
          let lines_are : lines_at p past ≡ r.lines = ap (λ (p : ℕ). lines_at p past) here ∙ cell.lines in
          let goes = output_on (session spoken past) r.request.code r.lines r.fresh r.turns turns f.onward in
          let before : streams p past ≡ (stood spoken past r).output =
          q.shown ∙ ap (λ (n : ℕ). (spoken.cell s q.request.code (lines_at p past) n).output) turns_is
          ∙ ap (λ (ls : List Given). (spoken.cell s q.request.code ls r.turns).output) lines_are
          ∙ ap (λ (x : Execute). (spoken.cell s x.code r.lines r.turns).output) request_is
          ∙ ap (λ (s : S). (spoken.cell s r.request.code r.lines r.turns).output) session_is in
          record {
            request = r.request;
            there = execute_grows past (Marked mark) p r.request (ap (λ (p : ℕ). execute_at p past) here ∙ cell.asked);
            shown = ap (λ (b : Bool). streams p past ++ cond b text []) b
                ∙ ap (λ (t : List ℕ). streams p past ++ t) f.shown
                ∙ ap (λ (t : List ℕ). t ++ drop (length (stood spoken past r).output) (meaning spoken past r turns).output) before
                ∙ rest_joins _ _ goes.0 goes.1
                ∙ ap (λ (s : S). (spoken.cell s r.request.code (r.lines ++ r.fresh) turns).output) (sym session_is)
                ∙ ap (λ (n : ℕ). (spoken.cell s r.request.code (r.lines ++ r.fresh) n).output) (sym (ap (λ (b : Bool). cond b turns (last_turns p past)) b))
                ∙ ap (λ (ls : List Given). (spoken.cell s r.request.code ls (last_turns p (Marked mark ∷ past))).output)
                (sym (ap (λ (b : Bool). cond b (lines_at p past ++ fresh_lines p past) (lines_at p past)) b ∙ ap (λ (p : ℕ). lines_at p past ++ fresh_lines p past) here ∙ all_lines));
            used = ap (λ (ls : List Given). (spoken.cell s r.request.code ls (last_turns p (Marked mark ∷ past))).turns)
                (ap (λ (b : Bool). cond b (lines_at p past ++ fresh_lines p past) (lines_at p past)) b ∙ ap (λ (p : ℕ). lines_at p past ++ fresh_lines p past) here ∙ all_lines)
                ∙ ap (λ (n : ℕ). (spoken.cell s r.request.code (r.lines ++ r.fresh) n).turns) (ap (λ (b : Bool). cond b turns (last_turns p past)) b)
                ∙ ap (λ (s : S). (spoken.cell s r.request.code (r.lines ++ r.fresh) turns).turns) session_is
                ∙ f.used ∙ sym (ap (λ (b : Bool). cond b turns (last_turns p past)) b);
          }
      right_by p s e (inr (b, apart)) =
          same_right spoken past (Marked mark) p s (ap (λ (b : Bool). streams p past ++ cond b text []) b ∙ append-nil (streams p past))
          (ap (λ (b : Bool). cond b turns (last_turns p past)) b) (ap (λ (b : Bool). cond b (lines_at p past ++ fresh_lines p past) (lines_at p past)) b) (h.right p s e)

  mark_told : (past : Log) (at : ℕ) (kind : Kind) → EachFollows spoken past → MayMark spoken past (owed past) (record { at = at; kind = kind }) → IsTold spoken past → IsTold spoken (Marked (record { at = at; kind = kind }) ∷ past)
  mark_told past at (Begin n) each may h = begin_told past at n each (answers_first spoken past at (Begin n) each may tt) (begin_asks spoken past (owed past) at n may) h
  mark_told past at (Flush turns text) each may h = flush_told past at turns text (flush_may spoken past (owed past) at turns text may) h
  mark_told past at (Line line) each may h =
      let r = line_runs spoken past at line may in
      line_told spoken past at line r.0 r.1 r.2 h
  mark_told past at (End ending n) each may h = plain_told spoken past _ (record {
    begun = λ p. cond_same (eqb at p) (begun_in spoken p past);
    shown = λ p. cond_nil (eqb at p) (streams p past);
    turns = λ p. cond_same (eqb at p) (last_turns p past);
    lines = λ p. cond_same (eqb at p) (lines_at p past);
    fresh = λ p. cond_same (eqb at p) (fresh_lines p past);
    runs = λ r e. no_run r _ e;
    handed = λ r e. no_run r _ e;
  }) h
  mark_told past at (Stop turns cause n) each may h = plain_told spoken past _ (record {
    begun = λ p. cond_same (eqb at p) (begun_in spoken p past);
    shown = λ p. cond_nil (eqb at p) (streams p past);
    turns = λ p. cond_same (eqb at p) (last_turns p past);
    lines = λ p. cond_same (eqb at p) (lines_at p past);
    fresh = λ p. cond_same (eqb at p) (fresh_lines p past);
    runs = λ r e. no_run r _ e;
    handed = λ r e. no_run r _ e;
  }) h
  mark_told past at Ask each may h = plain_told spoken past _ (record {
    begun = λ p. cond_same (eqb at p) (begun_in spoken p past);
    shown = λ p. cond_nil (eqb at p) (streams p past);
    turns = λ p. cond_same (eqb at p) (last_turns p past);
    lines = λ p. cond_same (eqb at p) (lines_at p past);
    fresh = λ p. cond_same (eqb at p) (fresh_lines p past);
    runs = λ r e. run_asked (running past) r e;
    handed = λ r e. refl;
  }) h
  mark_told past at (Restart restart) each may h =
      let idle = restart_idle spoken past at restart each may in
      plain_told spoken past _ (record {
        begun = λ p. cond_same (eqb at p) (begun_in spoken p past);
        shown = λ p. cond_nil (eqb at p) (streams p past);
        turns = λ p. cond_same (eqb at p) (last_turns p past);
        lines = λ p. cond_same (eqb at p) (lines_at p past);
        fresh = λ p. cond_same (eqb at p) (fresh_lines p past);
        runs = λ r e. no_run r _ (sym idle ∙ e);
        handed = λ r e. no_run r _ (sym idle ∙ e);
      }) h
  mark_told past at other each may h = plain_told spoken past _ (record {
    begun = λ p. cond_same (eqb at p) (begun_in spoken p past);
    shown = λ p. cond_nil (eqb at p) (streams p past);
    turns = λ p. cond_same (eqb at p) (last_turns p past);
    lines = λ p. cond_same (eqb at p) (lines_at p past);
    fresh = λ p. cond_same (eqb at p) (fresh_lines p past);
    runs = λ r e. (r, e, same_as r r refl);
    handed = λ r e. refl;
  }) h

  told : (log : Log) → EachFollows spoken log → IsTold spoken log
  told [] each = record {
    quiet = λ at e. (record { text = refl; turns = refl; lines = refl; fresh = refl });
    runs = λ r e. no_run r _ e;
    right = λ at s e. absurd (none-some s e);
  }
  told (Took a ∷ past) each = took_told spoken past a (told past each.0)
  told (Marked m ∷ past) each = mark_told past m.at m.kind each.0 each.1 (told past each.0)

  pub streams_right : (log : Log) → EachFollows spoken log → (at : ℕ) (s : S) → begun_in spoken at log ≡ Some s → StreamsAreRight spoken log at s
  streams_right log each at s e = (told log each).right at s e

  pub quiet_told : (log : Log) → EachFollows spoken log → (at : ℕ) → begun_in spoken at log ≡ None → IsQuiet log at
  quiet_told log each at e = (told log each).quiet at e

  -- where nothing arrived no cell was begun
  pub quiet_past : (log : Log) → EachFollows spoken log → (at : ℕ) → arrival_at at log ≡ None → IsQuiet log at
  quiet_past log each at none = quiet_told log each at (none_or (begun_in spoken at log) _ (λ e. e) (λ s e. absurd (not_begun s e)))
    where
      not_begun : (s : S) → begun_in spoken at log ≡ Some s → ⊥
      not_begun s e =
          let q = streams_right log each at s e in
          none-some q.request (sym (ap (option_at (λ (a : Arrival). execute_in a.what)) none) ∙ q.there)

  -- what is known of the cell that runs
  pub cell_told : (log : Log) → EachFollows spoken log → (r : Running) → running log ≡ Some r → IsCell spoken log r
  cell_told log each r e = (told log each).runs r e

  -- the cell that runs is that of the request at its place
  pub runs_asked : (log : Log) → EachFollows spoken log → (r : Running) → running log ≡ Some r → execute_at r.at log ≡ Some r.request
  runs_asked log each r e = (cell_told log each r e).asked
