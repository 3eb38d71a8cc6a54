-- A request that is no cell is answered once, and its three outputs stand together.
use Rattle.std.proofs.Common.{◌≡◌, ℕ, ◌+◌, ◌≤◌, Bool, true, false, cond, List, [], ◌∷◌, ◌++◌, length, refl, sym, ◌∙◌, ap, subst, append_assoc, arith, Option, None, Some, inl, inr, eqb}
use Rattle.std.proofs.lemmas.List.{append-nil}
use Rattle.std.proofs.lemmas.List.Elements.{filter-append}
use Rattle.std.proofs.lemmas.Option.{none-some, same_Some}
use Rattle.std.proofs.lemmas.Bool.{eqb-true}
use Rattle.jk_language.specs.Spoken.{Spoken}
use Rattle.jp_msg.specs.declared.message.Channel.TheVariants as channel
use Rattle.jp_msg.specs.declared.message.Completeness.{Completeness}
use Rattle.jp_msg.specs.declared.message.Content.{Content}
use Rattle.jp_msg.specs.declared.message.Content.TheVariants as content
use Rattle.jp_msg.specs.declared.message.Message.{Message}
use Rattle.jp_msg.specs.declared.message.Output.{Output}
use Rattle.jp_msg.specs.declared.message.Output.TheVariants.{KernelInfoReply, IsCompleteReply, CompleteReply, InspectReply, HistoryReply, CommInfoReply, InterruptReply, ShutdownReply}
use Rattle.jp_msg.specs.declared.message.Request.{Request}
use Rattle.jp_msg.specs.declared.message.Request.TheVariants as request
use Rattle.jk_log.specs.declared.arrival.Arrival.{Arrival}
use Rattle.jk_log.specs.declared.arrival.What.{What}
use Rattle.jk_log.specs.declared.arrival.What.TheVariants as what
use Rattle.jk_log.specs.declared.entry.Entry.{Entry}
use Rattle.jk_log.specs.declared.mark.Item.TheVariants.{Took, Marked}
use Rattle.jk_log.specs.declared.mark.Mark.{Mark}
use Rattle.jk_log.specs.declared.mark.Kind.{Kind}
use Rattle.jk_log.specs.declared.mark.Kind.TheVariants.{Join, Leave, Begin, Flush, Ask, Line, End, Stop, Refuse, Abort, Answer, Interrupt, KernelInfo, Restart}
use Rattle.jk_log.specs.Asked.{content_execute, content_query, query_in, request_query}
use Rattle.jk_log.specs.Legal.{Due, MarkDue, AnswerDue, FlushDue, StopDue, Answers, EachFollows, IsForced, MayMark, owed}
use Rattle.jk_log.specs.Log.{Log, arrival_at, option_at, option_or, query_at}
use Rattle.jk_log.specs.Queries.{IsStatus, reply_to}
use Rattle.jk_log.specs.Render.{answered, answer_shown, control_shown, entries_at, entries_of, execute_shown, query_shown, render, shown_of}
use Rattle.jk_world.specs.Answers.{IsReplied, IsShownOnce, answers_query, exchange, outputs_in, times_query_answered}
use Rattle.jk_world.specs.Cells.{answers, times_answered}
use Rattle.jk_world.specs.Requests.{AreFor, message_in, shown_at}
use Rattle.jk_world.proofs.Answered.{addressed}
use Rattle.jk_world.proofs.Basics.{arrival_past}
use Rattle.jk_world.proofs.Once.{answers_first, first_new, not_answered_yet}

-- a message with such a request has no cell
no_cell : (c : Content) (q : Request) → content_query c ≡ Some q → content_execute c ≡ None
no_cell (content.Request (request.Execute e)) q h = absurd (none-some q h)
no_cell (content.Request request.KernelInfo) q h = refl
no_cell (content.Request (request.IsComplete code)) q h = refl
no_cell (content.Request (request.Complete cursor)) q h = refl
no_cell (content.Request request.Inspect) q h = refl
no_cell (content.Request request.History) q h = refl
no_cell (content.Request request.CommInfo) q h = refl
no_cell (content.Request request.Interrupt) q h = refl
no_cell (content.Request (request.Shutdown restart)) q h = refl
no_cell (content.Request (request.InputReply line)) q h = refl
no_cell (content.Request request.Other) q h = refl
no_cell (content.Output o) q h = refl

no_cell_shown : (seat : ℕ) (kind : Kind) (w : What) (q : Request) → query_in w ≡ Some q → outputs_in (execute_shown seat kind w) ≡ []
no_cell_shown seat kind (what.Shell m) q h = ap (λ o. outputs_in (option_or (shown_of seat kind m) [] o)) (no_cell m.content q h)
no_cell_shown seat kind what.Join q h = refl
no_cell_shown seat kind what.Leave q h = refl
no_cell_shown seat kind (what.Control m) q h = refl
no_cell_shown seat kind (what.Stdin m) q h = refl

no_control_shown : (seat : ℕ) (output : Output) (w : What) (q : Request) → query_in w ≡ Some q → outputs_in (control_shown seat output w) ≡ []
no_control_shown seat output (what.Shell m) q h = refl
no_control_shown seat output what.Join q h = refl
no_control_shown seat output what.Leave q h = refl
no_control_shown seat output (what.Control m) q h = absurd (none-some q h)
no_control_shown seat output (what.Stdin m) q h = refl

abbrev IsNoAnswer : Kind → Type 0
IsNoAnswer (Answer status) = ⊥
IsNoAnswer other = Unit {0}

-- another mark has no output for such a request
quiet : (kind : Kind) (a : Arrival) (q : Request) → IsNoAnswer kind → query_in a.what ≡ Some q → outputs_in (entries_of kind a) ≡ []
quiet (Answer status) a q n h = absurd n
quiet Join a q n h = refl
quiet Leave a q n h = refl
quiet Interrupt a q n h = no_control_shown a.seat InterruptReply a.what q h
quiet KernelInfo a q n h = no_control_shown a.seat KernelInfoReply a.what q h
quiet (Restart restart) a q n h = no_control_shown a.seat (ShutdownReply restart) a.what q h
quiet (Begin k) a q n h = no_cell_shown a.seat (Begin k) a.what q h
quiet (Flush turns text) a q n h = no_cell_shown a.seat (Flush turns text) a.what q h
quiet Ask a q n h = no_cell_shown a.seat Ask a.what q h
quiet (Line line) a q n h = no_cell_shown a.seat (Line line) a.what q h
quiet (End ending k) a q n h = no_cell_shown a.seat (End ending k) a.what q h
quiet (Stop turns cause k) a q n h = no_cell_shown a.seat (Stop turns cause k) a.what q h
quiet (Refuse k) a q n h = no_cell_shown a.seat (Refuse k) a.what q h
quiet Abort a q n h = no_cell_shown a.seat Abort a.what q h

-- such a request is itself
same_query : (r q : Request) → request_query r ≡ Some q → r ≡ q
same_query (request.Execute e) q h = absurd (none-some q h)
same_query request.KernelInfo q h = same_Some request.KernelInfo q h
same_query (request.IsComplete code) q h = same_Some (request.IsComplete code) q h
same_query (request.Complete cursor) q h = same_Some (request.Complete cursor) q h
same_query request.Inspect q h = same_Some request.Inspect q h
same_query request.History q h = same_Some request.History q h
same_query request.CommInfo q h = same_Some request.CommInfo q h
same_query request.Interrupt q h = absurd (none-some q h)
same_query (request.Shutdown restart) q h = absurd (none-some q h)
same_query (request.InputReply line) q h = absurd (none-some q h)
same_query request.Other q h = absurd (none-some q h)

is_query : (c : Content) (q : Request) → content_query c ≡ Some q → request_query q ≡ Some q
is_query (content.Request r) q h = subst (λ (x : Request). request_query x ≡ Some q) (same_query r q h) h
is_query (content.Output o) q h = absurd (none-some q h)

-- entries after a mark
pub outputs_more : (xs ys : List Entry) → outputs_in (xs ++ ys) ≡ outputs_in xs ++ outputs_in ys
outputs_more xs ys = filter-append _ xs ys

pub outputs_same : (xs ys : List Entry) → outputs_in ys ≡ [] → outputs_in (xs ++ ys) ≡ outputs_in xs
outputs_same xs ys none = outputs_more xs ys ∙ ap (λ (es : List Entry). outputs_in xs ++ es) none ∙ append-nil (outputs_in xs)

none_if : (b : Bool) (es : List Entry) → (b ≡ true → outputs_in es ≡ []) → outputs_in (cond b es []) ≡ []
none_if true es h = h refl
none_if false es h = refl

none_at : (kind : Kind) (o : Option Arrival) (a : Arrival) (q : Request) → IsNoAnswer kind → o ≡ Some a → query_in a.what ≡ Some q → outputs_in (option_or (entries_of kind) [] o) ≡ []
none_at kind o a q n is h = ap (λ (o : Option Arrival). outputs_in (option_or (entries_of kind) [] o)) is ∙ quiet kind a q n h

-- an answer of such a request is one of a request
few_if : (b : Bool) (kind : Kind) (m n : ℕ) → m ≤ n → m + cond b (answers_query kind) 0 ≤ n + cond b (answers kind) 0
few_if true (Answer status) m n h = omega arith
few_if true (Begin k) m n h = omega arith
few_if true (Refuse k) m n h = omega arith
few_if true Abort m n h = omega arith
few_if true other m n h = omega arith
few_if false kind m n h = omega arith

few : (log : Log) (at : ℕ) → times_query_answered at log ≤ times_answered at log
few [] at = omega arith
few (Took a ∷ past) at = few past at
few (Marked m ∷ past) at = few_if (eqb m.at at) m.kind (times_query_answered at past) (times_answered at past) (few past at)

no_more : (b : Bool) (kind : Kind) (n : ℕ) → IsNoAnswer kind → n + cond b (answers_query kind) 0 ≡ n
no_more b (Answer status) n h = absurd h
no_more true other n h = omega arith
no_more false other n h = omega arith

before_mark : (b : Bool) (o : Option Arrival) (a : Arrival) → cond b None o ≡ Some a → o ≡ Some a
before_mark true o a h = absurd (none-some a h)
before_mark false o a h = h

module _ {S T : Type 0} (spoken : Spoken S T) where
  -- with its status such a request has a reply
  has_reply : (q : Request) (status : Option Completeness) → request_query q ≡ Some q → IsStatus spoken q status → (o : Output) × (reply_to q status ≡ Some o)
  has_reply (request.Execute e) status h s = absurd (none-some (request.Execute e) h)
  has_reply request.KernelInfo status h s = (KernelInfoReply, refl)
  has_reply (request.IsComplete code) status h (c, is, so) = (IsCompleteReply c, ap (reply_to (request.IsComplete code)) is)
  has_reply (request.Complete cursor) status h s = (CompleteReply cursor, refl)
  has_reply request.Inspect status h s = (InspectReply, refl)
  has_reply request.History status h s = (HistoryReply, refl)
  has_reply request.CommInfo status h s = (CommInfoReply, refl)
  has_reply request.Interrupt status h s = absurd (none-some request.Interrupt h)
  has_reply (request.Shutdown restart) status h s = absurd (none-some (request.Shutdown restart) h)
  has_reply (request.InputReply line) status h s = absurd (none-some (request.InputReply line) h)
  has_reply request.Other status h s = absurd (none-some request.Other h)

  -- what an answer shows
  record IsExchange (seat : ℕ) (w : What) (q : Request) (status : Option Completeness) : Type 0 where
    sent : Message
    reply : Output
    message : message_in w ≡ Some sent
    content : reply_to q status ≡ Some reply
    entries : query_shown seat status w ≡ exchange seat sent reply

  exchanges : (seat : ℕ) (w : What) (q : Request) (status : Option Completeness) → query_in w ≡ Some q → IsStatus spoken q status → IsExchange seat w q status
  exchanges seat (what.Shell m) q status h s =
      let r = has_reply q status (is_query m.content q h) s in
      record {
        sent = m;
        reply = r.0;
        message = refl;
        content = r.1;
        entries = ap (option_or (answer_shown seat status m) []) h ∙ ap (option_or (answered seat channel.Shell m) []) r.1;
      }
  exchanges seat what.Join q status h s = absurd (none-some q h)
  exchanges seat what.Leave q status h s = absurd (none-some q h)
  exchanges seat (what.Control m) q status h s = absurd (none-some q h)
  exchanges seat (what.Stdin m) q status h s = absurd (none-some q h)

  abbrev AnswersAs : Log → ℕ → Kind → Type 0
  AnswersAs past at (Answer status) = Answers spoken past at status
  AnswersAs past at other = Unit {0}

  -- an answer is of a request that is no cell
  pub answer_may : (past : Log) (ds : List Due) (at : ℕ) (status : Option Completeness) → MayMark spoken past ds (record { at = at; kind = Answer status }) → Answers spoken past at status
  answer_may past [] at status h = h.1
  answer_may past (MarkDue a due ∷ ds) at status (same, forced) = absurd (subst IsForced (sym (ap (λ (m : Mark). m.kind) same)) forced)
  answer_may past (AnswerDue a ∷ ds) at status (other, same, right) = subst (λ (m : Mark). AnswersAs past m.at m.kind) (sym same) right
  answer_may past (FlushDue ∷ ds) at status h = absurd h.0
  answer_may past (StopDue cause ∷ ds) at status (t, k, is, rest) = cc

  -- the entries of a later mark stand after them
  later : (past : Log) (m : Mark) (at : ℕ) (a : Arrival) (q : Request) → outputs_in (shown_at at (Marked m ∷ past)) ≡ outputs_in (shown_at at past) → IsReplied spoken past at a q → IsReplied spoken (Marked m ∷ past) at a q
  later past m at a q same r = record {
    sent = r.sent;
    status = r.status;
    reply = r.reply;
    message = r.message;
    right = r.right;
    content = r.content;
    shown = same ∙ r.shown;
    before = r.before;
    after = r.after ++ entries_at past m;
    together =
        sym (append_assoc r.before (exchange a.seat r.sent r.reply ++ r.after) (entries_at past m))
        ∙ ap (λ (es : List Entry). es ++ entries_at past m) r.together;
  }

  quiet_once : (past : Log) (m : Mark) (at : ℕ) (a : Arrival) (q : Request) → times_query_answered at (Marked m ∷ past) ≡ times_query_answered at past → outputs_in (shown_at at (Marked m ∷ past)) ≡ outputs_in (shown_at at past) → IsShownOnce spoken past at a q → IsShownOnce spoken (Marked m ∷ past) at a q
  quiet_once past m at a q times same (inl (none, shown)) = inl (times ∙ none, same ∙ shown)
  quiet_once past m at a q times same (inr (one, r)) = inr (times ∙ one, later past m at a q same r)

  -- an answer at this place
  answer_here : (past : Log) (p at : ℕ) (status : Option Completeness) (a : Arrival) (q : Request) → EachFollows spoken past → MayMark spoken past (owed past) (record { at = p; kind = Answer status }) → p ≡ at → eqb p at ≡ true → arrival_at at past ≡ Some a → query_in a.what ≡ Some q → IsShownOnce spoken past at a q → IsShownOnce spoken (Marked (record { at = p; kind = Answer status }) ∷ past) at a q
  answer_here past p at status a q each may same b there asks before =
      let first = answers_first spoken past p (Answer status) each may tt in
      let none = first_new spoken past each p first in
      let no_query : times_query_answered at past ≡ 0 = ap (λ (x : ℕ). times_query_answered x past) (sym same) ∙ (let f = few past p in omega (arith, f, none)) in
      let ans = answer_may past (owed past) p status may in
      let at_place : query_at p past ≡ Some q = ap (λ (x : ℕ). query_at x past) same ∙ ap (option_at (λ (a : Arrival). query_in a.what)) there ∙ asks in
      let is : ans.request ≡ q = same_Some ans.request q (sym ans.there ∙ at_place) in
      let right : IsStatus spoken q status = subst (λ (r : Request). IsStatus spoken r status) is ans.right in
      let e = exchanges a.seat a.what q status asks right in
      let shows : entries_at past (record { at = p; kind = Answer status }) ≡ exchange a.seat e.sent e.reply =
      ap (λ (x : ℕ). option_or (entries_of (Answer status)) [] (arrival_at x past)) same
      ∙ ap (option_or (entries_of (Answer status)) []) there ∙ e.entries in
      let empty = nothing_before before no_query in
      inr (
        ap (λ (c : Bool). times_query_answered at past + cond c 1 0) b ∙ omega (arith, no_query),
        record {
          sent = e.sent;
          status = status;
          reply = e.reply;
          message = e.message;
          right = right;
          content = e.content;
          shown =
              outputs_more (shown_at at past) _
              ∙ ap (λ (es : List Entry). es ++ outputs_in (cond (eqb p at) (entries_at past (record { at = p; kind = Answer status })) [])) empty
              ∙ ap (λ (c : Bool). outputs_in (cond c (entries_at past (record { at = p; kind = Answer status })) [])) b
              ∙ ap outputs_in shows;
          before = render past;
          after = [];
          together = ap (λ (es : List Entry). render past ++ es) (sym shows);
        },
      )
    where
      nothing_before : IsShownOnce spoken past at a q → times_query_answered at past ≡ 0 → outputs_in (shown_at at past) ≡ []
      nothing_before (inl (none, shown)) zero_times = shown
      nothing_before (inr (one, r)) zero_times = absurd (omega (arith, one, zero_times))

  mark_once : (past : Log) (p at : ℕ) (kind : Kind) (a : Arrival) (q : Request) → EachFollows spoken past → MayMark spoken past (owed past) (record { at = p; kind = kind }) → arrival_at at past ≡ Some a → query_in a.what ≡ Some q → IsShownOnce spoken past at a q → IsShownOnce spoken (Marked (record { at = p; kind = kind }) ∷ past) at a q
  mark_once past p at (Answer status) a q each may there asks before = by_place (eqb p at) refl
    where
      by_place : (b : Bool) → eqb p at ≡ b → IsShownOnce spoken (Marked (record { at = p; kind = Answer status }) ∷ past) at a q
      by_place true b = answer_here past p at status a q each may (eqb-true p at b) b there asks before
      by_place false b =
          quiet_once past (record { at = p; kind = Answer status }) at a q
          (ap (λ (c : Bool). times_query_answered at past + cond c 1 0) b ∙ omega arith)
          (ap (λ (c : Bool). outputs_in (shown_at at past ++ cond c (entries_at past (record { at = p; kind = Answer status })) [])) b ∙ ap outputs_in (append-nil (shown_at at past)))
          before
  mark_once past p at other a q each may there asks before = other_once past p at other a q tt there asks before
    where
      other_once : (past : Log) (p at : ℕ) (kind : Kind) (a : Arrival) (q : Request) → IsNoAnswer kind → arrival_at at past ≡ Some a → query_in a.what ≡ Some q → IsShownOnce spoken past at a q → IsShownOnce spoken (Marked (record { at = p; kind = kind }) ∷ past) at a q
      other_once past p at kind a q n there asks before =
          quiet_once past (record { at = p; kind = kind }) at a q
          (no_more (eqb p at) kind (times_query_answered at past) n)
          (outputs_same (shown_at at past) _ (none_if (eqb p at) _ (λ b. none_at kind (arrival_at p past) a q n (ap (λ (x : ℕ). arrival_at x past) (eqb-true p at b) ∙ there) asks)))
          before

  -- an arrival at this place
  took_once : (past : Log) (new : Arrival) (at : ℕ) (a : Arrival) (q : Request) → EachFollows spoken past → (arrival_at at past ≡ Some a → IsShownOnce spoken past at a q) → arrival_at at (Took new ∷ past) ≡ Some a → IsShownOnce spoken (Took new ∷ past) at a q
  took_once past new at a q each before there = by_place (eqb (length past) at) refl there
    where
      more : IsShownOnce spoken past at a q → IsShownOnce spoken (Took new ∷ past) at a q
      more (inl h) = inl h
      more (inr (one, r)) = inr (one, record { sent = r.sent; status = r.status; reply = r.reply; message = r.message; right = r.right; content = r.content; shown = r.shown; before = r.before; after = r.after; together = r.together })

      by_place : (b : Bool) → eqb (length past) at ≡ b → cond b (Some new) (arrival_at at past) ≡ Some a → IsShownOnce spoken (Took new ∷ past) at a q
      by_place true b here =
          let same : length past ≡ at = eqb-true (length past) at b in
          let none = arrival_past past at (omega (arith, same)) in
          let unseen = not_answered_yet spoken past each at (omega (arith, same)) in
          let f = few past at in
          inl (omega (arith, f, unseen), ap outputs_in (subst (λ (o : Option Arrival). AreFor o (shown_at at past)) none (addressed past at)))
      by_place false b here = more (before here)

  -- nothing is shown of such a request until it is answered, and then its three outputs
  pub shown_once : (log : Log) → EachFollows spoken log → (at : ℕ) (a : Arrival) (q : Request) → arrival_at at log ≡ Some a → query_in a.what ≡ Some q → IsShownOnce spoken log at a q
  shown_once [] each at a q there asks = absurd (none-some a there)
  shown_once (Took new ∷ past) each at a q there asks = took_once past new at a q each.0 (λ h. shown_once past each.0 at a q h asks) there
  shown_once (Marked m ∷ past) each at a q there asks =
      let before = before_mark (eqb (length past) at) (arrival_at at past) a there in
      mark_once past m.at at m.kind a q each.0 each.1 before asks (shown_once past each.0 at a q before asks)
