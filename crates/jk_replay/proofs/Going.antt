-- A replay goes on over a legal log, and what it has shown is the render of that log.
use Rattle.std.proofs.Common.{◌≡◌, ℕ, zero, suc, List, [], ◌∷◌, ◌++◌, length, refl, sym, ap, ◌∙◌, subst, append_assoc, append-nil, arith, inl, inr}
use Rattle.std.proofs.lemmas.List.{take_all, drop_all}
use Rattle.jk_language.specs.Spoken.{Spoken, IsLanguage}
use Rattle.jk_log.specs.declared.arrival.Arrival.{Arrival}
use Rattle.jk_log.specs.declared.arrival.What.{What}
use Rattle.jk_log.specs.declared.arrival.What.TheVariants as what
use Rattle.jk_log.specs.declared.entry.Entry.{Entry}
use Rattle.jk_core.specs.declared.kernel.Used.{Used}
use Rattle.jk_core.specs.declared.kernel.Used.TheVariants.{Kept, Stranger}
use Rattle.jk_core.specs.declared.kernel.Work.{Work}
use Rattle.jk_core.specs.Kept.{IsKept}
use Rattle.jk_log.specs.Legal.{IsLegal}
use Rattle.jk_log.specs.Render.{render}
use Rattle.jk_log.specs.Results.{Reading}
use Rattle.jk_core.specs.State.{KernelState, fresh}
use Rattle.jk_log.specs.Pending.{joined}
use Rattle.jk_core.specs.Steps.{Hands, Works, with_given, without}
use Rattle.jk_core.proofs.Handed.{kept-hands}
use Rattle.jk_core.proofs.Keeps.{kept-takes, kept-works, kept_legal}
use Rattle.jk_core.proofs.Shown.{IsShown, shown_takes, shown_works, shown_without}
use Rattle.jk_replay.specs.declared.step.Step.{Step}
use Rattle.jk_replay.specs.declared.step.Step.TheVariants as step
use Rattle.jk_replay.specs.Replaying.{ReplayState, Sends, Joins, sent_on, next_number, ParsesOne, pending_lines, StepDone}
use Rattle.jk_replay.specs.Replays.{opening, LineDone, LinesDone, SlicesDone, last_turns}
use Rattle.jk_replay.specs.Shown.{entry_line, entry_lines}

module _ {S T : Type 0} (spoken : Spoken S T) (laws : IsLanguage spoken) where
  -- what a kernel keeps, beside the entries that were shown
  pub record Keeps (board : List Entry) (k : KernelState T) : Type 0 where
    pub kept : IsKept spoken k
    pub shown : IsShown board k

  -- what stands between two lines
  pub record Going (text : List ℕ) (s : ReplayState T) : Type 0 where
    pub board : List Entry
    pub says : text ≡ entry_lines board
    pub keeps : Keeps board s.kernel
    pub none : s.kernel.pending ≡ []

  lines_join : (xs ys : List Entry) → entry_lines (xs ++ ys) ≡ entry_lines xs ++ entry_lines ys
  lines_join [] ys = refl
  lines_join (x ∷ xs) ys = ap (λ l. entry_line x ++ l) (lines_join xs ys) ∙ sym (append_assoc (entry_line x) (entry_lines xs) (entry_lines ys))

  kept_without : (marks : ℕ) (k : KernelState T) → IsKept spoken k → IsKept spoken (without marks k)
  kept_without marks k h = record {
    going = record {
      each = h.going.each;
      owes = h.going.owes;
      places = h.going.places;
      wait = h.going.wait;
      stands = h.going.stands;
      few = h.going.few;
    };
    goes = h.goes;
  }

  kept_given : (given : ℕ) (k : KernelState T) → IsKept spoken k → IsKept spoken (with_given given k)
  kept_given given k h = record {
    going = record {
      each = h.going.each;
      owes = h.going.owes;
      places = h.going.places;
      wait = h.going.wait;
      stands = h.going.stands;
      few = h.going.few;
    };
    goes = h.goes;
  }

  -- a kernel, all of whose pending entries are shown
  shown_going : (text : List ℕ) (board : List Entry) (k : KernelState T) (s : ReplayState T) → text ≡ entry_lines board → Keeps board k → s.kernel ≡ without (length k.pending) k → Going (text ++ pending_lines k) s
  shown_going text board k s e h is = record {
    board = board ++ joined k.pending;
    says = ap (λ t. t ++ pending_lines k) e ∙ sym (lines_join board (joined k.pending));
    keeps = subst (Keeps (board ++ joined k.pending)) (sym is) (record {
      kept = kept_without (length k.pending) k h.kept;
      shown = subst (λ (ps : List (List Entry)). IsShown (board ++ joined ps) (without (length k.pending) k)) (take_all (length k.pending) k.pending (omega arith)) (shown_without board (length k.pending) k h.shown);
    });
    none = ap (λ (j : KernelState T). j.pending) is ∙ drop_all (length k.pending) k.pending (omega arith);
  }

  sends_keeps : (board : List Entry) (seat : ℕ) (w : What) (s t : ReplayState T) → Sends spoken seat w s t → Keeps board s.kernel → Keeps board t.kernel
  sends_keeps board seat w s t (k, takes, e) h =
      let a : Arrival = record { seat = seat; number = next_number seat s; what = w } in
      subst (Keeps board) (sym (ap (λ (s : ReplayState T). s.kernel) e))
      (record { kept = kept-takes spoken laws a s.kernel k h.kept takes; shown = shown_takes spoken board a s.kernel k takes h.shown })

  joins_keeps : (board : List Entry) (seat : ℕ) (s t : ReplayState T) → Joins spoken seat s t → Keeps board s.kernel → Keeps board t.kernel
  joins_keeps board seat s t (inl (here, e)) h = subst (λ (s : ReplayState T). Keeps board s.kernel) (sym e) h
  joins_keeps board seat s t (inr (away, mid, sends, e)) h =
      subst (λ (s : ReplayState T). Keeps board s.kernel) (sym e) (sends_keeps board seat what.Join s mid sends h)

  hands_shown : (board : List Entry) (p : Reading T) (old : KernelState T) (used : Used (Reading T)) (new : KernelState T) → Hands p old used new → IsShown board old → IsShown board new
  hands_shown board p old Kept new (i, w, there, can, e) h = subst (IsShown board) (sym e) h
  hands_shown board p old (Stranger back) new (b, e, none) h = subst (IsShown board) (sym e) h

  parses_keeps : (board : List Entry) (old new : KernelState T) → ParsesOne spoken old new → Keeps board old → Keeps board new
  parses_keeps board old new (inl gives) h = subst (Keeps board) (sym gives.1) h
  parses_keeps board old new (inr (job, reading, used, mid, (w, first, number, code, e), j, t, right, hands)) h =
      let given : Keeps board (with_given w.number old) = record { kept = kept_given w.number old h.kept; shown = h.shown } in
      let before = subst (Keeps board) (sym e) given in
      record { kept = kept-hands spoken reading mid used new before.kept right hands; shown = hands_shown board reading mid used new hands before.shown }

  works_keeps : (board : List Entry) (turns : ℕ) (old new : KernelState T) (answer : Work) → Works spoken turns old answer new → Keeps board old → Keeps board new
  works_keeps board turns old new answer w h = record { kept = kept-works spoken laws turns old answer new h.kept w; shown = shown_works spoken board turns old answer new w h.shown }

  pub opening_going : Going [] opening
  opening_going = record {
    board = [];
    says = refl;
    keeps = record { kept = fresh_kept; shown = refl };
    none = refl;
  }
    where
      fresh_kept : IsKept spoken fresh
      fresh_kept = record {
        going = record { each = tt; owes = refl; places = refl; wait = tt; stands = λ r e. cc; few = omega arith };
        goes = λ r e. cc;
      }

  -- what a line that asks for something does
  step_going : (asked : Step) (old new : ReplayState T) (text lines : List ℕ) → StepDone spoken asked old new lines → Going text old → Going (text ++ lines) new
  step_going (step.Message seat m) old new text lines (sent, (mid, joins, sends), (k, parses, e, is)) g =
      let kept = sends_keeps g.board seat (sent_on m.channel m) mid sent sends (joins_keeps g.board seat old mid joins g.keeps) in
      subst (λ (l : List ℕ). Going (text ++ l) new) (sym is)
      (shown_going text g.board k new g.says (parses_keeps g.board sent.kernel k parses kept) (ap (λ (s : ReplayState T). s.kernel) e))
  step_going (step.Leave seat) old new text lines (left, (mid, sends, f), e, is) g =
      let kept = subst (λ (s : ReplayState T). Keeps g.board s.kernel) (sym f) (sends_keeps g.board seat what.Leave old mid sends g.keeps) in
      subst (λ (l : List ℕ). Going (text ++ l) new) (sym is)
      (shown_going text g.board left.kernel new g.says kept (ap (λ (s : ReplayState T). s.kernel) e))
  step_going (step.Run turns) old new text lines (answer, (k, works, some, e, is)) g =
      subst (λ (l : List ℕ). Going (text ++ l) new) (sym is)
      (shown_going text g.board k new g.says (works_keeps g.board turns old.kernel k answer works g.keeps) (ap (λ (s : ReplayState T). s.kernel) e))

  still_going : (old new : ReplayState T) (text lines : List ℕ) → new ≡ old → lines ≡ [] → Going text old → Going (text ++ lines) new
  still_going old new text lines e t g =
      subst (λ (l : List ℕ). Going (text ++ l) new) (sym t) (subst (λ (l : List ℕ). Going l new) (sym (append-nil text)) (subst (Going text) (sym e) g))

  pub line_going : (line : List ℕ) (old new : ReplayState T) (text lines : List ℕ) → LineDone spoken line old new lines → Going text old → Going (text ++ lines) new
  line_going [] old new text lines (e, t) g = still_going old new text lines e t g
  line_going (c ∷ cs) old new text lines (asked, asks, done) g = step_going asked old new text lines done g

  pub lines_going : (lines : List (List ℕ)) (old new : ReplayState T) (text more : List ℕ) → LinesDone spoken lines old new more → Going text old → Going (text ++ more) new
  lines_going [] old new text more (e, t) g = still_going old new text more e t g
  lines_going (line ∷ lines) old new text more (mid, first, rest, one, done, all, e) g =
      let on = lines_going lines mid new (text ++ first) rest all (line_going line old mid text first done g) in
      subst (λ (l : List ℕ). Going l new) (append_assoc text first rest ∙ ap (λ l. text ++ l) (sym e)) on

  pub slices_going : (slices : ℕ) (old new : ReplayState T) (text more : List ℕ) → SlicesDone spoken slices old new more → Going text old → Going (text ++ more) new
  slices_going zero old new text more (e, t) g = still_going old new text more e t g
  slices_going (suc n) old new text more (mid, first, rest, all, done, e) g =
      let on = step_going (step.Run last_turns) mid new (text ++ first) rest done (slices_going n old mid text first all g) in
      subst (λ (l : List ℕ). Going l new) (append_assoc text first rest ∙ ap (λ l. text ++ l) (sym e)) on

  pub going_legal : (text : List ℕ) (s : ReplayState T) → Going text s → IsLegal spoken s.kernel.log
  going_legal text s g = kept_legal spoken laws s.kernel g.keeps.kept

  pub going_rendered : (text : List ℕ) (s : ReplayState T) → Going text s → text ≡ entry_lines (render s.kernel.log)
  going_rendered text s g =
      g.says ∙ ap entry_lines (sym (append-nil g.board) ∙ ap (λ (ps : List (List Entry)). g.board ++ joined ps) (sym g.none) ∙ g.keeps.shown)
