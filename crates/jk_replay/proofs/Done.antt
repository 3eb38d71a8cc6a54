-- Lines and slices done, one more at a time.
use Rattle.std.proofs.Common.{false, inl, inr, ◌≡◌, ℕ, ◌+◌, ◌≤◌, List, [], ◌∷◌, ◌++◌, length, refl, sym, ap, ◌∙◌, subst, append_assoc, append-nil, length-append, arith, add-one, ◌≢◌, ◌<◌, Result, Ok, Err}
use Rattle.std.specs.Prelude.{IsErrAnd, OnOk, is_err}
use Rattle.std.proofs.lemmas.Bool.{true≢false}
use Rattle.std.specs.Str.{IsUtf8}
use Rattle.json_form.specs.declared.fault.Fault.{Fault}
use Rattle.json_form.specs.declared.fault.Fault.TheVariants.{NotJson, TooLong}
use Rattle.json_form.specs.Forms.{◌>>=◌}
use Rattle.jk_language.specs.Spoken.{Spoken}
use Rattle.jk_core.specs.declared.kernel.Work.{Work}
use Rattle.jk_core.specs.declared.kernel.Work.TheVariants as work
use Rattle.jk_core.specs.State.{KernelState}
use Rattle.jk_core.specs.Steps.{Works}
use Rattle.jk_replay.specs.declared.replay.End.{End}
use Rattle.jk_replay.specs.declared.replay.ReplayFault.{ReplayFault}
use Rattle.jk_replay.specs.declared.replay.ReplayFault.TheVariants.{Line, Memory, Device}
use Rattle.jk_replay.specs.declared.replay.Side.TheVariants.{Input, Output}
use Rattle.jk_replay.specs.declared.step.Step.{Step}
use Rattle.jk_replay.specs.Lines.{max_line, IsOneLine}
use Rattle.jk_replay.specs.Playing.{LinePlayed, SlicePlayed, SlicesPlayed}
use Rattle.jk_replay.specs.Steps.{step_at}
use Rattle.jk_replay.specs.Replaying.{ReplayState, StepDone, IsSliced, admitted}
use Rattle.jk_replay.specs.Replays.{with_ends, AsksFor, LineDone, LinesDone, SlicesDone, EndIs, HasStopped, last_turns}

pub ends_more : (lines : List (List ℕ)) (line rest : List ℕ) → with_ends lines ++ (line ++ 10 ∷ rest) ≡ with_ends (lines ++ line ∷ []) ++ rest
ends_more [] line rest = sym (append_assoc line (10 ∷ []) rest)
ends_more (l ∷ ls) line rest =
    append_assoc l (10 ∷ with_ends ls) (line ++ 10 ∷ rest)
    ∙ ap (λ t. l ++ 10 ∷ t) (ends_more ls line rest)
    ∙ sym (append_assoc l (10 ∷ with_ends (ls ++ line ∷ [])) rest)

-- each line has its end
pub few_lines : (lines : List (List ℕ)) → length lines ≤ length (with_ends lines)
few_lines [] = omega arith
few_lines (l ∷ ls) = let rest = few_lines ls in let all = length-append l (10 ∷ with_ends ls) in omega (arith, rest, all)

-- what did not fail is Ok
pub not_failed : {A E P : Type 0} (r : Result A E) → OnOk r P → is_err r ≡ false → P
not_failed (Ok x) h e = h
not_failed (Err x) h e = absurd (true≢false e)

module _ {S T : Type 0} (spoken : Spoken S T) where
  -- one line more
  pub done_more : (lines : List (List ℕ)) (line : List ℕ) (old mid new : ReplayState T) (text more : List ℕ)
      → LinesDone spoken lines old mid text → IsOneLine line → LineDone spoken line mid new more → LinesDone spoken (lines ++ line ∷ []) old new (text ++ more)
  done_more [] line old mid new text more (e, t) one done =
      (new, more, [], one, subst (λ (s : ReplayState T). LineDone spoken line s new more) e done, (refl, refl), rw t (sym (append-nil more)))
  done_more (l ∷ ls) line old mid new text more (s, first, rest, before, d, ds, e) one done =
      (s, first, rest ++ more, before, d, done_more ls line s mid new rest more ds one done, ap (λ t. t ++ more) e ∙ append_assoc first rest more)

  -- what a line asks for, where it was read
  pub asks : (s : ReplayState T) (line : List ℕ) (read asked : Result Step Fault) → (max_line < length line → Err TooLong ≡ read) → (length line ≤ max_line → IsUtf8 line → step_at line ≡ read) → (length line ≤ max_line → (IsUtf8 line → ⊥) → Err NotJson ≡ read) → asked ≡ (read >>= admitted s) → AsksFor s line asked
  asks s line read asked long text other e = record {
    long = λ h. e ∙ ap (λ r. r >>= admitted s) (sym (long h));
    text = λ few h. e ∙ ap (λ r. r >>= admitted s) (sym (text few h));
    other = λ few h. e ∙ ap (λ r. r >>= admitted s) (sym (other few h));
  }

  -- a line that is not empty
  pub some_done : (line : List ℕ) (read step : Step) (old new : ReplayState T) (text : List ℕ) → line ≢ [] → (max_line < length line → Err TooLong ≡ Ok read) → (length line ≤ max_line → IsUtf8 line → step_at line ≡ Ok read) → (length line ≤ max_line → (IsUtf8 line → ⊥) → Err NotJson ≡ Ok read) → Ok step ≡ admitted old read → StepDone spoken step old new text → LineDone spoken line old new text
  some_done [] read step old new text some long utf other e done = absurd (some refl)
  some_done (c ∷ cs) read step old new text some long utf other e done = (step, asks old (c ∷ cs) (Ok read) (Ok step) long utf other e, done)

  -- all of a text was written
  pub whole_written : (line : List ℕ) (old new : ReplayState T) (text bytes front rest : List ℕ) → LineDone spoken line old new text → bytes ≡ text → bytes ≡ front ++ rest → rest ≡ [] → LineDone spoken line old new front
  whole_written line old new text bytes front rest done e parts none =
      subst (λ (t : List ℕ). LineDone spoken line old new t) (sym e ∙ parts ∙ ap (λ t. front ++ t) none ∙ append-nil front) done

  -- a front of a text was written
  pub line_cut : (line : List ℕ) (number : ℕ) (old mid new : ReplayState T) (text bytes front rest : List ℕ) → LineDone spoken line old mid text → bytes ≡ text → bytes ≡ front ++ rest → LinePlayed spoken line number old new front (Err (Device Output))
  line_cut line number old mid new text bytes front rest done e parts =
      (mid, rest, subst (λ (t : List ℕ). LineDone spoken line old mid t) (sym e ∙ parts) done)

  -- memory was wanting before anything was written
  pub line_refused : (line : List ℕ) (number : ℕ) (old new : ReplayState T) (r : Result (Unit {0}) ReplayFault) → IsErrAnd r (λ e. e ≡ Memory) → LinePlayed spoken line number old new [] r
  line_refused line number old new (Ok u) is = absurd is
  line_refused line number old new (Err fault) is = subst (λ (f : ReplayFault). LinePlayed spoken line number old new [] (Err f)) (sym is) refl

  -- a slice, with what was written of it
  pub slice_cut : (answer : Work) (old s new : ReplayState T) (text bytes front rest : List ℕ) → IsSliced spoken last_turns old answer s text → bytes ≡ text → bytes ≡ front ++ rest → SlicePlayed spoken old new front (Err (Device Output))
  slice_cut answer old s new text bytes front rest done e parts =
      (answer, s, rest, subst (λ (t : List ℕ). IsSliced spoken last_turns old answer s t) (sym e ∙ parts) done)

  pub slice_written : (answer : Work) (old s : ReplayState T) (text bytes front rest : List ℕ) → IsSliced spoken last_turns old answer s text → bytes ≡ text → bytes ≡ front ++ rest → rest ≡ [] → SlicePlayed spoken old s front (Ok answer)
  slice_written answer old s text bytes front rest done e parts none =
      subst (λ (t : List ℕ). IsSliced spoken last_turns old answer s t) (sym e ∙ parts ∙ ap (λ t. front ++ t) none ∙ append-nil front) done

  -- where a slice did not go on, no other would
  pub has_stopped : (answer : Work) (old new : ReplayState T) (text : List ℕ) → IsSliced spoken last_turns old answer new text → answer ≢ work.Ran → HasStopped new.kernel
  has_stopped answer old new text (k, works, some, e, is) other =
      subst (λ (s : ReplayState T). HasStopped s.kernel) (sym e) (stops answer old.kernel k works some other)
    where
      stops : (answer : Work) (j k : KernelState T) → Works spoken last_turns j answer k → answer ≢ work.NoMemory → answer ≢ work.Ran → HasStopped k
      stops work.Rest j k (e, idle, none) some other = subst HasStopped (sym e) (inl (idle, inl none))
      stops work.NeedsParse j k (e, idle, first) some other = subst HasStopped (sym e) (inl (idle, inr first))
      stops work.NeedsLine j k (asks, moved) some other = inr asks
      stops work.NoMemory j k w some other = absurd (some refl)
      stops work.Ran j k w some other = absurd (other refl)

  -- one slice more
  pub slices_more : (n : ℕ) (old mid new : ReplayState T) (text front : List ℕ) (answer : Work) → SlicesDone spoken n old mid text → IsSliced spoken last_turns mid answer new front → SlicesDone spoken (n + 1) old new (text ++ front)
  slices_more n old mid new text front answer all done =
      subst (λ k. SlicesDone spoken k old new (text ++ front)) (sym (add-one n)) (mid, text, front, all, (answer, done), refl)

  -- the last slice
  pub slices_end : (n : ℕ) (old mid new : ReplayState T) (text front : List ℕ) (answer : Work) (end : End) → n < 1000 → SlicesDone spoken n old mid text → IsSliced spoken last_turns mid answer new front → answer ≢ work.Ran → EndIs end new.kernel → SlicesPlayed spoken old (text ++ front) (Ok end)
  slices_end n old mid new text front answer end few all done other is =
      (n + 1, new, record { few = omega (arith, few); sliced = slices_more n old mid new text front answer all done }, is, inr (has_stopped answer mid new front done other))

  -- a slice that fails
  pub slices_fail : (n : ℕ) (old mid new : ReplayState T) (text front : List ℕ) (e : ReplayFault) (r : Result End ReplayFault) → n < 1000 → SlicesDone spoken n old mid text → SlicePlayed spoken mid new front (Err e) → IsErrAnd r (λ x. x ≡ e) → SlicesPlayed spoken old (text ++ front) r
  slices_fail n old mid new text front e (Ok end) few all played is = absurd is
  slices_fail n old mid new text front (Line k fault) (Err x) few all played is = absurd played
  slices_fail n old mid new text front Memory (Err x) few all played is =
      subst (λ (f : ReplayFault). SlicesPlayed spoken old (text ++ front) (Err f)) (sym is)
      (n, mid, record { few = omega (arith, few); sliced = subst (λ t. SlicesDone spoken n old mid t) (sym (append-nil text) ∙ ap (λ t. text ++ t) (sym played)) all })
  slices_fail n old mid new text front (Device Input) (Err x) few all played is = absurd played
  slices_fail n old mid new text front (Device Output) (Err x) few all (answer, s, back, done) is =
      subst (λ (f : ReplayFault). SlicesPlayed spoken old (text ++ front) (Err f)) (sym is) (
        n + 1,
        s,
        back,
        record {
          few = omega (arith, few);
          sliced = subst (λ t. SlicesDone spoken (n + 1) old s t) (sym (append_assoc text front back)) (slices_more n old mid s text (front ++ back) answer all done);
        },
      )
