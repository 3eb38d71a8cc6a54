-- From what stands between two lines to what a replay comes to.
use Rattle.std.proofs.Common.{zero-add, ◌≡◌, ◌≢◌, ℕ, ◌+◌, ◌≤◌, List, [], ◌∷◌, ◌++◌, length, refl, sym, ap, ◌∙◌, subst, append_assoc, append-nil, length-append, arith, Option, Result, Ok, Err, inl, inr}
use Rattle.std.specs.Prelude.{IsErrAnd}
use Rattle.std.specs.Io.KnownBytes.{Consumes, Appends, IsAtEnd}
use Rattle.std.proofs.KnownBytes.{Appends-nil, Appends-trans, Consumes-nil}
use Rattle.json_form.specs.declared.fault.Fault.{Fault}
use Rattle.json_form.specs.declared.fault.Fault.TheVariants.{TooLong}
use Rattle.jk_language.specs.Spoken.{Spoken, IsLanguage}
use Rattle.jk_replay.specs.declared.input.InputFault.{InputFault}
use Rattle.jk_replay.specs.declared.input.InputFault.TheVariants as input_fault
use Rattle.jk_replay.specs.declared.input.Line.{Line}
use Rattle.jk_replay.specs.declared.input.Line.TheVariants as taken
use Rattle.jk_replay.specs.declared.replay.End.{End}
use Rattle.jk_replay.specs.declared.replay.ReplayFault.{ReplayFault}
use Rattle.jk_replay.specs.declared.replay.ReplayFault.TheVariants as replay_fault
use Rattle.jk_replay.specs.declared.replay.Side.TheVariants.{Input, Output}
use Rattle.jk_replay.specs.Held.{InputState, Comes, IsLeftOver, LeavesOver}
use Rattle.jk_replay.specs.Lines.{IsOneLine, TakesLine}
use Rattle.jk_replay.specs.Playing.{of_input, LinePlayed, SomeSlices, SlicesPlayed}
use Rattle.jk_replay.specs.Replaying.{ReplayState}
use Rattle.jk_replay.specs.Replays.{opening, with_ends, AsksFor, LineDone, LinesDone, Reaches, Finishes, Shows, IsRefused, Replays}
use Rattle.jk_replay.proofs.Done.{done_more, ends_more, few_lines}
use Rattle.jk_replay.proofs.Going.{Going, opening_going, lines_going, slices_going, going_legal, going_rendered}
use Rattle.jk_replay.proofs.InputLemmas.{both_come, opening as nothing_held}

module _ {S T : Type 0} (spoken : Spoken S T) (laws : IsLanguage spoken) where
  -- what stands between two lines: so much came, and these lines were handed out and done
  pub record Between (unread left : Option (List ℕ)) (unwritten written : Option (List ℕ)) (input : InputState) (number : ℕ) (s : ReplayState T) : Type 0 where
    pub came : List ℕ
    pub comes : Comes unread left nothing_held input came
    pub lines : List (List ℕ)
    pub text : List ℕ
    pub split : came ≡ with_ends lines ++ input.held
    pub count : number ≡ length lines
    pub wrote : Appends unwritten written text
    pub done : LinesDone spoken lines opening s text

  -- the same, where more may have come than was handed out
  pub record Known (unread left : Option (List ℕ)) (unwritten written : Option (List ℕ)) (rest : List ℕ) (number : ℕ) (s : ReplayState T) : Type 0 where
    pub input : List ℕ
    pub consumes : Consumes unread left input
    pub few : length input ≤ 67108865
    pub lines : List (List ℕ)
    pub text : List ℕ
    pub split : input ≡ with_ends lines ++ rest
    pub count : number ≡ length lines
    pub wrote : Appends unwritten written text
    pub done : LinesDone spoken lines opening s text

  -- what a replay promises
  abbrev pub Final : Option (List ℕ) → Option (List ℕ) → Option (List ℕ) → Option (List ℕ) → Result End ReplayFault → Type 0
  Final unread left unwritten wrote result =
      (input written : List ℕ) × Consumes unread left input × (length input ≤ 67108865)
      × Appends unwritten wrote written × Replays spoken input left written result

  pub first_between : (unread unwritten : Option (List ℕ)) → Between unread unread unwritten unwritten nothing_held 0 opening
  first_between unread unwritten = record {
    came = [];
    comes = record { consumes = Consumes-nil unread; counted = omega arith; within = λ h. h };
    lines = [];
    text = [];
    split = refl;
    count = refl;
    wrote = Appends-nil unwritten;
    done = (refl, refl);
  }

  -- a line is asked for
  pub known : (a b c u w : Option (List ℕ)) (i j : InputState) (more : List ℕ) (number : ℕ) (s : ReplayState T) → Between a b u w i number s → Comes b c i j more → Known a c u w (i.held ++ more) number s
  known a b c u w i j more number s h came =
      let all = both_come a b c nothing_held i j h.came more h.comes came in
      let counted = all.counted in
      let within = all.within (omega arith) in
      record {
        input = h.came ++ more;
        consumes = all.consumes;
        few = omega (arith, counted, within);
        lines = h.lines;
        text = h.text;
        split = ap (λ t. t ++ more) h.split ∙ append_assoc (with_ends h.lines) i.held more;
        count = h.count;
        wrote = h.wrote;
        done = h.done;
      }

  -- the number of a line fits
  pub number_fits : (a b u w : Option (List ℕ)) (rest : List ℕ) (number : ℕ) (s : ReplayState T) → Known a b u w rest number s → number ≤ 67108865
  number_fits a b u w rest number s h =
      let few = h.few in
      let count = h.count in
      let lines = few_lines h.lines in
      let size = length-append (with_ends h.lines) rest in
      let split = ap length h.split in
      omega (arith, few, count, lines, size, split)

  -- a line was handed out and done
  pub between_more : (a b c u w v : Option (List ℕ)) (i j : InputState) (more line front : List ℕ) (number : ℕ) (old new : ReplayState T) → Between a b u w i number old → Comes b c i j more → i.held ++ more ≡ line ++ 10 ∷ j.held → IsOneLine line → LineDone spoken line old new front → Appends w v front → Between a c u v j (number + 1) new
  between_more a b c u w v i j more line front number old new h came takes one done wrote = record {
    came = h.came ++ more;
    comes = both_come a b c nothing_held i j h.came more h.comes came;
    lines = h.lines ++ line ∷ [];
    text = h.text ++ front;
    split = ap (λ t. t ++ more) h.split ∙ append_assoc (with_ends h.lines) i.held more ∙ ap (λ t. with_ends h.lines ++ t) takes ∙ ends_more h.lines line j.held;
    count = (let count = h.count in let size = length-append h.lines (line ∷ []) in omega (arith, count, size));
    wrote = Appends-trans u w v h.text front h.wrote wrote;
    done = done_more spoken h.lines line opening old new h.text front h.done one done;
  }

  going_of : (lines : List (List ℕ)) (s : ReplayState T) (text : List ℕ) → LinesDone spoken lines opening s text → Going spoken laws text s
  going_of lines s text done = lines_going spoken laws lines opening s [] text done (opening_going spoken laws)

  reaches : (input : List ℕ) (lines : List (List ℕ)) (rest : List ℕ) (s : ReplayState T) (text : List ℕ) → input ≡ with_ends lines ++ rest → LinesDone spoken lines opening s text → Reaches spoken input lines rest s text
  reaches input lines rest s text e done = record {
    split = e;
    done = done;
    legal = going_legal spoken laws text s (going_of lines s text done);
    rendered = going_rendered spoken laws text s (going_of lines s text done);
  }

  shows_here : (a b u w : Option (List ℕ)) (rest : List ℕ) (number : ℕ) (s : ReplayState T) (h : Known a b u w rest number s) → Shows spoken h.input b h.text
  shows_here a b u w rest number s h = inl (h.lines, rest, s, reaches h.input h.lines rest s h.text h.split h.done)

  -- no line came
  pub fails_reading : (a b u w : Option (List ℕ)) (rest : List ℕ) (number taken : ℕ) (s : ReplayState T) (fault : InputFault) (h : Known a b u w rest number s) → taken ≡ length h.input → LeavesOver fault taken rest → Final a b u w (Err (of_input fault))
  fails_reading a b u w rest number taken s input_fault.Memory h e over = (h.input, h.text, h.consumes, h.few, h.wrote, shows_here a b u w rest number s h)
  fails_reading a b u w rest number taken s input_fault.Device h e over = (
    h.input,
    h.text,
    h.consumes,
    h.few,
    h.wrote,
    (h.lines, rest, s, reaches h.input h.lines rest s h.text h.split h.done, subst (λ n. IsLeftOver n rest) e over),
  )

  -- nothing was written of it
  none_written : (u w v : Option (List ℕ)) (text front : List ℕ) → Appends u w text → Appends w v front → front ≡ [] → Appends u v text
  none_written u w v text front p q e = subst (Appends u v) (ap (λ t. text ++ t) e ∙ append-nil text) (Appends-trans u w v text front p q)

  -- a line after which others may stand
  pub ended_shows : (a b u w : Option (List ℕ)) (rest : List ℕ) (number : ℕ) (s : ReplayState T) (h : Known a b u w rest number s) (line held text : List ℕ) (new : ReplayState T) → rest ≡ line ++ 10 ∷ held → IsOneLine line → LineDone spoken line s new text → Shows spoken h.input b (h.text ++ text)
  ended_shows a b u w rest number s h line held text new takes one done =
      inl (
        h.lines ++ line ∷ [],
        held,
        new,
        reaches h.input (h.lines ++ line ∷ []) held new (h.text ++ text)
            (h.split ∙ ap (λ t. with_ends h.lines ++ t) takes ∙ ends_more h.lines line held)
            (done_more spoken h.lines line opening s new h.text text h.done one done),
      )

  -- the last line, and slices after it
  pub last_finishes : (a b u w : Option (List ℕ)) (rest : List ℕ) (number : ℕ) (s : ReplayState T) (h : Known a b u w rest number s) (line text more : List ℕ) (slices : ℕ) (mid new : ReplayState T) → rest ≡ line → IsOneLine line → IsAtEnd b → LineDone spoken line s mid text → SomeSlices spoken mid new slices more → Finishes spoken h.input b slices new ((h.text ++ text) ++ more)
  last_finishes a b u w rest number s h line text more slices mid new takes one over done some =
      let lines = done_more spoken h.lines line opening s mid h.text text h.done one done in
      let going = slices_going spoken laws slices mid new (h.text ++ text) more some.sliced (going_of (h.lines ++ line ∷ []) mid (h.text ++ text) lines) in
      record {
        lines = h.lines;
        last = line;
        split = h.split ∙ ap (λ t. with_ends h.lines ++ t) takes;
        over = over;
        behind = mid;
        of_lines = h.text ++ text;
        of_slices = more;
        done = lines;
        few = some.few;
        sliced = some.sliced;
        whole = refl;
        legal = going_legal spoken laws _ new going;
        rendered = going_rendered spoken laws _ new going;
      }

  none_sliced : (s : ReplayState T) → SomeSlices spoken s s 0 []
  none_sliced s = record { few = omega arith; sliced = (refl, refl) }

  last_shows : (a b u w : Option (List ℕ)) (rest : List ℕ) (number : ℕ) (s : ReplayState T) (h : Known a b u w rest number s) (line text : List ℕ) (new : ReplayState T) → rest ≡ line → IsOneLine line → IsAtEnd b → LineDone spoken line s new text → Shows spoken h.input b (h.text ++ text)
  last_shows a b u w rest number s h line text new takes one over done =
      inr (0, new, subst (Finishes spoken h.input b 0 new) (append-nil (h.text ++ text)) (last_finishes a b u w rest number s h line text [] 0 new new takes one over done (none_sliced new)))

  -- the bytes of a line that was handed out
  abbrev pub IsTaken : Line → List ℕ → Type 0
  IsTaken (taken.Ended line) items = items ≡ line.items
  IsTaken (taken.Last line) items = items ≡ line.items
  IsTaken taken.Long items = ⊥

  shows_line : (a b u w : Option (List ℕ)) (rest : List ℕ) (number : ℕ) (s : ReplayState T) (h : Known a b u w rest number s) (line : Line) (items held text : List ℕ) (new : ReplayState T) → TakesLine rest line held b → IsTaken line items → LineDone spoken items s new text → Shows spoken h.input b (h.text ++ text)
  shows_line a b u w rest number s h (taken.Ended line) items held text new takes is done =
      ended_shows a b u w rest number s h line.items held text new takes.0 takes.1 (subst (λ (t : List ℕ). LineDone spoken t s new text) is done)
  shows_line a b u w rest number s h (taken.Last line) items held text new takes is done =
      last_shows a b u w rest number s h line.items text new takes.0 takes.1 takes.2 (subst (λ (t : List ℕ). LineDone spoken t s new text) is done)
  shows_line a b u w rest number s h taken.Long items held text new takes is done = absurd is

  refused_line : (s : ReplayState T) (line : Line) (items : List ℕ) (fault : Fault) → IsTaken line items → items ≢ [] → AsksFor s items (Err fault) → IsRefused s line fault
  refused_line s (taken.Ended line) items fault is some asks = (λ e. some (is ∙ e), subst (λ (t : List ℕ). AsksFor s t (Err fault)) is asks)
  refused_line s (taken.Last line) items fault is some asks = (λ e. some (is ∙ e), subst (λ (t : List ℕ). AsksFor s t (Err fault)) is asks)
  refused_line s taken.Long items fault is some asks = absurd is

  -- a line that was handed out is not done
  pub fails_line : (a b u w v : Option (List ℕ)) (rest : List ℕ) (number : ℕ) (s new : ReplayState T) (line : Line) (items held front : List ℕ) (fault : ReplayFault) → Known a b u w rest number s → TakesLine rest line held b → IsTaken line items → Appends w v front → LinePlayed spoken items (number + 1) s new front (Err fault) → Final a b u v (Err fault)
  fails_line a b u w v rest number s new line items held front (replay_fault.Line k fault) h takes is wrote (e, some, asks, none) = (
    h.input,
    h.text,
    h.consumes,
    h.few,
    none_written u w v h.text front h.wrote wrote none,
    (
      h.lines,
      rest,
      s,
      reaches h.input h.lines rest s h.text h.split h.done,
      e ∙ ap (λ n. n + 1) h.count,
      (line, held, takes, refused_line s line items fault is some asks),
    ),
  )
  fails_line a b u w v rest number s new line items held front replay_fault.Memory h takes is wrote none =
      (h.input, h.text, h.consumes, h.few, none_written u w v h.text front h.wrote wrote none, shows_here a b u w rest number s h)
  fails_line a b u w v rest number s new line items held front (replay_fault.Device Input) h takes is wrote never = absurd never
  fails_line a b u w v rest number s new line items held front (replay_fault.Device Output) h takes is wrote (mid, back, done) = (
    h.input,
    h.text ++ front,
    h.consumes,
    h.few,
    Appends-trans u w v h.text front h.wrote wrote,
    (back, subst (Shows spoken h.input b) (sym (append_assoc h.text front back)) (shows_line a b u w rest number s h line items held (front ++ back) mid takes is done)),
  )

  -- a line that is too long
  pub fails_long : (a b u w : Option (List ℕ)) (rest : List ℕ) (number : ℕ) (s : ReplayState T) (held : List ℕ) → Known a b u w rest number s → TakesLine rest taken.Long held b → Final a b u w (Err (replay_fault.Line (number + 1) TooLong))
  fails_long a b u w rest number s held h takes = (
    h.input,
    h.text,
    h.consumes,
    h.few,
    h.wrote,
    (h.lines, rest, s, reaches h.input h.lines rest s h.text h.split h.done, ap (λ n. n + 1) h.count, (taken.Long, held, takes, refl)),
  )

  -- all lines are done, and slices after them
  pub finishes : (a b u w v x : Option (List ℕ)) (rest : List ℕ) (number : ℕ) (s mid : ReplayState T) (line front more : List ℕ) (result : Result End ReplayFault) → Known a b u w rest number s → rest ≡ line → IsOneLine line → IsAtEnd b → Appends w v front → LineDone spoken line s mid front → Appends v x more → SlicesPlayed spoken mid more result → Final a b u x result
  finishes a b u w v x rest number s mid line front more (Ok end) h takes one over wrote done last (slices, new, some, is, why) = (
    h.input,
    (h.text ++ front) ++ more,
    h.consumes,
    h.few,
    Appends-trans u v x (h.text ++ front) more (Appends-trans u w v h.text front h.wrote wrote) last,
    (slices, new, last_finishes a b u w rest number s h line front more slices mid new takes one over done some, is, why),
  )
  finishes a b u w v x rest number s mid line front more (Err (replay_fault.Line k fault)) h takes one over wrote done last never = absurd never
  finishes a b u w v x rest number s mid line front more (Err replay_fault.Memory) h takes one over wrote done last (slices, new, some) = (
    h.input,
    (h.text ++ front) ++ more,
    h.consumes,
    h.few,
    Appends-trans u v x (h.text ++ front) more (Appends-trans u w v h.text front h.wrote wrote) last,
    inr (slices, new, last_finishes a b u w rest number s h line front more slices mid new takes one over done some),
  )
  finishes a b u w v x rest number s mid line front more (Err (replay_fault.Device Input)) h takes one over wrote done last never = absurd never
  finishes a b u w v x rest number s mid line front more (Err (replay_fault.Device Output)) h takes one over wrote done last (slices, new, back, some) = (
    h.input,
    (h.text ++ front) ++ more,
    h.consumes,
    h.few,
    Appends-trans u v x (h.text ++ front) more (Appends-trans u w v h.text front h.wrote wrote) last,
    (
      back,
      subst (Shows spoken h.input b) (sym (append_assoc (h.text ++ front) more back))
          (inr (slices, new, last_finishes a b u w rest number s h line front (more ++ back) slices mid new takes one over done some)),
    ),
  )

  -- the same, as a call's `?` hands a fault on
  pub reading_fails : (a b c u w : Option (List ℕ)) (i j : InputState) (more : List ℕ) (number : ℕ) (s : ReplayState T) (fault : InputFault) (r : Result End ReplayFault) → Between a b u w i number s → Comes b c i j more → LeavesOver fault j.taken (i.held ++ more) → IsErrAnd r (λ e. e ≡ of_input fault) → Final a c u w r
  unfolding known
  reading_fails a b c u w i j more number s fault (Ok end) h came over is = absurd is
  reading_fails a b c u w i j more number s fault (Err e) h came over is =
      subst (λ (f : ReplayFault). Final a c u w (Err f)) (sym is)
      (fails_reading a c u w (i.held ++ more) number j.taken s fault (known a b c u w i j more number s h came)
      ((both_come a b c nothing_held i j h.came more h.comes came).counted ∙ zero-add (length (h.came ++ more))) over)

  pub line_fails : (a b u w v : Option (List ℕ)) (rest : List ℕ) (number : ℕ) (s new : ReplayState T) (line : Line) (items held front : List ℕ) (fault : ReplayFault) (r : Result End ReplayFault) → Known a b u w rest number s → TakesLine rest line held b → IsTaken line items → Appends w v front → LinePlayed spoken items (number + 1) s new front (Err fault) → IsErrAnd r (λ e. e ≡ fault) → Final a b u v r
  line_fails a b u w v rest number s new line items held front fault (Ok end) h takes is wrote played same = absurd same
  line_fails a b u w v rest number s new line items held front fault (Err e) h takes is wrote played same =
      subst (λ (f : ReplayFault). Final a b u v (Err f)) (sym same) (fails_line a b u w v rest number s new line items held front fault h takes is wrote played)

  -- before the first line
  pub first_as : (unread unwritten : Option (List ℕ)) (i : InputState) (s : ReplayState T) → i ≡ nothing_held → s ≡ opening → Between unread unread unwritten unwritten i 0 s
  first_as unread unwritten i s held is =
      subst (λ (j : InputState). Between unread unread unwritten unwritten j 0 s) (sym held)
      (subst (λ (t : ReplayState T). Between unread unread unwritten unwritten nothing_held 0 t) (sym is) (first_between unread unwritten))

  -- a line that was handed out is done, with its bytes as they were passed on
  pub between_line : (a b c u w v : Option (List ℕ)) (i j : InputState) (more line items front : List ℕ) (number : ℕ) (old new : ReplayState T) → Between a b u w i number old → Comes b c i j more → (i.held ++ more ≡ line ++ 10 ∷ j.held) × IsOneLine line → items ≡ line → LineDone spoken items old new front → Appends w v front → Between a c u v j (number + 1) new
  between_line a b c u w v i j more line items front number old new h came takes is done wrote =
      between_more a b c u w v i j more line front number old new h came takes.0 takes.1 (subst (λ (t : List ℕ). LineDone spoken t old new front) is done) wrote

  pub finishes_line : (a b u w v x : Option (List ℕ)) (rest : List ℕ) (number : ℕ) (s mid : ReplayState T) (line items front more : List ℕ) (result : Result End ReplayFault) → Known a b u w rest number s → (rest ≡ line) × IsOneLine line × IsAtEnd b → items ≡ line → Appends w v front → LineDone spoken items s mid front → Appends v x more → SlicesPlayed spoken mid more result → Final a b u x result
  finishes_line a b u w v x rest number s mid line items front more result h takes is wrote done last played =
      finishes a b u w v x rest number s mid line front more result h takes.0 takes.1 takes.2 wrote (subst (λ (t : List ℕ). LineDone spoken t s mid front) is done) last played
