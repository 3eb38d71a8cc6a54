-- What a machine's steps come to.
use Rattle.std.specs.Prelude.{◌≡◌, ℕ, ◌+◌, ◌-◌, ◌<◌, ◌≤◌, ◌==◌, ◌&&◌, Bool, true, false, List, [], ◌∷◌, ◌++◌, length, drop, slice_index_or, encode_utf8}
use Rattle.std.proofs.Common.{refl, sym, ◌∙◌, ap, subst, arith, add-one, drop-cons}
use Rattle.std.proofs.lemmas.List.{length-append, drop-append-le}
use Rattle.jk_language.specs.Parts.{Line, Meaning}
use Rattle.jk_language.specs.MachineState.{MachineState}
use Rattle.jk_language.specs.Beginning.{IsFresh}
use Rattle.test_meaning.specs.Texts.{Reading, begins_with, IsKept, spoken_texts, first_of, is_silent, shown_by, after, step_at, step, read, opened}
use Rattle.test_meaning.proofs.Laws.{read_more, fed, fed_full}
use Rattle.test_language.specs.Standing.{IsAt, IsStanding}
use Rattle.test_language.specs.States.{IsNew}

step_known : (b : Bool) (rest more : List ℕ) (lines : List Line) (c : ℕ) (r : Reading) → b ≡ false → rest ≡ c ∷ more → lines ≡ [] → step_at b rest lines r ≡ after (c == 63) (is_silent c) c more [] r
step_known b rest more lines c r e f g = rw (e, f, g) refl

pub rest_here : (text : List ℕ) (n : ℕ) → n < length text → drop n text ≡ slice_index_or text n 0 ∷ drop (n + 1) text
rest_here text n h = rw add-one (drop-cons text n 0 h)

-- the turn of the next byte
stepped : (text : List ℕ) (kept n : ℕ) (left : List ℕ) (r : Reading) → IsAt text kept n false left r → n < length text
    → let c = slice_index_or text n 0 in step r ≡ after (c == 63) (is_silent c) c (drop (n + 1) text) [] r
unfolding step
stepped text kept n left r h lt = step_known r.asks r.rest (drop (n + 1) text) r.lines (slice_index_or text n 0) r h.asks (h.rest ∙ rest_here text n lt) h.lines

pub read_next : (n : ℕ) (r : Reading) → read (n + 1) r ≡ step (read n r)
unfolding read
read_next n r = read_more n 1 r

known : (text : List ℕ) (start kept n c : ℕ) (lines : List Line) (left : List ℕ) (takes silent : Bool) → IsStanding start text lines kept n false left → n < length text → c ≡ slice_index_or text n 0 → (c == 63) ≡ takes → is_silent c ≡ silent
    → read (n + 1) (opened start text lines) ≡ after takes silent c (drop (n + 1) text) [] (read n (opened start text lines))
known text start kept n c lines left takes silent h lt e f g =
    let r = read n (opened start text lines) in
    read_next n (opened start text lines) ∙ stepped text kept n left r h lt
    ∙ ap (λ (c : ℕ). after (c == 63) (is_silent c) c (drop (n + 1) text) [] r) (sym e)
    ∙ ap (λ (b : Bool). after b (is_silent c) c (drop (n + 1) text) [] r) f ∙ ap (λ (b : Bool). after takes b c (drop (n + 1) text) [] r) g

-- where a machine stands after a turn, with as much taken as before
pub record HasStepped (text : List ℕ) (start kept n : ℕ) (asking : Bool) (lines : List Line) (left new_left : List ℕ) : Type 0 where
  pub stands : IsStanding start text lines kept (n + 1) asking new_left
  pub shown : length (read (n + 1) (opened start text lines)).output - length new_left ≡ length (read n (opened start text lines)).output - length left

-- a silent byte
pub waits : (text : List ℕ) (start kept n c : ℕ) (lines : List Line) (left : List ℕ) → IsStanding start text lines kept n false left → n < length text → c ≡ slice_index_or text n 0 → (c == 63) ≡ false → is_silent c ≡ true
    → HasStepped text start kept n false lines left left
waits text start kept n c lines left h lt e f g =
    let on = known text start kept n c lines left false true h lt e f g in record {
      stands = subst (IsAt text kept (n + 1) false left) (sym on)
          (record { session = h.session; rest = refl; lines = refl; turns = ap (λ (k : ℕ). k + 1) h.turns; asks = refl; few = h.few; output = h.output; within = omega arith });
      shown = ap (λ (r : Reading). length r.output - length left) on;
    }

-- a byte that asks for a line
pub asks : (text : List ℕ) (start kept n c : ℕ) (lines : List Line) (left : List ℕ) → IsStanding start text lines kept n false left → n < length text → c ≡ slice_index_or text n 0 → (c == 63) ≡ true
    → HasStepped text start kept n true lines left left
asks text start kept n c lines left h lt e f =
    let on = known text start kept n c lines left true (is_silent c) h lt e f refl in record {
      stands = subst (IsAt text kept (n + 1) true left) (sym on)
          (record { session = h.session; rest = refl; lines = refl; turns = ap (λ (k : ℕ). k + 1) h.turns; asks = refl; few = h.few; output = h.output; within = omega arith });
      shown = ap (λ (r : Reading). length r.output - length left) on;
    }

same_taken : (all left part : List ℕ) → length (all ++ part) - length (left ++ part) ≡ length all - length left
same_taken all left part = omega (arith, length-append all part, length-append left part)

untaken : (all left part : List ℕ) → length left ≤ length all → drop (length all - length left) all ≡ left → drop (length (all ++ part) - length (left ++ part)) (all ++ part) ≡ left ++ part
untaken all left part few e =
    rw (same_taken all left part) (drop-append-le (length all - length left) all part (omega arith) ∙ ap (λ (xs : List ℕ). xs ++ part) e)

-- a byte that is shown
pub shows : (text : List ℕ) (start kept n c : ℕ) (lines : List Line) (left : List ℕ) → IsStanding start text lines kept n false left → n < length text → c ≡ slice_index_or text n 0 → (c == 63) ≡ false → is_silent c ≡ false
    → HasStepped text start (shown_by kept c) n false lines left (left ++ encode_utf8 (shown_by kept c))
shows text start kept n c lines left h lt e f g =
    let r = read n (opened start text lines) in
    let part = encode_utf8 (shown_by kept c) in
    let on = known text start kept n c lines left false false h lt e f g in
    let same : r.output ++ encode_utf8 (shown_by r.session c) ≡ r.output ++ part = ap (λ (k : ℕ). r.output ++ encode_utf8 (shown_by k c)) h.session in
    record {
      stands = subst (IsAt text (shown_by kept c) (n + 1) false (left ++ part)) (sym on)
          (record {
            session = ap (λ (k : ℕ). shown_by k c) h.session;
            rest = refl;
            lines = refl;
            turns = ap (λ (k : ℕ). k + 1) h.turns;
            asks = refl;
            few = rw same (let f = h.few in omega (arith, length-append r.output part, length-append left part));
            output = rw same (untaken r.output left part h.few h.output);
            within = omega arith;
          });
      shown = ap (λ (r : Reading). length r.output - length (left ++ part)) on ∙ ap (λ (xs : List ℕ). length xs - length (left ++ part)) same ∙ same_taken r.output left part;
    }

-- before the first turn
pub begins : (text : List ℕ) (start : ℕ) → IsStanding start text [] start 0 false []
unfolding read
begins text start = record { session = refl; rest = refl; lines = refl; turns = refl; asks = refl; few = omega arith; output = refl; within = omega arith }

pub none_shown : (text : List ℕ) (start : ℕ) (left : List ℕ) → length (read 0 (opened start text [])).output - length left ≡ 0
unfolding read
none_shown text start left = omega arith

fed_asking : (line : Line) (b : Bool) (r : Reading) → r.asks ≡ b → b ≡ true → (fed line r ≡ record r { session = first_of line; lines_used = r.lines_used + 1; asks = false })
fed_asking line b r e f = rw (e ∙ f) refl

-- a line that was asked for is given
pub given : (text : List ℕ) (start kept n : ℕ) (lines : List Line) (left : List ℕ) (line : Line) → IsStanding start text lines kept n true left
    → read n (opened start text (lines ++ line ∷ [])) ≡ record (read n (opened start text lines)) { session = first_of line; lines_used = (read n (opened start text lines)).lines_used + 1; asks = false }
given text start kept n lines left line h =
    fed_full line n (opened start text lines) (let f = h.turns in omega arith) ∙ fed_asking line _ (read n (opened start text lines)) refl h.asks

pub keeps : (text : List ℕ) (start kept n : ℕ) (lines : List Line) (left : List ℕ) (line : Line) → IsStanding start text lines kept n true left
    → IsStanding start text (lines ++ line ∷ []) (first_of line) n false left
keeps text start kept n lines left line h =
    subst (IsAt text (first_of line) n false left) (sym (given text start kept n lines left line h))
    (record { session = refl; rest = h.rest; lines = h.lines; turns = h.turns; asks = refl; few = h.few; output = h.output; within = h.within })

pub same_shown : (text : List ℕ) (start kept n : ℕ) (lines : List Line) (left : List ℕ) (line : Line) → IsStanding start text lines kept n true left
    → length (read n (opened start text (lines ++ line ∷ []))).output - length left ≡ length (read n (opened start text lines)).output - length left
same_shown text start kept n lines left line h = ap (λ (r : Reading). length r.output - length left) (given text start kept n lines left line h)

pub same_state : (goes : List Line → ℕ → Meaning ℕ) (lines new_lines : List Line) (turns shown new_shown : ℕ) (asks over : Bool) → new_lines ≡ lines → new_shown ≡ shown
    → ◌≡◌ {A = MachineState ℕ} (record { goes = goes; lines = new_lines; turns = turns; shown = new_shown; asks = asks; over = over }) (record { goes = goes; lines = lines; turns = turns; shown = shown; asks = asks; over = over })
same_state goes lines new_lines turns shown new_shown asks over e f = rw (e, f) refl

-- a machine that was begun
pub fresh : (session : ℕ) (text tree read kept : List ℕ) (m : MachineState ℕ) → IsKept text tree → read ≡ tree → kept ≡ tree → (begins_with 64 read && session == 0) ≡ false → IsNew session kept m → IsFresh spoken_texts session text m
fresh session text tree read kept m k e f missing h =
    let same : (begins_with 64 text && session == 0) ≡ false = ap (λ (xs : List ℕ). begins_with 64 xs && session == 0) (sym (e ∙ k.1)) ∙ missing in
    record {
      lines = h.lines;
      turns = h.turns;
      shown = h.shown;
      quiet = h.quiet;
      on = h.on;
      goes = λ lines n. rw (h.goes, f, k.1, k.0, same) refl;
    }
