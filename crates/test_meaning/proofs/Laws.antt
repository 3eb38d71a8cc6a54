-- What the meaning of each text keeps.
use Rattle.std.specs.Prelude.{◌≡◌, ◌≢◌, ◌⊎◌, ℕ, zero, suc, ◌+◌, ◌-◌, ◌≤◌, ◌==◌, Bool, true, false, not, ◌&&◌, if◌then◌else◌, List, [], ◌∷◌, ◌++◌, encode_utf8}
use Rattle.std.proofs.Common.{refl, sym, ◌∙◌, ap, inl, inr, arith, append_assoc}
use Rattle.std.proofs.lemmas.Bool.{false≢true}
use Rattle.std.proofs.lemmas.List.{append-nil}
use Rattle.jk_language.specs.declared.outcome.Outcome.{Outcome}
use Rattle.jk_language.specs.declared.outcome.Outcome.TheVariants.{Ended, Trapped, Stopped, NeedsLine, Unreadable, Unlinked}
use Rattle.jk_language.specs.declared.outcome.Refusal.{Refusal}
use Rattle.jk_language.specs.declared.outcome.Refusal.TheVariants.{Compile, Link}
use Rattle.jk_language.specs.Parts.{Line, Meaning, IsStopped, IsLawful, IsFed}
use Rattle.jk_language.specs.Spoken.{IsLanguage, standing, refused_outcome}
use Rattle.test_meaning.specs.Texts.{Reading, first_of, is_silent, shown_by, after, step_at, step, read, opened, outcome_at, meaning_at, end_of, runs, no_module, begins_with, cell_of, IsRefused, spoken_texts}

-- no turn is left to take
abbrev pub is_done : Bool → List ℕ → Bool
is_done true rest = true
is_done false [] = true
is_done false (c ∷ rest) = false

abbrev pub IsDone : Reading → Type 0
IsDone r = is_done r.asks r.rest ≡ true

stays_at : (b : Bool) (rest : List ℕ) (lines : List Line) (r : Reading) → is_done b rest ≡ true → step_at b rest lines r ≡ r
stays_at true rest lines r e = refl
stays_at false [] lines r e = refl
stays_at false (c ∷ rest) lines r e = absurd (false≢true e)

pub stays : (n : ℕ) (r : Reading) → IsDone r → read n r ≡ r
unfolding read step
stays zero r e = refl
stays (suc n) r e = ap (read n) (stays_at r.asks r.rest r.lines r e) ∙ stays n r e

-- a turn is counted, and its output goes on
counts_after : (takes silent : Bool) (c : ℕ) (rest : List ℕ) (lines : List Line) (r : Reading) → (after takes silent c rest lines r).turns ≡ r.turns + 1
counts_after true silent c rest [] r = refl
counts_after true silent c rest (line ∷ lines) r = refl
counts_after false true c rest lines r = refl
counts_after false false c rest lines r = refl

counts : (b : Bool) (rest : List ℕ) (lines : List Line) (r : Reading) → is_done b rest ≡ false → (step_at b rest lines r).turns ≡ r.turns + 1
counts true rest lines r e = absurd (false≢true (sym e))
counts false [] lines r e = absurd (false≢true (sym e))
counts false (c ∷ rest) lines r e = counts_after (c == 63) (is_silent c) c rest lines r

shows_after : (takes silent : Bool) (c : ℕ) (rest : List ℕ) (lines : List Line) (r : Reading) → (part : List ℕ) × (r.output ++ part ≡ (after takes silent c rest lines r).output)
shows_after true silent c rest [] r = ([], append-nil r.output)
shows_after true silent c rest (line ∷ lines) r = ([], append-nil r.output)
shows_after false true c rest lines r = ([], append-nil r.output)
shows_after false false c rest lines r = (encode_utf8 (shown_by r.session c), refl)

shows : (b : Bool) (rest : List ℕ) (lines : List Line) (r : Reading) → (part : List ℕ) × (r.output ++ part ≡ (step_at b rest lines r).output)
shows true rest lines r = ([], append-nil r.output)
shows false [] lines r = ([], append-nil r.output)
shows false (c ∷ rest) lines r = shows_after (c == 63) (is_silent c) c rest lines r

turn_counts : (b : Bool) (rest : List ℕ) (lines : List Line) (r : Reading) → (r.turns ≤ (step_at b rest lines r).turns) × ((step_at b rest lines r).turns ≤ r.turns + 1)
turn_counts true rest lines r = (omega arith, omega arith)
turn_counts false [] lines r = (omega arith, omega arith)
turn_counts false (c ∷ rest) lines r = let e = counts_after (c == 63) (is_silent c) c rest lines r in (omega arith, omega arith)

pub few_turns : (n : ℕ) (r : Reading) → ((read n r).turns ≤ r.turns + n) × (r.turns ≤ (read n r).turns)
unfolding read step
few_turns zero r = (omega arith, omega arith)
few_turns (suc n) r =
    let one = turn_counts r.asks r.rest r.lines r in
    let more = few_turns n (step r) in
    (omega arith, omega arith)

output_on : (n : ℕ) (r : Reading) → (part : List ℕ) × (r.output ++ part ≡ (read n r).output)
unfolding read step
output_on zero r = ([], append-nil r.output)
output_on (suc n) r =
    let one = shows r.asks r.rest r.lines r in
    let more = output_on n (step r) in
    (one.0 ++ more.0, sym (append_assoc r.output one.0 more.0) ∙ ap (λ (xs : List ℕ). xs ++ more.0) one.1 ∙ more.1)

pub read_more : (n m : ℕ) (r : Reading) → read (n + m) r ≡ read m (read n r)
unfolding read
read_more zero m r = let e : 0 + m ≡ m = omega arith in rw e refl
read_more (suc n) m r = let e : suc n + m ≡ suc (n + m) = omega arith in rw e (read_more n m (step r))

-- either each turn was taken or none is left
abbrev IsFullOrDone : ℕ → Reading → Type 0
IsFullOrDone n r = ((read n r).turns ≡ r.turns + n) ⊎ IsDone (read n r)

full_by : (n : ℕ) (r : Reading) (b : Bool) → is_done r.asks r.rest ≡ b → IsFullOrDone n (step r) → IsFullOrDone (suc n) r
unfolding read step
full_by n r true e more = inr (rw (stays (suc n) r e) e)
full_by n r false e more =
    let one = counts r.asks r.rest r.lines r e in elim more [ inl f ↦ inl (omega arith) | inr d ↦ inr d ]

full_or_done : (n : ℕ) (r : Reading) → IsFullOrDone n r
unfolding read
full_or_done zero r = inl (omega arith)
full_or_done (suc n) r = full_by n r (is_done r.asks r.rest) refl (full_or_done n (step r))

-- with as many turns counted it stands where it stood
same_by : (n : ℕ) (r : Reading) (b : Bool) → is_done r.asks r.rest ≡ b → (read n r).turns ≡ r.turns → read n r ≡ r
unfolding read step
same_by n r true e f = stays n r e
same_by zero r false e f = refl
same_by (suc n) r false e f =
    let one = counts r.asks r.rest r.lines r e in
    let more = few_turns n (step r) in
    absurd (omega arith)

settles : (n k : ℕ) (r : Reading) → (read n r).turns ≡ r.turns + k → read k r ≡ read n r
settles n k r e =
    let few = few_turns n r in
    let sum : n ≡ k + (n - k) = omega arith in
    let on : read n r ≡ read (n - k) (read k r) = ap (λ (m : ℕ). read m r) sum ∙ read_more k (n - k) r in
    elim (full_or_done k r) [
      | inl f ↦ sym (on ∙ same_by (n - k) (read k r) _ refl (ap (λ (s : Reading). s.turns) (sym on) ∙ e ∙ sym f))
      | inr d ↦ sym (on ∙ stays (n - k) (read k r) d)
    ]

-- an outcome that no turn changes
pub record IsLast (o : Outcome) : Type 0 where
  pub goes : (grows : Bool) → o ≢ Stopped grows
  pub told : o ≢ NeedsLine
  pub read : o ≢ Unreadable

not_stopped : (last : Outcome) → IsLast last → (b : Bool) (rest : List ℕ) (grows : Bool) → is_done b rest ≡ true → outcome_at last b rest ≢ Stopped grows
not_stopped last h true rest grows e f = cc
not_stopped last h false [] grows e f = h.goes grows f
not_stopped last h false (c ∷ rest) grows e f = false≢true e

done_unless : (last : Outcome) (b : Bool) (rest : List ℕ) → (IsStopped (outcome_at last b rest) → ⊥) → is_done b rest ≡ true
done_unless last true rest h = refl
done_unless last false [] h = refl
done_unless last false (c ∷ rest) h = absurd (h (not (is_silent c), refl))

not_unread : (last : Outcome) → IsLast last → (b : Bool) (rest : List ℕ) → outcome_at last b rest ≢ Unreadable
not_unread last h true rest e = cc
not_unread last h false [] e = h.read e
not_unread last h false (c ∷ rest) e = cc

not_asked : (last : Outcome) → IsLast last → (b : Bool) (rest : List ℕ) → b ≡ false → outcome_at last b rest ≢ NeedsLine
not_asked last h true rest e f = false≢true (sym e)
not_asked last h false [] e f = h.told f
not_asked last h false (c ∷ rest) e f = cc

-- a cell that goes on from n turns to m
between : (n m : ℕ) (r : Reading) → n ≤ m → read m r ≡ read (m - n) (read n r)
between n m r le = let sum : m ≡ n + (m - n) = omega arith in ap (λ (k : ℕ). read k r) sum ∙ read_more n (m - n) r

output_between : (n m : ℕ) (r : Reading) → n ≤ m → (part : List ℕ) × ((read n r).output ++ part ≡ (read m r).output)
output_between n m r le =
    let more = output_on (m - n) (read n r) in (more.0, more.1 ∙ ap (λ (s : Reading). s.output) (sym (between n m r le)))

turns_between : (n m : ℕ) (r : Reading) → n ≤ m → (read n r).turns ≤ (read m r).turns
turns_between n m r le =
    let more = few_turns (m - n) (read n r) in
    let e = ap (λ (s : Reading). s.turns) (between n m r le) in
    omega arith

stops : (last : Outcome) → IsLast last → (n : ℕ) (r : Reading) (grows : Bool) → outcome_at last (read n r).asks (read n r).rest ≡ Stopped grows → (read n r).turns ≡ r.turns + n
stops last h n r grows e =
    elim (full_or_done n r) [ inl f ↦ f | inr d ↦ absurd (not_stopped last h (read n r).asks (read n r).rest grows d e) ]

runs_lawful : (last : Outcome) → IsLast last → (session : ℕ) (text : List ℕ) (lines : List Line) → IsLawful (λ n. meaning_at last (read n (opened session text lines)))
unfolding read
runs_lawful last h session text lines =
    let r = opened session text lines in record {
      few = λ n. let f = few_turns n r in omega arith;
      settled = λ n. ap (meaning_at last) (settles n (read n r).turns r (omega arith));
      onward = λ n m le. turns_between n m r le;
      output = λ n m le. output_between n m r le;
      silent = refl;
      unasked = not_asked last h false text refl;
      stopped = λ n grows e. (let f = stops last h n r grows e in omega arith);
      last = λ n m le e. ap (meaning_at last) (between n m r le ∙ stays (m - n) (read n r) (done_unless last _ _ e));
      unread = λ n e m. absurd (not_unread last h _ _ e);
    }

-- One more line.

abbrev feed_at : Bool → Line → Reading → Reading
feed_at true line r = record r { session = first_of line; lines_used = r.lines_used + 1; asks = false }
feed_at false line r = record r { lines = r.lines ++ line ∷ [] }

-- a reading that has one more line
abbrev pub fed : Line → Reading → Reading
fed line r = feed_at r.asks line r

fed_after : (takes silent : Bool) (c : ℕ) (rest : List ℕ) (ls ms : List Line) (line : Line) (r : Reading) → fed line (after takes silent c rest ls r) ≡ after takes silent c rest (ls ++ line ∷ []) (record r { lines = ms })
fed_after true silent c rest [] ms line r = refl
fed_after true silent c rest (x ∷ ls) ms line r = refl
fed_after false true c rest ls ms line r = refl
fed_after false false c rest ls ms line r = refl

fed_at : (b : Bool) (rest : List ℕ) (ls : List Line) (line : Line) (session used turns : ℕ) (output : List ℕ) → b ≡ false
    → let r : Reading = record { session = session; rest = rest; lines = ls; lines_used = used; output = output; turns = turns; asks = b } in fed line (step r) ≡ step (fed line r)
unfolding step
fed_at true rest ls line session used turns output e = absurd (false≢true (sym e))
fed_at false [] ls line session used turns output e = refl
fed_at false (c ∷ rest) ls line session used turns output e = fed_after (c == 63) (is_silent c) c rest ls _ line _

fed_step : (line : Line) (r : Reading) → r.asks ≡ false → fed line (step r) ≡ step (fed line r)
fed_step line r e = fed_at r.asks r.rest r.lines line r.session r.lines_used r.turns r.output e

same_turns : (b : Bool) (line : Line) (r : Reading) → ((feed_at b line r).turns ≡ r.turns) × ((feed_at b line r).output ≡ r.output) × ((feed_at b line r).rest ≡ r.rest)
same_turns true line r = (refl, refl, refl)
same_turns false line r = (refl, refl, refl)

asks_done : (r : Reading) → r.asks ≡ true → IsDone r
asks_done r e = ap (λ (b : Bool). is_done b r.rest) e

-- a line that was asked for is read where the cell stands
fed_by : (line : Line) (n : ℕ) (r : Reading) (b : Bool) → r.asks ≡ b → ((read (suc n) r).turns ≡ r.turns + suc n) → ((read n (step r)).turns ≡ (step r).turns + n → read n (fed line (step r)) ≡ fed line (read n (step r))) → read (suc n) (fed line r) ≡ fed line (read (suc n) r)
unfolding read step
fed_by line n r true e f more =
    let same = ap (λ (s : Reading). s.turns) (stays (suc n) r (asks_done r e)) in absurd (omega arith)
fed_by line n r false e f more =
    let one = turn_counts r.asks r.rest r.lines r in
    let few = few_turns n (step r) in
    ap (read n) (sym (fed_step line r e)) ∙ more (omega arith)

pub fed_full : (line : Line) (n : ℕ) (r : Reading) → (read n r).turns ≡ r.turns + n → read n (fed line r) ≡ fed line (read n r)
unfolding read
fed_full line zero r f = refl
fed_full line (suc n) r f = fed_by line n r r.asks refl f (fed_full line n (step r))

-- it goes on from where it stood without the line
abbrev GoesOn : Line → ℕ → Reading → Type 0
GoesOn line n r = (k : ℕ) × (read n (fed line r) ≡ read k (fed line (read n r)))

on_by : (line : Line) (n : ℕ) (r : Reading) (b : Bool) → r.asks ≡ b → GoesOn line n (step r) → GoesOn line (suc n) r
unfolding read step
on_by line n r true e more = (suc n, ap (λ (s : Reading). read (suc n) (fed line s)) (sym (stays (suc n) r (asks_done r e))))
on_by line n r false e more = (more.0, ap (read n) (sym (fed_step line r e)) ∙ more.1)

goes_on : (line : Line) (n : ℕ) (r : Reading) → GoesOn line n r
unfolding read
goes_on line zero r = (0, refl)
goes_on line (suc n) r = on_by line n r r.asks refl (goes_on line n (step r))

quiet_by : (line : Line) (n : ℕ) (r : Reading) (b : Bool) → r.asks ≡ b → (read (suc n) r).asks ≡ false → (read n (fed line (step r)) ≡ fed line (read n (step r))) → read (suc n) (fed line r) ≡ fed line (read (suc n) r)
unfolding read step
quiet_by line n r true e f more = absurd (false≢true (sym f ∙ ap (λ (s : Reading). s.asks) (stays (suc n) r (asks_done r e)) ∙ e))
quiet_by line n r false e f more = ap (read n) (sym (fed_step line r e)) ∙ more

fed_quiet : (line : Line) (n : ℕ) (r : Reading) → (read n r).asks ≡ false → read n (fed line r) ≡ fed line (read n r)
unfolding read
fed_quiet line zero r f = refl
fed_quiet line (suc n) r f = quiet_by line n r r.asks refl f (fed_quiet line n (step r) f)

same_fed : (last : Outcome) (b : Bool) (rest : List ℕ) (ls : List Line) (line : Line) (session used turns : ℕ) (output : List ℕ) → b ≡ false
    → let r : Reading = record { session = session; rest = rest; lines = ls; lines_used = used; output = output; turns = turns; asks = b } in meaning_at last (fed line r) ≡ meaning_at last r
same_fed last true rest ls line session used turns output e = absurd (false≢true (sym e))
same_fed last false rest ls line session used turns output e = refl

not_needed : (last : Outcome) (b : Bool) (rest : List ℕ) → outcome_at last b rest ≢ NeedsLine → b ≡ false
not_needed last true rest h = absurd (h refl)
not_needed last false rest h = refl

answered : (b : Bool) (line : Line) (r : Reading) → r.asks ≡ b → (feed_at b line r).asks ≡ false
answered true line r e = refl
answered false line r e = e

runs_fed : (last : Outcome) → IsLast last → (session : ℕ) (text : List ℕ) (lines : List Line) (line : Line) → IsFed (λ n. meaning_at last (read n (opened session text lines))) (λ n. meaning_at last (read n (opened session text (lines ++ line ∷ []))))
runs_fed last h session text lines line =
    let r = opened session text lines in record {
      same = λ n e.
          let q = not_needed last _ _ e in
          let s = read n r in
          ap (meaning_at last) (fed_quiet line n r q) ∙ same_fed last s.asks s.rest s.lines line s.session s.lines_used s.turns s.output q;
      onward = λ n.
          let on = goes_on line n r in
          let s = same_turns (read n r).asks line (read n r) in
          let few = few_turns on.0 (fed line (read n r)) in
          let e = ap (λ (s : Reading). s.turns) on.1 in
          omega arith;
      output = λ n.
          let on = goes_on line n r in
          let s = same_turns (read n r).asks line (read n r) in
          let more = output_on on.0 (fed line (read n r)) in
          (more.0, ap (λ (xs : List ℕ). xs ++ more.0) (sym s.1) ∙ more.1 ∙ ap (λ (s : Reading). s.output) (sym on.1));
      freed = λ n e t.
          let full = fed_full line n r (omega arith) in
          not_asked last h _ _ (ap (λ (s : Reading). s.asks) full ∙ answered (read n r).asks line (read n r) refl);
    }

ends_last : (b : Bool) → IsLast (if b then Trapped (record { number = 2; «module» = []; line = 1 }) else Ended)
ends_last true = record { goes = λ grows e. cc; told = λ e. cc; read = λ e. cc }
ends_last false = record { goes = λ grows e. cc; told = λ e. cc; read = λ e. cc }

pub end_last : (text : List ℕ) → IsLast (end_of text)
end_last text = ends_last (begins_with 33 text)

pub run_lawful : (session : ℕ) (text : List ℕ) (lines : List Line) → IsLawful (runs session text lines)
run_lawful session text lines = runs_lawful (end_of text) (end_last text) session text lines

-- Cells that don't run.

standing_lawful : (session : ℕ) (refusal : Refusal) → IsLawful (λ n. standing session (refused_outcome refusal))
standing_lawful session (Compile fault) = record {
  few = λ n. omega arith;
  settled = λ n. refl;
  onward = λ n m le. omega arith;
  output = λ n m le. ([], refl);
  silent = refl;
  unasked = λ e. cc;
  stopped = λ n grows e. cc;
  last = λ n m le e. refl;
  unread = λ n e m. refl;
}
standing_lawful session (Link fault) = record {
  few = λ n. omega arith;
  settled = λ n. refl;
  onward = λ n m le. omega arith;
  output = λ n m le. ([], refl);
  silent = refl;
  unasked = λ e. cc;
  stopped = λ n grows e. cc;
  last = λ n m le e. refl;
  unread = λ n e m. refl;
}

standing_fed : (session : ℕ) (refusal : Refusal) → IsFed (λ n. standing session (refused_outcome refusal)) (λ n. standing session (refused_outcome refusal))
standing_fed session (Compile fault) = record { same = λ n e. refl; onward = λ n. omega arith; output = λ n. ([], refl); freed = λ n e t f. cc }
standing_fed session (Link fault) = record { same = λ n e. refl; onward = λ n. omega arith; output = λ n. ([], refl); freed = λ n e t f. cc }

-- Any cell.

abbrev told : Bool → Bool → ℕ → List ℕ → List Line → ℕ → Meaning ℕ
told broken missing session text lines n =
    if broken then standing session Unreadable else (if missing then standing session (Unlinked no_module) else runs session text lines n)

lawful_by : (broken missing : Bool) (session : ℕ) (text : List ℕ) (lines : List Line) → IsLawful (told broken missing session text lines)
lawful_by true missing session text lines = standing_lawful session (Compile (record { number = 5; line = 1; column = 1; at_end = false }))
lawful_by false true session text lines = standing_lawful session (Link no_module)
lawful_by false false session text lines = run_lawful session text lines

fed_cell : (broken missing : Bool) (session : ℕ) (text : List ℕ) (lines : List Line) (line : Line) → IsFed (told broken missing session text lines) (told broken missing session text (lines ++ line ∷ []))
fed_cell true missing session text lines line = standing_fed session (Compile (record { number = 5; line = 1; column = 1; at_end = false }))
fed_cell false true session text lines line = standing_fed session (Link no_module)
fed_cell false false session text lines line = runs_fed (end_of text) (end_last text) session text lines line

stands_for : (session : ℕ) (text : List ℕ) (refusal : Refusal) → IsRefused session text refusal → (lines : List Line) (n : ℕ) → cell_of session text lines n ≡ standing session (refused_outcome refusal)
stands_for session text (Compile fault) h lines n = rw h.0 refl
stands_for session text (Link fault) h lines n = rw (h.0, h.1, h.2, h.3) refl

pub texts_language : IsLanguage spoken_texts
texts_language = record {
  lawful = λ session text lines. lawful_by (begins_with 35 text) (begins_with 64 text && session == 0) session text lines;
  fed = λ session text lines line. fed_cell (begins_with 35 text) (begins_with 64 text && session == 0) session text lines line;
  stands = stands_for;
}
