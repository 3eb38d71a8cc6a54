-- What a machine answers where it stops.
use Rattle.std.specs.Prelude.{◌≡◌, ◌≢◌, ℕ, ◌+◌, ◌-◌, ◌<◌, ◌≤◌, Bool, true, false, not, [], length, drop, slice_index_or}
use Rattle.std.proofs.Common.{refl, sym, ◌∙◌, ap, subst, arith}
use Rattle.std.proofs.lemmas.Bool.{false≢true}
use Rattle.std.proofs.Math.ListN.{drop_of_length-le}
use Rattle.jk_language.specs.declared.outcome.Outcome.TheVariants as outcome
use Rattle.jk_language.specs.declared.outcome.Turned.{Turned}
use Rattle.jk_language.specs.declared.outcome.Turned.TheVariants.{Ended, Trapped, Stopped, NeedsLine, NoMemory}
use Rattle.jk_language.specs.Parts.{Meaning}
use Rattle.jk_language.specs.MachineState.{MachineState, meaning_of, here}
use Rattle.jk_language.specs.Runs.{HasTurned, IsGiven, OutcomeIs, tells_line, tells_end}
use Rattle.test_meaning.specs.Texts.{is_silent, outcome_at, end_of, meaning_at, opened, read}
use Rattle.test_meaning.proofs.Laws.{is_done, stays, read_more}
use Rattle.test_language.specs.declared.machine.Machine.{Machine}
use Rattle.test_language.specs.States.{machine_state, IsEnding}
use Rattle.test_language.proofs.Steps.{rest_here}

-- a machine that has gone on by i turns
abbrev HasGoneOn : MachineState ℕ → ℕ → Machine → Type 0
HasGoneOn old i m = machine_state m ≡ record old { turns = old.turns + i; asks = m.asks; over = m.over }

pub one_more : (old : MachineState ℕ) (i : ℕ) (m new : Machine) → HasGoneOn old i m → machine_state new ≡ record (machine_state m) { turns = m.turns + 1; asks = new.asks } → HasGoneOn old (i + 1) new
one_more old i m new e f =
    let turns : m.turns + 1 ≡ old.turns + (i + 1) = (let g = ap (λ (s : MachineState ℕ). s.turns) e in omega arith) in
    let over : m.over ≡ new.over = sym (ap (λ (s : MachineState ℕ). s.over) f) in
    f ∙ ap (λ (s : MachineState ℕ). record s { turns = m.turns + 1; asks = new.asks }) e
    ∙ ap (λ (k : ℕ). record old { turns = k; asks = new.asks; over = m.over }) turns ∙ ap (λ (b : Bool). record old { turns = old.turns + (i + 1); asks = new.asks; over = b }) over

-- where it stands
stops_at : (m : Machine) → (here (machine_state m)).outcome ≡ outcome_at (end_of m.text) m.asks (drop m.turns m.text)
stops_at m = rw (m.stands.asks, m.stands.rest) refl

-- it stays there where no turn is left to take
still : (m : Machine) (n : ℕ) → m.turns ≤ n → is_done m.asks (drop m.turns m.text) ≡ true → meaning_of (machine_state m) n ≡ here (machine_state m)
still m n le e =
    let r = opened m.start m.text m.lines.items in
    let sum : n ≡ m.turns + (n - m.turns) = omega arith in
    ap (meaning_at (end_of m.text)) (ap (λ (k : ℕ). read k r) sum ∙ read_more m.turns (n - m.turns) r ∙ stays (n - m.turns) (read m.turns r) (rw (m.stands.asks, m.stands.rest) e))

-- the answer at the turns that were given
told : (old new : MachineState ℕ) (m : Machine) (most given i : ℕ) (answer : Turned) → HasGoneOn old i m → IsGiven answer most given → OutcomeIs answer (outcome_at (end_of m.text) m.asks (drop m.turns m.text))
    → meaning_of (machine_state m) (old.turns + given) ≡ here (machine_state m) → new ≡ record (machine_state m) { asks = tells_line answer; over = tells_end answer } → HasTurned old most answer new
told old new m most given i answer e g o same f =
    let at : meaning_of old (old.turns + given) ≡ here (machine_state m) = sym (ap (λ (s : MachineState ℕ). meaning_of s (old.turns + given)) e) ∙ same in
    let turns : old.turns + i ≡ (meaning_of old (old.turns + given)).turns = sym (ap (λ (s : MachineState ℕ). s.turns) e) ∙ sym m.stands.turns ∙ sym (ap (λ (m : Meaning ℕ). m.turns) at) in (
      given,
      g,
      subst (OutcomeIs answer) (sym (ap (λ (m : Meaning ℕ). m.outcome) at ∙ stops_at m)) o,
      f ∙ ap (λ (s : MachineState ℕ). record s { asks = tells_line answer; over = tells_end answer }) e ∙ ap (λ (k : ℕ). record old { turns = k; asks = tells_line answer; over = tells_end answer }) turns,
    )

gone : (old : MachineState ℕ) (i : ℕ) (m : Machine) → HasGoneOn old i m → m.turns ≡ old.turns + i
gone old i m e = ap (λ (s : MachineState ℕ). s.turns) e

end_given : (answer : Turned) (most : ℕ) → tells_end answer ≡ true → IsGiven answer most most
end_given Ended most e = refl
end_given (Trapped cut) most e = refl
end_given Stopped most e = refl
end_given NeedsLine most e = refl
end_given NoMemory most e = absurd (false≢true e)

end_quiet : (answer : Turned) → tells_end answer ≡ true → tells_line answer ≡ false
end_quiet Ended e = refl
end_quiet (Trapped cut) e = refl
end_quiet Stopped e = refl
end_quiet NeedsLine e = absurd (false≢true e)
end_quiet NoMemory e = refl

-- at the end of its text
pub ends : (old new : MachineState ℕ) (m : Machine) (most i : ℕ) (answer : Turned) → HasGoneOn old i m → i ≤ most → m.asks ≡ false → m.turns ≡ length m.text → IsEnding m.text answer → new ≡ record (machine_state m) { over = true } → HasTurned old most answer new
ends old new m most i answer e le quiet at_end h f =
    let none : drop m.turns m.text ≡ [] = drop_of_length-le m.text (omega arith) in
    let on = gone old i m e in
    told old new m most most i answer e (end_given answer most h.last) (rw (quiet, none) h.outcome) (still m (old.turns + most) (omega arith) (rw (quiet, none) refl))
    (f ∙ rw (h.last, end_quiet answer h.last, quiet) refl)

-- where a line is asked for
pub asks_line : (old : MachineState ℕ) (m : Machine) (most i : ℕ) → HasGoneOn old i m → i ≤ most → m.asks ≡ true → m.over ≡ false → HasTurned old most NeedsLine (machine_state m)
asks_line old m most i e le asks on =
    let g = gone old i m e in
    told old (machine_state m) m most most i NeedsLine e refl (rw asks refl) (still m (old.turns + most) (omega arith) (rw asks refl)) (rw (asks, on) refl)

next_stops : (m : Machine) → m.asks ≡ false → m.turns < length m.text → outcome_at (end_of m.text) m.asks (drop m.turns m.text) ≡ outcome.Stopped (not (is_silent (slice_index_or m.text m.turns 0)))
next_stops m quiet lt = rw (quiet, rest_here m.text m.turns lt) refl

-- where all turns are used up
pub stops : (old : MachineState ℕ) (m : Machine) (most i : ℕ) → HasGoneOn old i m → i ≡ most → m.asks ≡ false → m.over ≡ false → m.turns ≢ length m.text → HasTurned old most Stopped (machine_state m)
stops old m most i e all quiet on more =
    let within = m.stands.within in
    let g = gone old i m e in
    told old (machine_state m) m most most i Stopped e refl (_, next_stops m quiet (omega arith)) (ap (meaning_of (machine_state m)) (let s : old.turns + most ≡ m.turns = omega arith in s)) (rw (quiet, on) refl)

-- where memory was refused
pub wants : (old new : MachineState ℕ) (m : Machine) (most i : ℕ) → HasGoneOn old i m → i < most → m.asks ≡ false → m.over ≡ false → m.turns < length m.text → is_silent (slice_index_or m.text m.turns 0) ≡ false → new ≡ machine_state m → HasTurned old most NoMemory new
wants old new m most i e lt quiet on more silent f =
    let g = gone old i m e in
    told old new m most i i NoMemory e lt (next_stops m quiet more ∙ ap (λ (b : Bool). outcome.Stopped (not b)) silent) (ap (meaning_of (machine_state m)) (sym g)) (f ∙ rw (quiet, on) refl)
