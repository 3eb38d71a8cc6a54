use Rattle.std.proofs.Common.{refl, sym, ◌∙◌, ap, get_or, List, ℕ, eq-eqb, string_bytes, true}
use Rattle.std.proofs.lemmas.Bool.{ne_eqb}
use Rattle.test_language.proofs.Steps.{HasStepped, waits, asks, shows, same_state}
use Rattle.test_language.proofs.machine.Machine.step.Goals as goal

asked : (c : goal.In_ok-reserve) → let m = c.args.self.now in HasStepped m.text m.start m.session m.turns true m.lines.items (string_bytes m.output) (string_bytes m.output)
asked c =
    let m = c.args.self.now in
    asks m.text m.start m.session m.turns (get_or c.as_slice.result.now m.turns 0) m.lines.items (string_bytes m.output) (rw c.requires.on at m.stands) c.requires.more
    (ap (λ (xs : List ℕ). get_or xs m.turns 0) c.as_slice.ensures) (eq-eqb _ 63 c.if-byte-eq63.true)

pub invariant_of-self-then-byte-eq63-clause-stands : goal.invariant_of-self-then-byte-eq63-clause-stands
invariant_of-self-then-byte-eq63-clause-stands c = rw c.reserve.ensures.items (asked c).stands

pub returns-then-byte-eq63-clause-ok : goal.returns-then-byte-eq63-clause-ok
returns-then-byte-eq63-clause-ok c =
    let m = c.args.self.now in
    same_state _ _ _ _ _ _ _ _ c.reserve.ensures.items
    (rw c.reserve.ensures.items (asks m.text m.start m.session m.turns (get_or c.as_slice.result.now m.turns 0) m.lines.items (string_bytes m.output) (rw c.requires.on at m.stands) c.requires.more
    (ap (λ (xs : List ℕ). get_or xs m.turns 0) c.as_slice.ensures) (eq-eqb _ 63 c.if-byte-eq63.true)).shown)

pub invariant_of-self-then-is_silent-clause-stands : goal.invariant_of-self-then-is_silent-clause-stands
invariant_of-self-then-is_silent-clause-stands c =
    let m = c.args.self.now in
    rw c.requires.on
    (waits m.text m.start m.session m.turns (get_or c.as_slice.result.now m.turns 0) m.lines.items (string_bytes m.output) (rw c.requires.on at m.stands) c.requires.more
    (ap (λ (xs : List ℕ). get_or xs m.turns 0) c.as_slice.ensures) (ne_eqb _ 63 c.if-byte-eq63.false) (sym c.is_silent.ensures ∙ c.if-is_silent.true)).stands

pub returns-then-is_silent-clause-ok : goal.returns-then-is_silent-clause-ok
returns-then-is_silent-clause-ok c =
    let m = c.args.self.now in
    same_state _ _ _ _ _ _ _ _ refl
    (waits m.text m.start m.session m.turns (get_or c.as_slice.result.now m.turns 0) m.lines.items (string_bytes m.output) (rw c.requires.on at m.stands) c.requires.more
    (ap (λ (xs : List ℕ). get_or xs m.turns 0) c.as_slice.ensures) (ne_eqb _ 63 c.if-byte-eq63.false) (sym c.is_silent.ensures ∙ c.if-is_silent.true)).shown

pub invariant_of-self-2-clause-stands : goal.invariant_of-self-2-clause-stands
invariant_of-self-2-clause-stands c =
    let m = c.args.self.now in
    rw (c.requires.on, c.in_ok-push.ensures.bytes, c.from.ensures, c.shown_by-shown.ensures)
    (shows m.text m.start m.session m.turns (get_or c.as_slice.result.now m.turns 0) m.lines.items (string_bytes m.output) (rw c.requires.on at m.stands) c.requires.more
    (ap (λ (xs : List ℕ). get_or xs m.turns 0) c.as_slice.ensures) (ne_eqb _ 63 c.if-byte-eq63.false) (sym c.is_silent.ensures ∙ c.if-is_silent.false)).stands

pub returns-clause-ok : goal.returns-clause-ok
returns-clause-ok c =
    let m = c.args.self.now in
    same_state _ _ _ _ _ _ _ _ refl
    (rw (c.in_ok-push.ensures.bytes, c.from.ensures, c.shown_by-shown.ensures)
    (shows m.text m.start m.session m.turns (get_or c.as_slice.result.now m.turns 0) m.lines.items (string_bytes m.output) (rw c.requires.on at m.stands) c.requires.more
    (ap (λ (xs : List ℕ). get_or xs m.turns 0) c.as_slice.ensures) (ne_eqb _ 63 c.if-byte-eq63.false) (sym c.is_silent.ensures ∙ c.if-is_silent.false)).shown)
