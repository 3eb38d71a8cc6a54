use Rattle.std.proofs.Common.{string_bytes}
use Rattle.test_language.proofs.Steps.{keeps, same_shown, same_state}
use Rattle.test_language.proofs.machine.Machine.keep_line.Goals as goal

pub invariant_of-self-clause-stands : goal.invariant_of-self-clause-stands
invariant_of-self-clause-stands c =
    let m = c.args.self.now in
    rw (c.in-Ok.ensures.items, c.first_of-session.ensures)
    (keeps m.text m.start m.session m.turns m.lines.items (string_bytes m.output) c.args.line (rw c.requires at m.stands))

pub returns : goal.returns
returns c =
    let m = c.args.self.now in
    same_state _ _ _ _ _ _ _ _ c.in-Ok.ensures.items
    (rw c.in-Ok.ensures.items (same_shown m.text m.start m.session m.turns m.lines.items (string_bytes m.output) c.args.line (rw c.requires at m.stands)))
