use Rattle.std.proofs.Common.{refl}
use Rattle.test_language.proofs.Steps.{begins, none_shown}
use Rattle.test_language.proofs.machine.Machine.new.Goals as goal

pub invariant_of-result-clause-stands : goal.invariant_of-result-clause-stands
invariant_of-result-clause-stands c = rw (c.new.ensures.items, c.new-2.ensures.bytes) (begins c.args.text c.args.session)

pub returns : goal.returns
returns c = record {
  goes = refl;
  lines = c.new.ensures.items;
  turns = refl;
  shown = rw c.new.ensures.items (none_shown c.args.text c.args.session _);
  quiet = refl;
  on = refl;
}
