use Rattle.std.proofs.Common.{◌≡◌, length}
use Rattle.ob_types.specs.Spelling.{AreFirst}
use Rattle.ob_types.proofs.firsts.backs_of.Given as goal

abbrev pub invariant-loop-number : goal.invariant-loop-number
invariant-loop-number l = record {
  long : length l.backs.items ≡ l.number;
  firsts : AreFirst l.backs.items l.fields;
}
