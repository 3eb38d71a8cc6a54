use Rattle.ob_types.specs.Spelling.{AreKept, AreWithin}
use Rattle.ob_types.proofs.firsts.kept_of.Given as goal

abbrev pub invariant-loop-number : goal.invariant-loop-number
invariant-loop-number l = record {
  kept : AreKept l.number l.kept.items l.backs l.fields;
  within : AreWithin l.kept.items l.fields;
}
