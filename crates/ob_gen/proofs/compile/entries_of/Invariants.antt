use Rattle.std.proofs.Common.{◌≡◌, ◌++◌, drop, map}
use Rattle.ob_gen.specs.Generated.{heading_entry}
use Rattle.ob_gen.proofs.compile.entries_of.Given as goal

abbrev pub invariant-loop-heading : goal.invariant-loop-heading
invariant-loop-heading l = l.exported.items ++ map heading_entry (drop l.heading-index l.headings) ≡ map heading_entry l.headings
