use Rattle.std.proofs.Common.{◌≡◌, ◌++◌, drop}
use Rattle.ob_types.specs.Spelling as spec
use Rattle.ob_types.proofs.spelling.put_letters.Given as goal

abbrev pub invariant-loop-c : goal.invariant-loop-c
invariant-loop-c l = l.output.items ++ spec.letters (drop l.c-index l.name) ≡ l.initial.output.items ++ spec.letters l.name
