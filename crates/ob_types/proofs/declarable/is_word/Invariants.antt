use Rattle.std.proofs.Common.{◌≡◌, drop}
use Rattle.ob_types.specs.Declarable as spec
use Rattle.ob_types.proofs.declarable.is_word.Given as goal

abbrev pub invariant-loop-c : goal.invariant-loop-c
invariant-loop-c l = spec.is_word l.name ≡ spec.is_word (drop l.c-index l.name)
