use Rattle.std.proofs.Common.{◌≡◌, ◌++◌, take, drop}
use Rattle.ob_mean.specs.Texts.{before_zero}
use Rattle.ob_check_scope.proofs.texts.before_zero.Given as goal

abbrev pub invariant-loop-c : goal.invariant-loop-c
invariant-loop-c l = (l.length ≡ l.c-index) × (before_zero l.text ≡ take l.c-index l.text ++ before_zero (drop l.c-index l.text))
