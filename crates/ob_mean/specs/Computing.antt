-- What the code of operators answers, against what the definitions say.
use Rattle.std.specs.Prelude.{◌≡◌, ℤ, Result, Ok, Err}
use Rattle.ob_mean.specs.declared.outcome.TrapKind.{TrapKind}
use Rattle.ob_mean.specs.Arithmetic.{Computed, Gives, Faults}

-- a number, or why there is none
abbrev pub Computes : Computed → Result ℤ TrapKind → Type 0
Computes computed (Ok v) = computed ≡ Gives v
Computes computed (Err kind) = computed ≡ Faults kind
