-- What is told of a rule that is broken.
use Rattle.std.specs.Prelude.{false}
use Rattle.ob_base.specs.declared.fault.Refused.{Refused}
use Rattle.ob_base.specs.declared.fault.Refused.TheVariants as refused
use Rattle.ob_check_scope.specs.declared.rejected.Rejected.{Rejected}
use Rattle.ob_check_scope.specs.declared.rejected.Rejected.TheVariants as rejected
use Rattle.ob_check_scope.specs.RuleCodes.{code_of}

-- the fault of its code, at the same place
abbrev pub told : Rejected → Refused
told (rejected.Rule broken) = refused.Fault (record { code = code_of broken.code; line = broken.line; column = broken.column; at_end = false })
told rejected.Memory = refused.Memory
