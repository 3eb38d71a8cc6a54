use Rattle.std.proofs.Common.{◌≡◌, ◌++◌, drop, string_bytes}
use Rattle.ob_types.specs.InterfaceText as spec
use Rattle.ob_types.proofs.interface_writing.put_formals.Given as goal

abbrev pub invariant-loop-formal : goal.invariant-loop-formal
invariant-loop-formal l = string_bytes l.output ++ spec.formals_text (drop l.formal-index l.formals) ≡ string_bytes l.initial.output ++ spec.formals_text l.formals
