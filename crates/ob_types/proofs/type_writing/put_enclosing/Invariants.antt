use Rattle.std.proofs.Common.{◌≡◌, ◌++◌, drop, string_bytes}
use Rattle.ob_types.specs.InterfaceText as spec
use Rattle.ob_types.proofs.type_writing.put_enclosing.Given as goal

abbrev pub invariant-loop-procedure : goal.invariant-loop-procedure
invariant-loop-procedure l = string_bytes l.output ++ spec.enclosing_text (drop l.procedure-index l.procedures) ≡ string_bytes l.initial.output ++ spec.enclosing_text l.procedures
