use Rattle.std.proofs.Common.{◌≡◌, ◌++◌, drop, string_bytes}
use Rattle.ob_types.specs.InterfaceText as spec
use Rattle.ob_types.proofs.type_writing.put_name.Given as goal

abbrev pub invariant-loop-c : goal.invariant-loop-c
invariant-loop-c l = string_bytes l.output ++ spec.name_text (drop l.c-index l.name) ≡ string_bytes l.initial.output ++ spec.name_text l.name
