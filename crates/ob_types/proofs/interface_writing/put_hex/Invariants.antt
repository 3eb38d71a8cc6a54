use Rattle.std.proofs.Common.{◌≡◌, ◌++◌, drop, string_bytes}
use Rattle.ob_types.specs.InterfaceText as spec
use Rattle.ob_types.proofs.interface_writing.put_hex.Given as goal

abbrev pub invariant-loop-c : goal.invariant-loop-c
invariant-loop-c l = string_bytes l.output ++ spec.hex_text (drop l.c-index l.characters) ≡ string_bytes l.initial.output ++ spec.hex_text l.characters
