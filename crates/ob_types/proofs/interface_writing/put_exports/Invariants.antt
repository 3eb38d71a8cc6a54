use Rattle.std.proofs.Common.{◌≡◌, ◌++◌, drop, string_bytes}
use Rattle.ob_types.specs.InterfaceText as spec
use Rattle.ob_types.proofs.interface_writing.put_exports.Given as goal

abbrev pub invariant-loop-exported : goal.invariant-loop-exported
invariant-loop-exported l = string_bytes l.output ++ spec.exports_text (drop l.exported-index l.exports) ≡ string_bytes l.initial.output ++ spec.exports_text l.exports
