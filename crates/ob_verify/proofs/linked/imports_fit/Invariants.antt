use Rattle.std.proofs.Common.{◌≡◌, ℕ, ◌<◌, Some}
use Rattle.std.specs.Prelude.{slice_get}
use Rattle.ob_code.specs.Linked.{Imports, runs_of}
use Rattle.ob_code.specs.declared.instr.Entries.{Entries}
use Rattle.ob_verify.proofs.linked.imports_fit.Given as goal

abbrev pub invariant-loop-import : goal.invariant-loop-import
invariant-loop-import l = (k : ℕ) (known : Entries) → k < l.import → slice_get l.client.code.imports.items k ≡ Some known → Imports l.modules (runs_of l.may_run) l.client k known
