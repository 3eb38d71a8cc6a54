use Rattle.std.proofs.Common.{◌≡◌, ℕ, ◌<◌, Some, true}
use Rattle.std.specs.Prelude.{slice_get}
use Rattle.ob_code.specs.Linked.{Imports, runs_of}
use Rattle.ob_code.specs.declared.instr.Entries.{Entries}
use Rattle.ob_code.specs.declared.instr.LinkedModule.{LinkedModule}
use Rattle.ob_verify.proofs.linked.all_imports_fit.Given as goal

abbrev pub invariant-loop-home : goal.invariant-loop-home
invariant-loop-home l = (k : ℕ) (m : LinkedModule) → k < l.home → slice_get l.modules k ≡ Some m → runs_of l.may_run k ≡ true → (i : ℕ) (known : Entries) → slice_get m.code.imports.items i ≡ Some known → Imports l.modules (runs_of l.may_run) m i known
