use Rattle.std.proofs.Common.{◌≡◌, ℕ, ◌<◌, Some, take}
use Rattle.std.specs.Prelude.{slice_get}
use Rattle.ob_code.specs.Linked.{all_cells}
use Rattle.ob_code.specs.declared.instr.LinkedModule.{LinkedModule}
use Rattle.ob_verify.proofs.linked.are_laid.Given as goal

-- the next module's cells begin after those of the modules so far, each of which begins after those before it
abbrev pub invariant-loop-place : goal.invariant-loop-place
invariant-loop-place l = (l.from ≡ all_cells (take l.place l.modules)) × ((k : ℕ) (m : LinkedModule) → k < l.place → slice_get l.modules k ≡ Some m → m.cells ≡ all_cells (take k l.modules))
