use Rattle.std.proofs.Common.{◌⊎◌, ◌≡◌, ℕ, drop}
use Rattle.ob_types.specs.Spelling.{end_at, EndAlike, IsAmong}
use Rattle.ob_types.proofs.compatible.+same.Given as goal

abbrev pub invariant-same_kept-loop-number : goal.invariant-same_kept-loop-number
invariant-same_kept-loop-number l = (k : ℕ) → IsAmong k l.kept → (end_at l.left k ≡ end_at l.right k) ⊎ IsAmong k (drop l.number-index l.kept)

abbrev pub invariant-same_each-loop-i : goal.invariant-same_each-loop-i
invariant-same_each-loop-i l = EndAlike l.left l.right l.i
