use Rattle.std.proofs.Common.{◌≡◌, ◌++◌, length, take, drop}
use Rattle.ob_code.specs.Linked.{all_cells}
use Rattle.ob_image.specs.Compiled.{laid}
use Rattle.ob_image.proofs.laying.lay.Given as goal

-- the modules so far are laid, the others are as they were
abbrev pub invariant-loop-place : goal.invariant-loop-place
invariant-loop-place l = record {
  next : l.from ≡ all_cells (take l.place l.initial.code.items);
  so_far : l.code.items ≡ laid 0 (take l.place l.initial.code.items) ++ drop l.place l.initial.code.items;
  count : length l.code.items ≡ length l.initial.code.items;
}
