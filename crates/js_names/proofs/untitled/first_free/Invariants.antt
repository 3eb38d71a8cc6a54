use Rattle.std.proofs.Common.{◌≡◌, ◌-◌}
use Rattle.js_names.specs.Untitled.{free_from, first_free, name_at, is_taken}
use Rattle.js_names.proofs.untitled.first_free.Given as goal

abbrev pub invariant-loop-number : goal.invariant-loop-number
invariant-loop-number l =
    free_from (name_at l.kind l.ending) (is_taken l.folder l.names l.kernels) l.number (l.last - l.number) ≡ first_free l.kind l.ending l.folder l.names l.kernels
