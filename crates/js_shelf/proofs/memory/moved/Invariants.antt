use Rattle.std.proofs.Common.{◌≡◌, ℕ, List}
use Rattle.std.specs.BTreeMap.{get_by_text}
use Rattle.js_shelf.specs.Memory.{moved_items, or_else}
use Rattle.js_shelf.proofs.memory.moved.Given as goal

-- the last item of the rest that goes there, or else what went there so far
abbrev pub invariant-loop-path : goal.invariant-loop-path
invariant-loop-path l =
    (path : List ℕ) → or_else (moved_items l.from l.to l.path-iterator path) (get_by_text l.moved path)
    ≡ moved_items l.from l.to l.items.entries path
