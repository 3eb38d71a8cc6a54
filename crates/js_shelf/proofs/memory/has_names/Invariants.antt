use Rattle.std.proofs.Common.{◌≡◌}
use Rattle.js_shelf.specs.Memory.{has_names}
use Rattle.js_shelf.proofs.memory.has_names.Given as goal

-- none so far
abbrev pub invariant-loop-path : goal.invariant-loop-path
invariant-loop-path l = has_names l.folder l.items.entries ≡ has_names l.folder l.path-iterator
