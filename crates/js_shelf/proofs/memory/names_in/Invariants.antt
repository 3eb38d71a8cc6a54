use Rattle.std.proofs.Common.{◌≡◌, ◌++◌}
use Rattle.js_shelf.specs.Memory.{names_in}
use Rattle.js_shelf.proofs.memory.names_in.Given as goal

-- the names so far, and those of the rest
abbrev pub invariant-loop-path : goal.invariant-loop-path
invariant-loop-path l = l.names.items ++ names_in l.folder l.path-iterator ≡ names_in l.folder l.items.entries
