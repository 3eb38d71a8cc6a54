use Rattle.std.proofs.Common.{◌≡◌, ℕ, List, take}
use Rattle.std.specs.Prelude.{◌||◌}
use Rattle.std.specs.HashSet.{contains_text}
use Rattle.js_names.specs.Untitled.{is_among}
use Rattle.js_names.proofs.untitled.take_names.Given as goal

abbrev pub invariant-loop-name : goal.invariant-loop-name
invariant-loop-name l =
    (other : List ℕ) → contains_text l.taken other ≡ (contains_text l.fn.taken other || is_among (take l.name-index l.names) other)
