use Rattle.std.proofs.Common.{◌≡◌, ℕ, List}
use Rattle.std.specs.HashMap.{get_by_text}
use Rattle.js_names.proofs.Dates.{last_there, or_else}
use Rattle.js_names.proofs.moves.moved_dates.Given as goal

-- the last of the other dates that goes there, or else what went there so far
abbrev pub invariant-loop-path : goal.invariant-loop-path
invariant-loop-path l =
    (path : List ℕ) → or_else (last_there l.from l.to l.path-iterator path) (get_by_text l.moved path)
    ≡ last_there l.from l.to l.dates.entries path
