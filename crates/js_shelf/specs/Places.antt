-- To be believed.
-- Where a shelf in a folder of the system reaches.
use Rattle.std.specs.Prelude.{ℕ, Bool, not, ◌&&◌, List, [], ◌∷◌, ◌++◌}
use Rattle.std.specs.List.{list_any}
use Rattle.js_shelf.specs.Paths.{is_segment, is_slash}

-- a step down: a segment, so not `..`, and without a slash
abbrev pub is_step : List ℕ → Bool
is_step segment = is_segment segment && not (list_any is_slash segment)

-- where a path stands below a root: after a slash, and the root itself where it is empty
abbrev pub below_root : List ℕ → List ℕ → List ℕ
below_root root [] = root
below_root root (byte ∷ bytes) = root ++ 47 ∷ byte ∷ bytes
