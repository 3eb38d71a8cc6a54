-- Ranges of labels, by their first labels.
use Rattle.std.specs.Prelude.{◌≡◌, ℤ, ◌≤ℤ◌, List, [], ◌∷◌, true, Option, Some, None, if◌then◌else◌}
use Rattle.std.specs.Ordering.{int_cmp, int_eq}
use Rattle.std.specs.BTreeMap.{BTreeMap, get}
use Rattle.ob_mean.specs.declared.statement.LabelRange.{LabelRange}
use Rattle.ob_check_stmt.specs.Labels.{is_free}

-- the last label of the range that begins with a label
abbrev pub last_from : List LabelRange → ℤ → Option ℤ
last_from [] z = None
last_from (r ∷ rs) z = if int_eq r.first z then Some r.last else last_from rs z

-- no range is empty, and no two meet
abbrev pub AreApart : List LabelRange → Type 0
AreApart [] = Unit {0}
AreApart (r ∷ rs) = (r.first ≤ℤ r.last) × (is_free rs r ≡ true) × AreApart rs

-- the map has the last label of each range
abbrev pub IsIndex : BTreeMap ℤ ℤ → List LabelRange → Type 0
IsIndex lasts ranges = (z : ℤ) → get int_cmp lasts z ≡ last_from ranges z
