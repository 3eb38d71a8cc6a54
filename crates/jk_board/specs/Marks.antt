-- To be believed.
-- What the marks of followers hold back.
use Rattle.std.specs.Prelude.{ℕ, List, [], ◌∷◌, Option, None, Some, min}

-- the least number of those who are lent, or this one where it is less; one who is not lent has none
abbrev pub least_lent : ℕ → List (Option ℕ) → ℕ
least_lent least [] = least
least_lent least (None ∷ marks) = least_lent least marks
least_lent least (Some number ∷ marks) = least_lent (min least number) marks
