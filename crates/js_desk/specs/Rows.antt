-- To be believed.
-- A kernel that is ending, as clauses see it: its identifier, and who waits for its end.
use Rattle.std.specs.Prelude.{ℕ, List}

pub record Row (W : Type 0) : Type 0 where
  pub kernel : List ℕ
  pub waiters : List W
