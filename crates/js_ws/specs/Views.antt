-- To be believed.
-- What one more entry adds to what a connection is sent.
use Rattle.std.specs.Prelude.{Bool, ◌&&◌, ℕ, if◌then◌else◌, List, [], ◌∷◌}
use Rattle.jk_log.specs.View.{goes_to}
use Rattle.jk_log.specs.declared.entry.Entry.{Entry}

-- what it adds, by whether the Join stands before it
abbrev pub one : Bool → Entry → ℕ → List Entry
one joined e seat = if joined && goes_to seat e.to then e ∷ [] else []
