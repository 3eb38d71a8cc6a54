-- The places of a home.
use Rattle.std.specs.Prelude.{◌≡◌, ◌<◌, ◌==◌, ℕ, List, ◌++◌, map, length, All}
use Rattle.std.specs.List.{count_by}
use Rattle.atomic_table.specs.Seated.{TableId}
use Rattle.jk_queues.specs.Ends.{seat_inbox}
use Rattle.js_lend.specs.Ends.{lent_to}
use Rattle.js_lend.specs.declared.loan.Loan.{Loan}
use Rattle.js_home.specs.declared.free.Free.{Free}

-- L is the language, and S, T, M are its sessions, trees and machines
module _ {L S T M : Type 0} where
  abbrev pub place_of : Free L S T M → ℕ
  place_of f = f.seat.place

  -- how many of these have this place
  abbrev pub times : ℕ → List (Free L S T M) → ℕ
  times p fs = count_by (λ f. place_of f == p) fs

  -- they are 1 to 7, each once
  abbrev pub AreOneToSeven : List (Free L S T M) → Type 0
  AreOneToSeven fs = (length fs ≡ 7) × ((p : ℕ) → 0 < p → p < 8 → times p fs ≡ 1)

  -- their seats are of this inbox
  abbrev pub AreOf : TableId → List (Free L S T M) → Type 0
  AreOf inbox fs = All (λ f. seat_inbox f.seat ≡ inbox) fs

  -- the places that are free, and those that are lent, as they were then
  abbrev pub all_of : List (Free L S T M) → List (Loan (Free L S T M)) → List (Free L S T M)
  all_of free lent = free ++ map lent_to lent
