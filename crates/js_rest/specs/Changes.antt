-- To be believed.
-- What carrying out a change does, and what it says.
use Rattle.std.specs.Prelude.{◌≡◌, ℕ, List, Option, Some, Result, Ok, Err}
use Rattle.js_http.specs.declared.response.ErrorStatus.{ErrorStatus}
use Rattle.js_http.specs.declared.response.ErrorStatus.TheVariants as status
use Rattle.js_shelf.specs.declared.item.ShelfRefusal.{ShelfRefusal}
use Rattle.js_shelf.specs.Shelves.{Contents, Same, Puts, Renames, Deletes}
use Rattle.js_tables.specs.declared.plan.Change.{Change}
use Rattle.js_tables.specs.declared.plan.Change.TheVariants as change
use Rattle.js_tables.specs.declared.plan.Command.{Command}
use Rattle.js_tables.specs.Plans.{status_of, of_shelf}
use Rattle.js_tables.specs.Tables.{Rows}
use Rattle.js_follow.specs.Putting.{PutsBook}
use Rattle.js_rest.specs.declared.untold.Untold.{Untold}
use Rattle.js_rest.specs.declared.untold.Untold.TheVariants.{Full, Memory}

-- what a call on the shelf says of the change
abbrev pub told : Result (Unit {0}) ShelfRefusal → Result (Unit {0}) ErrorStatus
told (Ok done) = Ok done
told (Err e) = Err (status_of (of_shelf e))

-- what a kernel's inbox says of a command
abbrev pub told_command : Result (Unit {0}) Untold → Result (Unit {0}) ErrorStatus
told_command (Ok done) = Ok done
told_command (Err Full) = Err status.ServiceUnavailable
told_command (Err Memory) = Err status.InternalServerError

module _ {L : Type 0} (begins : L → List ℕ → L → Type 0) (tells : L → List ℕ → Command → Result (Unit {0}) Untold → L → Type 0) where
  -- what trying a change does to the tables, to the kernels that run and to the shelf, and what it says
  abbrev pub Tries : Change → Result (Unit {0}) ErrorStatus → Rows → Rows → L → L → Contents → Contents → Type 0
  Tries change.Nothing e r s l k m n = (e ≡ Ok tt) × (s ≡ r) × (k ≡ l) × Same m n
  Tries (change.Put path item) e r s l k m n =
      (t : Result (Unit {0}) ShelfRefusal) × Puts path item t m n × (e ≡ told t) × (s ≡ r) × (k ≡ l)
  -- f and g are how often the device had failed before and after
  Tries (change.PutBook path book) e r s l k m n =
      (t : Result (Unit {0}) ShelfRefusal) × (f : ℕ) × (g : ℕ) × PutsBook (Some m) (Some n) f g path book t r s × (e ≡ told t) × (k ≡ l)
  Tries (change.Delete path) e r s l k m n =
      (t : Result (Unit {0}) ShelfRefusal) × Deletes path t m n × (e ≡ told t) × (s ≡ r) × (k ≡ l)
  Tries (change.Rename from to) e r s l k m n =
      (t : Result (Unit {0}) ShelfRefusal) × Renames from to t m n × (e ≡ told t) × (s ≡ r) × (k ≡ l)
  Tries (change.Begin id) (Ok done) r s l k m n = begins l id k × (s ≡ r) × Same m n
  Tries (change.Begin id) (Err e) r s l k m n = (e ≡ status.InternalServerError) × (s ≡ r) × (k ≡ l) × Same m n
  Tries (change.Tell id command) e r s l k m n =
      (t : Result (Unit {0}) Untold) × tells l id command t k × (e ≡ told_command t) × (s ≡ r) × Same m n

  -- the same without a word on the shelf
  abbrev pub TriesAlone : Change → Result (Unit {0}) ErrorStatus → Rows → Rows → L → L → Type 0
  TriesAlone change.Nothing e r s l k = (e ≡ Ok tt) × (s ≡ r) × (k ≡ l)
  TriesAlone (change.Put path item) e r s l k = (s ≡ r) × (k ≡ l)
  TriesAlone (change.PutBook path book) e r s l k =
      (t : Result (Unit {0}) ShelfRefusal) × (c : Option Contents) × (d : Option Contents) × (f : ℕ) × (g : ℕ)
      × PutsBook c d f g path book t r s × (e ≡ told t) × (k ≡ l)
  TriesAlone (change.Delete path) e r s l k = (s ≡ r) × (k ≡ l)
  TriesAlone (change.Rename from to) e r s l k = (s ≡ r) × (k ≡ l)
  TriesAlone (change.Begin id) (Ok done) r s l k = begins l id k × (s ≡ r)
  TriesAlone (change.Begin id) (Err e) r s l k = (e ≡ status.InternalServerError) × (s ≡ r) × (k ≡ l)
  TriesAlone (change.Tell id command) e r s l k =
      (t : Result (Unit {0}) Untold) × tells l id command t k × (e ≡ told_command t) × (s ≡ r)
