-- To be believed.
-- The kernels that are ending, and who waits for each.
use Rattle.std.specs.Prelude.{◌≡◌, ◌<◌, ℕ, Bool, List, [], ◌∷◌, ◌++◌, length, slice_index_or, slice_set}
use Rattle.std.specs.List.{list_any, remove}
use Rattle.std.specs.Str.{bytes_eq}
use Rattle.js_desk.specs.Rows.{Row}

module _ {W : Type 0} where
  -- a kernel is ending
  abbrev pub has : List ℕ → List (Row W) → Bool
  has kernel rows = list_any (λ e. bytes_eq e.kernel kernel) rows

  -- it is that of a row
  abbrev pub IsAt : List ℕ → ℕ → List (Row W) → Type 0
  IsAt kernel place rows = (e : Row W) × (place < length rows) × (e ≡ slice_index_or rows place e) × (e.kernel ≡ kernel)

  -- a kernel ends, and nobody waits for it
  abbrev pub Begins : List ℕ → List (Row W) → List (Row W) → Type 0
  Begins kernel old new = (e : Row W) × (e.kernel ≡ kernel) × (e.waiters ≡ []) × (new ≡ old ++ e ∷ [])

  -- one more waits for this kernel, after the others
  abbrev pub HasOneMore : W → Row W → Row W → Type 0
  HasOneMore w old new = (new.kernel ≡ old.kernel) × (new.waiters ≡ old.waiters ++ w ∷ [])

  -- nobody waits for it any more
  abbrev pub HasNobody : Row W → Row W → Type 0
  HasNobody old new = (new.kernel ≡ old.kernel) × (new.waiters ≡ [])

  -- one row becomes another so, and all others stay
  abbrev pub ChangesAt : ℕ → (Row W → Row W → Type 0) → List (Row W) → List (Row W) → Type 0
  ChangesAt place Change old new =
      (e : Row W) × (f : Row W) × (place < length old) × (e ≡ slice_index_or old place e) × Change e f × (new ≡ slice_set old place f)

  abbrev pub JoinsAt : ℕ → W → List (Row W) → List (Row W) → Type 0
  JoinsAt place w old new = ChangesAt place (HasOneMore w) old new

  -- one more waits for a kernel
  abbrev pub Joins : List ℕ → W → List (Row W) → List (Row W) → Type 0
  Joins kernel w old new = (place : ℕ) × IsAt kernel place old × JoinsAt place w old new

  -- these waited for the kernel in a row, and wait no more
  abbrev pub LetsGo : ℕ → List W → List (Row W) → List (Row W) → Type 0
  LetsGo place ws old new = ChangesAt place (λ e f. (ws ≡ e.waiters) × HasNobody e f) old new

  -- these waited for the kernel in a row, which is gone
  abbrev pub Ends : ℕ → List W → List (Row W) → List (Row W) → Type 0
  Ends place ws old new =
      (e : Row W) × (place < length old) × (e ≡ slice_index_or old place e) × (ws ≡ e.waiters) × (new ≡ remove old place)

  -- all who wait
  abbrev pub waiting : List (Row W) → List W
  waiting [] = []
  waiting (e ∷ es) = e.waiters ++ waiting es
