-- To be believed.
-- Which kernel may go, with its recorder.
use Rattle.std.specs.Prelude.{◌≡◌, ◌⊎◌, ℕ, false, List}
use Rattle.js_kernels.specs.Readings.{IsRead}
use Rattle.js_kernels.specs.Told.{KernelState}
use Rattle.js_tables.specs.Tables.{Rows, has_recorder}

-- It has no recorder; or nothing is read for that any more, or all was told to it that the kernel will ever show, and then its save was tried, or none was due
abbrev pub MayGo : List ℕ → Rows → List KernelState → Type 0
MayGo id r kernels = (has_recorder id r ≡ false) ⊎ IsRead id kernels
