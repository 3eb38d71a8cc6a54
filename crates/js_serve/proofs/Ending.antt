-- When the row of a kernel may go.
use Rattle.std.proofs.Common.{◌≡◌, inl, inr, ℕ, Bool, true, false, List, Option, Some, None, refl, sym, ◌∙◌}
use Rattle.std.specs.Prelude.{◌&&◌, is_some}
use Rattle.js_kernels.specs.Readings.{IsRead}
use Rattle.js_kernels.specs.Told.{KernelState, place_in}
use Rattle.js_serve.specs.Ends.{MayGo}
use Rattle.js_tables.specs.Tables.{Rows, has_recorder}

-- where no kernel of an identifier is, nothing is read for a recorder of it
nothing_read : (id : List ℕ) (kernels : List KernelState) (found : Option ℕ) → place_in id kernels ≡ found → false ≡ is_some found → IsRead id kernels
nothing_read id kernels None at absent place k is there = absurd (cc (sym at ∙ is))
nothing_read id kernels (Some p) at absent place k is there = absurd (cc absent)

pub may_go : (id : List ℕ) (r : Rows) (kernels : List KernelState) (recorded there : Bool) → recorded ≡ has_recorder id r → there ≡ is_some (place_in id kernels)
    → recorded && there ≡ false → MayGo id r kernels
may_go id r kernels false there recorded is none = inl (sym recorded)
may_go id r kernels true false recorded is none = inr (nothing_read id kernels (place_in id kernels) refl is)
may_go id r kernels true true recorded is none = absurd (cc none)
