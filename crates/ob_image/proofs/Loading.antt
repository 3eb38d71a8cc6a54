-- The store when a module is loaded.
use Rattle.std.proofs.Common.{◌≡◌, zero, suc, Bool, true, false, List, [], ◌∷◌, length, if◌then◌else◌, refl, sym, ap, ◌∙◌, subst}
use Rattle.std.specs.Str.{bytes_eq}
use Rattle.ob_mean.specs.Programs.{opening_store}
use Rattle.ob_mean.specs.Shapes.{opening_row}
use Rattle.ob_mean.specs.Values.{Beside, shape, image}
use Rattle.ob_session.specs.Session.{Module, name_of, place_of, with_module, with_variables, program_of}
use Rattle.ob_gen.proofs.machine.Store.{IsRow, row-shape, shape-row}
use Rattle.ob_image.specs.Stores.{store_of, loaded_cells, EachLoadsCells}
use Rattle.ob_image.proofs.OpeningStore.{rows, opening-rows, rows-row}
use Rattle.ob_image.proofs.Refilled.{shape-refilled, image-refilled, refilled_only, many_cells}
use Rattle.ob_image.proofs.Variables.{shape-with_variables, cells_with, image-with_variables, cells-with, with-first, with-behind}

module _ (m : Module) where
  abbrev Loaded : List Module → Type 0
  Loaded ms = with_variables (rows ms) (place_of ms (name_of m)) (opening_row m.tree.variables) ≡ rows (with_module ms m)

  loaded_by : (x : Module) (ms : List Module) → Loaded ms → (b : Bool) → with_variables (rows (x ∷ ms)) (if b then zero else suc (place_of ms (name_of m))) (opening_row m.tree.variables) ≡ rows (if b then m ∷ ms else x ∷ with_module ms m)
  loaded_by x ms h true = with-first (opening_row x.tree.variables) (rows ms) (opening_row m.tree.variables)
  loaded_by x ms h false =
      with-behind (opening_row x.tree.variables) (rows ms) (opening_row m.tree.variables) (place_of ms (name_of m))
      ∙ ap (Beside (opening_row x.tree.variables)) h

  loaded_rows : (ms : List Module) → Loaded ms
  loaded_rows [] = refl
  loaded_rows (x ∷ ms) = loaded_by x ms (loaded_rows ms) (bytes_eq (name_of x) (name_of m))

pub each_loads_cells : EachLoadsCells
each_loads_cells modules m cells fit =
    let old = opening_store (program_of modules) in
    let new = opening_store (program_of (with_module modules m)) in
    let place = place_of modules (name_of m) in
    let own = opening_row m.tree.variables in
    let s = store_of modules cells in
    let same : shape s ≡ shape old = shape-refilled old cells in
    let row : IsRow s = row-shape s (subst IsRow (sym (same ∙ ap shape (opening-rows modules))) (shape-row (rows modules) (rows-row modules))) in
    let shapes : shape (with_variables s place own) ≡ shape new =
    shape-with_variables s own place
    ∙ ap (λ v. with_variables v place (shape own)) same
    ∙ sym (shape-with_variables old own place)
    ∙ ap (λ v. shape (with_variables v place own)) (opening-rows modules)
    ∙ ap shape (loaded_rows m modules ∙ sym (opening-rows (with_module modules m))) in
    let there : image (with_variables s place own) ≡ loaded_cells modules m cells =
    image-with_variables s own place row
    ∙ cells-with s old own place (image s) same
    ∙ ap (cells_with old place own) (image-refilled old cells fit) in
    record {
      fits = sym (ap length there) ∙ many_cells new (with_variables s place own) shapes;
      store = refilled_only new (with_variables s place own) (loaded_cells modules m cells) shapes there;
    }
