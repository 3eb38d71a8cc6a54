-- The first fault of a call.
use Rattle.std.proofs.Common.{◌≡◌, ℕ, Bool, true, false, not, cond, List, Option, Some, None, refl, sym, ap, ◌∙◌}
use Rattle.std.specs.Prelude.{◌&&◌, is_some}
use Rattle.js_shelf.specs.declared.item.Item.{Item}
use Rattle.js_shelf.specs.declared.item.Item.TheVariants.{File, Folder}
use Rattle.js_shelf.specs.declared.item.ShelfRefusal.{ShelfRefusal}
use Rattle.js_shelf.specs.declared.item.ShelfRefusal.TheVariants.{Missing, Exists, BadPath}
use Rattle.js_shelf.specs.Paths.{is_path, is_root, parent_of}
use Rattle.js_shelf.specs.Shelves.{Contents, is_folder, is_free_for, is_below, fault_below, put_fault, delete_fault, rename_fault}

-- a good path below the root
abbrev pub is_good : List ℕ → Bool
is_good path = is_path path && not (is_root path)

fault_below_good : (path : List ℕ) (fault : Option ShelfRefusal) → true ≡ is_good path → fault_below path fault ≡ fault
fault_below_good path fault good = ap (λ b. cond b fault (Some BadPath)) (sym good)

pub put_none : (m : Contents) (path : List ℕ) (item : Item) → true ≡ is_good path → true ≡ is_folder (m (parent_of path))
    → true ≡ is_free_for item (m path) → put_fault m path item ≡ None
put_none m path item good there free =
    fault_below_good path _ good
    ∙ ap (λ b. cond b (cond (is_free_for item (m path)) None (Some Exists)) (Some Missing)) (sym there)
    ∙ ap (λ b. cond b None (Some Exists)) (sym free)

pub delete_none : (m : Contents) (path : List ℕ) → true ≡ is_good path → true ≡ is_some (m path) → delete_fault m path ≡ None
delete_none m path good there = fault_below_good path _ good ∙ ap (λ b. cond b None (Some Missing)) (sym there)

pub rename_is : (m : Contents) (from to : List ℕ) (into movable taken : Bool) → true ≡ is_good from → true ≡ is_good to
    → into ≡ (is_folder (m from) && is_below from to) → movable ≡ (is_some (m from) && is_folder (m (parent_of to))) → taken ≡ is_some (m to)
    → rename_fault m from to ≡ cond into (Some BadPath) (cond movable (cond taken (Some Exists) None) (Some Missing))
rename_is m from to into movable taken good_from good_to is_into is_movable is_taken =
    fault_below_good from _ good_from ∙ fault_below_good to _ good_to
    ∙ (λ i. cond (sym is_into i) (Some BadPath) (cond (sym is_movable i) (cond (sym is_taken i) (Some Exists) None) (Some Missing)))

folder_is : (x : Option Item) → true ≡ is_folder x → x ≡ Some Folder
folder_is (Some Folder) is = refl
folder_is (Some (File bytes)) is = absurd (cc is)
folder_is None is = absurd (cc is)

-- a folder with something in it
pub full_is : (x : Option Item) (has : Bool) → true ≡ (is_folder x && has) → (x ≡ Some Folder) × (true ≡ has)
full_is x has is =
    elim (is_folder x) as (λ b. is_folder x ≡ b → true ≡ (b && has) → (x ≡ Some Folder) × (true ≡ has)) [
      | true ↦ λ e is. (folder_is x (sym e), is)
      | false ↦ λ e is. absurd (cc is)
    ] refl is

-- no folder, or nothing in it
pub empty_is : (x : Option Item) (has : Bool) → false ≡ (is_folder x && has) → x ≡ Some Folder → false ≡ has
empty_is x has is folder = is ∙ ap (λ x. is_folder x && has) folder
