-- To be believed.
-- A notebook that is put: where the recorder of a session keeps its own, the recorder is given it, and saves.
use Rattle.std.specs.Prelude.{◌≡◌, ◌⊎◌, ℕ, Bool, true, false, List, Option, Some, None, Result, Ok, Err, slice_get}
use Rattle.nb_doc.specs.declared.notebook.Notebook.{Notebook}
use Rattle.nb_doc.specs.Writing.{notebook_text}
use Rattle.nb_record.specs.Book.{Put}
use Rattle.nb_record.specs.State.{IsTold, Saves}
use Rattle.js_shelf.specs.declared.item.Item.TheVariants.{File}
use Rattle.js_shelf.specs.declared.item.ShelfRefusal.{ShelfRefusal}
use Rattle.js_shelf.specs.declared.item.ShelfRefusal.TheVariants.{Exists, Memory}
use Rattle.js_shelf.specs.Shelves.{Contents, Tells, HasCause, Puts}
use Rattle.js_tables.specs.declared.tables.Kernel.{Kernel}
use Rattle.js_tables.specs.declared.tables.Recording.{Recording}
use Rattle.js_tables.specs.Sessions.{find_by_path}
use Rattle.js_tables.specs.Tables.{Rows}
use Rattle.js_follow.specs.Changing.{Compares}
use Rattle.js_follow.specs.Following.{place_of, moved, saved, with_recording, Stays}

abbrev pub kernel_recorder : Option Kernel → Rows → Option ℕ
kernel_recorder None r = None
kernel_recorder (Some k) r = place_of k.id r

-- where the recorder of the session at a path stands
abbrev pub recorder_at : List ℕ → Rows → Option ℕ
recorder_at path r = kernel_recorder (find_by_path path r.kernels) r

-- A recorder was given a notebook that was put. A save is due.
pub record HasPut (n : Notebook) (old new : Recording) : Type 0 where
  pub kernel : new.kernel ≡ old.kernel
  pub path : new.recorder.path ≡ old.recorder.path
  pub pages : IsTold (Put n) old.recorder.pages new.recorder.pages
  pub due : new.due ≡ true
  pub known : new.known ≡ old.known
  pub tried : new.tried ≡ old.tried

-- of a shelf: what it tells and how often its device failed, before and after
module _ (c d : Option Contents) (f g : ℕ) where
  -- the file of a notebook is put
  abbrev pub PutsFile : List ℕ → Notebook → Result Unit ShelfRefusal → Type 0
  PutsFile path n result = Tells c d (Puts path (File (notebook_text n)) result) × HasCause f g result

  -- a recorder that has gone to this path was given the notebook, and saves it; a refused save is due
  abbrev pub SavesPut : List ℕ → Notebook → Result Unit ShelfRefusal → Recording → Recording → Type 0
  SavesPut path n result x z =
      (y : Recording) × HasPut n (moved path x) y × (z ≡ saved result y) × Tells c d (Saves y.recorder result) × HasCause f g result

  -- or there was no memory for the notebook, and nothing has changed
  abbrev pub TakesPut : List ℕ → Notebook → Result Unit ShelfRefusal → Recording → Recording → Type 0
  TakesPut path n result x z = ((result ≡ Err Memory) × (z ≡ x) × Stays c d f g) ⊎ SavesPut path n result x z

  -- Where somebody else changed the file, the put is refused, and a save is due, which takes their change. Where that could not be
  -- told, nothing has changed.
  abbrev pub GivesAfter : Result Bool ShelfRefusal → List ℕ → Notebook → Result Unit ShelfRefusal → Recording → Recording → Type 0
  GivesAfter (Ok true) path n result x z = TakesPut path n result x z
  GivesAfter (Ok false) path n result x z = (result ≡ Err Exists) × (z ≡ record x { due = true }) × Stays c d f g
  GivesAfter (Err refusal) path n result x z = (result ≡ Err refusal) × (z ≡ x) × Stays c d f g

module _ (c d : Option Contents) (f g : ℕ) where
  -- a recorder compares the file at this path with what it knows, and is given the notebook
  unfoldable pub GivesTo : List ℕ → Notebook → Result Unit ShelfRefusal → Recording → Recording → Type 0
  GivesTo path n result x z =
      (unchanged : Result Bool ShelfRefusal) × (e : Option Contents) × (h : ℕ)
      × Compares c e f h path unchanged x × GivesAfter e d h g unchanged path n result x z

  abbrev pub PutsBookBy : Option ℕ → List ℕ → Notebook → Result Unit ShelfRefusal → Rows → Rows → Type 0
  PutsBookBy None path n result r s = (s ≡ r) × PutsFile c d f g path n result
  PutsBookBy (Some place) path n result r s =
      (x : Recording) × (z : Recording) × (slice_get r.recordings place ≡ Some x) × GivesTo path n result x z
      × (s ≡ with_recording place z r)

  -- a notebook is put at a path: the recorder there is given it, and saves, or else its file is put
  abbrev pub PutsBook : List ℕ → Notebook → Result Unit ShelfRefusal → Rows → Rows → Type 0
  PutsBook path n result r s = PutsBookBy (recorder_at path r) path n result r s
