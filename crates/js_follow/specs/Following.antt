-- To be believed.
-- What becomes of entries that a kernel showed: its recorder is told them, and saves where a stored cell has ended.
use Rattle.std.specs.Prelude.{◌≡◌, ◌⊎◌, ◌||◌, ◌&&◌, ℕ, Bool, true, false, List, ◌++◌, Option, Some, None, Result, Ok, Err, slice_get, slice_set, position}
use Rattle.std.specs.List.{list_any}
use Rattle.std.specs.Str.{bytes_eq}
use Rattle.jk_log.specs.declared.entry.Entry.{Entry}
use Rattle.js_shelf.specs.declared.item.ShelfRefusal.{ShelfRefusal}
use Rattle.js_shelf.specs.declared.item.ShelfRefusal.TheVariants.{Device, Memory}
use Rattle.js_shelf.specs.Shelves.{Contents, Tells, HasCause}
use Rattle.nb_doc.specs.Writing.{notebook_text}
use Rattle.nb_record.specs.State.{AreTold, Saves, ends_stored}
use Rattle.js_tables.specs.declared.tables.Kernel.{Kernel}
use Rattle.js_tables.specs.declared.tables.Recording.{Recording}
use Rattle.js_tables.specs.declared.tables.Session.{Session}
use Rattle.js_tables.specs.Tables.{Rows, find_kernel, set_date}
use Rattle.js_follow.specs.Changing.{Looks}
use Rattle.js_follow.specs.declared.following.Followed.{Followed}

-- where the recorder of a kernel stands
abbrev pub place_of : List ℕ → Rows → Option ℕ
place_of kernel r = position (λ c. bytes_eq c.kernel kernel) r.recordings

abbrev pub with_recording : ℕ → Recording → Rows → Rows
with_recording place c r = record r { recordings = slice_set r.recordings place c }

-- whether a recorder of a kernel is still to be saved
abbrev pub is_due : List ℕ → Rows → Bool
is_due kernel r = list_any (λ c. c.due && bytes_eq c.kernel kernel) r.recordings

-- ---- the path of a recorder's file: that of its kernel's session

abbrev pub session_path : List ℕ → Option Session → List ℕ
session_path path None = path
session_path path (Some s) = s.path

abbrev pub kernel_path : List ℕ → Option Kernel → List ℕ
kernel_path path None = path
kernel_path path (Some k) = session_path path k.session

abbrev pub path_of : List Kernel → Recording → List ℕ
path_of ks c = kernel_path c.recorder.path (find_kernel c.kernel ks)

abbrev pub moved : List ℕ → Recording → Recording
moved path c = record c { recorder = record c.recorder { path = path } }

-- ---- telling

-- A recorder was told these entries. A save is due where one of them ends a stored cell, and where it was due before.
pub record HasTold (told : List Entry) (old new : Recording) : Type 0 where
  pub kernel : new.kernel ≡ old.kernel
  pub path : new.recorder.path ≡ old.recorder.path
  pub pages : AreTold told old.recorder.pages new.recorder.pages
  pub due : new.due ≡ (old.due || list_any ends_stored told)
  pub known : new.known ≡ old.known
  pub tried : new.tried ≡ old.tried

-- ---- saving

abbrev pub text_of : Recording → List ℕ
text_of c = notebook_text c.recorder.pages.notebook

-- After a save the recorder knows what its file holds. A refused one is due still; where the device failed, the file may hold it.
abbrev pub saved : Result Unit ShelfRefusal → Recording → Recording
saved (Ok done) c = record c { due = false; known = Some (text_of c); tried = None }
saved (Err Device) c = record c { tried = Some (text_of c) }
saved (Err e) c = c

-- whether a save was tried: not where memory was refused to it
abbrev pub was_tried : Result Unit ShelfRefusal → Bool
was_tried (Ok done) = true
was_tried (Err Memory) = false
was_tried (Err e) = true

-- after a save the file has this date
abbrev pub dated : Result Unit ShelfRefusal → List ℕ → List ℕ → Rows → Rows
dated (Ok done) path date r = set_date path date r
dated (Err e) path date r = r

-- of a shelf: what it tells and how often its device failed, before and after
module _ (c d : Option Contents) (f g : ℕ) where
  abbrev pub Stays : Type 0
  Stays = (d ≡ c) × (g ≡ f)

  -- the save of a recorder that has gone to this path
  abbrev pub SavesTo : List ℕ → Result Unit ShelfRefusal → Recording → Recording → Type 0
  SavesTo path result x y =
      (y ≡ saved result (moved path x)) × Tells c d (Saves (moved path x).recorder result) × HasCause f g result

  -- the save of a recorder that has looked at its file, unless that was refused
  abbrev pub SavesAfter : Result Unit ShelfRefusal → List ℕ → Result Unit ShelfRefusal → Recording → Recording → Type 0
  SavesAfter (Err refusal) path result y z = (result ≡ Err refusal) × (z ≡ y) × Stays
  SavesAfter (Ok done) path result y z = SavesTo path result y z

module _ (c d : Option Contents) (f g : ℕ) where
  -- a recorder looks at the file at this path, and saves there
  unfoldable pub LooksAndSaves : List ℕ → List ℕ → Result Unit ShelfRefusal → Recording → Recording → Type 0
  LooksAndSaves path date result x z =
      (looked : Result Unit ShelfRefusal) × (y : Recording) × (e : Option Contents) × (h : ℕ)
      × Looks c e f h path date looked x y × SavesAfter e d h g looked path result y z

  -- the recorder at a place does so at the path of its session
  abbrev pub SavesAt : Bool → List ℕ → ℕ → Recording → Rows → Rows → Type 0
  SavesAt tried date place x r s =
      (result : Result Unit ShelfRefusal) × (z : Recording) × LooksAndSaves (path_of r.kernels x) date result x z
      × (s ≡ dated result (path_of r.kernels x) date (with_recording place z r)) × (tried ≡ was_tried result)

  -- a save is tried; or there was no memory, and it is due still
  abbrev pub SavesDue : Bool → List ℕ → ℕ → Recording → Rows → Rows → Type 0
  SavesDue tried date place x r s = ((tried ≡ false) × (s ≡ r) × Stays c d f g) ⊎ SavesAt tried date place x r s

  -- where no save is due, there is none to be tried
  abbrev pub SavesIf : Bool → Bool → List ℕ → ℕ → Recording → Rows → Rows → Type 0
  SavesIf false tried date place x r s = (tried ≡ true) × (s ≡ r) × Stays c d f g
  SavesIf true tried date place x r s = SavesDue tried date place x r s

  -- the entries that were told and those that were not are all that were shown, in order
  abbrev pub FollowsAt : ℕ → List ℕ → List Entry → Followed → Rows → Rows → Type 0
  FollowsAt place date entries followed r s =
      (told : List Entry) × (told ++ followed.rest ≡ entries)
      × ((x : Recording) × (y : Recording) × (slice_get r.recordings place ≡ Some x) × HasTold told x y
      × SavesIf y.due followed.tried date place y (with_recording place y r) s)

  -- where the kernel has no recorder nothing changes
  abbrev pub FollowsBy : Option ℕ → List ℕ → List Entry → Option Followed → Rows → Rows → Type 0
  FollowsBy None date entries result r s = (result ≡ None) × (s ≡ r) × Stays c d f g
  FollowsBy (Some place) date entries result r s =
      (followed : Followed) × (result ≡ Some followed) × FollowsAt place date entries followed r s

  abbrev pub Follows : List ℕ → List ℕ → List Entry → Option Followed → Rows → Rows → Type 0
  Follows kernel date entries result r s = FollowsBy (place_of kernel r) date entries result r s
