-- To be believed.
-- What stands in a recorder's file before it saves there: its own, or what somebody else made of it.
use Rattle.std.specs.Prelude.{◌≡◌, ◌==◌, ◌⊎◌, ◌||◌, ◌++◌, ℕ, nat_le, Bool, true, false, List, length, Option, Some, None, Result, Ok, Err, codes}
use Rattle.std.specs.Str.{bytes_eq}
use Rattle.nb_doc.specs.declared.fault.NbFault.{NbFault}
use Rattle.nb_doc.specs.declared.notebook.Notebook.{Notebook}
use Rattle.nb_doc.specs.Building.{empty_notebook}
use Rattle.nb_doc.specs.Reading.{notebook_at}
use Rattle.nb_record.specs.Book.{Put}
use Rattle.nb_record.specs.State.{IsTold}
use Rattle.js_shelf.specs.declared.item.Item.{Item}
use Rattle.js_shelf.specs.declared.item.Item.TheVariants.{File, Folder}
use Rattle.js_shelf.specs.declared.item.ItemKind.{ItemKind}
use Rattle.js_shelf.specs.declared.item.ItemKind.TheVariants as kinds
use Rattle.js_shelf.specs.declared.item.ShelfRefusal.{ShelfRefusal}
use Rattle.js_shelf.specs.declared.item.ShelfRefusal.TheVariants.{Missing, Memory}
use Rattle.js_shelf.specs.Shelves.{Contents, Tells, HasCause, Gets, Kinds, Renames}
use Rattle.js_tables.specs.declared.tables.Recording.{Recording}
use Rattle.js_follow.specs.Joining.{joint}

-- ---- whose it is

abbrev pub are : List ℕ → Option (List ℕ) → Bool
are bytes None = false
are bytes (Some other) = bytes_eq bytes other

-- the file holds what the recorder knows, or what it tried to save since
abbrev pub is_own : List ℕ → Recording → Bool
is_own bytes c = are bytes c.known || are bytes c.tried

-- a file of so many bytes may hold these
abbrev pub has_length : ℕ → Option (List ℕ) → Bool
has_length count None = false
has_length count (Some bytes) = count == length bytes

abbrev pub may_be_own : ℕ → Recording → Bool
may_be_own count c = has_length count c.known || has_length count c.tried

-- A file of at most 67,108,864 bytes is read, and one that may be the recorder's own.
abbrev pub is_read : ℕ → Recording → Bool
is_read count c = nat_le count 67108864 || may_be_own count c

-- the recorder knows what its file holds
abbrev pub knowing : List ℕ → Recording → Recording
knowing bytes c = record c { known = Some bytes; tried = None }

-- ---- the notebook that was known: an empty one where nothing stood there

abbrev pub or_empty : Result Notebook NbFault → Notebook
or_empty (Ok n) = n
or_empty (Err fault) = empty_notebook

abbrev pub notebook_known : Option (List ℕ) → Notebook
notebook_known None = empty_notebook
notebook_known (Some bytes) = or_empty (notebook_at bytes)

-- ---- somebody else's change

-- Their notebook was put, with what is newer in the recorder's own. The recorder knows now what its file holds.
pub record HasTaken (theirs : Notebook) (bytes : List ℕ) (old new : Recording) : Type 0 where
  pub kernel : new.kernel ≡ old.kernel
  pub path : new.recorder.path ≡ old.recorder.path
  pub pages : IsTold (Put (joint (notebook_known old.known) old.recorder.pages.notebook theirs)) old.recorder.pages new.recorder.pages
  pub due : new.due ≡ old.due
  pub known : new.known ≡ Some bytes
  pub tried : new.tried ≡ None

-- where a file goes that is no notebook: beside it, under a date
abbrev pub beside : List ℕ → List ℕ → List ℕ
beside path date = (path ++ codes ".") ++ date

-- where nothing stands at the path, the save makes the file anew
abbrev pub unless_missing : ShelfRefusal → Result Unit ShelfRefusal
unless_missing Missing = Ok tt
unless_missing refusal = Err refusal

-- of a shelf: what it tells and how often its device failed, before and after
module _ (c d : Option Contents) (f g : ℕ) where
  -- nothing was done
  abbrev pub Rests : Result Unit ShelfRefusal → Result Unit ShelfRefusal → Recording → Recording → Type 0
  Rests answer result x y = (result ≡ answer) × (y ≡ x) × (d ≡ c) × (g ≡ f)

  -- the file goes beside, so that the recorder may save where it stood
  abbrev pub GoesBeside : List ℕ → List ℕ → Result Unit ShelfRefusal → Recording → Recording → Type 0
  GoesBeside path date result x y = (y ≡ x) × Tells c d (Renames path (beside path date) result) × HasCause f g result

  -- Their notebook is taken. What is none goes beside.
  abbrev pub MeetsChange : Result Notebook NbFault → List ℕ → List ℕ → List ℕ → Result Unit ShelfRefusal → Recording → Recording → Type 0
  MeetsChange (Ok theirs) bytes path date result x y = (result ≡ Ok tt) × HasTaken theirs bytes x y × (d ≡ c) × (g ≡ f)
  MeetsChange (Err fault) bytes path date result x y = GoesBeside path date result x y

  -- its own, which it then knows; or somebody else's, unless there was no memory for it
  abbrev pub MeetsFile : Bool → List ℕ → List ℕ → List ℕ → Result Unit ShelfRefusal → Recording → Recording → Type 0
  MeetsFile true bytes path date result x y = Rests (Ok tt) result (knowing bytes x) y
  MeetsFile false bytes path date result x y =
      Rests (Err Memory) result x y ⊎ MeetsChange (notebook_at bytes) bytes path date result x y

  -- by what was found; where a folder stands at the path, the save is refused
  abbrev pub Meets : Result Item ShelfRefusal → List ℕ → List ℕ → Result Unit ShelfRefusal → Recording → Recording → Type 0
  Meets (Ok (File bytes)) path date result x y = MeetsFile (is_own bytes x) bytes path date result x y
  Meets (Ok Folder) path date result x y = Rests (Ok tt) result x y
  Meets (Err refusal) path date result x y = Rests (unless_missing refusal) result x y

module _ (c d : Option Contents) (f g : ℕ) where
  -- the file at a path was read, and what was found there was met
  abbrev pub ReadsAndMeets : List ℕ → List ℕ → Result Unit ShelfRefusal → Recording → Recording → Type 0
  ReadsAndMeets path date result x y =
      (found : Result Item ShelfRefusal) × (e : Option Contents) × (h : ℕ)
      × Tells c e (Gets path found) × HasCause f h found × Meets e d h g found path date result x y

  -- a file that is too long to be read goes beside
  abbrev pub MeetsCount : Bool → List ℕ → List ℕ → Result Unit ShelfRefusal → Recording → Recording → Type 0
  MeetsCount true path date result x y = ReadsAndMeets path date result x y
  MeetsCount false path date result x y = GoesBeside c d f g path date result x y

  abbrev pub MeetsKind : Result ItemKind ShelfRefusal → List ℕ → List ℕ → Result Unit ShelfRefusal → Recording → Recording → Type 0
  MeetsKind (Ok (kinds.File count)) path date result x y = MeetsCount (is_read count x) path date result x y
  MeetsKind (Ok kinds.Folder) path date result x y = Rests c d f g (Ok tt) result x y
  MeetsKind (Err refusal) path date result x y = Rests c d f g (unless_missing refusal) result x y

module _ (c d : Option Contents) (f g : ℕ) where
  -- what stands at a path was asked for, and met by its kind
  abbrev pub Looks : List ℕ → List ℕ → Result Unit ShelfRefusal → Recording → Recording → Type 0
  Looks path date result x y =
      (found : Result ItemKind ShelfRefusal) × (e : Option Contents) × (h : ℕ)
      × Tells c e (Kinds path found) × HasCause f h found × MeetsKind e d h g found path date result x y

-- ---- whether a put may take the place of what stands there

-- nothing, or its own; a folder refuses the put itself
abbrev pub or_free : ShelfRefusal → Result Bool ShelfRefusal
or_free Missing = Ok true
or_free refusal = Err refusal

abbrev pub compared : Result Item ShelfRefusal → Recording → Result Bool ShelfRefusal
compared (Ok (File bytes)) x = Ok (is_own bytes x)
compared (Ok Folder) x = Ok true
compared (Err refusal) x = or_free refusal

module _ (c d : Option Contents) (f g : ℕ) where
  abbrev pub Finds : Result Bool ShelfRefusal → Result Bool ShelfRefusal → Type 0
  Finds answer result = (result ≡ answer) × (d ≡ c) × (g ≡ f)

  -- only a file of a length that the recorder knows is read
  abbrev pub ComparesCount : Bool → List ℕ → Result Bool ShelfRefusal → Recording → Type 0
  ComparesCount true path result x =
      (found : Result Item ShelfRefusal) × Tells c d (Gets path found) × HasCause f g found × (result ≡ compared found x)
  ComparesCount false path result x = Finds (Ok false) result

  abbrev pub ComparesKind : Result ItemKind ShelfRefusal → List ℕ → Result Bool ShelfRefusal → Recording → Type 0
  ComparesKind (Ok (kinds.File count)) path result x = ComparesCount (may_be_own count x) path result x
  ComparesKind (Ok kinds.Folder) path result x = Finds (Ok true) result
  ComparesKind (Err refusal) path result x = Finds (or_free refusal) result

module _ (c d : Option Contents) (f g : ℕ) where
  -- whether nobody else changed what stands at a path
  abbrev pub Compares : List ℕ → Result Bool ShelfRefusal → Recording → Type 0
  Compares path result x =
      (found : Result ItemKind ShelfRefusal) × (e : Option Contents) × (h : ℕ)
      × Tells c e (Kinds path found) × HasCause f h found × ComparesKind e d h g found path result x
