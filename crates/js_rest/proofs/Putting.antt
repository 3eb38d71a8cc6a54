-- A put of a notebook, seen as a change that was tried.
use Rattle.std.proofs.Common.{◌≡◌, inl, inr, ℕ, Bool, true, false, List, Option, Some, None, Result, Ok, Err}
use Rattle.nb_doc.specs.declared.notebook.Notebook.{Notebook}
use Rattle.js_http.specs.declared.response.ErrorStatus.{ErrorStatus}
use Rattle.js_shelf.specs.declared.item.ItemKind.{ItemKind}
use Rattle.js_shelf.specs.declared.item.ItemKind.TheVariants as kinds
use Rattle.js_shelf.specs.declared.item.ShelfRefusal.{ShelfRefusal}
use Rattle.js_shelf.specs.Shelves.{Contents, Tells, Kinds}
use Rattle.js_tables.specs.declared.plan.Change.TheVariants as change
use Rattle.js_tables.specs.declared.plan.Command.{Command}
use Rattle.js_tables.specs.declared.tables.Recording.{Recording}
use Rattle.js_tables.specs.Tables.{Rows}
use Rattle.js_follow.specs.Changing.{may_be_own, ComparesCount, ComparesKind, Compares}
use Rattle.js_follow.specs.Putting.{GivesAfter, GivesTo, PutsBookBy, PutsBook, recorder_at}
use Rattle.js_rest.specs.declared.untold.Untold.{Untold}
use Rattle.js_rest.specs.Changes.{Tries, told}

clash : (m : Contents) → None ≡ Some m → ⊥
clash m e = cc

-- ---- a shelf that tells goes on to tell

count_tells : (m : Contents) (f g : ℕ) (b : Bool) (path : List ℕ) (u : Result Bool ShelfRefusal) (x : Recording) → ComparesCount (Some m) None f g b path u x → ⊥
count_tells m f g true path u x h = h.1
count_tells m f g false path u x h = clash m h.1

kind_tells : (m : Contents) (f g : ℕ) (found : Result ItemKind ShelfRefusal) (path : List ℕ) (u : Result Bool ShelfRefusal) (x : Recording) → ComparesKind (Some m) None f g found path u x → ⊥
kind_tells m f g (Ok (kinds.File count)) path u x h = count_tells m f g (may_be_own count x) path u x h
kind_tells m f g (Ok kinds.Folder) path u x h = clash m h.1
kind_tells m f g (Err refusal) path u x h = clash m h.1

compares_tells : (m : Contents) (f g : ℕ) (path : List ℕ) (u : Result Bool ShelfRefusal) (x : Recording) → Compares (Some m) None f g path u x → ⊥
compares_tells m f g path u x h = go h.1 h.3 h.5
  where
    go : (e : Option Contents) → Tells (Some m) e (Kinds path h.0) → ComparesKind e None h.2 g h.0 path u x → ⊥
    go None told k = told
    go (Some n) told k = kind_tells n h.2 g h.0 path u x k

after_tells : (m : Contents) (f g : ℕ) (u : Result Bool ShelfRefusal) (path : List ℕ) (n : Notebook) (t : Result (Unit {0}) ShelfRefusal) (x z : Recording) → GivesAfter (Some m) None f g u path n t x z → ⊥
after_tells m f g (Ok true) path n t x z (inl h) = clash m h.2.0
after_tells m f g (Ok true) path n t x z (inr h) = h.3
after_tells m f g (Ok false) path n t x z h = clash m h.2.0
after_tells m f g (Err refusal) path n t x z h = clash m h.2.0

given_tells : (m : Contents) (f g : ℕ) (path : List ℕ) (n : Notebook) (t : Result (Unit {0}) ShelfRefusal) (x z : Recording) → GivesTo (Some m) None f g path n t x z → ⊥
unfolding GivesTo
given_tells m f g path n t x z h = go h.1 h.3 h.4
  where
    go : (e : Option Contents) → Compares (Some m) e f h.2 path h.0 x → GivesAfter e None h.2 g h.0 path n t x z → ⊥
    go None k after = compares_tells m f h.2 path h.0 x k
    go (Some o) k after = after_tells o h.2 g h.0 path n t x z after

put_tells : (place : Option ℕ) (m : Contents) (f g : ℕ) (path : List ℕ) (n : Notebook) (t : Result (Unit {0}) ShelfRefusal) (r s : Rows) → PutsBookBy (Some m) None f g place path n t r s → ⊥
put_tells None m f g path n t r s h = h.1.0
put_tells (Some place) m f g path n t r s h = given_tells m f g path n t h.0 h.1 h.3

module _ {L : Type 0} (begins : L → List ℕ → L → Type 0) (tells : L → List ℕ → Command → Result (Unit {0}) Untold → L → Type 0) where
  pub tries_book : (c d : Option Contents) (f g : ℕ) (path : List ℕ) (n : Notebook) (t : Result (Unit {0}) ShelfRefusal) (e : Result (Unit {0}) ErrorStatus) (r s : Rows) (l k : L)
      → PutsBook c d f g path n t r s → e ≡ told t → k ≡ l → Tells c d (Tries begins tells (change.PutBook path n) e r s l k)
  tries_book None d f g path n t e r s l k h i j = tt
  tries_book (Some m) None f g path n t e r s l k h i j = absurd (put_tells (recorder_at path r) m f g path n t r s h)
  tries_book (Some m) (Some o) f g path n t e r s l k h i j = (t, f, g, h, i, j)
