-- To be believed.
-- What contracts see of a recorder.
use Rattle.std.specs.Prelude.{◌≡◌, ℕ, Bool, true, false, List, [], ◌∷◌, Option, Some, None, Result, if◌then◌else◌}
use Rattle.jp_msg.specs.declared.message.Message.{Message}
use Rattle.jp_msg.specs.declared.message.State.{State}
use Rattle.jp_msg.specs.declared.message.State.TheVariants as state
use Rattle.jp_msg.specs.declared.message.Output.TheVariants as told
use Rattle.jk_log.specs.declared.entry.Entry.{Entry}
use Rattle.jk_log.specs.declared.entry.Told.{Told as EntryContent}
use Rattle.jk_log.specs.declared.entry.Told.TheVariants as entry
use Rattle.js_shelf.specs.declared.item.Item.TheVariants.{File}
use Rattle.js_shelf.specs.declared.item.ShelfRefusal.{ShelfRefusal}
use Rattle.js_shelf.specs.Shelves.{Contents, Puts as PutsOnShelf}
use Rattle.nb_doc.specs.declared.notebook.Notebook.{Notebook}
use Rattle.nb_doc.specs.Ids.{is_among}
use Rattle.nb_doc.specs.Writing.{notebook_text}
use Rattle.nb_record.specs.declared.event.Event.{Event}
use Rattle.nb_record.specs.declared.event.Event.TheVariants.{Begins, Passes, Writes, Ends, Puts, Nothing}
use Rattle.nb_record.specs.declared.pages.Pages.{Pages}
use Rattle.nb_record.specs.Book.{Item, Shown, event, book, executed, current, lasts, running_by, is_stored}
use Rattle.nb_record.specs.Readable.{IsReadableOutput, IsReadable}

pub record RecorderState : Type 0 where
  pub path : List ℕ
  pub pages : Pages

-- the pages hold these items, newest first, over that notebook
pub record StandsAt (p : Pages) (base : Notebook) (items : List Item) : Type 0 where
  pub notebook : p.notebook ≡ book base items
  pub executed : (id : List ℕ) → is_among p.executed id ≡ executed base items id
  pub current : p.current ≡ current base items
  pub lasts : p.lasts ≡ lasts items

-- the id of the cell that runs
abbrev pub running_in : Pages → Option (List ℕ)
running_in p = running_by p.lasts p.current

-- The pages were told an item: where they held some items over a notebook, they now hold these and the new one.
abbrev pub IsTold : Item → Pages → Pages → Type 0
IsTold i old new = (base : Notebook) (items : List Item) → StandsAt old base items → StandsAt new base (i ∷ items)

-- the pages were told that these entries were shown, one after another
abbrev pub AreTold : List Entry → Pages → Pages → Type 0
AreTold [] old new = new ≡ old
AreTold (e ∷ es) old new = (mid : Pages) × IsTold (Shown e) old mid × AreTold es mid new

-- ---- which entries end a stored cell

abbrev pub is_idle_state : State → Bool
is_idle_state state.Idle = true
is_idle_state state.Busy = false

abbrev pub is_idle : EntryContent → Bool
is_idle (entry.Output (told.Status s)) = is_idle_state s
is_idle (entry.Output _) = false
is_idle (entry.Joined seat n) = false
is_idle (entry.Left seat n) = false

abbrev pub ends_request : Option Message → EntryContent → Bool
ends_request None c = false
ends_request (Some m) c = if is_stored m.content then is_idle c else false

-- whether an entry is the idle of an execute request that is stored
abbrev pub ends_stored : Entry → Bool
ends_stored e = ends_request e.parent e.content

-- ---- saving

-- the text of the recorder's notebook was put on a shelf, as the file at its path
abbrev pub Saves : RecorderState → Result Unit ShelfRefusal → Contents → Contents → Type 0
Saves r result = PutsOnShelf r.path (File (notebook_text r.pages.notebook)) result

-- an event happened, whatever was told before
abbrev pub Follows : Event → Pages → Pages → Type 0
Follows v old new = (base : Notebook) (past : List Item) (i : Item) → event i ≡ v → StandsAt old base past → StandsAt new base (i ∷ past)

-- what it brings is readable
abbrev pub IsReadableEvent : Event → Type 0
IsReadableEvent (Puts n) = IsReadable n
IsReadableEvent (Writes o) = IsReadableOutput o
IsReadableEvent (Begins wish source count) = Unit {0}
IsReadableEvent Passes = Unit {0}
IsReadableEvent Ends = Unit {0}
IsReadableEvent Nothing = Unit {0}
