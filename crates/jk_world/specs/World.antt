-- To be believed.
-- The world round a kernel, and its steps.
use Rattle.std.specs.Prelude.{◌≡◌, ℕ, ◌+◌, ◌==◌, List, [], ◌∷◌, ◌++◌, length, take, drop, filter, remove, replicate, Option, Some, None, Result, Ok, slice_get, slice_set, false}
use Rattle.std.specs.Str.{bytes_eq}
use Rattle.jk_language.specs.Spoken.{Spoken}
use Rattle.jk_log.specs.declared.arrival.Arrival.{Arrival}
use Rattle.jk_log.specs.declared.entry.Entry.{Entry}
use Rattle.jk_log.specs.declared.job.Job.{Job}
use Rattle.jk_log.specs.declared.job.Parsed.{Parsed}
use Rattle.jk_core.specs.declared.kernel.Used.{Used}
use Rattle.jk_core.specs.declared.kernel.Work.{Work as Worked}
use Rattle.jk_log.specs.Results.{Reading, IsResult}
use Rattle.jp_msg.specs.declared.message.Completeness.{Completeness}
use Rattle.jk_log.specs.Asked.{query_in}
use Rattle.jk_log.specs.Queries.{IsStatusOf}
use Rattle.jk_log.specs.Log.{Log, takes, ended}
use Rattle.jk_log.specs.Legal.{IsLegal}
use Rattle.jk_log.specs.Render.{render}
use Rattle.jk_core.specs.State.{KernelState, fresh}
use Rattle.jk_log.specs.Pending.{joined}
use Rattle.jk_core.specs.Steps.{taken, GivesJob, Hands, Works, without}
use Rattle.js_shelf.specs.declared.item.Item.TheVariants.{File}
use Rattle.js_shelf.specs.declared.item.ShelfRefusal.{ShelfRefusal}
use Rattle.js_shelf.specs.Shelves.{Contents}
use Rattle.nb_doc.specs.declared.notebook.Notebook.{Notebook}
use Rattle.nb_doc.specs.Writing.{notebook_text}
use Rattle.nb_record.specs.declared.pages.Pages.{Pages}
use Rattle.nb_record.specs.Book.{Item, Shown, book}
use Rattle.nb_record.specs.Book as item
use Rattle.nb_record.specs.State.{RecorderState, StandsAt, IsTold, Saves}

-- a reader of the board: how many entries it has read, and which they are
pub record Follower : Type 0 where
  pub place : ℕ
  pub seen : List Entry

-- A recorder, its reader of the board, and what it was told: the notebook that it began with, what its reader had read
-- before, and the entries and puts since, the newest first.
pub record Recording : Type 0 where
  pub state : RecorderState
  pub reader : Follower
  pub base : Notebook
  pub before : List Entry
  pub items : List Item

-- a kernel whose texts are parsed into trees of a type, and the world round it
pub record World (T : Type 0) : Type 0 where
  -- what the seats sent, in the order of sending
  pub sent : List Arrival
  -- what was sent and not yet taken
  pub inbox : List Arrival
  -- the texts that are to be parsed
  pub jobs : List Job
  -- the results of parsing that were not yet handed in
  pub results : List (Reading T)
  -- the log, the pending entries, and the requests that wait with their results
  pub kernel : KernelState T
  pub board : List Entry
  pub followers : List Follower
  pub recorder : Option Recording
  -- what stands at each path of the shelf
  pub shelf : Contents

abbrev pub opening : {T : Type 0} → ℕ → World T
opening followers = record {
  sent = [];
  inbox = [];
  jobs = [];
  results = [];
  kernel = fresh;
  board = [];
  followers = replicate followers (record { place = 0; seen = [] });
  recorder = None;
  shelf = λ path. None;
}

-- a step
pub data Event (T : Type 0) : Type 0 where
  -- a seat sends
  Send : (a : Arrival) → Event T
  -- the kernel takes the first arrival of the inbox, gives a text to be parsed, and so on
  Take : Event T
  GiveJob : (job : Job) → Event T
  Parse : (which : ℕ) (outcome : Parsed T) → Event T
  Hand : (which : ℕ) (used : Used (Reading T)) → Event T
  Work : (turns : ℕ) (answer : Worked) → Event T
  Publish : (marks : ℕ) → Event T
  -- a follower reads at most this many entries
  Read : (follower most : ℕ) → Event T
  -- a recorder begins with a notebook, for the file at a path, and reads on where a follower stands
  Start : (follower : ℕ) (path : List ℕ) (base : Notebook) → Event T
  -- the recorder is told at most this many entries, which its reader reads
  Record : (most : ℕ) → Event T
  Put : (n : Notebook) → Event T
  -- the path of the recorder's file has changed
  Move : (path : List ℕ) → Event T
  Save : (result : Result Unit ShelfRefusal) → Event T
  -- another call changes what the shelf holds
  Store : (shelf : Contents) → Event T

-- The first arrival of the inbox is taken; none is after a shutdown that does not start the kernel again. The status is
-- that with which it is answered, where it asks whether a code is complete.
abbrev pub Takes : {S T : Type 0} → Spoken S T → List Arrival → World T → World T → Type 0
Takes spoken [] w v = ⊥
Takes spoken (a ∷ rest) w v =
    (ended w.kernel.log ≡ false) × (status : Option Completeness) × IsStatusOf spoken (query_in a.what) status
    × (v ≡ record w { inbox = rest; kernel = taken status a w.kernel })

-- the entries that a follower reads next
abbrev pub found : List Entry → ℕ → Follower → List Entry
found board most f = take most (drop f.place board)

abbrev pub read_on : List Entry → ℕ → Follower → Follower
read_on board most f = record { place = f.place + length (found board most f); seen = f.seen ++ found board most f }

-- the pages were told these entries, one after another
abbrev pub AreTold : List Entry → Pages → Pages → Type 0
AreTold [] old new = new ≡ old
AreTold (e ∷ es) old new = (mid : Pages) × IsTold (Shown e) old mid × AreTold es mid new

-- these entries before the items that are there, the newest first
abbrev pub shown_onto : List Entry → List Item → List Item
shown_onto [] items = items
shown_onto (e ∷ es) items = shown_onto es (Shown e ∷ items)

abbrev pub with_pages : Pages → RecorderState → RecorderState
with_pages p r = record r { pages = p }

-- From one world to the next. A call that changed nothing, out of memory or because a queue was full, is no step.
abbrev pub Step : {S T : Type 0} → Spoken S T → World T → Event T → World T → Type 0
Step spoken w (Send a) v = v ≡ record w { sent = w.sent ++ a ∷ []; inbox = w.inbox ++ a ∷ [] }
Step spoken w Take v = Takes spoken w.inbox w v
Step {T = T} spoken w (GiveJob job) v =
    (k : KernelState T) × GivesJob w.kernel (Some job) k × (v ≡ record w { jobs = w.jobs ++ job ∷ []; kernel = k })
Step spoken w (Parse which outcome) v =
    (job : Job) × (slice_get w.jobs which ≡ Some job) × IsResult spoken job.text outcome
    × (v ≡ record w { jobs = remove w.jobs which; results = w.results ++ (record { job = job.number; text = job.text; outcome = outcome }) ∷ [] })
Step {T = T} spoken w (Hand which used) v =
    (p : Reading T) × (slice_get w.results which ≡ Some p)
    × ((k : KernelState T) × Hands p w.kernel used k × (v ≡ record w { results = remove w.results which; kernel = k }))
Step {T = T} spoken w (Work turns answer) v =
    (k : KernelState T) × Works spoken turns w.kernel answer k × (v ≡ record w { kernel = k })
Step spoken w (Publish marks) v =
    v ≡ record w { board = w.board ++ joined (take marks w.kernel.pending); kernel = without marks w.kernel }
Step spoken w (Read follower most) v =
    (f : Follower) × (slice_get w.followers follower ≡ Some f)
    × (v ≡ record w { followers = slice_set w.followers follower (read_on w.board most f) })
Step spoken w (Start follower path base) v =
    (f : Follower) × (slice_get w.followers follower ≡ Some f)
    × ((p : Pages) × StandsAt p base []
    × (v ≡ record w { recorder = Some (record { state = record { path = path; pages = p }; reader = f; base = base; before = f.seen; items = [] }) }))
Step spoken w (Record most) v =
    (r : Recording) × (w.recorder ≡ Some r)
    × ((p : Pages) × AreTold (found w.board most r.reader) r.state.pages p
    × (v ≡ record w {
      recorder = Some (record r {
        state = with_pages p r.state;
        reader = read_on w.board most r.reader;
        items = shown_onto (found w.board most r.reader) r.items;
      });
    }))
Step spoken w (Put n) v =
    (r : Recording) × (w.recorder ≡ Some r)
    × ((p : Pages) × IsTold (item.Put n) r.state.pages p
    × (v ≡ record w { recorder = Some (record r { state = with_pages p r.state; items = item.Put n ∷ r.items }) }))
Step spoken w (Move path) v =
    (r : Recording) × (w.recorder ≡ Some r)
    × (v ≡ record w { recorder = Some (record r { state = record { path = path; pages = r.state.pages } }) })
Step spoken w (Save result) v =
    (r : Recording) × (w.recorder ≡ Some r)
    × ((c : Contents) × Saves r.state result w.shelf c × (v ≡ record w { shelf = c }))
Step spoken w (Store shelf) v = v ≡ record w { shelf = shelf }

-- a list of steps
abbrev pub Run : {S T : Type 0} → Spoken S T → World T → List (Event T) → World T → Type 0
Run spoken w [] v = v ≡ w
Run {T = T} spoken w (e ∷ es) v = (mid : World T) × Step spoken w e mid × Run spoken mid es v

-- the first list is a beginning of the second
abbrev pub IsBeginning : {A : Type 0} → List A → List A → Type 0
IsBeginning {A} xs ys = (rest : List A) × (xs ++ rest ≡ ys)

abbrev pub of_seat : ℕ → List Arrival → List Arrival
of_seat seat all = filter (λ a. a.seat == seat) all

-- a follower has read a beginning of the board, and so of what is shown of the log
pub record IsTrueFollower {T : Type 0} (w : World T) (f : Follower) : Type 0 where
  pub place : f.place ≡ length f.seen
  pub board : IsBeginning f.seen w.board
  pub shown : IsBeginning f.seen (render w.kernel.log)

-- the entries among what a recorder was told, oldest first
abbrev pub entries_among : List Item → List Entry
entries_among [] = []
entries_among (Shown e ∷ items) = entries_among items ++ e ∷ []
entries_among (item.Put n ∷ items) = entries_among items

-- A recorder's notebook is the book of what it was told, which are all the entries that its reader has read since it
-- began, and the puts between them.
pub record IsTrueRecorder {T : Type 0} (w : World T) (r : Recording) : Type 0 where
  pub notebook : r.state.pages.notebook ≡ book r.base r.items
  pub entries : r.before ++ entries_among r.items ≡ r.reader.seen
  pub reader : IsTrueFollower w r.reader

-- A save that says so has left the text of that book at the recorder's path, and nothing else changed on the shelf.
pub record HasSaved {T : Type 0} (r : Recording) (w v : World T) : Type 0 where
  pub there : v.shelf r.state.path ≡ Some (File (notebook_text (book r.base r.items)))
  pub others : (path : List ℕ) → bytes_eq r.state.path path ≡ false → v.shelf path ≡ w.shelf path

pub record IsTrueWorld {S T : Type 0} (spoken : Spoken S T) (w : World T) : Type 0 where
  pub legal : IsLegal spoken w.kernel.log
  pub shown : w.board ++ joined w.kernel.pending ≡ render w.kernel.log
  pub read : (i : ℕ) (f : Follower) → slice_get w.followers i ≡ Some f → IsTrueFollower w f
  pub taken : (seat : ℕ) → IsBeginning (of_seat seat (takes w.kernel.log)) (of_seat seat w.sent)
  pub recorded : (r : Recording) → w.recorder ≡ Some r → IsTrueRecorder w r
  pub saved : (r : Recording) (v : World T) → w.recorder ≡ Some r → Step spoken w (Save (Ok tt)) v → HasSaved r w v

-- nothing that was sent, taken, marked or published in the first world is lost or changed in the second
pub record HasGoneOn {T : Type 0} (w v : World T) : Type 0 where
  pub log : (more : Log) × (more ++ w.kernel.log ≡ v.kernel.log)
  pub board : IsBeginning w.board v.board
  pub sent : IsBeginning w.sent v.sent
