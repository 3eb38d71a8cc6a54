-- Each step of the world keeps what is true of it.
use Rattle.std.proofs.Common.{◌≡◌, ℕ, zero, suc, ◌+◌, List, [], ◌∷◌, ◌++◌, length, take, drop, replicate, refl, sym, ◌∙◌, ap, subst, append_assoc, Some, arith, cond, Option, None, true, Result, Ok}
use Rattle.std.specs.Prelude.{slice_get, slice_set}
use Rattle.std.specs.Str.{bytes_eq}
use Rattle.std.proofs.lemmas.List.{take-append-drop, drop_at, length-append, append-nil}
use Rattle.std.proofs.lemmas.List.Elements.{filter-append}
use Rattle.std.proofs.lemmas.Option.{none-some, same_Some}
use Rattle.jk_language.specs.Spoken.{Spoken, IsLanguage}
use Rattle.jk_log.specs.declared.arrival.Arrival.{Arrival}
use Rattle.jk_log.specs.declared.entry.Entry.{Entry}
use Rattle.jk_core.specs.declared.kernel.Used.{Used}
use Rattle.jk_core.specs.declared.kernel.Used.TheVariants.{Kept, Stranger}
use Rattle.jk_log.specs.Results.{Reading, IsResult}
use Rattle.jk_log.specs.Log.{takes}
use Rattle.jk_log.specs.Render.{render}
use Rattle.jk_core.specs.State.{KernelState, fresh}
use Rattle.jk_log.specs.Pending.{joined}
use Rattle.jk_core.specs.Steps.{Hands, without, with_given}
use Rattle.jk_core.specs.Kept.{IsKept}
use Rattle.jk_core.proofs.Keeps.{kept-taken, kept-works, kept_legal}
use Rattle.jk_core.proofs.Handed.{kept-hands}
use Rattle.jk_core.proofs.Shown.{IsShown, shown_taken, shown_works, shown_without, takes_taken, takes_works}
use Rattle.js_shelf.specs.declared.item.Item.TheVariants.{File}
use Rattle.js_shelf.specs.Shelves.{Contents, with_item}
use Rattle.nb_doc.specs.declared.notebook.Notebook.{Notebook}
use Rattle.nb_doc.specs.Writing.{notebook_text}
use Rattle.nb_doc.proofs.Among.{same_itself}
use Rattle.nb_record.specs.declared.pages.Pages.{Pages}
use Rattle.nb_record.specs.Book.{Item, Shown, book}
use Rattle.nb_record.specs.Book as item
use Rattle.nb_record.specs.State.{StandsAt}
use Rattle.jk_world.specs.World.{World, Follower, Recording, Event, Send, Take, GiveJob, Parse, Hand, Work, Publish, Read, Start, Record, Put, Move, Save, Store, opening, Takes, Step, Run, found, read_on, AreTold, shown_onto, with_pages, entries_among, of_seat, IsBeginning, IsTrueFollower, IsTrueRecorder, HasSaved, IsTrueWorld}
use Rattle.jk_world.proofs.Basics.{no_run}

-- a follower stands where it has read to
record IsReader (all : List Entry) (f : Follower) : Type 0 where
  place : f.place ≡ length f.seen
  begins : IsBeginning f.seen all

abbrev AllRead : List Entry → List Follower → Type 0
AllRead all [] = Unit {0}
AllRead all (f ∷ fs) = IsReader all f × AllRead all fs

reads_at : (all : List Entry) (fs : List Follower) (i : ℕ) (f : Follower) → AllRead all fs → slice_get fs i ≡ Some f → IsReader all f
reads_at all [] i f h e = absurd (none-some f e)
reads_at all (g ∷ fs) zero f h e = subst (IsReader all) (same_Some g f e) h.0
reads_at all (g ∷ fs) (suc i) f h e = reads_at all fs i f h.1 e

reads_set : (all : List Entry) (fs : List Follower) (i : ℕ) (f : Follower) → AllRead all fs → IsReader all f → AllRead all (slice_set fs i f)
reads_set all [] i f h one = tt
reads_set all (g ∷ fs) zero f h one = (one, h.1)
reads_set all (g ∷ fs) (suc i) f h one = (h.0, reads_set all fs i f h.1 one)

begins_more : {A : Type 0} (xs ys more : List A) → IsBeginning xs ys → IsBeginning xs (ys ++ more)
begins_more {A} xs ys more (rest, e) = (rest ++ more, sym (append_assoc xs rest more) ∙ ap (λ (zs : List A). zs ++ more) e)

-- the board goes on
reads_more : (all more : List Entry) (fs : List Follower) → AllRead all fs → AllRead (all ++ more) fs
reads_more all more [] h = tt
reads_more all more (f ∷ fs) h =
    (record { place = h.0.place; begins = begins_more f.seen all more h.0.begins }, reads_more all more fs h.1)

reads_on : (all : List Entry) (most : ℕ) (f : Follower) → IsReader all f → IsReader all (read_on all most f)
reads_on all most f h =
    let rest = h.begins.0 in
    let there : drop f.place all ≡ rest = ap (drop f.place) (sym h.begins.1) ∙ drop_at f.seen rest f.place (sym h.place) in
    record {
      place = ap (λ (n : ℕ). n + length (found all most f)) h.place ∙ sym (length-append f.seen (found all most f));
      begins = (
        drop most rest,
        append_assoc f.seen (take most (drop f.place all)) (drop most rest)
            ∙ ap (λ (xs : List Entry). f.seen ++ (take most xs ++ drop most rest)) there
            ∙ ap (λ (xs : List Entry). f.seen ++ xs) (take-append-drop most rest) ∙ h.begins.1,
      );
    }

reads_opening : (n : ℕ) → AllRead [] (replicate n (record { place = 0; seen = [] }))
reads_opening zero = tt
reads_opening (suc n) = (record { place = refl; begins = ([], refl) }, reads_opening n)

-- ---- the recorder

-- its pages hold what it was told, which is what its reader has read since it began
record IsRecorder (all : List Entry) (r : Recording) : Type 0 where
  stands : StandsAt r.state.pages r.base r.items
  entries : r.before ++ entries_among r.items ≡ r.reader.seen
  reader : IsReader all r.reader

abbrev IsRecorded : List Entry → Option Recording → Type 0
IsRecorded all None = Unit {0}
IsRecorded all (Some r) = IsRecorder all r

recorder_at : (all : List Entry) (o : Option Recording) (r : Recording) → IsRecorded all o → o ≡ Some r → IsRecorder all r
recorder_at all None r h e = absurd (none-some r e)
recorder_at all (Some q) r h e = subst (IsRecorder all) (same_Some q r e) h

recorded_more : (all more : List Entry) (o : Option Recording) → IsRecorded all o → IsRecorded (all ++ more) o
recorded_more all more None h = tt
recorded_more all more (Some r) h = record {
  stands = h.stands;
  entries = h.entries;
  reader = record { place = h.reader.place; begins = begins_more r.reader.seen all more h.reader.begins };
}

told_stands : (es : List Entry) (old new : Pages) (base : Notebook) (items : List Item) → AreTold es old new → StandsAt old base items → StandsAt new base (shown_onto es items)
told_stands [] old new base items told h = subst (λ (p : Pages). StandsAt p base items) (sym told) h
told_stands (e ∷ es) old new base items (mid, one, rest) h = told_stands es mid new base (Shown e ∷ items) rest (one base items h)

entries_onto : (es : List Entry) (items : List Item) → entries_among (shown_onto es items) ≡ entries_among items ++ es
entries_onto [] items = sym (append-nil (entries_among items))
entries_onto (e ∷ es) items = entries_onto es (Shown e ∷ items) ∙ append_assoc (entries_among items) (e ∷ []) es

records_on : (all : List Entry) (most : ℕ) (r : Recording) (p : Pages) → IsRecorder all r → AreTold (found all most r.reader) r.state.pages p
    → IsRecorder all (record r { state = with_pages p r.state; reader = read_on all most r.reader; items = shown_onto (found all most r.reader) r.items })
records_on all most r p h told =
    let es = found all most r.reader in
    record {
      stands = told_stands es r.state.pages p r.base r.items told h.stands;
      entries = ap (λ (xs : List Entry). r.before ++ xs) (entries_onto es r.items) ∙ sym (append_assoc r.before (entries_among r.items) es) ∙ ap (λ (xs : List Entry). xs ++ es) h.entries;
      reader = reads_on all most r.reader h.reader;
    }

module _ {T : Type 0} where
  hands_log : (p : Reading T) (old : KernelState T) (used : Used (Reading T)) (new : KernelState T) → Hands p old used new → (new.log ≡ old.log) × (new.pending ≡ old.pending)
  hands_log p old Kept new (i, w, there, can, e) = (ap (λ (k : KernelState T). k.log) e, ap (λ (k : KernelState T). k.pending) e)
  hands_log p old (Stranger back) new (b, e, none) = (ap (λ (k : KernelState T). k.log) e, ap (λ (k : KernelState T). k.pending) e)

  shown_same : (board : List Entry) (old new : KernelState T) → new.log ≡ old.log → new.pending ≡ old.pending → IsShown board old → IsShown board new
  shown_same board old new l p h = ap (λ (xs : List (List Entry)). board ++ joined xs) p ∙ h ∙ sym (ap render l)

module _ {S T : Type 0} (spoken : Spoken S T) where
  abbrev AllRight : List (Reading T) → Type 0
  AllRight [] = Unit {0}
  AllRight (p ∷ ps) = IsResult spoken p.text p.outcome × AllRight ps

  right_at : (ps : List (Reading T)) (i : ℕ) (p : Reading T) → AllRight ps → slice_get ps i ≡ Some p → IsResult spoken p.text p.outcome
  right_at [] i p all e = absurd (none-some p e)
  right_at (q ∷ ps) zero p all e = subst (λ (p : Reading T). IsResult spoken p.text p.outcome) (same_Some q p e) all.0
  right_at (q ∷ ps) (suc i) p all e = right_at ps i p all.1 e

  right_append : (ps qs : List (Reading T)) → AllRight ps → AllRight qs → AllRight (ps ++ qs)
  right_append [] qs a b = b
  right_append (p ∷ ps) qs a b = (a.0, right_append ps qs a.1 b)

  right_take : (n : ℕ) (ps : List (Reading T)) → AllRight ps → AllRight (take n ps)
  right_take zero ps all = tt
  right_take (suc n) [] all = tt
  right_take (suc n) (p ∷ ps) all = (all.0, right_take n ps all.1)

  right_drop : (n : ℕ) (ps : List (Reading T)) → AllRight ps → AllRight (drop n ps)
  right_drop zero ps all = all
  right_drop (suc n) [] all = tt
  right_drop (suc n) (p ∷ ps) all = right_drop n ps all.1

  -- what every step keeps
  record IsSteady (w : World T) : Type 0 where
    kept : IsKept spoken w.kernel
    shown : IsShown w.board w.kernel
    order : takes w.kernel.log ++ w.inbox ≡ w.sent
    right : AllRight w.results
    read : AllRead w.board w.followers
    recorded : IsRecorded w.board w.recorder

  given_kept : (n : ℕ) (k : KernelState T) → IsKept spoken k → IsKept spoken (with_given n k)
  given_kept n k h =
      let g = h.going in
      record { going = record { each = g.each; owes = g.owes; places = g.places; wait = g.wait; stands = g.stands; few = g.few }; goes = h.goes }

  without_kept : (n : ℕ) (k : KernelState T) → IsKept spoken k → IsKept spoken (without n k)
  without_kept n k h =
      let g = h.going in
      record { going = record { each = g.each; owes = g.owes; places = g.places; wait = g.wait; stands = g.stands; few = g.few }; goes = h.goes }

  fresh_kept : IsKept spoken (fresh {T = T})
  fresh_kept = record {
    going = record { each = tt; owes = refl; places = refl; wait = tt; stands = λ r e. no_run r _ e; few = omega arith };
    goes = λ r e. no_run r _ e;
  }

  opening_steady : (followers : ℕ) → IsSteady (opening followers)
  opening_steady followers = record { kept = fresh_kept; shown = refl; order = refl; right = tt; read = reads_opening followers; recorded = tt }

module _ {S T : Type 0} (spoken : Spoken S T) (laws : IsLanguage spoken) where
  take_steady : (inbox : List Arrival) (w v : World T) → w.inbox ≡ inbox → IsSteady spoken w → Takes spoken inbox w v → IsSteady spoken v
  take_steady [] w v e h s = absurd s
  take_steady (a ∷ rest) w v e h (on, status, right, s) =
      subst (IsSteady spoken) (sym s) (record {
        kept = kept-taken spoken laws status a w.kernel right on h.kept;
        shown = shown_taken w.board status a w.kernel h.shown;
        order = ap (λ (xs : List Arrival). xs ++ rest) (takes_taken status a w.kernel) ∙ append_assoc (takes w.kernel.log) (a ∷ []) rest ∙ ap (λ (xs : List Arrival). takes w.kernel.log ++ xs) (sym e) ∙ h.order;
        right = h.right;
        read = h.read;
        recorded = h.recorded;
      })

  -- a step of the recorder or of the shelf
  aside : (w : World T) (recorder : Option Recording) (shelf : Contents) → IsSteady spoken w → IsRecorded w.board recorder → IsSteady spoken (record w { recorder = recorder; shelf = shelf })
  aside w recorder shelf h recorded = record { kept = h.kept; shown = h.shown; order = h.order; right = h.right; read = h.read; recorded = recorded }

  step_steady : (w : World T) (e : Event T) (v : World T) → IsSteady spoken w → Step spoken w e v → IsSteady spoken v
  step_steady w (Send a) v h s =
      subst (IsSteady spoken) (sym s) (record {
        kept = h.kept;
        shown = h.shown;
        order = sym (append_assoc (takes w.kernel.log) w.inbox (a ∷ [])) ∙ ap (λ (xs : List Arrival). xs ++ a ∷ []) h.order;
        right = h.right;
        read = h.read;
        recorded = h.recorded;
      })
  step_steady w Take v h s = take_steady w.inbox w v refl h s
  step_steady w (GiveJob job) v h (k, (q, f, n, c, e), s) =
      subst (IsSteady spoken) (sym s) (record {
        kept = subst (IsKept spoken) (sym e) (given_kept spoken q.number w.kernel h.kept);
        shown = subst (IsShown w.board) (sym e) h.shown;
        order = subst (λ (k : KernelState T). takes k.log ++ w.inbox ≡ w.sent) (sym e) h.order;
        right = h.right;
        read = h.read;
        recorded = h.recorded;
      })
  step_steady w (Parse which outcome) v h (job, there, right, s) =
      subst (IsSteady spoken) (sym s) (record {
        kept = h.kept;
        shown = h.shown;
        order = h.order;
        right = right_append spoken w.results _ h.right (right, tt);
        read = h.read;
        recorded = h.recorded;
      })
  step_steady w (Hand which used) v h (p, there, (k, hands, s)) =
      let same = hands_log p w.kernel used k hands in
      subst (IsSteady spoken) (sym s) (record {
        kept = kept-hands spoken p w.kernel used k h.kept (right_at spoken w.results which p h.right there) hands;
        shown = shown_same w.board w.kernel k same.0 same.1 h.shown;
        order = ap (λ (xs : List Arrival). xs ++ w.inbox) (ap takes same.0) ∙ h.order;
        right = right_append spoken (take which w.results) (drop (suc which) w.results) (right_take spoken which w.results h.right) (right_drop spoken (suc which) w.results h.right);
        read = h.read;
        recorded = h.recorded;
      })
  step_steady w (Work turns answer) v h (k, works, s) =
      subst (IsSteady spoken) (sym s) (record {
        kept = kept-works spoken laws turns w.kernel answer k h.kept works;
        shown = shown_works spoken w.board turns w.kernel answer k works h.shown;
        order = ap (λ (xs : List Arrival). xs ++ w.inbox) (takes_works spoken turns w.kernel answer k works) ∙ h.order;
        right = h.right;
        read = h.read;
        recorded = h.recorded;
      })
  step_steady w (Publish marks) v h s =
      subst (IsSteady spoken) (sym s) (record {
        kept = without_kept spoken marks w.kernel h.kept;
        shown = shown_without w.board marks w.kernel h.shown;
        order = h.order;
        right = h.right;
        read = reads_more w.board _ w.followers h.read;
        recorded = recorded_more w.board _ w.recorder h.recorded;
      })
  step_steady w (Read follower most) v h (f, there, s) =
      subst (IsSteady spoken) (sym s) (record {
        kept = h.kept;
        shown = h.shown;
        order = h.order;
        right = h.right;
        read = reads_set w.board w.followers follower _ h.read (reads_on w.board most f (reads_at w.board w.followers follower f h.read there));
        recorded = h.recorded;
      })
  step_steady w (Start follower path base) v h (f, there, (p, stands, s)) =
      subst (IsSteady spoken) (sym s) (aside w _ w.shelf h (record { stands = stands; entries = append-nil f.seen; reader = reads_at w.board w.followers follower f h.read there }))
  step_steady w (Record most) v h (r, is, (p, told, s)) =
      subst (IsSteady spoken) (sym s) (aside w _ w.shelf h (records_on w.board most r p (recorder_at w.board w.recorder r h.recorded is) told))
  step_steady w (Put n) v h (r, is, (p, told, s)) =
      let old = recorder_at w.board w.recorder r h.recorded is in
      subst (IsSteady spoken) (sym s) (aside w _ w.shelf h (record { stands = told r.base r.items old.stands; entries = old.entries; reader = old.reader }))
  step_steady w (Move path) v h (r, is, s) =
      let old = recorder_at w.board w.recorder r h.recorded is in
      subst (IsSteady spoken) (sym s) (aside w _ w.shelf h (record { stands = old.stands; entries = old.entries; reader = old.reader }))
  step_steady w (Save result) v h (r, is, (c, saves, s)) = subst (IsSteady spoken) (sym s) (aside w w.recorder c h h.recorded)
  step_steady w (Store shelf) v h s = subst (IsSteady spoken) (sym s) (aside w w.recorder shelf h h.recorded)

  run_steady : (w : World T) (es : List (Event T)) (v : World T) → IsSteady spoken w → Run spoken w es v → IsSteady spoken v
  run_steady w [] v h r = subst (IsSteady spoken) (sym r) h
  run_steady w (e ∷ es) v h (mid, s, r) = run_steady mid es v (step_steady w e mid h s) r

  true_reader : (w : World T) (f : Follower) → IsSteady spoken w → IsReader w.board f → IsTrueFollower w f
  true_reader w f h reader = record {
    place = reader.place;
    board = reader.begins;
    shown = subst (IsBeginning f.seen) h.shown (begins_more f.seen w.board (joined w.kernel.pending) reader.begins);
  }

  true_recorder : (w : World T) (r : Recording) → IsSteady spoken w → w.recorder ≡ Some r → IsTrueRecorder w r
  true_recorder w r h is =
      let recorder = recorder_at w.board w.recorder r h.recorded is in
      record { notebook = recorder.stands.notebook; entries = recorder.entries; reader = true_reader w r.reader h recorder.reader }

  has_saved : (w : World T) (r : Recording) (v : World T) → IsSteady spoken w → w.recorder ≡ Some r → Step spoken w (Save (Ok tt)) v → HasSaved r w v
  has_saved w r v h is (q, at, (c, (free, same), s)) =
      let one : q ≡ r = same_Some q r (sym at ∙ is) in
      let file = λ (n : Notebook). File (notebook_text n) in
      let shelf : v.shelf ≡ c = ap (λ (u : World T). u.shelf) s in
      let book_is = (recorder_at w.board w.recorder r h.recorded is).stands.notebook in
      let all : (path : List ℕ) → v.shelf path ≡ cond (bytes_eq r.state.path path) (Some (file (book r.base r.items))) (w.shelf path) =
      λ path. ap (λ (d : Contents). d path) shelf ∙ same path
      ∙ ap (λ (x : Recording). with_item w.shelf x.state.path (Some (file x.state.pages.notebook)) path) one
      ∙ ap (λ (n : Notebook). with_item w.shelf r.state.path (Some (file n)) path) book_is in
      record {
        there = all r.state.path ∙ ap (λ b. cond b (Some (file (book r.base r.items))) (w.shelf r.state.path)) (same_itself r.state.path);
        others = λ path apart. all path ∙ ap (λ b. cond b (Some (file (book r.base r.items))) (w.shelf path)) apart;
      }

  true_world : (w : World T) → IsSteady spoken w → IsTrueWorld spoken w
  true_world w h = record {
    legal = kept_legal spoken laws w.kernel h.kept;
    shown = h.shown;
    read = λ i f there. true_reader w f h (reads_at w.board w.followers i f h.read there);
    taken = λ seat. (of_seat seat w.inbox, sym (filter-append _ (takes w.kernel.log) w.inbox) ∙ ap (of_seat seat) h.order);
    recorded = λ r is. true_recorder w r h is;
    saved = λ r v is s. has_saved w r v h is s;
  }

  -- what holds after every list of steps
  pub always_true : (followers : ℕ) (events : List (Event T)) (w : World T) → Run spoken (opening followers) events w → IsTrueWorld spoken w
  always_true followers events w r = true_world w (run_steady (opening followers) events w (opening_steady spoken followers) r)
