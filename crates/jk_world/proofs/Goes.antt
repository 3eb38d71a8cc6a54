-- A world goes on.
use Rattle.std.proofs.Common.{◌≡◌, ℕ, List, [], ◌∷◌, ◌++◌, length, take, refl, sym, ◌∙◌, ap, subst, append_assoc, Option, None, Some}
use Rattle.std.proofs.lemmas.List.{append-nil}
use Rattle.jk_language.specs.Spoken.{Spoken}
use Rattle.jk_log.specs.declared.arrival.Arrival.{Arrival}
use Rattle.jk_core.specs.declared.kernel.Used.{Used}
use Rattle.jk_core.specs.declared.kernel.Used.TheVariants.{Kept, Stranger}
use Rattle.jp_msg.specs.declared.message.Completeness.{Completeness}
use Rattle.jk_log.specs.declared.mark.Item.{Item}
use Rattle.jk_log.specs.declared.mark.Item.TheVariants.{Took, Marked}
use Rattle.jk_log.specs.declared.mark.Kind.TheVariants.{Join, Leave, Line, Interrupt, KernelInfo}
use Rattle.jk_log.specs.Asked.{sort_as, input_in}
use Rattle.jk_log.specs.Log.{Log, running, asker}
use Rattle.jk_log.specs.Results.{Reading}
use Rattle.jk_core.specs.State.{KernelState}
use Rattle.jk_log.specs.Pending.{joined}
use Rattle.jk_core.specs.Steps.{answered, given_to, took, taken, noted, Hands}
use Rattle.jk_log.proofs.Logs.{by_sort}
use Rattle.jk_core.proofs.Moves.{IsMoved, interrupted_moves, shut_moves, works_moves}
use Rattle.js_shelf.specs.Shelves.{Contents}
use Rattle.jk_world.specs.World.{World, Recording, Event, Send, Take, GiveJob, Parse, Hand, Work, Publish, Read, Start, Record, Put, Move, Save, Store, Takes, Step, Run, IsBeginning, HasGoneOn}

-- one log goes on to another
abbrev Grows : Log → Log → Type 0
Grows old new = (more : Log) × (more ++ old ≡ new)

grows_same : (log : Log) → Grows log log
grows_same log = ([], refl)

grows_by : (e : Item) (old new : Log) → Grows old new → Grows old (e ∷ new)
grows_by e old new (more, is) = (e ∷ more, ap (λ (log : Log). e ∷ log) is)

grows_on : (a b c : Log) → Grows a b → Grows b c → Grows a c
grows_on a b c (m, e) (n, f) = (n ++ m, append_assoc n m a ∙ ap (λ (log : Log). n ++ log) e ∙ f)

begins_same : {A : Type 0} (xs : List A) → IsBeginning xs xs
begins_same {A} xs = ([], append-nil xs)

begins_on : {A : Type 0} (xs ys zs : List A) → IsBeginning xs ys → IsBeginning ys zs → IsBeginning xs zs
begins_on {A} xs ys zs (m, e) (n, f) = (m ++ n, sym (append_assoc xs m n) ∙ ap (λ (t : List A). t ++ n) e ∙ f)

module _ {T : Type 0} where
  grows_moved : (log : Log) → IsMoved (λ (k : KernelState T). Grows log k.log)
  grows_moved log = record {
    note = λ at kind k h. grows_by (Marked (record { at = at; kind = kind })) log k.log h;
    wait = λ ws k h. h;
    go = λ turns k h. h;
  }

  given_grows : (log : Log) (text : Option (List ℕ)) (at : Option ℕ) (k : KernelState T) → Grows log k.log → Grows log (given_to text at k).log
  given_grows log None at k h = h
  given_grows log (Some text) None k h = h
  given_grows log (Some text) (Some at) k h = grows_by (Marked (record { at = at; kind = Line (Some text) })) log k.log h

  took_grows : (status : Option Completeness) (a : Arrival) (k : KernelState T) → Grows k.log (taken status a k).log
  took_grows status a k =
      let at : ℕ = length k.log in
      let one : Grows k.log (Took a ∷ k.log) = grows_by (Took a) k.log k.log (grows_same k.log) in
      by_sort (λ s. Grows k.log (answered s a k.log (took status a k)).log)
      (grows_by (Marked (record { at = at; kind = Join })) k.log (Took a ∷ k.log) one)
      (grows_by (Marked (record { at = at; kind = Leave })) k.log (Took a ∷ k.log) one)
      one one
      (given_grows k.log (input_in a.what) (asker a.seat k.log) (took status a k) one)
      (interrupted_moves (λ j. Grows k.log j.log) (grows_moved k.log) (running (took status a k).log) (noted at Interrupt (took status a k))
      (grows_by (Marked (record { at = at; kind = Interrupt })) k.log (Took a ∷ k.log) one))
      (grows_by (Marked (record { at = at; kind = KernelInfo })) k.log (Took a ∷ k.log) one)
      (λ restart. shut_moves (λ j. Grows k.log j.log) (grows_moved k.log) at restart (running (took status a k).log) (took status a k) one)
      one (sort_as a.what)

  hands_grow : (p : Reading T) (old : KernelState T) (used : Used (Reading T)) (new : KernelState T) → Hands p old used new → Grows old.log new.log
  hands_grow p old Kept new (i, w, there, can, e) = ([], sym (ap (λ (k : KernelState T). k.log) e))
  hands_grow p old (Stranger back) new (b, e, none) = ([], sym (ap (λ (k : KernelState T). k.log) e))

  same_goes : (w : World T) → HasGoneOn w w
  same_goes w = record { log = grows_same w.kernel.log; board = begins_same w.board; sent = begins_same w.sent }

  -- a step of the recorder or of the shelf
  aside_goes : (w : World T) (recorder : Option Recording) (shelf : Contents) → HasGoneOn w (record w { recorder = recorder; shelf = shelf })
  aside_goes w recorder shelf = record { log = grows_same w.kernel.log; board = begins_same w.board; sent = begins_same w.sent }

module _ {S T : Type 0} (spoken : Spoken S T) where
  take_goes : (inbox : List Arrival) (w v : World T) → Takes spoken inbox w v → HasGoneOn w v
  take_goes [] w v s = absurd s
  take_goes (a ∷ rest) w v (on, status, right, s) = subst (HasGoneOn w) (sym s) (record { log = took_grows status a w.kernel; board = begins_same w.board; sent = begins_same w.sent })

  step_goes : (w : World T) (e : Event T) (v : World T) → Step spoken w e v → HasGoneOn w v
  step_goes w (Send a) v s = subst (HasGoneOn w) (sym s) (record { log = grows_same w.kernel.log; board = begins_same w.board; sent = (a ∷ [], refl) })
  step_goes w Take v s = take_goes w.inbox w v s
  step_goes w (GiveJob job) v (k, (q, f, n, c, e), s) =
      subst (HasGoneOn w) (sym s) (record { log = ([], sym (ap (λ (k : KernelState T). k.log) e)); board = begins_same w.board; sent = begins_same w.sent })
  step_goes w (Parse which outcome) v (job, there, right, s) =
      subst (HasGoneOn w) (sym s) (record { log = grows_same w.kernel.log; board = begins_same w.board; sent = begins_same w.sent })
  step_goes w (Hand which used) v (p, there, (k, hands, s)) =
      subst (HasGoneOn w) (sym s) (record { log = hands_grow p w.kernel used k hands; board = begins_same w.board; sent = begins_same w.sent })
  step_goes w (Work turns answer) v (k, works, s) =
      subst (HasGoneOn w) (sym s) (record {
        log = works_moves spoken (λ k. Grows w.kernel.log k.log) (grows_moved w.kernel.log) turns w.kernel answer k works (grows_same w.kernel.log);
        board = begins_same w.board;
        sent = begins_same w.sent;
      })
  step_goes w (Publish marks) v s =
      subst (HasGoneOn w) (sym s) (record { log = grows_same w.kernel.log; board = (joined (take marks w.kernel.pending), refl); sent = begins_same w.sent })
  step_goes w (Read follower most) v (f, there, s) =
      subst (HasGoneOn w) (sym s) (record { log = grows_same w.kernel.log; board = begins_same w.board; sent = begins_same w.sent })
  step_goes w (Start follower path base) v (f, there, (p, stands, s)) = subst (HasGoneOn w) (sym s) (aside_goes w _ w.shelf)
  step_goes w (Record most) v (r, is, (p, told, s)) = subst (HasGoneOn w) (sym s) (aside_goes w _ w.shelf)
  step_goes w (Put n) v (r, is, (p, told, s)) = subst (HasGoneOn w) (sym s) (aside_goes w _ w.shelf)
  step_goes w (Move path) v (r, is, s) = subst (HasGoneOn w) (sym s) (aside_goes w _ w.shelf)
  step_goes w (Save result) v (r, is, (c, saves, s)) = subst (HasGoneOn w) (sym s) (aside_goes w w.recorder c)
  step_goes w (Store shelf) v s = subst (HasGoneOn w) (sym s) (aside_goes w w.recorder shelf)

  pub run_goes : (w : World T) (es : List (Event T)) (v : World T) → Run spoken w es v → HasGoneOn w v
  run_goes w [] v r = subst (HasGoneOn w) (sym r) (same_goes w)
  run_goes w (e ∷ es) v (mid, s, r) =
      let one = step_goes w e mid s in
      let rest = run_goes mid es v r in
      record {
        log = grows_on w.kernel.log mid.kernel.log v.kernel.log one.log rest.log;
        board = begins_on w.board mid.board v.board one.board rest.board;
        sent = begins_on w.sent mid.sent v.sent one.sent rest.sent;
      }
