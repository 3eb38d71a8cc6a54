-- What was handed on and what is pending are the render of the log.
use Rattle.std.proofs.Common.{◌≡◌, ℕ, List, [], ◌∷◌, ◌++◌, length, drop, take, refl, sym, ◌∙◌, ap, append_assoc}
use Rattle.std.proofs.lemmas.List.{append-nil, take-append-drop}
use Rattle.jk_log.specs.declared.arrival.Arrival.{Arrival}
use Rattle.jk_log.specs.declared.arrival.Sort.{Sort}
use Rattle.jk_log.specs.declared.arrival.Sort.TheVariants as sort
use Rattle.jk_log.specs.Asked.{input_in, sort_as}
use Rattle.std.proofs.Common.{Option, None, Some, inl, inr, subst}
use Rattle.jk_log.specs.declared.entry.Entry.{Entry}
use Rattle.jk_core.specs.declared.kernel.Work.{Work}
use Rattle.jk_log.specs.Log.{running, takes, asker}
use Rattle.jk_log.specs.declared.mark.Kind.TheVariants.{Interrupt}
use Rattle.jp_msg.specs.declared.message.Completeness.{Completeness}
use Rattle.jk_log.specs.Render.{render}
use Rattle.jk_core.specs.State.{KernelState}
use Rattle.jk_log.specs.Pending.{joined}
use Rattle.jk_core.specs.Steps.{answered, noted, given_to, took, taken, without, Takes, Works}
use Rattle.jk_core.proofs.Moves.{IsMoved, interrupted_moves, shut_moves, works_moves}
use Rattle.jk_language.specs.Spoken.{Spoken}

pub joined-append : (xs ys : List (List Entry)) → joined (xs ++ ys) ≡ joined xs ++ joined ys
joined-append [] ys = refl
joined-append (x ∷ xs) ys = ap (λ (t : List Entry). x ++ t) (joined-append xs ys) ∙ sym (append_assoc x (joined xs) (joined ys))

shown_more : (board more log : List Entry) (pending : List (List Entry)) → board ++ joined pending ≡ log → board ++ joined (pending ++ more ∷ []) ≡ log ++ more
shown_more board more log pending e =
    ap (λ (t : List Entry). board ++ t) (joined-append pending (more ∷ []) ∙ ap (λ (t : List Entry). joined pending ++ t) (append-nil more))
    ∙ sym (append_assoc board (joined pending) more) ∙ ap (λ (t : List Entry). t ++ more) e

module _ {T : Type 0} where
  -- what was handed on, followed by what is pending, is the render
  abbrev pub IsShown : List Entry → KernelState T → Type 0
  IsShown board k = board ++ joined k.pending ≡ render k.log

  pub shown_moved : (board : List Entry) → IsMoved (λ (k : KernelState T). IsShown board k)
  shown_moved board = record {
    note = λ at kind k h. shown_more board _ (render k.log) k.pending h;
    wait = λ ws k h. h;
    go = λ turns k h. h;
  }

  given_moves : (P : KernelState T → Type 0) → IsMoved P → (line : Option (List ℕ)) (asker : Option ℕ) (k : KernelState T) → P k → P (given_to line asker k)
  given_moves P m None asker k h = h
  given_moves P m (Some text) None k h = h
  given_moves P m (Some text) (Some at) k h = m.note _ _ _ h

  shown_as : (board : List Entry) (status : Option Completeness) (s : Sort) (a : Arrival) (k : KernelState T) → IsShown board k → IsShown board (answered s a k.log (took status a k))
  shown_as board status sort.Execute a k h = h
  shown_as board status sort.Query a k h = h
  shown_as board status sort.Other a k h = h
  shown_as board status sort.Join a k h = shown_more board _ (render k.log) k.pending h
  shown_as board status sort.Leave a k h = shown_more board _ (render k.log) k.pending h
  shown_as board status sort.KernelInfo a k h = shown_more board _ (render k.log) k.pending h
  shown_as board status sort.Input a k h = given_moves (IsShown board) (shown_moved board) (input_in a.what) (asker a.seat k.log) (took status a k) h
  shown_as board status sort.Interrupt a k h =
      interrupted_moves (IsShown board) (shown_moved board) (running (took status a k).log) (noted (length k.log) Interrupt (took status a k)) (shown_more board _ (render k.log) k.pending h)
  shown_as board status (sort.Shutdown restart) a k h =
      shut_moves (IsShown board) (shown_moved board) (length k.log) restart (running (took status a k).log) (took status a k) h

  pub shown_taken : (board : List Entry) (status : Option Completeness) (a : Arrival) (k : KernelState T) → IsShown board k → IsShown board (taken status a k)
  shown_taken board status a k h = shown_as board status (sort_as a.what) a k h

  -- handing on moves entries from what is pending
  pub shown_without : (board : List Entry) (marks : ℕ) (k : KernelState T) → IsShown board k → IsShown (board ++ joined (take marks k.pending)) (without marks k)
  shown_without board marks k h =
      append_assoc board (joined (take marks k.pending)) (joined (drop marks k.pending))
      ∙ ap (λ (t : List Entry). board ++ t) (sym (joined-append (take marks k.pending) (drop marks k.pending)) ∙ ap joined (take-append-drop marks k.pending))
      ∙ h

  -- the arrivals taken
  pub takes_moved : (all : List Arrival) → IsMoved (λ (k : KernelState T). takes k.log ≡ all)
  takes_moved all = record { note = λ at kind k h. h; wait = λ ws k h. h; go = λ turns k h. h }

  takes_as : (status : Option Completeness) (s : Sort) (a : Arrival) (k : KernelState T) → takes (answered s a k.log (took status a k)).log ≡ takes k.log ++ a ∷ []
  takes_as status sort.Execute a k = refl
  takes_as status sort.Query a k = refl
  takes_as status sort.Other a k = refl
  takes_as status sort.Join a k = refl
  takes_as status sort.Leave a k = refl
  takes_as status sort.KernelInfo a k = refl
  takes_as status sort.Input a k =
      given_moves (λ j. takes j.log ≡ takes k.log ++ a ∷ []) (takes_moved _) (input_in a.what) (asker a.seat k.log) (took status a k) refl
  takes_as status sort.Interrupt a k =
      interrupted_moves (λ j. takes j.log ≡ takes k.log ++ a ∷ []) (takes_moved _) (running (took status a k).log) (noted (length k.log) Interrupt (took status a k)) refl
  takes_as status (sort.Shutdown restart) a k =
      shut_moves (λ j. takes j.log ≡ takes k.log ++ a ∷ []) (takes_moved _) (length k.log) restart (running (took status a k).log) (took status a k) refl

  pub takes_taken : (status : Option Completeness) (a : Arrival) (k : KernelState T) → takes (taken status a k).log ≡ takes k.log ++ a ∷ []
  takes_taken status a k = takes_as status (sort_as a.what) a k

module _ {S T : Type 0} (spoken : Spoken S T) where
  pub shown_works : (board : List Entry) (turns : ℕ) (old : KernelState T) (answer : Work) (new : KernelState T) → Works spoken turns old answer new → IsShown board old → IsShown board new
  shown_works board turns old answer new s h = works_moves spoken (IsShown board) (shown_moved board) turns old answer new s h

  pub takes_works : (turns : ℕ) (old : KernelState T) (answer : Work) (new : KernelState T) → Works spoken turns old answer new → takes new.log ≡ takes old.log
  takes_works turns old answer new s = works_moves spoken (λ k. takes k.log ≡ takes old.log) (takes_moved (takes old.log)) turns old answer new s refl

  -- what was shown goes on, whether the arrival was taken or dropped
  pub shown_takes : (board : List Entry) (a : Arrival) (old new : KernelState T) → Takes spoken a old new → IsShown board old → IsShown board new
  shown_takes board a old new (inl (over, e)) h = subst (IsShown board) (sym e) h
  shown_takes board a old new (inr (on, status, right, e)) h = subst (IsShown board) (sym e) (shown_taken board status a old h)
