-- That events led from no kernels to those that run, after each call.
use Rattle.std.proofs.Common.{◌≡◌, Bool, true, false, ℕ, List, [], ◌∷◌, ◌++◌, length, map, sym, ap, refl, ◌∙◌, subst, MatchBool, None, arith}
use Rattle.std.proofs.lemmas.List.{map-append}
use Rattle.jk_log.specs.Asked.{sort_as}
use Rattle.jk_log.specs.declared.arrival.Arrival.{Arrival}
use Rattle.jk_queues.specs.Ends.{sent_by}
use Rattle.js_home.specs.declared.home.Home.{Home}
use Rattle.js_kernels.specs.Told.{KernelState, unopened}
use Rattle.js_kernels.specs.Events.{Event, Happens, IsReached}
use Rattle.js_kernels.specs.Hosting.{kernel_of, state_in, state_of, states_of}
use Rattle.js_kernels.specs.Readings.{BeginsReading, ChangesReading}
use Rattle.js_kernels.specs.Recording.{reading_in}
use Rattle.js_kernels.specs.declared.kernels.hosted.Hosted.{Hosted}
use Rattle.js_kernels.proofs.Lives.{one_more}

none_of : {X : Type 0} (xs : List X) → length xs ≡ 0 → xs ≡ []
none_of [] none = refl
none_of (x ∷ xs) none = absurd (omega (arith, none))

module _ (L S T M : Type 0) where
  -- nothing has changed
  pub still : (old new : List KernelState) → new ≡ old → IsReached L S T M old → IsReached L S T M new
  still old new is reached = subst (IsReached L S T M) (sym is) reached

  -- one event more
  pub after : (old : List KernelState) (e : Event) (new : List KernelState) → IsReached L S T M old → Happens L S T M old e new → IsReached L S T M new
  after old e new (es, run) happens = (es ++ e ∷ [], one_more L S T M [] es old e new run happens)

  -- a reading has begun, or nothing has changed
  pub begun : (old : List KernelState) (id : List ℕ) (b : Bool) (new : List KernelState) → IsReached L S T M old
      → MatchBool b (ChangesReading BeginsReading id old new) (new ≡ old) → IsReached L S T M new
  begun old id true new reached changes = after old (Event.BeginReading id) new reached changes
  begun old id false new reached is = still old new is reached

  -- a home whose seat 0 has sent nothing has told nothing
  pub none_told : (h : Home L S T M) → length (sent_by h.zero) ≡ 0 → (state_of h).told ≡ []
  none_told h none = ap (map (λ (x : Arrival). sort_as x.what)) (none_of (sent_by h.zero) none)

  -- a kernel that was just made
  pub made_last : (ks : List (Hosted L S T M)) (k : Hosted L S T M) (id : List ℕ) → k.id ≡ id → k.ends.home ≡ None → k.ends.scribe ≡ None
      → states_of (ks ++ k ∷ []) ≡ states_of ks ++ unopened id ∷ []
  made_last ks k id same none unread =
      map-append kernel_of ks (k ∷ []) ∙ (λ i. states_of ks ++ record { id = same i; home = state_in (none i); reading = reading_in (unread i) } ∷ [])
