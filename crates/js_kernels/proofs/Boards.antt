-- Whose board is followed at a kernel's ends, after each step.
use Rattle.std.proofs.Common.{◌≡◌, refl, sym, ap, ◌∙◌, Option, Some, None, Result, Ok, Err}
use Rattle.std.proofs.lemmas.Option.{none-some}
use Rattle.jk_board.specs.Ends.{board_of}
use Rattle.jk_board.specs.declared.follower.Follower.{Follower}
use Rattle.jk_queues.specs.Ends.{seat_inbox}
use Rattle.jk_log.specs.declared.arrival.What.{What}
use Rattle.jk_queues.specs.declared.inbox.Full.{Full}
use Rattle.js_home.specs.Homes.{Tells}
use Rattle.js_home.specs.declared.home.Home.{Home}
use Rattle.js_kernels.specs.Boards.{AreOn, inbox_in, IsOn, itself, scribed, watched}
use Rattle.js_kernels.specs.declared.recording.Scribe.{Scribe}
use Rattle.js_kernels.specs.declared.watch.Watch.{Watch}

some_same : {X : Type 0} (x y : X) → Some x ≡ Some y → x ≡ y
some_same x y e = cc

module _ {L S T M : Type 0} {X : Type 0} (follower : X → Follower L S T M) where
  -- nobody is there
  pub none_on : (home : Option (Home L S T M)) (there : Option X) → there ≡ None → IsOn follower home there
  none_on home there none x is = absurd (none-some x (sym none ∙ is))

  -- somebody has come, whose board is that of the home's kernel
  pub now_on : (home : Option (Home L S T M)) (there : Option X) (y : X) → there ≡ Some y → inbox_in home ≡ Some (board_of (follower y)) → IsOn follower home there
  now_on home there y came own x is = own ∙ ap (λ (z : X). Some (board_of (follower z))) (some_same y x (sym came ∙ is))

  -- the home is of the same inbox
  pub same_on : (old new : Option (Home L S T M)) (there : Option X) → inbox_in new ≡ inbox_in old → IsOn follower old there → IsOn follower new there
  same_on old new there same on x is = same ∙ on x is

  -- whoever it is, the board is that of the one who was there
  pub on_still : (home : Option (Home L S T M)) (was there : Option X) (x y : X) → was ≡ Some x → there ≡ Some y → board_of (follower y) ≡ board_of (follower x)
      → IsOn follower home was → IsOn follower home there
  on_still home was there x y before now same on = now_on home there y now (on x before ∙ ap Some (sym same))

module _ {L S T M : Type 0} where
  -- a home that has come back, of the same inbox
  pub home_again : (old new : Option (Home L S T M)) (h g : Home L S T M) → old ≡ Some h → new ≡ Some g → seat_inbox g.zero ≡ seat_inbox h.zero → inbox_in new ≡ inbox_in old
  home_again old new h g was now same = ap inbox_in now ∙ (ap Some same ∙ sym (ap inbox_in was))

  -- what seat 0 tells leaves the inbox
  pub told_inbox : (old new : Home L S T M) (what : What) (r : Result (Unit {0}) Full) → Tells old what r new → seat_inbox new.zero ≡ seat_inbox old.zero
  told_inbox old new what (Ok done) t = t.1
  told_inbox old new what (Err full) t = t.1

  -- nobody is there yet
  pub none_there : AreOn {L = L} {S = S} {T = T} {M = M} None None None None
  none_there = (none_on watched None None refl, (none_on itself None None refl, none_on scribed None None refl))

  -- the home is of the same inbox, and the others are who they were
  pub kept_on : (old new : Option (Home L S T M)) (watch : Option (Watch L S T M)) (recorder : Option (Follower L S T M)) (scribe : Option (Scribe L S T M))
      → inbox_in new ≡ inbox_in old → AreOn old watch recorder scribe → AreOn new watch recorder scribe
  kept_on old new watch recorder scribe same on = (
    same_on watched old new watch same on.0,
    (same_on itself old new recorder same on.1.0, same_on scribed old new scribe same on.1.1),
  )
