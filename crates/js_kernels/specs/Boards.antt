-- To be believed.
-- Whose board is followed at a kernel's ends: that of the kernel which takes from the inbox of the home.
use Rattle.std.specs.Prelude.{◌≡◌, Option, None, Some}
use Rattle.std.specs.Coded.{Coded-set, coded_option, Π_prop, →_prop, ×_prop}
use Rattle.atomic_table.specs.Seated.{TableId, table_id_coded}
use Rattle.jk_board.specs.Ends.{board_of}
use Rattle.jk_board.specs.declared.follower.Follower.{Follower}
use Rattle.jk_queues.specs.Ends.{seat_inbox}
use Rattle.js_home.specs.declared.home.Home.{Home}
use Rattle.js_kernels.specs.declared.watch.Watch.{Watch}
use Rattle.js_kernels.specs.declared.recording.Scribe.{Scribe}

module _ {L S T M : Type 0} where
  -- the inbox of a home, once that is there
  abbrev pub inbox_in : Option (Home L S T M) → Option TableId
  inbox_in None = None
  inbox_in (Some h) = Some (seat_inbox h.zero)

  -- where it is there, the home is too, and it follows the board of the home's kernel
  abbrev pub IsOn : {X : Type 0} → (X → Follower L S T M) → Option (Home L S T M) → Option X → Type 0
  IsOn {X = X} follower home there = (x : X) → there ≡ Some x → inbox_in home ≡ Some (board_of (follower x))

  abbrev pub watched : Watch L S T M → Follower L S T M
  watched w = w.follower

  abbrev pub itself : Follower L S T M → Follower L S T M
  itself f = f

  abbrev pub scribed : Scribe L S T M → Follower L S T M
  scribed s = s.follower

  -- all that are there follow the board of the home's kernel
  abbrev pub AreOn : Option (Home L S T M) → Option (Watch L S T M) → Option (Follower L S T M) → Option (Scribe L S T M) → Type 0
  AreOn home watch recorder scribe = IsOn watched home watch × (IsOn itself home recorder × IsOn scribed home scribe)

  -- there is one proof of it at most
  IsOn-prop : {X : Type 0} (follower : X → Follower L S T M) (home : Option (Home L S T M)) (there : Option X) → IsProp (IsOn follower home there)
  IsOn-prop follower home there = Π_prop (λ x. →_prop (Coded-set (coded_option table_id_coded) _ _))

  pub AreOn-prop : (home : Option (Home L S T M)) (watch : Option (Watch L S T M)) (recorder : Option (Follower L S T M)) (scribe : Option (Scribe L S T M))
      → IsProp (AreOn home watch recorder scribe)
  AreOn-prop home watch recorder scribe = ×_prop (IsOn-prop watched home watch) (×_prop (IsOn-prop itself home recorder) (IsOn-prop scribed home scribe))
