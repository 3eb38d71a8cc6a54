-- To be believed.
-- Who has asked, who was answered, and who waits for what.
use Rattle.std.specs.Prelude.{◌≡◌, ◌⊎◌, ℕ, List, [], ◌∷◌, ◌++◌, Option, None, Some}
use Rattle.std.specs.List.Sorted.{IsPermutation}
use Rattle.js_desk.specs.Endings.{Joins, LetsGo, Ends, waiting}
use Rattle.js_desk.specs.Rows.{Row}

pub record AskersState (W : Type 0) : Type 0 where
  -- all who asked, and all who were answered, the last one first
  pub asked : List W
  pub answered : List W
  -- who is to be answered now
  pub turn : Option W
  -- who waits for the kernel that is made
  pub made : Option W
  -- who waits to be looked at again, and who waits for kernels that are ending
  pub held : List W
  pub ending : List (Row W)

module _ {W : Type 0} where
  abbrev pub one : Option W → List W
  one None = []
  one (Some w) = w ∷ []

  abbrev pub all_waiting : AskersState W → List W
  all_waiting s = one s.turn ++ (one s.made ++ (s.held ++ waiting s.ending))

  -- each who asked was answered once or waits, and nobody else was answered or waits
  abbrev pub AreAnsweredOnce : AskersState W → Type 0
  AreAnsweredOnce s = IsPermutation s.asked (s.answered ++ all_waiting s)

  abbrev pub nobody : AskersState W
  nobody = record { asked = []; answered = []; turn = None; made = None; held = []; ending = [] }

  -- the first list of answers, one after the other, and the last one first, before the second
  abbrev pub after : List W → List W → List W
  after [] answered = answered
  after (w ∷ ws) answered = after ws (w ∷ answered)

  -- whoever is to be answered now is answered
  abbrev pub answered_now : AskersState W → AskersState W
  answered_now s = record s { answered = one s.turn ++ s.answered; turn = None }

  -- one more asks, and is to be answered now
  abbrev pub asked_by : W → AskersState W → AskersState W
  asked_by w s = record s { asked = w ∷ s.asked; turn = Some w }

  -- whoever is to be answered now waits for the kernel that is made; and is to be answered again
  abbrev pub WaitsForMade : AskersState W → AskersState W → Type 0
  WaitsForMade old new = (w : W) × (old.turn ≡ Some w) × (old.made ≡ None) × (new ≡ record old { turn = None; made = Some w })

  abbrev pub ComesOfMade : AskersState W → AskersState W → Type 0
  ComesOfMade old new = (w : W) × (old.turn ≡ None) × (old.made ≡ Some w) × (new ≡ record old { turn = Some w; made = None })

  -- it waits behind those that are to be looked at again; and the first of those is to be answered again
  abbrev pub IsHeld : AskersState W → AskersState W → Type 0
  IsHeld old new = (w : W) × (old.turn ≡ Some w) × (new ≡ record old { turn = None; held = old.held ++ w ∷ [] })

  abbrev pub ComesOfHeld : AskersState W → AskersState W → Type 0
  ComesOfHeld old new = (w : W) × (old.turn ≡ None) × (old.held ≡ w ∷ new.held) × (new ≡ record old { turn = Some w; held = new.held })

  -- whoever is to be answered now waits for a kernel that is ending
  abbrev pub WaitsForEnd : List ℕ → AskersState W → AskersState W → Type 0
  WaitsForEnd kernel old new =
      (w : W) × (old.turn ≡ Some w) × Joins kernel w old.ending new.ending × (new ≡ record old { turn = None; ending = new.ending })

  -- those who wait for the kernel in a row are answered, and it is ending still; or it has ended
  abbrev pub AreLetGo : ℕ → AskersState W → AskersState W → Type 0
  AreLetGo place old new =
      (ws : List W) × LetsGo place ws old.ending new.ending × (new ≡ record old { answered = after ws old.answered; ending = new.ending })

  abbrev pub HaveEnded : ℕ → AskersState W → AskersState W → Type 0
  HaveEnded place old new =
      (ws : List W) × Ends place ws old.ending new.ending × (new ≡ record old { answered = after ws old.answered; ending = new.ending })

  -- all who wait to be looked at again are answered
  abbrev pub none_held : AskersState W → AskersState W
  none_held s = record s { answered = after s.held s.answered; held = [] }

  -- so it is, or nothing has changed
  abbrev pub MayBe : (AskersState W → AskersState W → Type 0) → AskersState W → AskersState W → Type 0
  MayBe Does old new = Does old new ⊎ (new ≡ old)
