-- To be believed.
-- What is done with those who wait, and what comes of a list of it.
use Rattle.std.specs.Prelude.{◌≡◌, ℕ, List, [], ◌∷◌, ◌++◌}
use Rattle.js_desk.specs.Endings.{Begins, Joins, LetsGo, Ends}
use Rattle.js_desk.specs.Rows.{Row}

pub data Act (W : Type 0) : Type 0 where
  -- a kernel ends
  Begin : (kernel : List ℕ) → Act W
  -- one more waits for it
  Join : (kernel : List ℕ) (waiter : W) → Act W
  -- those who wait for the kernel in a row are given back, and it is ending still; or it has ended
  LetGo : (place : ℕ) (waiters : List W) → Act W
  End : (place : ℕ) (waiters : List W) → Act W

module _ {W : Type 0} where
  abbrev pub Does : List (Row W) → Act W → List (Row W) → Type 0
  Does old (Act.Begin kernel) new = Begins kernel old new
  Does old (Act.Join kernel w) new = Joins kernel w old new
  Does old (Act.LetGo place ws) new = LetsGo place ws old new
  Does old (Act.End place ws) new = Ends place ws old new

  -- a list of it
  abbrev pub Run : List (Row W) → List (Act W) → List (Row W) → Type 0
  Run old [] new = new ≡ old
  Run old (a ∷ acts) new = (mid : List (Row W)) × Does old a mid × Run mid acts new

  -- all who began to wait
  abbrev pub joined : List (Act W) → List W
  joined [] = []
  joined (Act.Begin kernel ∷ acts) = joined acts
  joined (Act.Join kernel w ∷ acts) = w ∷ joined acts
  joined (Act.LetGo place ws ∷ acts) = joined acts
  joined (Act.End place ws ∷ acts) = joined acts

  -- all who were given back
  abbrev pub given_back : List (Act W) → List W
  given_back [] = []
  given_back (Act.Begin kernel ∷ acts) = given_back acts
  given_back (Act.Join kernel w ∷ acts) = given_back acts
  given_back (Act.LetGo place ws ∷ acts) = ws ++ given_back acts
  given_back (Act.End place ws ∷ acts) = ws ++ given_back acts
