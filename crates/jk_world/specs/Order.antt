-- To be believed.
-- The order in which requests are answered.
use Rattle.std.specs.Prelude.{ℕ, ◌<◌, List, [], ◌∷◌}
use Rattle.jk_log.specs.declared.mark.Item.TheVariants.{Took, Marked}
use Rattle.jk_log.specs.declared.mark.Kind.{Kind}
use Rattle.jk_log.specs.declared.mark.Kind.TheVariants.{Begin, Refuse, Abort, Answer}
use Rattle.jk_log.specs.Log.{Log}

abbrev pub AllBelow : ℕ → List ℕ → Type 0
AllBelow n [] = Unit {0}
AllBelow n (m ∷ ms) = (m < n) × AllBelow n ms

-- each number is above all that follow it
abbrev pub IsFalling : List ℕ → Type 0
IsFalling [] = Unit {0}
IsFalling (n ∷ ns) = AllBelow n ns × IsFalling ns

abbrev pub answered_with : Kind → ℕ → List ℕ → List ℕ
answered_with (Begin count) at places = at ∷ places
answered_with (Refuse count) at places = at ∷ places
answered_with Abort at places = at ∷ places
answered_with (Answer status) at places = at ∷ places
answered_with other at places = places

-- the places of the requests that were begun, refused, aborted or answered, the last first
abbrev pub answered_places : Log → List ℕ
answered_places [] = []
answered_places (Took a ∷ past) = answered_places past
answered_places (Marked m ∷ past) = answered_with m.kind m.at (answered_places past)
