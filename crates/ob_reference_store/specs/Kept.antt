-- What the values of the code stand for.
use Rattle.std.specs.Prelude.{ℕ, List, [], ◌∷◌}
use Rattle.ob_reference_store.specs.declared.value.Value as declared
use Rattle.ob_reference_store.specs.declared.value.Value.TheVariants as kept
use Rattle.ob_mean.specs.Values.{Place, Whole, Part, Value, Cell, Named, Open, Nothing, Beside, item, with_item}

-- a path from a place
abbrev pub place_from : Place → List ℕ → Place
place_from p [] = p
place_from p (i ∷ is) = place_from (Part p i) is

abbrev pub place_of : List ℕ → Place
place_of path = place_from Whole path

abbrev pub value_in : declared.Value → Value
value_in (kept.Cell z) = Cell z
value_in (kept.Named path) = Named (place_of path.items) []
value_in (kept.Typed path type) = Named (place_of path.items) type
value_in (kept.Open path length) = Open (place_of path.items) length
value_in kept.Nothing = Nothing
value_in (kept.Beside' p v q rest) = Beside (value_in v) (value_in rest)

-- what stands at a path
abbrev pub walk : Value → List ℕ → Value
walk v [] = v
walk v (i ∷ is) = walk (item v i) is

-- with another value at a path
abbrev pub walk_set : Value → List ℕ → Value → Value
walk_set v [] new = new
walk_set v (i ∷ is) new = with_item v i (walk_set (item v i) is new)
