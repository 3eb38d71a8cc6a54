-- A path from the store, and the place that it stands for.
use Rattle.std.proofs.Common.{◌≡◌, ℕ, List, [], ◌∷◌, ◌++◌, refl}
use Rattle.ob_mean.specs.Values.{Place, Whole, Part, Value, Nothing, get, set}
use Rattle.ob_reference_store.specs.Kept.{place_from, place_of, walk, walk_set}

pub walk_nothing : (path : List ℕ) → walk Nothing path ≡ Nothing
walk_nothing [] = refl
walk_nothing (i ∷ is) = walk_nothing is

-- what stands at a place is what its path leads to
pub get_from : (s : Value) (p : Place) (path : List ℕ) → get s (place_from p path) ≡ walk (get s p) path
get_from s p [] = refl
get_from s p (i ∷ is) = get_from s (Part p i) is

pub get_path : (s : Value) (path : List ℕ) → get s (place_of path) ≡ walk s path
get_path s path = get_from s Whole path

pub set_from : (s : Value) (p : Place) (path : List ℕ) (v : Value) → set s (place_from p path) v ≡ set s p (walk_set (get s p) path v)
set_from s p [] v = refl
set_from s p (i ∷ is) v = set_from s (Part p i) is v

pub set_path : (s : Value) (path : List ℕ) (v : Value) → set s (place_of path) v ≡ walk_set s path v
set_path s path v = set_from s Whole path v

-- one part more
pub part_from : (p : Place) (path : List ℕ) (i : ℕ) → place_from p (path ++ i ∷ []) ≡ Part (place_from p path) i
part_from p [] i = refl
part_from p (j ∷ js) i = part_from (Part p j) js i

pub part_of : (path : List ℕ) (i : ℕ) → place_of (path ++ i ∷ []) ≡ Part (place_of path) i
part_of path i = part_from Whole path i
