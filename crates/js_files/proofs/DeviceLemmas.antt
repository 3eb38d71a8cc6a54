-- What a device tells, one call after another.
use Rattle.std.proofs.Common.{◌≡◌, ℕ, Bool, true, false, cond, List, Option, Some, None, Ok, Err, refl, ap, ◌∙◌, subst}
use Rattle.std.specs.Prelude.{◌&&◌, is_some}
use Rattle.js_shelf.specs.declared.item.ShelfRefusal.TheVariants as refusal
use Rattle.js_shelf.specs.Paths.{parent_of}
use Rattle.js_shelf.specs.Shelves.{Contents, Same, Tells, Renames, rename_fault, is_folder, is_below, moved}
use Rattle.js_shelf.specs.Devices.{Finds, Moves}
use Rattle.js_shelf.proofs.RefusalLemmas.{is_good, rename_is}

-- a call that found something, and then another
pub found_then : {A : Type 0} (o p q : Option Contents) (is_so : Contents → A → Type 0) (found : A) (Q R : Contents → Contents → Type 0)
    → Tells o p (Finds is_so (Ok found)) → Tells p q Q → ((m n : Contents) → is_so m found → Q m n → R m n) → Tells o q R
found_then None p q is_so found Q R t u h = tt
found_then (Some m) None q is_so found Q R t u h = absurd t
found_then (Some m) (Some n) None is_so found Q R t u h = absurd u
found_then (Some m) (Some n) (Some k) is_so found Q R t u h =
    let same : n ≡ m = (λ i path. t.1 path i) in h m k t.0 (subst (λ (n : Contents). Q n k) same u)

pub told_then : (o p : Option Contents) (P R : Contents → Contents → Type 0) → Tells o p P → ((m n : Contents) → P m n → R m n) → Tells o p R
told_then None p P R t h = tt
told_then (Some m) None P R t h = absurd t
told_then (Some m) (Some n) P R t h = h m n t

-- ---- a move

abbrev IsInto : List ℕ → List ℕ → Contents → Bool → Type 0
IsInto from to m found = found ≡ (is_folder (m from) && is_below from to)

abbrev IsMovable : List ℕ → List ℕ → Contents → Bool → Type 0
IsMovable from folder m found = found ≡ (is_some (m from) && is_folder (m folder))

abbrev IsTaken : List ℕ → Contents → Bool → Type 0
IsTaken to m found = found ≡ is_some (m to)

-- the paths of a move, and their places
pub record AreMoved (from to source target folder : List ℕ) : Type 0 where
  pub is_from : source ≡ from
  pub is_to : target ≡ to
  pub is_parent : folder ≡ parent_of target
  pub good_from : true ≡ is_good from
  pub good_to : true ≡ is_good to

move_fault : (from to source target folder : List ℕ) (m : Contents) (movable taken : Bool) → AreMoved from to source target folder → IsInto source target m false → IsMovable source folder m movable → IsTaken target m taken
    → rename_fault m from to ≡ cond movable (cond taken (Some refusal.Exists) None) (Some refusal.Missing)
move_fault from to source target folder m movable taken a into goes at =
    rename_is m from to false movable taken a.good_from a.good_to
    (into ∙ ap (λ p. is_folder (m p) && is_below p target) a.is_from ∙ ap (λ p. is_folder (m from) && is_below from p) a.is_to)
    (goes ∙ ap (λ p. is_some (m p) && is_folder (m folder)) a.is_from ∙ ap (λ p. is_some (m from) && is_folder (m p)) (a.is_parent ∙ ap parent_of a.is_to))
    (at ∙ ap (λ p. is_some (m p)) a.is_to)

pub move_missing : (o p q : Option Contents) (from to source target folder : List ℕ) → AreMoved from to source target folder
    → Tells o p (Finds (IsInto source target) (Ok false)) → Tells p q (Finds (IsMovable source folder) (Ok false)) → Tells o q (Renames from to (Err refusal.Missing))
move_missing o p q from to source target folder a into goes =
    found_then o p q (IsInto source target) false (Finds (IsMovable source folder) (Ok false)) (Renames from to (Err refusal.Missing)) into goes
    (λ m n i g. (move_fault from to source target folder m false (is_some (m target)) a i g.0 refl, g.1))

pub move_exists : (o p q r : Option Contents) (from to source target folder : List ℕ) → AreMoved from to source target folder
    → Tells o p (Finds (IsInto source target) (Ok false)) → Tells p q (Finds (IsMovable source folder) (Ok true)) → Tells q r (Finds (IsTaken target) (Ok true)) → Tells o r (Renames from to (Err refusal.Exists))
move_exists o p q r from to source target folder a into goes at =
    let R = λ (m n : Contents). IsMovable source folder m true × IsTaken target m true × Same m n in
    found_then o p r (IsInto source target) false R (Renames from to (Err refusal.Exists)) into
    (found_then p q r (IsMovable source folder) true (Finds (IsTaken target) (Ok true)) R goes at (λ m n g t. (g, t.0, t.1)))
    (λ m n i g. (move_fault from to source target folder m true true a i g.0 g.1, g.2))

pub move_done : (o p q r s : Option Contents) (from to source target folder : List ℕ) → AreMoved from to source target folder
    → Tells o p (Finds (IsInto source target) (Ok false)) → Tells p q (Finds (IsMovable source folder) (Ok true)) → Tells q r (Finds (IsTaken target) (Ok false))
    → Tells r s (Moves source target (Ok tt)) → Tells o s (Renames from to (Ok tt))
move_done o p q r s from to source target folder a into goes at moves =
    let Q = λ (m n : Contents). IsTaken target m false × Same (moved m source target) n in
    let R = λ (m n : Contents). IsMovable source folder m true × IsTaken target m false × Same (moved m source target) n in
    found_then o p s (IsInto source target) false R (Renames from to (Ok tt)) into
    (found_then p q s (IsMovable source folder) true Q R goes
    (found_then q r s (IsTaken target) false (Moves source target (Ok tt)) Q at moves (λ m n t w. (t, w)))
    (λ m n g t. (g, t.0, t.1)))
    (λ m n i g. (move_fault from to source target folder m true false a i g.0 g.1, λ path. g.2 path ∙ ap (λ p. moved m p target path) a.is_from ∙ ap (λ p. moved m from p path) a.is_to))
