-- Modules by their names.
use Rattle.std.proofs.Common.{◌≡◌, ℕ, Bool, true, false, cond, List, ◌∷◌, Option, Some, None, refl, ◌∙◌}
use Rattle.std.specs.Cmp.Lexicographic.{nat_list_eq_equiv}
use Rattle.std.specs.Str.{bytes_eq}
use Rattle.ob_session.specs.Session.{Module, name_of, find_module}

-- one of two lists, each for its case
pub by_test : {A : Type 0} (P : A → Type 0) (b : Bool) (x y : A) → (b ≡ true → P x) → (b ≡ false → P y) → P (cond b x y)
by_test P true x y held failed = held refl
by_test P false x y held failed = failed refl

none_there : (b : Bool) (m : Module) (rest : Option Module) → cond b (Some m) rest ≡ None → (b ≡ false) × (rest ≡ None)
none_there true m rest e = absurd (let k : Some m ≡ None = e in cc)
none_there false m rest e = (refl, e)

-- a name that is not found is no module's
pub not_found : (m : Module) (ms : List Module) (name : List ℕ) → find_module (m ∷ ms) name ≡ None → (bytes_eq (name_of m) name ≡ false) × (find_module ms name ≡ None)
not_found m ms name e = none_there (bytes_eq (name_of m) name) m (find_module ms name) e

pub turned : (xs ys : List ℕ) → bytes_eq xs ys ≡ false → bytes_eq ys xs ≡ false
turned xs ys e = nat_list_eq_equiv.symm ys xs ∙ e
