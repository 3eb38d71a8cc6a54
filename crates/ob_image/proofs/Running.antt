-- A module whose imports link may run once it is loaded.
use Rattle.std.proofs.Common.{◌≡◌, ◌≢◌, ℕ, zero, suc, Bool, true, false, List, [], ◌∷◌, Some, None, is_none, if◌then◌else◌, refl, sym, ap, ◌∙◌, arith}
use Rattle.std.specs.Prelude.{slice_get}
use Rattle.std.specs.Str.{bytes_eq}
use Rattle.std.proofs.lemmas.Slice.Eq.{bytes_eq-Decides}
use Rattle.ob_session.specs.Session.{Import, Module, name_of, find_module, place_of, link_fault, with_module}
use Rattle.ob_session.specs.Links.{Reached, First, Behind, Through}
use Rattle.ob_session.proofs.Links.{each_links}
use Rattle.ob_image.specs.Compiled.{links}
use Rattle.ob_image.specs.Loading.{IsUnreached, EachLoadedRuns}
use Rattle.ob_image.proofs.Loads.{loads}

-- ---- names

pub same_name : (a b : List ℕ) → bytes_eq a b ≡ true → a ≡ b
same_name a b e = let d = bytes_eq-Decides a b in grind (arith, d, e)

pub equal_name : (a : List ℕ) → bytes_eq a a ≡ true
equal_name a = let d = bytes_eq-Decides a a in grind (arith, d)

pub other_name : (a b : List ℕ) → b ≢ a → bytes_eq a b ≡ false
other_name a b h = by (bytes_eq a b) refl
  where
    by : (t : Bool) → bytes_eq a b ≡ t → t ≡ false
    by true e = absurd (h (sym (same_name a b e)))
    by false e = refl

module _ (modules : List Module) (m : Module) where
  -- a module of another name is found as before
  pub found_other : (name : List ℕ) → name ≢ name_of m → find_module (with_module modules m) name ≡ find_module modules name
  found_other name other =
      (loads modules m).found name ∙ ap (λ b. if b then Some m else find_module modules name) (other_name (name_of m) name other)

  -- what is reached is reached as before
  reached_before : (i : Import) (is : List Import) → IsUnreached modules (name_of m) is → Reached (with_module modules m) i is → Reached modules i is
  reached_before i is un (First js) = First js
  reached_before i is un (Behind j js r) = Behind j js (reached_before i js (λ x y. un x (Behind j js y)) r)
  reached_before i is un (Through j js d e r) =
      let found : find_module modules j.name ≡ Some d = sym (found_other j.name (un j (First js))) ∙ e in
      Through j js d found (reached_before i d.imports (λ x y. un x (Through j js d found y)) r)

  imports_link : (is : List Import) → link_fault modules is ≡ None → IsUnreached modules (name_of m) is → link_fault (with_module modules m) is ≡ None
  imports_link is linked un = (each_links (with_module modules m) is).linked.1 (λ i r.
      let before = reached_before i is un r in
      let l = (each_links modules is).linked.0 linked i before in
      (l.0, found_other i.name (un i before) ∙ l.1, l.2))

-- the module stands in the place of its name
pub put_there : (ms : List Module) (m : Module) → slice_get (with_module ms m) (place_of ms (name_of m)) ≡ Some m
put_there [] m = refl
put_there (x ∷ ms) m = by (bytes_eq (name_of x) (name_of m)) (put_there ms m)
  where
    by : (b : Bool) → slice_get (with_module ms m) (place_of ms (name_of m)) ≡ Some m → slice_get (if b then m ∷ ms else x ∷ with_module ms m) (if b then zero else suc (place_of ms (name_of m))) ≡ Some m
    by true later = refl
    by false later = later

pub loaded_runs : EachLoadedRuns
loaded_runs modules m linked un = ap (links (with_module modules m)) (put_there modules m) ∙ ap is_none (imports_link modules m m.imports linked un)
