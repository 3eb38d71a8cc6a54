-- A field is found by its place.
use Rattle.std.proofs.Common.{◌≡◌, ◌<◌, ◌+◌, ℕ, zero, suc, Bool, true, false, cond, List, [], ◌∷◌, length, get_or, Option, Some, None, refl, sym, ap, ◌∙◌, arith}
use Rattle.std.specs.Str.{bytes_eq}
use Rattle.ob_types.specs.declared.structure.Field.{Field}
use Rattle.ob_types.specs.Forms.{place_from}
use Rattle.ob_check_operand.specs.Selecting.{field_from}

-- the place, counted from a number, is that of a field, which is found
abbrev pub FoundAt : List Field → ℕ → ℕ → List ℕ → Type 0
FoundAt fs k n name = (i : ℕ) × (n ≡ k + i) × (i < length fs) × ((d : Field) → field_from k fs name ≡ Some (n, get_or fs i d))

some_number : (n m : ℕ) → Some n ≡ Some m → n ≡ m
some_number n m e = cc

first_found : (f : Field) (fs : List Field) (k n : ℕ) (name : List ℕ) → bytes_eq f.name name ≡ true → k ≡ n → FoundAt (f ∷ fs) k n name
first_found f fs k n name e s =
    (0, omega (arith, s), omega arith, λ d. ap (λ b. cond b (Some (k, f)) (field_from (k + 1) fs name)) e ∙ ap (λ m. Some (m, f)) s)

later_found : (f : Field) (fs : List Field) (k n : ℕ) (name : List ℕ) → bytes_eq f.name name ≡ false → FoundAt fs (k + 1) n name → FoundAt (f ∷ fs) k n name
later_found f fs k n name e h =
    (suc h.0, omega (arith, h.1), omega (arith, h.2), λ d. ap (λ b. cond b (Some (k, f)) (field_from (k + 1) fs name)) e ∙ h.3 d)

found_by : (f : Field) (fs : List Field) (k n : ℕ) (name : List ℕ) (b : Bool) → bytes_eq f.name name ≡ b → cond b (Some k) (place_from (k + 1) fs name) ≡ Some n → (place_from (k + 1) fs name ≡ Some n → FoundAt fs (k + 1) n name) → FoundAt (f ∷ fs) k n name
found_by f fs k n name true e h later = first_found f fs k n name e (some_number k n h)
found_by f fs k n name false e h later = later_found f fs k n name e (later h)

pub found_at : (fs : List Field) (k n : ℕ) (name : List ℕ) → place_from k fs name ≡ Some n → FoundAt fs k n name
found_at [] k n name h = absurd (let m : None ≡ Some n = h in cc)
found_at (f ∷ fs) k n name h = found_by f fs k n name (bytes_eq f.name name) refl h (found_at fs (k + 1) n name)

none_by : (f : Field) (fs : List Field) (k : ℕ) (name : List ℕ) (b : Bool) → bytes_eq f.name name ≡ b → cond b (Some k) (place_from (k + 1) fs name) ≡ None → (place_from (k + 1) fs name ≡ None → field_from (k + 1) fs name ≡ None) → field_from k (f ∷ fs) name ≡ None
none_by f fs k name true e h later = absurd (let m : Some k ≡ None = h in cc)
none_by f fs k name false e h later = ap (λ b. cond b (Some (k, f)) (field_from (k + 1) fs name)) e ∙ later h

pub none_found : (fs : List Field) (k : ℕ) (name : List ℕ) → place_from k fs name ≡ None → field_from k fs name ≡ None
none_found [] k name h = refl
none_found (f ∷ fs) k name h = none_by f fs k name (bytes_eq f.name name) refl h (none_found fs (k + 1) name)
