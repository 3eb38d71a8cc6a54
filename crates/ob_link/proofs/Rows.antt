-- Rows that have something for each module, by its number.
use Rattle.std.proofs.Common.{◌≡◌, ℕ, suc, ◌<◌, cond, List, [], ◌∷◌, length, map, Some, None, option_map, slice_get, unwrap_or, refl, sym, ◌∙◌, ap, inl, inr}
use Rattle.std.specs.Prelude.{slice_index_or}
use Rattle.std.specs.Str.{bytes_eq}
use Rattle.std.proofs.lemmas.Bool.{cases_Bool}
use Rattle.std.proofs.lemmas.List.{same_lists}
use Rattle.std.proofs.lemmas.Option.{slice_get-map, get_or_from_slice_get, unwrap_or-slice_get}
use Rattle.ob_session.specs.Session.{Module, name_of, find_module, place_of}

-- rows that have the same at each number are one
pub same_rows : {A : Type 0} (xs ys : List A) → length xs ≡ length ys → ((k : ℕ) → k < length xs → slice_get xs k ≡ slice_get ys k) → xs ≡ ys
same_rows xs ys e h = same_lists xs ys e (λ k d lt. sym (unwrap_or-slice_get xs k d) ∙ ap (λ o. unwrap_or o d) (h k lt) ∙ unwrap_or-slice_get ys k d)

-- a module that is found stands at the place of its name
pub found_at : (ms : List Module) (q : List ℕ) (m : Module) → find_module ms q ≡ Some m → slice_get ms (place_of ms q) ≡ Some m
found_at [] q m e = absurd (let k : None ≡ Some m = e in cc)
found_at (n ∷ ms) q m e =
    elim (cases_Bool (bytes_eq (name_of n) q)) as (λ _. slice_get (n ∷ ms) (place_of (n ∷ ms) q) ≡ Some m) [
      | inl y ↦ ap (λ b. slice_get (n ∷ ms) (cond b 0 (suc (place_of ms q)))) y ∙ sym (ap (λ b. cond b (Some n) (find_module ms q)) y) ∙ e
      | inr f ↦ ap (λ b. slice_get (n ∷ ms) (cond b 0 (suc (place_of ms q)))) f
          ∙ found_at ms q m (sym (ap (λ b. cond b (Some n) (find_module ms q)) f) ∙ e)
    ]

-- what a row has at a number
pub at_number : {A : Type 0} (F : Module → A) (d : A) (ms : List Module) (k : ℕ) (m : Module) → slice_get ms k ≡ Some m → slice_index_or (map F ms) k d ≡ F m
at_number F d ms k m e = get_or_from_slice_get (map F ms) k (F m) d (slice_get-map F ms k ∙ ap (option_map F) e)

-- and at the place of a module
pub at_place : {A : Type 0} (F : Module → A) (d : A) (ms : List Module) (q : List ℕ) (m : Module) → find_module ms q ≡ Some m → slice_index_or (map F ms) (place_of ms q) d ≡ F m
at_place F d ms q m e = at_number F d ms (place_of ms q) m (found_at ms q m e)

-- and after all of them
pub at_no_place : {A : Type 0} (F : Module → A) (d : A) (ms : List Module) (q : List ℕ) → find_module ms q ≡ None → slice_index_or (map F ms) (place_of ms q) d ≡ d
at_no_place F d [] q e = refl
at_no_place F d (n ∷ ms) q e =
    elim (cases_Bool (bytes_eq (name_of n) q)) as (λ _. slice_index_or (map F (n ∷ ms)) (place_of (n ∷ ms) q) d ≡ d) [
      | inl y ↦ absurd (let k : Some n ≡ None = sym (ap (λ b. cond b (Some n) (find_module ms q)) y) ∙ e in cc)
      | inr f ↦ ap (λ b. slice_index_or (map F (n ∷ ms)) (cond b 0 (suc (place_of ms q))) d) f
          ∙ at_no_place F d ms q (sym (ap (λ b. cond b (Some n) (find_module ms q)) f) ∙ e)
    ]
