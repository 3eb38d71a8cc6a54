-- One place of a list.
use Rattle.std.proofs.Common.{◌≡◌, ℕ, zero, suc, ◌+◌, ◌<◌, ◌≤◌, List, [], ◌∷◌, ◌++◌, drop, get_or, drop-cons, length, Bool, true, false, cond, not, ◌&&◌, ◌||◌, Option, Some, None, refl, sym, ap, ap₂, ◌∙◌, subst, arith}
use Rattle.std.specs.List.{list_any, position_from}
use Rattle.std.specs.Prelude.{slice_get, slice_set}
use Rattle.nb_doc.specs.declared.notebook.Cell.{Cell}
use Rattle.nb_record.specs.Book.{is_code_at, has_code}
use Rattle.std.specs.Prelude.{Result, Ok, Err, OnOk, OnErr}
use Rattle.nb_doc.specs.declared.notebook.Output.{Output}
use Rattle.nb_record.specs.Steps.{wrote_cell}

pub set_twice : {X : Type 0} (xs : List X) (i : ℕ) (a b : X) → slice_set (slice_set xs i a) i b ≡ slice_set xs i b
set_twice [] i a b = refl
set_twice (x ∷ xs) zero a b = refl
set_twice (x ∷ xs) (suc i) a b = ap (λ r. x ∷ r) (set_twice xs i a b)

pub set_same : {X : Type 0} (xs : List X) (i : ℕ) (c : X) → slice_get xs i ≡ Some c → slice_set xs i c ≡ xs
set_same [] i c h = refl
set_same (x ∷ xs) zero c h = let same : x ≡ c = cc in ap (λ y. y ∷ xs) (sym same)
set_same (x ∷ xs) (suc i) c h = ap (λ r. x ∷ r) (set_same xs i c h)

-- what was put back in the place that was emptied
pub set_back : {X : Type 0} (xs now after : List X) (i : ℕ) (a b : X) → now ≡ slice_set xs i a → after ≡ slice_set now i b → after ≡ slice_set xs i b
set_back xs now after i a b h k = k ∙ ap (λ l. slice_set l i b) h ∙ set_twice xs i a b

pub one_there : {X : Type 0} (xs : List X) (i : ℕ) (a b : X) → slice_get xs i ≡ Some a → slice_get xs i ≡ Some b → a ≡ b
one_there xs i a b h k = let e : Some a ≡ Some b = sym h ∙ k in cc

pub wrote_back : {E : Type 0} (old now after : List Cell) (place : ℕ) (o : Output) (blank was cell : Cell) (r : Result (Unit {0}) E) → now ≡ slice_set old place blank → slice_get old place ≡ Some was → after ≡ slice_set now place cell
    → OnOk r (cell ≡ wrote_cell o was) → OnOk r ((x : Cell) → slice_get old place ≡ Some x → after ≡ slice_set old place (wrote_cell o x))
wrote_back old now after place o blank was cell (Ok done) h at k wrote =
    λ x there. set_back old now after place blank cell h k ∙ ap (slice_set old place) (wrote ∙ ap (wrote_cell o) (one_there old place was x at there))
wrote_back old now after place o blank was cell (Err e) h at k wrote = tt

pub left_back : {E : Type 0} (old now after : List Cell) (place : ℕ) (blank was cell : Cell) (r : Result (Unit {0}) E) → now ≡ slice_set old place blank → slice_get old place ≡ Some was → after ≡ slice_set now place cell
    → OnErr r (cell ≡ was) → OnErr r (after ≡ old)
left_back old now after place blank was cell (Ok done) h at k left = tt
left_back old now after place blank was cell (Err e) h at k left = set_back old now after place blank cell h k ∙ ap (slice_set old place) left ∙ set_same old place was at

-- ---- which are still executed

still_step : (still at left gone : Bool) → ((at && gone) ≡ false) → (still || ((at || left) && gone)) ≡ (still || (left && gone))
still_step true at left gone h = refl
still_step false false left gone h = refl
still_step false true left true h = cc
still_step false true true false h = refl
still_step false true false false h = refl

still_more : (still at left gone : Bool) → (at ≡ true → gone ≡ true) → (still || ((at || left) && gone)) ≡ ((at || still) || (left && gone))
still_more still true left gone h = go still gone (h refl)
  where
    go : (s g : Bool) → g ≡ true → (s || (true && g)) ≡ true
    go true g e = refl
    go false g e = e
still_more still false left gone h = refl
