-- Code with one more module after it.
use Rattle.std.proofs.Common.{◌≡◌, ◌⊎◌, ℕ, zero, suc, ◌+◌, ◌<◌, Bool, true, List, [], ◌∷◌, ◌++◌, length, Some, None, refl, sym, ap, ◌∙◌, subst, inl, inr, arith}
use Rattle.std.specs.Prelude.{slice_get, slice_index}
use Rattle.std.proofs.lemmas.Option.{slice_get_within}
use Rattle.ob_mean.specs.declared.face.Face.{Face}
use Rattle.ob_mean.specs.Programs.{Program}
use Rattle.ob_code.specs.declared.instr.Entries.{Entries}
use Rattle.ob_code.specs.declared.instr.LinkedModule.{LinkedModule}
use Rattle.ob_code.specs.Linked.{all_cells, AreLaid, IsAsKnown, Imports, IsLinked}
use Rattle.ob_code.specs.Machine.{Code}
use Rattle.ob_gen.specs.Correct.{IsCodeOfProgram}
use Rattle.ob_gen.specs.TypesAgree.{Shapes}
use Rattle.ob_gen.proofs.machine.Places.{some_same}

-- ---- lists

pub kept_at : {A : Type 0} (xs ys : List A) (i : ℕ) (x : A) → slice_get xs i ≡ Some x → slice_get (xs ++ ys) i ≡ Some x
kept_at [] ys i x e = absurd (let n : None ≡ Some x = e in cc)
kept_at (y ∷ xs) ys zero x e = e
kept_at (y ∷ xs) ys (suc i) x e = kept_at xs ys i x e

pub last_at : {A : Type 0} (xs : List A) (x : A) → slice_get (xs ++ x ∷ []) (length xs) ≡ Some x
last_at [] x = refl
last_at (y ∷ xs) x = last_at xs x

pub kept_or_last : {A : Type 0} (xs : List A) (x y : A) (i : ℕ) → slice_get (xs ++ x ∷ []) i ≡ Some y → (slice_get xs i ≡ Some y) ⊎ ((i ≡ length xs) × (x ≡ y))
kept_or_last [] x y zero e = inr (refl, some_same x y e)
kept_or_last [] x y (suc i) e = absurd (let n : None ≡ Some y = e in cc)
kept_or_last (z ∷ xs) x y zero e = inl e
kept_or_last (z ∷ xs) x y (suc i) e = by (kept_or_last xs x y i e)
  where
    by : (slice_get xs i ≡ Some y) ⊎ ((i ≡ length xs) × (x ≡ y)) → (slice_get xs i ≡ Some y) ⊎ ((suc i ≡ suc (length xs)) × (x ≡ y))
    by (inl h) = inl h
    by (inr h) = inr (ap suc h.0, h.1)

pub index_at : (xs : List ℕ) (i x : ℕ) → slice_get xs i ≡ Some x → slice_index xs i ≡ x
index_at [] i x e = absurd (let n : None ≡ Some x = e in cc)
index_at (y ∷ xs) zero x e = some_same y x e
index_at (y ∷ xs) (suc i) x e = index_at xs i x e

-- ---- code

-- cells after those of all others
laid_behind : (from : ℕ) (code : Code) (l : LinkedModule) → AreLaid from code → l.cells ≡ from + all_cells code → AreLaid from (code ++ l ∷ [])
laid_behind from [] l h e = (omega (arith, e), tt)
laid_behind from (x ∷ code) l h e = (h.0, laid_behind (from + x.code.cells) code l h.1 (omega (arith, e)))

-- each module of the code stands in the other at its place
abbrev pub IsWithin : Code → Code → Type 0
IsWithin code other = (i : ℕ) (l : LinkedModule) → slice_get code i ≡ Some l → slice_get other i ≡ Some l

-- What is said of the modules that may run counts for those that are there.
pub as_known_alike : (code other : Code) (runs others : ℕ → Bool) (i : ℕ) (known : Entries) → IsWithin code other → ((n : ℕ) → n < length code → runs n ≡ others n) → IsAsKnown code runs i known → IsAsKnown other others i known
as_known_alike code other runs others i known within alike k = record {
  may_run = sym (alike i (slice_get_within code i k.l k.loaded)) ∙ k.may_run;
  l = k.l;
  loaded = within i k.l k.loaded;
  cells = k.cells;
  exports = k.exports;
}

import_alike : (code other : Code) (runs others : ℕ → Bool) (home : ℕ) (l : LinkedModule) (i : ℕ) (known : Entries) → IsWithin code other → ((n : ℕ) → n < length code → runs n ≡ others n) → IsLinked code runs → slice_get code home ≡ Some l → others home ≡ true → slice_get l.code.imports.items i ≡ Some known → Imports other others l i known
import_alike code other runs others home l i known within alike linked at ok e =
    let n = linked.imports home l at (alike home (slice_get_within code home l at) ∙ ok) i known e in
    record { number = n.number; found = n.found; as_known = as_known_alike code other runs others n.number known within alike n.as_known }

pub linked_alike : (code : Code) (runs others : ℕ → Bool) → ((n : ℕ) → n < length code → runs n ≡ others n) → IsLinked code runs → IsLinked code others
linked_alike code runs others alike linked = record {
  laid = linked.laid;
  imports = λ home l at ok i known e. import_alike code code runs others home l i known (λ n x there. there) alike linked at ok e;
}

pub linked_behind : (code : Code) (l : LinkedModule) (runs others : ℕ → Bool) → ((n : ℕ) → n < length code → runs n ≡ others n) → IsLinked code runs → l.cells ≡ all_cells code → ((i : ℕ) (known : Entries) → slice_get l.code.imports.items i ≡ Some known → Imports (code ++ l ∷ []) others l i known) → IsLinked (code ++ l ∷ []) others
linked_behind code l runs others alike linked cells imports = record {
  laid = laid_behind 0 code l linked.laid (omega (arith, cells));
  imports = λ home x at ok i known e. by home x ok i known e (kept_or_last code l x home at);
}
  where
    by : (home : ℕ) (x : LinkedModule) → others home ≡ true → (i : ℕ) (known : Entries) → slice_get x.code.imports.items i ≡ Some known → (slice_get code home ≡ Some x) ⊎ ((home ≡ length code) × (l ≡ x)) → Imports (code ++ l ∷ []) others x i known
    by home x ok i known e (inl at) = import_alike code (code ++ l ∷ []) runs others home x i known (kept_at code (l ∷ [])) alike linked at ok e
    by home x ok i known e (inr at) =
        subst (λ y. Imports (code ++ l ∷ []) others y i known) at.1 (imports i known (ap (λ (y : LinkedModule). slice_get y.code.imports.items i) at.1 ∙ e))

-- the code of a program is that of the program, whatever stands after it
pub program_behind : (program : Program) (code more : Code) (faces : ℕ → List Face) (shapes : Shapes) (runs : ℕ → Bool) → IsCodeOfProgram program code faces shapes runs → IsCodeOfProgram program (code ++ more) faces shapes runs
program_behind program code more faces shapes runs whole i ok =
    let r = whole i ok in
    record { m = r.m; l = r.l; loaded = r.loaded; found = kept_at code more i r.l r.found; linked = r.linked; compiled = r.compiled; types = r.types; imports = r.imports }
