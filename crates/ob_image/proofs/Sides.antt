-- Lists that go side by side: modules, what is known of them, and their code.
use Rattle.std.proofs.Common.{◌≡◌, ℕ, zero, suc, ◌+◌, List, [], ◌∷◌, length, Option, Some, None, Bool, true, refl, sym, ap, subst, arith}
use Rattle.std.specs.Prelude.{map, slice_get}
use Rattle.ob_mean.specs.declared.face.Face.{Face}
use Rattle.ob_mean.specs.Values.{before, size}
use Rattle.ob_mean.specs.Programs.{opening_store}
use Rattle.ob_code.specs.declared.instr.Entries.{Entries}
use Rattle.ob_code.specs.declared.instr.LinkedModule.{LinkedModule}
use Rattle.ob_code.specs.Linked.{all_cells, AreLaid}
use Rattle.ob_code.specs.Machine.{Code}
use Rattle.ob_gen.specs.Correct.{AllRun}
use Rattle.ob_gen.specs.Generated.{IsOfFace, AreOfFaces}
use Rattle.ob_gen.proofs.machine.Places.{some_same}
use Rattle.ob_session.specs.Session.{Module, loaded}
use Rattle.ob_image.specs.Compiled.{Known, IsCompiledAt, AreCompiledFrom, face_in, AreKnown}

-- ---- code

-- the module of this number has code, whose cells begin where its variables do
pub record HasCode (all ms : List Module) (ks : List Known) (ls : Code) (from i : ℕ) (m : Module) : Type 0 where
  pub k : Known
  pub l : LinkedModule
  pub known : slice_get ks i ≡ Some k
  pub found : slice_get ls i ≡ Some l
  pub compiled : IsCompiledAt all m k l (from + before (opening_store (map (loaded all) ms)) i)

pub code_at : (all ms : List Module) (ks : List Known) (ls : Code) (from i : ℕ) (m : Module) → AreCompiledFrom all ms ks ls from → slice_get ms i ≡ Some m → HasCode all ms ks ls from i m
code_at all [] ks ls from i m h e = absurd (let n : None ≡ Some m = e in cc)
code_at all (x ∷ ms) [] ls from i m h e = absurd h
code_at all (x ∷ ms) (k ∷ ks) [] from i m h e = absurd h
code_at all (x ∷ ms) (k ∷ ks) (l ∷ ls) from zero m h e =
    let same : from ≡ from + 0 = omega arith in
    record {
      k = k;
      l = l;
      known = refl;
      found = refl;
      compiled = subst (IsCompiledAt all m k l) same (subst (λ y. IsCompiledAt all y k l from) (some_same x m e) h.0);
    }
code_at all (x ∷ ms) (k ∷ ks) (l ∷ ls) from (suc i) m h e =
    let r = code_at all ms ks ls (from + l.code.cells) i m h.1 e in
    let same : from + l.code.cells + before (opening_store (map (loaded all) ms)) i ≡ from + before (opening_store (map (loaded all) (x ∷ ms))) (suc i) = omega (arith, h.0.ready.generated.cells) in
    record { k = r.k; l = r.l; known = r.known; found = r.found; compiled = subst (IsCompiledAt all m r.k r.l) same r.compiled }

pub are_laid : (all ms : List Module) (ks : List Known) (ls : Code) (from : ℕ) → AreCompiledFrom all ms ks ls from → AreLaid from ls
are_laid all [] [] [] from h = tt
are_laid all [] [] (l ∷ ls) from h = absurd h
are_laid all [] (k ∷ ks) ls from h = absurd h
are_laid all (m ∷ ms) [] ls from h = absurd h
are_laid all (m ∷ ms) (k ∷ ks) [] from h = absurd h
are_laid all (m ∷ ms) (k ∷ ks) (l ∷ ls) from h = (h.0.cells, are_laid all ms ks ls (from + l.code.cells) h.1)

pub as_long : (all ms : List Module) (ks : List Known) (ls : Code) (from : ℕ) → AreCompiledFrom all ms ks ls from → length ls ≡ length ms
as_long all [] [] [] from h = refl
as_long all [] [] (l ∷ ls) from h = absurd h
as_long all [] (k ∷ ks) ls from h = absurd h
as_long all (m ∷ ms) [] ls from h = absurd h
as_long all (m ∷ ms) (k ∷ ks) [] from h = absurd h
as_long all (m ∷ ms) (k ∷ ks) (l ∷ ls) from h = ap suc (as_long all ms ks ls (from + l.code.cells) h.1)

pub known_as_long : (all ms : List Module) (ks : List Known) (ls : Code) (from : ℕ) → AreCompiledFrom all ms ks ls from → length ks ≡ length ms
known_as_long all [] [] [] from h = refl
known_as_long all [] [] (l ∷ ls) from h = absurd h
known_as_long all [] (k ∷ ks) ls from h = absurd h
known_as_long all (m ∷ ms) [] ls from h = absurd h
known_as_long all (m ∷ ms) (k ∷ ks) [] from h = absurd h
known_as_long all (m ∷ ms) (k ∷ ks) (l ∷ ls) from h = ap suc (known_as_long all ms ks ls (from + l.code.cells) h.1)

-- the code has the cells of the modules' variables
pub all_cells_are : (all ms : List Module) (ks : List Known) (ls : Code) (from : ℕ) → AreCompiledFrom all ms ks ls from → all_cells ls ≡ size (opening_store (map (loaded all) ms))
all_cells_are all [] [] [] from h = refl
all_cells_are all [] [] (l ∷ ls) from h = absurd h
all_cells_are all [] (k ∷ ks) ls from h = absurd h
all_cells_are all (m ∷ ms) [] ls from h = absurd h
all_cells_are all (m ∷ ms) (k ∷ ks) [] from h = absurd h
all_cells_are all (m ∷ ms) (k ∷ ks) (l ∷ ls) from h =
    let rest = all_cells_are all ms ks ls (from + l.code.cells) h.1 in
    omega (arith, rest, h.0.ready.generated.cells)

-- ---- imports

pub known_found : (o : Option Known) (face : Face) → face_in o ≡ Some face → (k : Known) × (o ≡ Some k) × (k.face ≡ face)
known_found None face e = absurd (let n : None ≡ Some face = e in cc)
known_found (Some k) face e = (k, refl, some_same k.face face e)

-- an import of a module that may run, which knows this of it
pub record Imported (known : List Known) (runs : ℕ → Bool) (is : List ℕ) (i : ℕ) (e : Entries) : Type 0 where
  pub number : ℕ
  pub found : slice_get is i ≡ Some number
  pub may_run : runs number ≡ true
  pub k : Known
  pub at : slice_get known number ≡ Some k
  pub of_face : IsOfFace k.face e

pub imported_at : (known : List Known) (runs : ℕ → Bool) (is : List ℕ) (faces : List Face) (es : List Entries) (i : ℕ) (e : Entries) → AreKnown known is faces → AllRun runs is → AreOfFaces faces es → slice_get es i ≡ Some e → Imported known runs is i e
imported_at known runs is faces [] i e a r o at = absurd (let n : None ≡ Some e = at in cc)
imported_at known runs is [] (x ∷ es) i e a r o at = absurd o
imported_at known runs [] (face ∷ faces) (x ∷ es) i e a r o at = absurd a
imported_at known runs (j ∷ is) (face ∷ faces) (x ∷ es) zero e a r o at =
    let k = known_found (slice_get known j) face a.0 in
    record {
      number = j;
      found = refl;
      may_run = r.0;
      k = k.0;
      at = k.1;
      of_face = subst (IsOfFace k.0.face) (some_same x e at) (subst (λ f. IsOfFace f x) (sym k.2) o.0);
    }
imported_at known runs (j ∷ is) (face ∷ faces) (x ∷ es) (suc i) e a r o at =
    let n = imported_at known runs is faces es i e a.1 r.1 o.1 at in
    record { number = n.number; found = n.found; may_run = n.may_run; k = n.k; at = n.at; of_face = n.of_face }
