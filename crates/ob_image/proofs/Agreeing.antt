-- What was known of imports stays so where modules are loaded.
use Rattle.std.proofs.Common.{◌≡◌, ◌≢◌, ◌⊎◌, ℕ, zero, suc, ◌≤◌, Bool, true, false, List, [], ◌∷◌, length, Some, None, if◌then◌else◌, refl, sym, ap, ◌∙◌, subst, inl, inr, arith}
use Rattle.std.specs.Prelude.{slice_get}
use Rattle.std.specs.Str.{bytes_eq}
use Rattle.ob_mean.specs.declared.face.Face.{Face}
use Rattle.ob_code.specs.Machine.{Code}
use Rattle.ob_gen.proofs.machine.Places.{some_same}
use Rattle.ob_session.specs.Session.{Import, Module, name_of, key_of, find_module, place_of, import_places, with_module}
use Rattle.ob_session.specs.Links.{Reached, First, Behind, IsLoaded}
use Rattle.ob_session.proofs.Links.{each_links}
use Rattle.ob_image.specs.Compiled.{Known, AreCompiledFrom, face_in, AreKnown, put_at}
use Rattle.ob_image.specs.Loading.{IsUnreached, WasKnown, AllWereKnown, KeysAgree, EachAgrees, AllSee, ClientsSee, EachStaysAgreeing}
use Rattle.ob_image.proofs.Imports.{found_at, running_at}
use Rattle.ob_image.proofs.Sides.{known_found, known_as_long}
use Rattle.ob_image.proofs.Loads.{loads}
use Rattle.ob_image.proofs.Running.{same_name, equal_name, found_other}

-- ---- modules that may run

known_each : (modules : List Module) (known : List Known) (is : List Import) (faces : List Face) → AllWereKnown modules known is faces → ((i : Import) → Reached modules i is → IsLoaded modules i) → AreKnown known (import_places modules is) faces
known_each modules known [] [] a l = tt
known_each modules known [] (face ∷ faces) a l = absurd a
known_each modules known (i ∷ is) [] a l = absurd a
known_each modules known (i ∷ is) (face ∷ faces) a l =
    let there = l i (First is) in
    (a.0 there.0 there.1 there.2, known_each modules known is faces a.1 (λ j r. l j (Behind i is r)))

pub agrees : EachAgrees
agrees modules known all place m k at known_at ok =
    let r = running_at modules place ok in
    let same : r.m ≡ m = some_same r.m m (sym r.there ∙ at) in
    known_each modules known m.imports k.faces (all place m k at known_at) (subst (λ (x : Module). (i : Import) → Reached modules i x.imports → IsLoaded modules i) same ((each_links modules r.m.imports).linked.0 r.linked))

-- ---- lists with another item

put_here : {A : Type 0} (xs : List A) (p : ℕ) (a : A) → p ≤ length xs → slice_get (put_at xs p a) p ≡ Some a
put_here [] zero a le = refl
put_here [] (suc p) a le = absurd (omega (arith, le))
put_here (x ∷ xs) zero a le = refl
put_here (x ∷ xs) (suc p) a le = put_here xs p a (omega (arith, le))

put_elsewhere : {A : Type 0} (xs : List A) (p q : ℕ) (a b : A) → q ≢ p → slice_get xs q ≡ Some b → slice_get (put_at xs p a) q ≡ Some b
put_elsewhere [] p q a b h e = absurd (let n : None ≡ Some b = e in cc)
put_elsewhere (x ∷ xs) zero zero a b h e = absurd (h refl)
put_elsewhere (x ∷ xs) zero (suc q) a b h e = e
put_elsewhere (x ∷ xs) (suc p) zero a b h e = e
put_elsewhere (x ∷ xs) (suc p) (suc q) a b h e = put_elsewhere xs p q a b (λ s. h (ap suc s)) e

-- what stands there now is the new item, or stood there before
put_or_before : {A : Type 0} (xs : List A) (p q : ℕ) (a b : A) → p ≤ length xs → slice_get (put_at xs p a) q ≡ Some b → ((q ≡ p) × (a ≡ b)) ⊎ ((q ≢ p) × (slice_get xs q ≡ Some b))
put_or_before [] zero zero a b le e = inl (refl, some_same a b e)
put_or_before [] zero (suc q) a b le e = absurd (let n : None ≡ Some b = e in cc)
put_or_before [] (suc p) q a b le e = absurd (omega (arith, le))
put_or_before (x ∷ xs) zero zero a b le e = inl (refl, some_same a b e)
put_or_before (x ∷ xs) zero (suc q) a b le e = inr (λ s. let n : suc q ≡ zero = s in absurd (omega (arith, n)), e)
put_or_before (x ∷ xs) (suc p) zero a b le e = inr (λ s. let n : zero ≡ suc p = s in absurd (omega (arith, n)), e)
put_or_before (x ∷ xs) (suc p) (suc q) a b le e = by (put_or_before xs p q a b (omega (arith, le)) e)
  where
    by : ((q ≡ p) × (a ≡ b)) ⊎ ((q ≢ p) × (slice_get xs q ≡ Some b)) → ((suc q ≡ suc p) × (a ≡ b)) ⊎ ((suc q ≢ suc p) × (slice_get xs q ≡ Some b))
    by (inl h) = inl (ap suc h.0, h.1)
    by (inr h) = inr (λ s. h.0 (let n : suc q ≡ suc p = s in omega (arith, n)), h.1)

-- ---- modules and their places

with_put : (ms : List Module) (m : Module) → with_module ms m ≡ put_at ms (place_of ms (name_of m)) m
with_put [] m = refl
with_put (x ∷ ms) m = by (bytes_eq (name_of x) (name_of m)) (with_put ms m)
  where
    by : (b : Bool) → with_module ms m ≡ put_at ms (place_of ms (name_of m)) m → (if b then m ∷ ms else x ∷ with_module ms m) ≡ put_at (x ∷ ms) (if b then zero else suc (place_of ms (name_of m))) m
    by true later = refl
    by false later = ap (λ ys. x ∷ ys) later

place_few : (ms : List Module) (name : List ℕ) → place_of ms name ≤ length ms
place_few [] name = omega arith
place_few (x ∷ ms) name = by (bytes_eq (name_of x) name) (place_few ms name)
  where
    by : (b : Bool) → place_of ms name ≤ length ms → (if b then zero else suc (place_of ms name)) ≤ suc (length ms)
    by true le = omega arith
    by false le = omega (arith, le)

-- what stands in the place of a name has it
place_named : (ms : List Module) (name : List ℕ) (d : Module) → slice_get ms (place_of ms name) ≡ Some d → name_of d ≡ name
place_named [] name d e = absurd (let n : None ≡ Some d = e in cc)
place_named (x ∷ ms) name d e = by (bytes_eq (name_of x) name) refl (place_named ms name d) e
  where
    by : (b : Bool) → bytes_eq (name_of x) name ≡ b → (slice_get ms (place_of ms name) ≡ Some d → name_of d ≡ name) → slice_get (x ∷ ms) (if b then zero else suc (place_of ms name)) ≡ Some d → name_of d ≡ name
    by true t later at = ap name_of (sym (some_same x d at)) ∙ same_name (name_of x) name t
    by false t later at = later at

-- a module keeps its place where it is loaded
place_kept : (ms : List Module) (m : Module) → place_of (with_module ms m) (name_of m) ≡ place_of ms (name_of m)
place_kept [] m = ap (λ b. if b then zero else suc zero) (equal_name (name_of m))
place_kept (x ∷ ms) m = by (bytes_eq (name_of x) (name_of m)) refl (place_kept ms m)
  where
    by : (b : Bool) → bytes_eq (name_of x) (name_of m) ≡ b → place_of (with_module ms m) (name_of m) ≡ place_of ms (name_of m) → place_of (if b then m ∷ ms else x ∷ with_module ms m) (name_of m) ≡ (if b then zero else suc (place_of ms (name_of m)))
    by true t later = ap (λ c. if c then zero else suc (place_of ms (name_of m))) (equal_name (name_of m))
    by false t later = ap (λ c. if c then zero else suc (place_of (with_module ms m) (name_of m))) t ∙ ap suc later

-- ---- loading

module _ (modules : List Module) (known : List Known) (code : Code) (m : Module) (k : Known) (compiled : AreCompiledFrom modules modules known code 0) where
  abbrev place : ℕ
  place = place_of modules (name_of m)

  abbrev after : List Module
  after = with_module modules m

  abbrev after_known : List Known
  after_known = put_at known place k

  few_known : place ≤ length known
  few_known =
      let few = place_few modules (name_of m) in
      let same = known_as_long modules modules known code 0 compiled in
      omega (arith, few, same)

  -- an import of the module that is loaded
  known_here : (i : Import) (face : Face) → name_of m ≡ i.name → (i.name ≡ name_of m → i.key ≡ key_of m → face ≡ k.face) → WasKnown after after_known i face
  known_here i face same sees d found key =
      let is_m : find_module after i.name ≡ Some m =
      (loads modules m).found i.name ∙ ap (λ b. if b then Some m else find_module modules i.name) (ap (bytes_eq (name_of m)) (sym same) ∙ equal_name (name_of m)) in
      let one : m ≡ d = some_same m d (sym is_m ∙ found) in
      let face_is : face ≡ k.face = sees (sym same) (sym key ∙ ap key_of (sym one)) in
      let at : place_of after i.name ≡ place = ap (place_of after) (sym same) ∙ place_kept modules m in
      ap (λ p. face_in (slice_get after_known p)) at ∙ ap face_in (put_here known place k few_known) ∙ ap Some (sym face_is)

  -- an import of another
  known_elsewhere : (i : Import) (face : Face) → i.name ≢ name_of m → WasKnown modules known i face → WasKnown after after_known i face
  known_elsewhere i face other was d found key =
      let found_before : find_module modules i.name ≡ Some d = sym (found_other modules m i.name other) ∙ found in
      let there : slice_get modules (place_of modules i.name) ≡ Some d = found_at modules i.name d found_before in
      let stays : place_of after i.name ≡ place_of modules i.name =
      (loads modules m).places i.name (λ none. let n : Some d ≡ None = sym found_before ∙ none in cc) in
      let kept = known_found (slice_get known (place_of modules i.name)) face (was d found_before key) in
      let apart : place_of modules i.name ≢ place =
      λ e. other (sym (place_named modules i.name d there) ∙ place_named modules (name_of m) d (ap (slice_get modules) (sym e) ∙ there)) in
      ap (λ p. face_in (slice_get after_known p)) stays ∙ ap face_in (put_elsewhere known place (place_of modules i.name) k kept.0 apart kept.1) ∙ ap Some kept.2

  known_still : (i : Import) (face : Face) → WasKnown modules known i face → (i.name ≡ name_of m → i.key ≡ key_of m → face ≡ k.face) → WasKnown after after_known i face
  known_still i face was sees = by (bytes_eq (name_of m) i.name) refl
    where
      by : (b : Bool) → bytes_eq (name_of m) i.name ≡ b → WasKnown after after_known i face
      by true e = known_here i face (same_name (name_of m) i.name e) sees
      by false e = known_elsewhere i face (λ s. let t : true ≡ false = sym (equal_name (name_of m)) ∙ ap (bytes_eq (name_of m)) (sym s) ∙ e in cc) was

  all_still : (is : List Import) (faces : List Face) → AllWereKnown modules known is faces → AllSee m k is faces → AllWereKnown after after_known is faces
  all_still [] [] a s = tt
  all_still [] (face ∷ faces) a s = absurd a
  all_still (i ∷ is) [] a s = absurd a
  all_still (i ∷ is) (face ∷ faces) a s = (known_still i face a.0 s.0, all_still is faces a.1 s.1)

  -- imports of other names see nothing of it
  others_see : (is : List Import) (faces : List Face) → IsUnreached modules (name_of m) is → AllSee m k is faces
  others_see [] faces un = tt
  others_see (i ∷ is) [] un = tt
  others_see (i ∷ is) (face ∷ faces) un = (λ same key. absurd (un i (First is) same), others_see is faces (λ j r. un j (Behind i is r)))

  module _ (agree : KeysAgree modules known) (clients : ClientsSee modules known m k) (un : IsUnreached modules (name_of m) m.imports) (was : AllWereKnown modules known m.imports k.faces) where
    known_at : (q : ℕ) (x : Module) (kx : Known) → ((q ≡ place) × (m ≡ x)) ⊎ ((q ≢ place) × (slice_get modules q ≡ Some x)) → ((q ≡ place) × (k ≡ kx)) ⊎ ((q ≢ place) × (slice_get known q ≡ Some kx)) → AllWereKnown after after_known x.imports kx.faces
    known_at q x kx (inl a) (inl b) =
        subst (λ (y : Module). AllWereKnown after after_known y.imports kx.faces) a.1
        (subst (λ (y : Known). AllWereKnown after after_known m.imports y.faces) b.1 (all_still m.imports k.faces was (others_see m.imports k.faces un)))
    known_at q x kx (inl a) (inr b) = absurd (b.0 a.0)
    known_at q x kx (inr a) (inl b) = absurd (a.0 b.0)
    known_at q x kx (inr a) (inr b) = all_still x.imports kx.faces (agree q x kx a.1 b.1) (clients q x kx a.1 b.1)

    stays : KeysAgree after after_known
    stays q x kx at at_known =
        known_at q x kx
        (put_or_before modules place q m x (place_few modules (name_of m)) (ap (λ ys. slice_get ys q) (sym (with_put modules m)) ∙ at))
        (put_or_before known place q k kx few_known at_known)

pub stays_agreeing : EachStaysAgreeing
stays_agreeing modules known code m k compiled agree clients un was = stays modules known code m k compiled agree clients un was
