-- What stays so where a module is loaded: that it may run, and that what was known of imports is so.
use Rattle.std.specs.Prelude.{◌≡◌, ◌≢◌, ℕ, List, [], ◌∷◌, Some, None, true, slice_get}
use Rattle.ob_mean.specs.declared.face.Face.{Face}
use Rattle.ob_code.specs.Machine.{Code}
use Rattle.ob_session.specs.Session.{Import, Module, name_of, key_of, find_module, place_of, link_fault, with_module}
use Rattle.ob_session.specs.Links.{Reached}
use Rattle.ob_image.specs.Compiled.{Known, runs_in, AreCompiledFrom, face_in, FacesAgree, put_at}

-- ---- running

-- no module of this name is reached through these imports
abbrev pub IsUnreached : List Module → List ℕ → List Import → Type 0
IsUnreached modules name imports = (i : Import) → Reached modules i imports → i.name ≢ name

-- a module whose imports link, and don't reach it, may run once it is loaded
abbrev pub EachLoadedRuns : Type 0
EachLoadedRuns =
    (modules : List Module) (m : Module) → link_fault modules m.imports ≡ None → IsUnreached modules (name_of m) m.imports
    → runs_in (with_module modules m) (place_of modules (name_of m)) ≡ true

-- ---- what was known of imports, by their keys

-- if the module of the import's name has the key that was recorded, this is its face
abbrev pub WasKnown : List Module → List Known → Import → Face → Type 0
WasKnown modules known i face =
    (d : Module) → find_module modules i.name ≡ Some d → key_of d ≡ i.key → face_in (slice_get known (place_of modules i.name)) ≡ Some face

-- of each import, side by side
abbrev pub AllWereKnown : List Module → List Known → List Import → List Face → Type 0
AllWereKnown modules known [] [] = Unit {0}
AllWereKnown modules known [] (face ∷ faces) = ⊥
AllWereKnown modules known (i ∷ is) [] = ⊥
AllWereKnown modules known (i ∷ is) (face ∷ faces) = WasKnown modules known i face × AllWereKnown modules known is faces

-- of each module, whether it may run or not
abbrev pub KeysAgree : List Module → List Known → Type 0
KeysAgree modules known =
    (place : ℕ) (m : Module) (k : Known) → slice_get modules place ≡ Some m → slice_get known place ≡ Some k
    → AllWereKnown modules known m.imports k.faces

-- so each module that may run was compiled over the faces that its imports have
abbrev pub EachAgrees : Type 0
EachAgrees = (modules : List Module) (known : List Known) → KeysAgree modules known → FacesAgree modules known

-- ---- and where a module is loaded

-- what was known of it by imports that recorded its key is its face
abbrev pub AllSee : Module → Known → List Import → List Face → Type 0
AllSee m k [] faces = Unit {0}
AllSee m k (i ∷ is) [] = Unit {0}
AllSee m k (i ∷ is) (face ∷ faces) = (i.name ≡ name_of m → i.key ≡ key_of m → face ≡ k.face) × AllSee m k is faces

abbrev pub ClientsSee : List Module → List Known → Module → Known → Type 0
ClientsSee modules known m k =
    (place : ℕ) (x : Module) (kx : Known) → slice_get modules place ≡ Some x → slice_get known place ≡ Some kx → AllSee m k x.imports kx.faces

-- so it stays where a module is loaded that reaches none of its name, and was compiled over the faces that its imports have
abbrev pub EachStaysAgreeing : Type 0
EachStaysAgreeing =
    (modules : List Module) (known : List Known) (code : Code) (m : Module) (k : Known)
    → AreCompiledFrom modules modules known code 0 → KeysAgree modules known → ClientsSee modules known m k
    → IsUnreached modules (name_of m) m.imports → AllWereKnown modules known m.imports k.faces
    → KeysAgree (with_module modules m) (put_at known (place_of modules (name_of m)) k)
