-- What a kernel has, beside the modules of a session, to run them: their code, linked, and what was known of imports.
use Rattle.std.specs.Prelude.{◌≡◌, ◌≢◌, ℕ, zero, suc, ◌+◌, List, [], ◌∷◌, Bool, true, false, Option, Some, None, is_none, slice_get}
use Rattle.ob_mean.specs.declared.face.Face.{Face}
use Rattle.ob_mean.specs.WellFormed.{IsFaceOf, IsWellFormed}
use Rattle.ob_code.specs.declared.instr.LinkedModule.{LinkedModule}
use Rattle.ob_code.specs.Linked.{IsLinked}
use Rattle.ob_code.specs.Machine.{Code}
use Rattle.ob_code.specs.Kinds.{IsMeasured}
use Rattle.ob_gen.specs.Correct.{IsCodeOfProgram, BodyBehaves}
use Rattle.ob_gen.specs.Generated.{IsGenerated}
use Rattle.ob_gen.specs.TypesAgree.{Shapes, TypesAgree}
use Rattle.ob_session.specs.Session.{Import, Module, name_of, find_module, place_of, import_places, link_fault, program_of, with_module}

-- what importing modules know of a module, and what was known of those that it imports when its code was made
pub record Known : Type 0 where
  pub face : Face
  pub faces : List Face

-- ---- which modules may run: those whose imports link

abbrev pub links : List Module → Option Module → Bool
links modules None = false
links modules (Some m) = is_none (link_fault modules m.imports)

abbrev pub runs_in : List Module → ℕ → Bool
runs_in modules i = links modules (slice_get modules i)

-- ---- modules and their code

-- a module of each name is there
abbrev pub AllFound : List Module → List Import → Type 0
AllFound modules [] = Unit {0}
AllFound modules (i ∷ is) = (find_module modules i.name ≢ None) × AllFound modules is

-- The code of a module, ready to stand among these: it was made over what was known of the imports, what is known of the module is
-- so, and its imports are the modules of their names.
pub record IsReady (modules : List Module) (m : Module) (k : Known) (l : LinkedModule) : Type 0 where
  pub formed : IsWellFormed k.faces m.tree
  pub generated : IsGenerated k.faces m.tree l.code
  pub face : IsFaceOf k.face m.tree
  pub found : AllFound modules m.imports
  pub imports : l.imports.items ≡ import_places modules m.imports

-- and its first cell has this number
pub record IsCompiledAt (modules : List Module) (m : Module) (k : Known) (l : LinkedModule) (first : ℕ) : Type 0 where
  pub ready : IsReady modules m k l
  pub cells : l.cells ≡ first

-- the code of some of all modules, their cells one after the other
abbrev pub AreCompiledFrom : List Module → List Module → List Known → Code → ℕ → Type 0
AreCompiledFrom all [] [] [] first = Unit {0}
AreCompiledFrom all [] [] (l ∷ ls) first = ⊥
AreCompiledFrom all [] (k ∷ ks) ls first = ⊥
AreCompiledFrom all (m ∷ ms) [] ls first = ⊥
AreCompiledFrom all (m ∷ ms) (k ∷ ks) [] first = ⊥
AreCompiledFrom all (m ∷ ms) (k ∷ ks) (l ∷ ls) first =
    IsCompiledAt all m k l first × AreCompiledFrom all ms ks ls (first + l.code.cells)

-- ---- what was known of imports is so of the modules that are loaded

abbrev pub face_in : Option Known → Option Face
face_in None = None
face_in (Some k) = Some k.face

-- these faces are those of the modules with these numbers
abbrev pub AreKnown : List Known → List ℕ → List Face → Type 0
AreKnown known [] [] = Unit {0}
AreKnown known [] (face ∷ faces) = ⊥
AreKnown known (i ∷ is) [] = ⊥
AreKnown known (i ∷ is) (face ∷ faces) = (face_in (slice_get known i) ≡ Some face) × AreKnown known is faces

-- each module that may run was compiled over the faces that its imports have
abbrev pub FacesAgree : List Module → List Known → Type 0
FacesAgree modules known =
    (i : ℕ) (m : Module) (k : Known) → slice_get modules i ≡ Some m → slice_get known i ≡ Some k → runs_in modules i ≡ true
    → AreKnown known (import_places modules m.imports) k.faces

-- the code of all modules
pub record AreCompiled (modules : List Module) (known : List Known) (code : Code) : Type 0 where
  pub each : AreCompiledFrom modules modules known code 0
  pub agree : FacesAgree modules known

-- ---- such code may run, and does what its modules mean

abbrev pub faces_in : Option Known → List Face
faces_in None = []
faces_in (Some k) = k.faces

-- over what the code of a module was made
abbrev pub faces_at : List Known → ℕ → List Face
faces_at known i = faces_in (slice_get known i)

-- in all modules the name of a record type is that of one shape
abbrev pub AllAgree : Shapes → List Module → Type 0
AllAgree shapes [] = Unit {0}
AllAgree shapes (m ∷ ms) = TypesAgree shapes m.tree × AllAgree shapes ms

-- It is linked, and enough is known of its operands and names where it may run. Where each name of a record type is that of one
-- shape, it is the program's, and the code of each body does what the body means.
pub record MayRunAll (modules : List Module) (known : List Known) (code : Code) : Type 0 where
  pub linked : IsLinked code (runs_in modules)
  pub measured : (home : ℕ) (l : LinkedModule) → slice_get code home ≡ Some l → runs_in modules home ≡ true → IsMeasured l.code
  pub means : (shapes : Shapes) → AllAgree shapes modules → IsCodeOfProgram (program_of modules) code (faces_at known) shapes (runs_in modules)
  pub does : (shapes : Shapes) → AllAgree shapes modules → (home : ℕ) → runs_in modules home ≡ true → BodyBehaves (program_of modules) code home

abbrev pub EachMayRun : Type 0
EachMayRun = (modules : List Module) (known : List Known) (code : Code) → AreCompiled modules known code → MayRunAll modules known code

-- ---- loading a module

-- in the place of that number, or after the others
abbrev pub put_at : {A : Type 0} → List A → ℕ → A → List A
put_at [] i x = x ∷ []
put_at (y ∷ ys) zero x = x ∷ ys
put_at (y ∷ ys) (suc i) x = y ∷ put_at ys i x

-- the modules' cells lie one after the other
abbrev pub laid : ℕ → Code → Code
laid from [] = []
laid from (l ∷ ls) = record { code = l.code; imports = l.imports; cells = from } ∷ laid (from + l.code.cells) ls

-- code stays that of the modules where one is loaded
abbrev pub EachLoads : Type 0
EachLoads =
    (modules : List Module) (m : Module) (known : List Known) (k : Known) (code : Code) (l : LinkedModule)
    → AreCompiledFrom modules modules known code 0 → IsReady modules m k l
    → AreCompiledFrom (with_module modules m) (with_module modules m) (put_at known (place_of modules (name_of m)) k) (laid 0 (put_at code (place_of modules (name_of m)) l)) 0
