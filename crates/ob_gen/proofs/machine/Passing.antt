-- What is passed to a procedure: operands for values, names for places.
use Rattle.std.proofs.Common.{◌≡◌, ℕ, ◌+◌, ◌<◌, ℤ, List, [], ◌∷◌, ◌++◌, length, Bool, true, false, Some, refl, arith}
use Rattle.std.specs.Prelude.{slice_get}
use Rattle.ob_mean.specs.declared.expression.Callee.{Callee}
use Rattle.ob_mean.specs.declared.module.Parameter.{Parameter}
use Rattle.ob_mean.specs.declared.module.Parameter.TheVariants as parameter
use Rattle.ob_mean.specs.declared.face.Heading.{Heading}
use Rattle.ob_mean.specs.Values.{Place, Value, Cell, Named, Open, Nothing, Beside, get, size, offset, image, row}
use Rattle.ob_mean.specs.Shapes.{zero_of}
use Rattle.ob_mean.specs.Runs.{World, Supply}
use Rattle.ob_mean.specs.Expressions.{Scope, only}
use Rattle.ob_mean.specs.WellFormed.{Names, called, cell_limit}
use Rattle.ob_code.specs.declared.instr.Instr.TheVariants.{Invoke}
use Rattle.ob_code.specs.declared.instr.Name.{Name}
use Rattle.ob_code.specs.declared.instr.Told.{Told}
use Rattle.ob_code.specs.Machine.{Code, untold, lines_of, told_in}
use Rattle.ob_mean.specs.RecordTypes.{TypeNames}
use Rattle.ob_gen.specs.TypesAgree.{Shapes}
use Rattle.ob_gen.proofs.machine.Records.{named_cells, HoldsTold}
use Rattle.ob_gen.specs.Code.{line}
use Rattle.ob_gen.proofs.machine.Reaches.{Running, lines_in, here, Good, Reaches, SoMany}
use Rattle.ob_gen.proofs.machine.Store.{Inside}

-- a line tells a type
abbrev pub Tells : Code → Told → TypeNames → Type 0
Tells code x t = told_in (slice_get (lines_of code x.home x.procedure) x.place) ≡ t

-- what is passed to one parameter, and the line that tells the type of it
abbrev pub OneFits : Code → Shapes → Value → Told → Parameter → Value → Type 0
OneFits code shapes s x parameter.Value v = (z : ℤ) × (v ≡ Cell z)
OneFits code shapes s x (parameter.Place t) v = (q : Place) × (v ≡ Named q []) × Inside s q × (get s q ≡ zero_of t) × (size (get s q) < cell_limit)
OneFits code shapes s x (parameter.Open t) v = (q : Place) × (k : ℕ) × (v ≡ Open q k) × Inside s q × (get s q ≡ row k (zero_of t)) × (size (get s q) < cell_limit)
OneFits code shapes s x (parameter.Extended t) v = (q : Place) × (types : TypeNames) × (v ≡ Named q types) × Tells code x types × HoldsTold shapes s q types t

-- and to all
abbrev pub PassedFit : Code → Shapes → Value → List Told → List Parameter → Value → Type 0
PassedFit code shapes s xs [] a = a ≡ Nothing
PassedFit code shapes s [] (p ∷ ps) a = ⊥
PassedFit code shapes s (x ∷ xs) (p ∷ ps) a = (v : Value) × (rest : Value) × (a ≡ Beside v rest) × OneFits code shapes s x p v × PassedFit code shapes s xs ps rest

-- the names that are pending for it
abbrev pub one_name : Value → Told → Value → List Name
one_name s x (Cell z) = []
one_name s x (Named q t) = record { address = offset s q; cells = named_cells s q t; length = 0; told = x } ∷ []
one_name s x (Open q k) = record { address = offset s q; cells = size (get s q); length = k; told = untold } ∷ []
one_name s x Nothing = []
one_name s x (Beside v rest) = []

abbrev pub names_passed : Value → List Told → Value → List Name
names_passed s xs (Cell z) = []
names_passed s xs (Named p t) = []
names_passed s xs (Open p k) = []
names_passed s xs Nothing = []
names_passed s [] (Beside v rest) = []
names_passed s (x ∷ xs) (Beside v rest) = one_name s x v ++ names_passed s xs rest

-- operands over those that lie there, the last on top
abbrev pub pile : List ℤ → List ℤ → List ℤ
pile [] stack = stack
pile (v ∷ vs) stack = pile vs (v ∷ stack)

pub pile-append : (a b stack : List ℤ) → pile (a ++ b) stack ≡ pile b (pile a stack)
pile-append [] b stack = refl
pile-append (v ∷ a) b stack = pile-append a b (v ∷ stack)

-- how many numbers a call leaves
abbrev pub results : Bool → ℕ
results true = 1
results false = 0

pub one_result : (vs stack : List ℤ) → length vs ≡ 1 → vs ++ stack ≡ only vs ∷ stack
one_result [] stack e = absurd (omega arith)
one_result (v ∷ []) stack e = refl
one_result (v ∷ (u ∷ vs)) stack e = absurd (omega arith)

pub no_result : (vs stack : List ℤ) → length vs ≡ 0 → vs ++ stack ≡ stack
no_result [] stack e = refl
no_result (v ∷ vs) stack e = absurd (omega arith)

-- the machine does what these calls do
pub record CallsRun (code : Code) (shapes : Shapes) (r : Running) (s : Value) (names : Names) (scope : Scope) : Type 0 where
  pub by : (f : Callee) (l h k pc : ℕ) (g : Heading) (xs : List Told) (a : Value) (stack : List ℤ) (pending : List Name) (n : Supply) (most : ℕ) (w : World) → Good most s n w → called names f ≡ Some g → PassedFit code shapes s xs g.parameters a → slice_get (lines_in code r) pc ≡ Some (line h k (Invoke f l)) → Reaches code most s (SoMany (results g.is_function)) (here r pc (pile (image a) stack) (pending ++ names_passed s xs a) n w) (λ vs n' w'. here r (pc + 1) (vs ++ stack) pending n' w') (scope.call f a l n w)
