-- What it means that code does what trees mean.
use Rattle.std.specs.Prelude.{◌≡◌, ℕ, suc, ◌+◌, List, [], ◌∷◌, ◌++◌, Option, Some, None, Bool, true, slice_get, take}
use Rattle.ob_mean.specs.declared.expression.TypedExpr.{TypedExpr}
use Rattle.ob_mean.specs.declared.statement.TypedStatement.{TypedStatement}
use Rattle.ob_mean.specs.declared.face.Face.{Face}
use Rattle.ob_mean.specs.declared.module.Parameter.{Parameter}
use Rattle.ob_mean.specs.declared.module.Parameter.TheVariants as parameter
use Rattle.ob_mean.specs.declared.module.TypedProcedure.{TypedProcedure}
use Rattle.ob_mean.specs.declared.module.TypedModule.{TypedModule}
use Rattle.ob_mean.specs.declared.module.Loaded.{Loaded}
use Rattle.ob_mean.specs.declared.outcome.Outcome.{Outcome}
use Rattle.ob_mean.specs.Values.{Value, before, size, shape, image}
use Rattle.ob_mean.specs.Shapes.{zero_of, opening_row}
use Rattle.ob_mean.specs.Runs.{World, Supply, Run, Stands, Done}
use Rattle.ob_mean.specs.Programs.{Program, body_meaning, opening_store, kept_store}
use Rattle.ob_mean.specs.WellFormed.{Names, names_in, names_of, is_there, IsLinked}
use Rattle.ob_code.specs.declared.instr.NameKind.{NameKind}
use Rattle.ob_code.specs.declared.instr.NameKind.TheVariants.{Cells, ArrayOf, RecordOf}
use Rattle.ob_code.specs.declared.instr.Procedure.{Procedure}
use Rattle.ob_code.specs.declared.instr.LinkedModule.{LinkedModule}
use Rattle.ob_code.specs.Machine.{Code, Config, Going, Standing, Lost, Comes, start, picture}
use Rattle.ob_gen.specs.Code.{own_row, procedure_code, named_one}
use Rattle.ob_gen.specs.TypesAgree.{Shapes, TypesAgree}

-- ---- the code of a program

abbrev pub named_count : List Parameter → ℕ
named_count [] = 0
named_count (p ∷ ps) = named_one p + named_count ps

-- what a parameter's name stands for: a variable of this shape, an array of such elements, or a record whose type it tells
abbrev pub name_kind : Parameter → List NameKind
name_kind parameter.Value = []
name_kind (parameter.Place shape) = Cells (size (zero_of shape)) ∷ []
name_kind (parameter.Open shape) = ArrayOf (size (zero_of shape)) ∷ []
name_kind (parameter.Extended shape) = RecordOf (size (zero_of shape)) ∷ []

abbrev pub name_kinds : List Parameter → List NameKind
name_kinds [] = []
name_kinds (p ∷ ps) = name_kind p ++ name_kinds ps

abbrev pub parameter_count : List Parameter → ℕ
parameter_count [] = 0
parameter_count (p ∷ ps) = suc (parameter_count ps)

-- the code of a procedure, or of a body
pub record IsCodeOf (names : Names) (body : List TypedStatement) (result : Option TypedExpr) (g : Procedure) : Type 0 where
  pub lines : g.lines.items ≡ procedure_code names body result
  pub cells : g.cells ≡ size (own_row names)
  pub names_taken : g.entry.names ≡ named_count names.parameters
  pub stand_for : g.entry.kinds ≡ name_kinds names.parameters
  pub all_taken : g.entry.operands + g.entry.names ≡ parameter_count names.parameters
  pub gives : g.entry.is_function ≡ is_there result

-- the procedures of a module, and its body after them
abbrev pub AreCompiled : List Face → TypedModule → List TypedProcedure → List Procedure → Type 0
AreCompiled faces m [] [] = ⊥
AreCompiled faces m [] (g ∷ []) = IsCodeOf (names_in faces m) m.body None g
AreCompiled faces m [] (g ∷ (h ∷ gs)) = ⊥
AreCompiled faces m (f ∷ fs) [] = ⊥
AreCompiled faces m (f ∷ fs) (g ∷ gs) = IsCodeOf (names_of faces m f) f.body f.result g × AreCompiled faces m fs gs

-- the code of a loaded module whose first cell has this number
pub record IsCompiled (faces : List Face) (m : Loaded) (base : ℕ) (l : LinkedModule) : Type 0 where
  pub procedures : AreCompiled faces m.tree m.tree.procedures l.code.procedures.items
  pub exported : l.code.exported.items ≡ m.tree.exported
  pub imports : l.imports.items ≡ m.imports
  pub cells : l.code.cells ≡ size (opening_row m.tree.variables)
  pub first_cell : l.cells ≡ base

abbrev pub AllRun : (ℕ → Bool) → List ℕ → Type 0
AllRun runs [] = Unit {0}
AllRun runs (i ∷ is) = (runs i ≡ true) × AllRun runs is

-- a module that may run: it is linked, its code is compiled, its record types have the shapes of their names, and those that
-- it imports may run too
pub record MayRun (program : Program) (code : Code) (faces : ℕ → List Face) (shapes : Shapes) (runs : ℕ → Bool) (i : ℕ) : Type 0 where
  pub m : Loaded
  pub l : LinkedModule
  pub loaded : slice_get program i ≡ Some m
  pub found : slice_get code i ≡ Some l
  pub linked : IsLinked program (faces i) m
  pub compiled : IsCompiled (faces i) m (before (opening_store program) i) l
  pub types : TypesAgree shapes m.tree
  pub imports : AllRun runs m.imports

abbrev pub IsCodeOfProgram : Program → Code → (ℕ → List Face) → Shapes → (ℕ → Bool) → Type 0
IsCodeOfProgram program code faces shapes runs = (i : ℕ) → runs i ≡ true → MayRun program code faces shapes runs i

-- ---- what it does

-- each variable has its shape
abbrev pub MayBegin : Program → World → Type 0
MayBegin program w = shape w.store ≡ shape (opening_store program)

-- what stays of a store after a cell: each of the modules' variables with its shape, in the first cells of the picture
pub record StaysOf (program : Program) (s : Value) : Type 0 where
  pub shapes : shape (kept_store program s) ≡ shape (opening_store program)
  pub cells : image (kept_store program s) ≡ take (size (opening_store program)) (image s)

-- From any world, and with any supply, the code of a piece comes to stand exactly where its meaning does: for the same
-- reason, with the same left of its supply, and with the picture of the same world. It never misses an operand. The next cell may
-- begin with what stays.
pub record Follows (program : Program) (code : Code) (meaning : Supply → World → Run Done) (opening : World → Config) : Type 0 where
  pub comes : (n : Supply) (w : World) → MayBegin program w → (why : Outcome) (left : Supply) (v : World) → meaning n w ≡ Stands why left v → (c : Config) × Comes code (Going n (opening w)) (Standing why left c) × (c.memory ≡ picture v)
  pub stands : (n : Supply) (w : World) → MayBegin program w → (why : Outcome) × (left : Supply) × (v : World) × (meaning n w ≡ Stands why left v)
  pub only : (n : Supply) (w : World) → MayBegin program w → (why : Outcome) (left : Supply) (c : Config) → Comes code (Going n (opening w)) (Standing why left c) → (v : World) × (meaning n w ≡ Stands why left v) × (c.memory ≡ picture v)
  pub found : (n : Supply) (w : World) → MayBegin program w → Comes code (Going n (opening w)) Lost → ⊥
  pub stays : (n : Supply) (w : World) → MayBegin program w → (why : Outcome) (left : Supply) (v : World) → meaning n w ≡ Stands why left v → StaysOf program v.store

-- the body of a module
abbrev pub BodyBehaves : Program → Code → ℕ → Type 0
BodyBehaves program code home = Follows program code (body_meaning program home) (λ w. start code home (picture w))
