-- Commands as code: a module after those of a session, whose body calls one after the other.
use Rattle.std.specs.Prelude.{◌≡◌, ℕ, List, [], ◌∷◌, ◌++◌, length, Bool, true, false, ◌||◌, nat_eq, Some, slice_get}
use Rattle.ob_mean.specs.declared.expression.Callee.TheVariants.{OfImport}
use Rattle.ob_mean.specs.declared.statement.Action.TheVariants.{Call}
use Rattle.ob_mean.specs.declared.statement.TypedStatement.{TypedStatement}
use Rattle.ob_mean.specs.declared.statement.TypedStatement.TheVariants.{Simple}
use Rattle.ob_mean.specs.declared.face.Face.{Face}
use Rattle.ob_mean.specs.declared.module.TypedModule.{TypedModule}
use Rattle.ob_mean.specs.Programs.{Command}
use Rattle.ob_mean.specs.WellFormed.{IsWellFormed, own_heading}
use Rattle.ob_code.specs.declared.instr.LinkedModule.{LinkedModule}
use Rattle.ob_code.specs.Linked.{IsLinked, all_cells}
use Rattle.ob_code.specs.Machine.{Code}
use Rattle.ob_code.specs.Kinds.{IsMeasured}
use Rattle.ob_gen.specs.Commands.{IsCodeOfCommands, CommandsBehave}
use Rattle.ob_gen.specs.Correct.{AllRun, IsCodeOfProgram}
use Rattle.ob_gen.specs.Generated.{IsGenerated}
use Rattle.ob_gen.specs.TypesAgree.{Shapes}
use Rattle.ob_session.specs.Session.{Module, program_of}
use Rattle.ob_image.specs.Compiled.{Known, runs_in, AreKnown, AreCompiled, faces_at, AllAgree}

-- ---- commands that can be called

-- A module that may run exports the command's procedure at this place. It takes and leaves nothing.
pub record IsCallable (modules : List Module) (c : Command) (place : ℕ) : Type 0 where
  pub m : Module
  pub there : slice_get modules c.home ≡ Some m
  pub may_run : runs_in modules c.home ≡ true
  pub exported : slice_get m.tree.exported place ≡ Some c.procedure
  pub plain : own_heading (slice_get m.tree.procedures c.procedure) ≡ Some (record { parameters = []; is_function = false })

-- Each command is called through an import of its module: a call is the number of the import, and the place of the procedure
-- among those that the imported module exports.
abbrev pub AllCallable : List Module → List ℕ → List Command → List (ℕ × ℕ) → Type 0
AllCallable modules homes [] [] = Unit {0}
AllCallable modules homes [] (call ∷ calls) = ⊥
AllCallable modules homes (c ∷ cs) [] = ⊥
AllCallable modules homes (c ∷ cs) (call ∷ calls) =
    IsCallable modules c call.1 × (slice_get homes call.0 ≡ Some c.home) × AllCallable modules homes cs calls

-- commands, the modules that are imported for them, which may run, their calls, and what is known of these modules
pub record AreCallable (modules : List Module) (known : List Known) (cs : List Command) (homes : List ℕ) (calls : List (ℕ × ℕ)) (faces : List Face) : Type 0 where
  pub each : AllCallable modules homes cs calls
  pub run : AllRun (runs_in modules) homes
  pub agree : AreKnown known homes faces

-- ---- their module

abbrev pub calls_body : List (ℕ × ℕ) → List TypedStatement
calls_body [] = []
calls_body (call ∷ calls) = Simple (Call (OfImport call.0 call.1) 0 []) ∷ calls_body calls

-- a module that has nothing but these calls
abbrev pub commands_tree : List (ℕ × ℕ) → TypedModule
commands_tree calls = record { name = []; variables = []; procedures = []; exported = []; body = calls_body calls }

-- its code, over what is known of the commands' modules, after that of the session's
pub record IsBehind (code : Code) (homes : List ℕ) (calls : List (ℕ × ℕ)) (faces : List Face) (l : LinkedModule) : Type 0 where
  pub generated : IsGenerated faces (commands_tree calls) l.code
  pub imports : l.imports.items ≡ homes
  pub cells : l.cells ≡ all_cells code

-- ---- what is so of them

-- the compiler takes the module of such commands
abbrev pub EachCommandsForm : Type 0
EachCommandsForm =
    (modules : List Module) (known : List Known) (code : Code) (cs : List Command) (homes : List ℕ) (calls : List (ℕ × ℕ)) (faces : List Face)
    → AreCompiled modules known code → AreCallable modules known cs homes calls faces → IsWellFormed faces (commands_tree calls)

-- modules that may run, and what stands after them
abbrev pub runs_with : List Module → ℕ → Bool
runs_with modules i = nat_eq i (length modules) || runs_in modules i

-- After the modules' code: all is linked, and enough is known of its operands and names where it may run. Where each name of a
-- record type is that of one shape, the modules' code is still the program's, and this does what the commands mean.
pub record CommandsMayRun (modules : List Module) (known : List Known) (code : Code) (cs : List Command) (l : LinkedModule) : Type 0 where
  pub linked : IsLinked (code ++ l ∷ []) (runs_with modules)
  pub measured : (home : ℕ) (x : LinkedModule) → slice_get (code ++ l ∷ []) home ≡ Some x → runs_with modules home ≡ true → IsMeasured x.code
  pub modules_mean : (shapes : Shapes) → AllAgree shapes modules → IsCodeOfProgram (program_of modules) (code ++ l ∷ []) (faces_at known) shapes (runs_in modules)
  pub commands_mean : IsCodeOfCommands (program_of modules) (code ++ l ∷ []) (runs_in modules) (length modules) cs
  pub does : (shapes : Shapes) → AllAgree shapes modules → CommandsBehave (program_of modules) (code ++ l ∷ []) (length modules) cs

abbrev pub EachCommandsMayRun : Type 0
EachCommandsMayRun =
    (modules : List Module) (known : List Known) (code : Code) (cs : List Command) (homes : List ℕ) (calls : List (ℕ × ℕ)) (faces : List Face) (l : LinkedModule)
    → AreCompiled modules known code → AreCallable modules known cs homes calls faces → IsBehind code homes calls faces l
    → CommandsMayRun modules known code cs l
