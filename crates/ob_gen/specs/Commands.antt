-- The code of a list of commands: a module of its own, whose body calls one after the other.
use Rattle.std.specs.Prelude.{◌≡◌, ℕ, ◌-◌, Bool, true, false, Some, List, [], ◌∷◌, length, slice_get}
use Rattle.ob_mean.specs.declared.expression.Callee.{Callee}
use Rattle.ob_mean.specs.declared.face.Face.{Face}
use Rattle.ob_mean.specs.Programs.{Program, Command, procedure_in, commands_meaning}
use Rattle.ob_mean.specs.WellFormed.{own_heading}
use Rattle.ob_code.specs.declared.instr.Instr.TheVariants as instr
use Rattle.ob_code.specs.declared.instr.Line.{Line}
use Rattle.ob_code.specs.declared.instr.Procedure.{Procedure}
use Rattle.ob_code.specs.declared.instr.LinkedModule.{LinkedModule}
use Rattle.ob_code.specs.Machine.{Code, target_of, number_of, start, picture}
use Rattle.ob_gen.specs.Code.{line}
use Rattle.ob_gen.specs.TypesAgree.{Shapes}
use Rattle.ob_gen.specs.Correct.{Follows, IsCodeOfProgram, BodyBehaves}

-- a call of each
abbrev pub commands_code : List Callee → List Line
commands_code [] = []
commands_code (f ∷ fs) = line 0 0 (instr.Invoke f 0) ∷ commands_code fs

-- a call in the module of this number is one of the command, whose module may run; a command takes and leaves nothing
pub record LeadsTo (program : Program) (code : Code) (runs : ℕ → Bool) (home : ℕ) (f : Callee) (c : Command) : Type 0 where
  pub target : target_of code home f ≡ c.home
  pub number : number_of code home f ≡ c.procedure
  pub may_run : runs c.home ≡ true
  pub plain : own_heading (procedure_in (slice_get program c.home) c.procedure) ≡ Some (record { parameters = []; is_function = false })

abbrev pub AllLead : Program → Code → (ℕ → Bool) → ℕ → List Callee → List Command → Type 0
AllLead program code runs home [] [] = Unit {0}
AllLead program code runs home [] (c ∷ cs) = ⊥
AllLead program code runs home (f ∷ fs) [] = ⊥
AllLead program code runs home (f ∷ fs) (c ∷ cs) = LeadsTo program code runs home f c × AllLead program code runs home fs cs

-- the module of this number has the code of the commands
pub record IsCodeOfCommands (program : Program) (code : Code) (runs : ℕ → Bool) (home : ℕ) (cs : List Command) : Type 0 where
  pub module_of : LinkedModule
  pub found : slice_get code home ≡ Some module_of
  pub body : Procedure
  pub last : slice_get module_of.code.procedures.items (length module_of.code.procedures.items - 1) ≡ Some body
  pub calls : List Callee
  pub lines : body.lines.items ≡ commands_code calls
  pub lead : AllLead program code runs home calls cs

-- it does what the commands mean
abbrev pub CommandsBehave : Program → Code → ℕ → List Command → Type 0
CommandsBehave program code home cs = Follows program code (commands_meaning program cs) (λ w. start code home (picture w))

-- ---- for all code

-- compiled modules do what they mean, each wherever it is linked to others that may run
abbrev pub EachBodyBehaves : Type 0
EachBodyBehaves = (program : Program) (code : Code) (faces : ℕ → List Face) (shapes : Shapes) (runs : ℕ → Bool) → IsCodeOfProgram program code faces shapes runs → (home : ℕ) → runs home ≡ true → BodyBehaves program code home

-- and so do commands of them
abbrev pub CommandsAllBehave : Type 0
CommandsAllBehave = (program : Program) (code : Code) (faces : ℕ → List Face) (shapes : Shapes) (runs : ℕ → Bool) → IsCodeOfProgram program code faces shapes runs → (home : ℕ) (cs : List Command) → IsCodeOfCommands program code runs home cs → CommandsBehave program code home cs
