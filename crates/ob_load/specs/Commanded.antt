-- What commands take to begin in a session.
use Rattle.std.specs.Prelude.{◌≡◌, ℕ, ◌≤◌, List, [], vec_capacity, ◌⊎◌, ◌∷◌, ◌++◌}
use Rattle.ob_mean.specs.declared.face.Face.{Face}
use Rattle.ob_mean.specs.Programs.{Command}
use Rattle.ob_code.specs.declared.instr.CodeModule.{CodeModule}
use Rattle.ob_gen.specs.Correct.{AllRun}
use Rattle.ob_gen.specs.Generated.{IsGenerated}
use Rattle.ob_vm.specs.Images.{IsRoomFor}
use Rattle.ob_session.specs.Session.{Module}
use Rattle.ob_image.specs.Compiled.{Known, runs_in}
use Rattle.ob_image.specs.CommandsCode.{AllCallable, AreCallable, IsCallable, commands_tree}
use Rattle.ob_load.specs.declared.commands.Calls.{Calls}

-- one more module is imported, if it was not
abbrev pub WithHome : List ℕ → ℕ → List ℕ → Type 0
WithHome before home after = (after ≡ before) ⊎ (after ≡ before ++ home ∷ [])

-- each is called at some place
abbrev pub AllRunnable : List Module → List Command → Type 0
AllRunnable modules [] = Unit {0}
AllRunnable modules (c ∷ cs) = ((place : ℕ) × IsCallable modules c place) × AllRunnable modules cs

-- commands, called through imports of modules that may run
pub record AreCalled (modules : List Module) (cs : List Command) (homes : List ℕ) (calls : List (ℕ × ℕ)) : Type 0 where
  pub each : AllCallable modules homes cs calls
  pub run : AllRun (runs_in modules) homes

-- the code of a module that calls them one after the other, and imports these
pub record IsCodeOfCalls (modules : List Module) (known : List Known) (cs : List Command) (homes : List ℕ) (code : CodeModule) : Type 0 where
  -- their calls, and what is known of the imported modules
  pub calls : List (ℕ × ℕ)
  pub faces : List Face
  pub callable : AreCallable modules known cs homes calls faces
  pub generated : IsGenerated faces (commands_tree calls) code

-- that code and its imports, and room for a name of this length
pub record AreReady (modules : List Module) (known : List Known) (cs : List Command) (longest : ℕ) (c : Calls) : Type 0 where
  pub calls : IsCodeOfCalls modules known cs c.imports.items c.code
  pub empty : c.name.items ≡ []
  pub named : longest ≤ vec_capacity c.name
  pub room : IsRoomFor c.code c.room
