-- Loading a module.
use Rattle.std.specs.Prelude.{◌≡◌, ℕ, Bool, true, ℤ, List, length, Some, slice_get}
use Rattle.ob_code.specs.declared.instr.CodeModule.{CodeModule}
use Rattle.ob_code.specs.declared.instr.LinkedModule.{LinkedModule}
use Rattle.ob_code.specs.Linked.{all_cells, runs_of}
use Rattle.ob_code.specs.Machine.{Code}
use Rattle.ob_vm.specs.Images.{IsRoomFor}
use Rattle.ob_session.specs.Session.{Module, import_places}
use Rattle.ob_image.specs.Stores.{loaded_cells}
use Rattle.ob_image.specs.Compiled.{Known, AreCompiled, runs_in}
use Rattle.ob_load.specs.declared.body.Beginning.{Beginning}
use Rattle.ob_load.specs.declared.loading.Prepared.{Prepared}

-- what the beginning of a module's body takes, over modules whose variables have these cells
pub record IsPrepared (modules : List Module) (cells : List ℤ) (m : Module) (code : CodeModule) (p : Prepared) : Type 0 where
  pub imports : p.imports.items ≡ import_places modules m.imports
  pub row : p.cells.items ≡ loaded_cells modules m cells
  pub room : IsRoomFor code p.room

-- which modules may run
pub record AreFlags (modules : List Module) (runs : List Bool) : Type 0 where
  pub flags : (n : ℕ) → runs_of runs n ≡ runs_in modules n
  pub count : length runs ≡ length modules

-- The body of a module may begin: the modules, what is known of them and their code go together, its code may run, and there
-- are the cells of all variables, and room for what the body begins with.
pub record BodyMayBegin (modules : List Module) (known : List Known) (code : Code) (b : Beginning) : Type 0 where
  pub compiled : AreCompiled modules known code
  pub runs : (n : ℕ) → runs_of b.runs.items n ≡ runs_in modules n
  pub flags : length b.runs.items ≡ length modules
  pub row : length b.cells.items ≡ all_cells code
  pub may_run : runs_in modules b.number ≡ true
  pub room : (l : LinkedModule) → slice_get code b.number ≡ Some l → IsRoomFor l.code b.room
