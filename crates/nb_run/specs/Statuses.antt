-- To be believed.
-- The statuses that a run ends with.
use Rattle.std.specs.Prelude.{ℕ, Bool, true, false, Result, Ok, Err}
use Rattle.js_shelf.specs.declared.item.ShelfRefusal.{ShelfRefusal}
use Rattle.js_shelf.specs.declared.item.ShelfRefusal.TheVariants as shelf
use Rattle.nb_run.specs.declared.status.RunFault.{RunFault}
use Rattle.nb_run.specs.declared.status.RunFault.TheVariants.{Memory, Unread, NoNotebook, Input, Unwritten}

-- whether all cells ended well, or why the notebook was not run and saved
abbrev pub status_of : Result Bool RunFault → ℕ
status_of (Ok true) = 0
status_of (Ok false) = 5
status_of (Err Memory) = 2
status_of (Err Unread) = 4
status_of (Err Input) = 4
status_of (Err Unwritten) = 4
status_of (Err (NoNotebook fault)) = 6

-- a put that was refused
abbrev pub fault_of : ShelfRefusal → RunFault
fault_of shelf.Memory = Memory
fault_of shelf.Missing = Unwritten
fault_of shelf.Exists = Unwritten
fault_of shelf.BadPath = Unwritten
fault_of shelf.NotEmpty = Unwritten
fault_of shelf.Device = Unwritten
