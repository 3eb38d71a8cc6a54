-- To be believed.
-- What contracts see of a kernel.
use Rattle.std.specs.Prelude.{◌≡◌, nat_lt, slice_get, ◌&&◌, ◌<◌, ◌≤◌, ℕ, Bool, true, false, List, [], ◌∷◌, length, Option, None, Some}
use Rattle.jk_log.specs.declared.entry.Entry.{Entry}
use Rattle.jk_core.specs.declared.script.Waiting.{Waiting}
use Rattle.jk_core.specs.declared.script.Task.{Task}
use Rattle.jk_core.specs.declared.script.Task.TheVariants.{Cell, Query}
use Rattle.jk_log.specs.Log.{Log}

pub record KernelState (T : Type 0) : Type 0 where
  pub log : Log
  -- the entries of each mark that was not handed on yet, oldest first
  pub pending : List (List Entry)
  -- the requests that wait, with the results that were handed in
  pub waits : List (Waiting T)
  -- the number of the last job that was given
  pub given : ℕ
  -- the turns of the cell that runs: those of its last flush, or more where it has written nothing since
  pub ran : ℕ

-- a kernel that has taken nothing
abbrev pub fresh : {T : Type 0} → KernelState T
fresh = record { log = []; pending = []; waits = []; given = 0; ran = 0 }

-- a script, and how many more items it has room for
pub record ScriptState (T : Type 0) : Type 0 where
  pub state : KernelState T
  pub room : ℕ

abbrev pub state_of : {T : Type 0} → Log → List (List Entry) → List (Waiting T) → ℕ → ℕ → KernelState T
state_of log pending waits given ran = record { log = log; pending = pending; waits = waits; given = given; ran = ran }

-- whether what waits is a cell
abbrev pub is_cell : {T : Type 0} → Task T → Bool
is_cell (Cell result) = true
is_cell (Query status) = false

-- the numbers of what waits ascend, from above one up to another
abbrev pub Ascends : {T : Type 0} → ℕ → ℕ → List (Waiting T) → Type 0
Ascends low high [] = low ≤ high
Ascends low high (w ∷ ws) = (low < w.number) × Ascends w.number high ws

-- none of the first requests that wait, so many, is a cell that is still to be given
pub record PassedBy {T : Type 0} (given passed : ℕ) (ws : List (Waiting T)) : Type 0 where
  pub within : passed ≤ length ws
  pub none : (i : ℕ) (w : Waiting T) → slice_get ws i ≡ Some w → i < passed → is_cell w.task && nat_lt given w.number ≡ false

abbrev pub first_of : {A : Type 0} → List A → Option A
first_of [] = None
first_of (x ∷ xs) = Some x

abbrev pub WaitingOf : Type 0 → Type 0
WaitingOf T = Waiting T
