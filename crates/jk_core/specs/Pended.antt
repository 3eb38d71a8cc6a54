-- The marks that are not handed on yet, and what they show.
use Rattle.std.specs.Prelude.{ℕ, Bool, true, false, if◌then◌else◌, List, [], ◌∷◌, Option, None, Some}
use Rattle.jk_log.specs.declared.arrival.Arrival.{Arrival}
use Rattle.jk_log.specs.declared.entry.Entry.{Entry}
use Rattle.jk_log.specs.declared.mark.Kind.{Kind}
use Rattle.jk_log.specs.declared.mark.Kind.TheVariants.{Join, Leave, Begin, Flush, Ask, Line, End, Stop, Refuse, Abort, Answer, Interrupt, KernelInfo, Restart}
use Rattle.jk_log.specs.Log.{option_or}
use Rattle.jk_log.specs.Render.{entries_of}
use Rattle.jk_core.specs.declared.pending.Pended.{Pended}

-- whether a cell begins with a mark
abbrev pub begins : Kind → Bool
begins (Begin count) = true
begins Join = false
begins Leave = false
begins (Flush turns text) = false
begins Ask = false
begins (Line text) = false
begins (End ending count) = false
begins (Stop turns cause count) = false
begins (Refuse count) = false
begins Abort = false
begins (Answer status) = false
begins Interrupt = false
begins KernelInfo = false
begins (Restart restart) = false

-- what a mark is for: its own arrival, or the request of the cell that was begun last before it
abbrev pub arrival_of : Option Arrival → Option Arrival → Option Arrival
arrival_of cell None = cell
arrival_of cell (Some own) = Some own

-- what a mark shows of that
abbrev pub entries_for : Kind → Option Arrival → List Entry
entries_for kind arrival = option_or (entries_of kind) [] arrival

-- the request of the cell that was begun last, after a mark
abbrev pub cell_after : Kind → Option Arrival → Option Arrival → Option Arrival
cell_after kind own cell = if begins kind then arrival_of cell own else cell

-- and after these marks
abbrev pub last_cell : Option Arrival → List Pended → Option Arrival
last_cell cell [] = cell
last_cell cell (p ∷ ps) = last_cell (cell_after p.kind p.arrival cell) ps

-- what each of these marks shows, after a cell with this request
abbrev pub shown_by : Option Arrival → List Pended → List (List Entry)
shown_by cell [] = []
shown_by cell (p ∷ ps) = entries_for p.kind (arrival_of cell p.arrival) ∷ shown_by (cell_after p.kind p.arrival cell) ps

-- the marks that are not handed on yet
pub record PendingState : Type 0 where
  -- the entries of each, oldest first
  pub entries : List (List Entry)
  -- the request of the cell that was begun last
  pub cell : Option Arrival
  -- how many more there is room for
  pub room : ℕ
