-- What a script keeps of its log.
use Rattle.std.specs.Prelude.{◌≡◌, ℕ, List, [], ◌∷◌, Option, None, Some}
use Rattle.jk_log.specs.declared.arrival.Arrival.{Arrival}
use Rattle.jk_log.specs.declared.arrival.Sort.{Sort}
use Rattle.jk_log.specs.declared.arrival.Sort.TheVariants as sort
use Rattle.jk_log.specs.declared.mark.Mark.{Mark}
use Rattle.jk_log.specs.declared.mark.Item.{Item}
use Rattle.jk_log.specs.declared.mark.Item.TheVariants.{Took, Marked}
use Rattle.jk_log.specs.Log.{Log, Running, running, arrival_at}
use Rattle.jk_core.specs.declared.script.Waiting.{Waiting}
use Rattle.jk_core.specs.declared.script.Task.{Task}

abbrev pub ArrivalOf : Type 0
ArrivalOf = Arrival

-- what waits, each with what arrived at its place of the log
abbrev pub AllThere : {T : Type 0} → Log → List (Waiting T) → List Arrival → Type 0
AllThere log [] [] = Unit {0}
AllThere log [] (a ∷ rs) = ⊥
AllThere log (w ∷ ws) [] = ⊥
AllThere log (w ∷ ws) (a ∷ rs) = (arrival_at w.at log ≡ Some a) × AllThere log ws rs

-- the request at a place is that of the cell that runs
abbrev pub RunsAt : ℕ → Log → Type 0
RunsAt at log = (r : Running) × (running log ≡ Some r) × (r.at ≡ at)

-- this arrival stands at a place, or the cell that runs does
abbrev pub IsFor : ℕ → Log → Option Arrival → Type 0
IsFor at log None = RunsAt at log
IsFor at log (Some a) = arrival_at at log ≡ Some a

-- the request that is kept stands at a place
abbrev pub HasRequest : Option Arrival → ℕ → Log → Type 0
HasRequest cell at log = (a : Arrival) × (cell ≡ Some a) × (arrival_at at log ≡ Some a)

-- an arrival is handed back unless it waits
abbrev pub handed_back : Sort → Arrival → Option Arrival
handed_back sort.Execute a = None
handed_back sort.Query a = None
handed_back sort.Join a = Some a
handed_back sort.Leave a = Some a
handed_back sort.Input a = Some a
handed_back sort.Interrupt a = Some a
handed_back sort.KernelInfo a = Some a
handed_back (sort.Shutdown restart) a = Some a
handed_back sort.Other a = Some a

-- a request that waits with this to be done, if there is any
abbrev pub tasked : {T : Type 0} → Option (Task T) → ℕ → ℕ → List (Waiting T)
tasked None at number = []
tasked (Some task) at number = record { at = at; number = number; task = task } ∷ []

-- the mark that is an item
abbrev pub mark_in : Item → Option Mark
mark_in (Took a) = None
mark_in (Marked m) = Some m
