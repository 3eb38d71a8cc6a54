-- To be believed.
-- What a clause sees of a driver.
use Rattle.std.specs.Prelude.{◌≡◌, ◌≢◌, ◌⊎◌, true, ℕ, zero, suc, List, [], ◌++◌, length, Option, None, Some}
use Rattle.std.specs.declared.vec.Vec.{Vec}
use Rattle.std.specs.declared.alloc.Global.{Global}
use Rattle.crossbeam_queue.specs.Fifo.{Held}
use Rattle.jk_language.specs.Spoken.{Spoken}
use Rattle.jk_log.specs.declared.entry.Entry.{Entry}
use Rattle.jk_log.specs.declared.job.Job.{Job}
use Rattle.jk_core.specs.declared.kernel.Work.{Work}
use Rattle.jk_core.specs.declared.kernel.Work.TheVariants.{NoMemory}
use Rattle.jk_log.specs.Log.{Log, ended}
use Rattle.jk_core.specs.State.{KernelState}
use Rattle.jk_log.specs.Pending.{joined}
use Rattle.jk_core.specs.Steps.{Works, first_after, without}
use Rattle.jk_queues.specs.Ends.{taker_view, taker_inbox}
use Rattle.jk_queues.specs.Inbox.{Stands}
use Rattle.jk_queues.specs.Line.{StandsPushed, StandsTaken}
use Rattle.jk_queues.specs.Pool.{offered_by, collected_by, jobs_view, results_view, IsSamePool}
use Rattle.jk_queues.specs.declared.line.Hand.{Hand}
use Rattle.jk_queues.specs.declared.part.Part.{Part}
use Rattle.jk_board.specs.Ends.{published}
use Rattle.jk_run.specs.declared.driver.Driver.{Driver}
use Rattle.jk_run.specs.Acts.{DriverState, driven, Leads, MovesBoard}
use Rattle.jk_run.specs.Hand.{hand}

-- the kernel in which what is pending and in hand is all pending still
abbrev pub Pends : {T : Type 0} → Option (Vec Entry Global) → KernelState T → KernelState T → Type 0
Pends None all now = now ≡ all
Pends (Some entries) all now = (now ≡ without (length all.pending) all) × (entries.items ≡ joined all.pending)

-- by acts that move the kernel and the board, where entries that found no memory are in hand
abbrev pub Publishes : {S T : Type 0} → Spoken S T → KernelState T → List Entry → Option (Vec Entry Global) → KernelState T → List Entry → Type 0
Publishes {T = T} spoken old board entries new more =
    (m : KernelState T) × Pends entries m new × MovesBoard spoken old board m more

-- the inbox was empty at a moment, or the kernel was shut down and takes nothing more
abbrev pub IsEmptied : Log → Part → Type 0
IsEmptied log view = (ended log ≡ true) ⊎ Held 0 (Stands view)

-- each request that waits was given, or a job is in hand that found 64 jobs in the queue at a moment
abbrev pub HasGiven : {T : Type 0} → Option Job → Hand Job → KernelState T → Type 0
HasGiven None jobs k = first_after k.given k.waits ≡ None
HasGiven (Some job) jobs k = Held 64 (StandsPushed jobs)

module _ {L S T M : Type 0} where
  -- what the driver has moved, where its kernel is this: a job in hand was given, an arrival in hand was not taken
  abbrev pub state_of : KernelState T → Driver L S T M → DriverState T
  state_of kernel d = driven kernel (published d.publisher) (offered_by d.pool ++ hand d.job) (collected_by d.pool)

  -- From one driver to another by a list of acts. Entries in hand are pending still.
  abbrev pub HasDriven : Spoken S T → Driver L S T M → Driver L S T M → Type 0
  HasDriven spoken old new =
      (k : KernelState T) → Pends old.entries k old.kernel
      → (m : KernelState T) × Pends new.entries m new.kernel × Leads spoken (state_of k old) (state_of m new)

  -- the driver's ends are of the same inbox and pool
  pub record AreSameEnds (old new : Driver L S T M) : Type 0 where
    pub inbox : taker_inbox new.taker ≡ taker_inbox old.taker
    pub pool : IsSamePool old.pool new.pool

  -- The last slice had so many turns, and answered this. It was one of this driver's own kernel, where that stood after acts of
  -- the driver; and all that was pending after it was published.
  abbrev pub HasWorked : Spoken S T → ℕ → Work → Driver L S T M → Driver L S T M → Type 0
  HasWorked spoken turns answer old new =
      (k : KernelState T) → Pends old.entries k old.kernel
      → (d : DriverState T) × (after : KernelState T)
      × Leads spoken (state_of k old) d × Works spoken turns d.kernel answer after × (new.kernel ≡ without (length after.pending) after)

  -- All that there was to do was done: nothing is in hand but perhaps a job, the inbox was empty at a moment or the
  -- kernel was shut down, each request that waits was given or the pool was full for its job, no result stood in the
  -- pool at a moment, nothing is pending, and the last slice, of so many turns, answered this.
  pub record HasDone (spoken : Spoken S T) (turns : ℕ) (answer : Work) (old d : Driver L S T M) : Type 0 where
    pub arrival : d.arrival ≡ None
    pub inbox : IsEmptied d.kernel.log (taker_view d.taker)
    pub given : HasGiven d.job (jobs_view d.pool) d.kernel
    pub results : Held 0 (StandsTaken (results_view d.pool))
    pub entries : d.entries ≡ None
    pub pending : d.kernel.pending ≡ []
    pub worked : HasWorked spoken turns answer old d

  -- unless a call was refused for memory
  abbrev pub IsRound : Spoken S T → ℕ → Work → Driver L S T M → Driver L S T M → Type 0
  IsRound spoken turns answer old d = answer ≢ NoMemory → HasDone spoken turns answer old d

  -- so many rounds with slices of 1,000 turns, one after the other, the last of which answered this
  abbrev pub Rounds : Spoken S T → ℕ → Driver L S T M → Work → Driver L S T M → Type 0
  Rounds spoken zero old answer new = new ≡ old
  Rounds spoken (suc n) old answer new =
      (mid : Driver L S T M) × (before : Work)
      × Rounds spoken n old before mid × HasDriven spoken mid new × AreSameEnds mid new × IsRound spoken 1000 answer mid new
