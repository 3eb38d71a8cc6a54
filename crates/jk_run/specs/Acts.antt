-- To be believed.
-- What a driver does, step by step: each act is a step of the world (`jk_world`) that the driver makes.
use Rattle.std.specs.Prelude.{◌≡◌, false, ℕ, List, [], ◌∷◌, ◌++◌, take, Some}
use Rattle.jk_language.specs.Spoken.{Spoken}
use Rattle.jk_log.specs.declared.arrival.Arrival.{Arrival}
use Rattle.jk_log.specs.declared.entry.Entry.{Entry}
use Rattle.jk_log.specs.declared.job.Job.{Job}
use Rattle.jk_core.specs.declared.kernel.Used.{Used}
use Rattle.jk_core.specs.declared.kernel.Work.{Work as Worked}
use Rattle.jk_log.specs.Log.{ended}
use Rattle.jk_log.specs.Results.{Reading, IsResult}
use Rattle.jk_core.specs.State.{KernelState}
use Rattle.jk_log.specs.Pending.{joined}
use Rattle.jk_core.specs.Steps.{Takes, GivesJob, Hands, Works, without}

-- what a driver moves: the kernel, the board, the jobs that it gave and the results that it handed to the kernel, each in order
pub record DriverState (T : Type 0) : Type 0 where
  pub kernel : KernelState T
  pub board : List Entry
  pub given : List Job
  pub handed : List (Reading T)

abbrev pub driven : {T : Type 0} → KernelState T → List Entry → List Job → List (Reading T) → DriverState T
driven kernel board given handed = record { kernel = kernel; board = board; given = given; handed = handed }

pub data Act (T : Type 0) : Type 0 where
  -- the kernel takes this arrival, gives this job, and so on
  Take : (a : Arrival) → Act T
  GiveJob : (job : Job) → Act T
  Hand : (p : Reading T) (used : Used (Reading T)) → Act T
  Work : (turns : ℕ) (answer : Worked) → Act T
  -- the entries of the first so many pending marks are published
  Publish : (marks : ℕ) → Act T

-- From one state of a driver to the next. No arrival is taken after a shutdown that does not start the kernel again. A result
-- that is handed in is what came of reading its text.
abbrev pub Does : {S T : Type 0} → Spoken S T → DriverState T → Act T → DriverState T → Type 0
Does {T = T} spoken d (Take a) e =
    (ended d.kernel.log ≡ false) × (k : KernelState T) × Takes spoken a d.kernel k × (e ≡ driven k d.board d.given d.handed)
Does {T = T} spoken d (GiveJob job) e =
    (k : KernelState T) × GivesJob d.kernel (Some job) k × (e ≡ driven k d.board (d.given ++ job ∷ []) d.handed)
Does {T = T} spoken d (Hand p used) e =
    IsResult spoken p.text p.outcome
    × (k : KernelState T) × Hands p d.kernel used k × (e ≡ driven k d.board d.given (d.handed ++ p ∷ []))
Does {T = T} spoken d (Work turns answer) e =
    (k : KernelState T) × Works spoken turns d.kernel answer k × (e ≡ driven k d.board d.given d.handed)
Does spoken d (Publish marks) e =
    e ≡ driven (without marks d.kernel) (d.board ++ joined (take marks d.kernel.pending)) d.given d.handed

-- from one state to another by a list of acts
abbrev pub Drives : {S T : Type 0} → Spoken S T → DriverState T → List (Act T) → DriverState T → Type 0
Drives spoken d [] e = e ≡ d
Drives {T = T} spoken d (act ∷ acts) e = (mid : DriverState T) × Does spoken d act mid × Drives spoken mid acts e

-- by some list of acts
abbrev pub Leads : {S T : Type 0} → Spoken S T → DriverState T → DriverState T → Type 0
Leads {T = T} spoken d e = (acts : List (Act T)) × Drives spoken d acts e

-- by acts that move the kernel alone
abbrev pub MovesKernel : {S T : Type 0} → Spoken S T → KernelState T → KernelState T → Type 0
MovesKernel {T = T} spoken old new =
    (board : List Entry) (given : List Job) (handed : List (Reading T)) → Leads spoken (driven old board given handed) (driven new board given handed)

-- by acts that move the kernel and the jobs that were given
abbrev pub GivesJobs : {S T : Type 0} → Spoken S T → KernelState T → List Job → KernelState T → List Job → Type 0
GivesJobs {T = T} spoken old given new more =
    (board : List Entry) (handed : List (Reading T)) → Leads spoken (driven old board given handed) (driven new board more handed)

-- by acts that move the kernel and the results that were handed to it
abbrev pub HandsResults : {S T : Type 0} → Spoken S T → KernelState T → List (Reading T) → KernelState T → List (Reading T) → Type 0
HandsResults spoken old handed new more =
    (board : List Entry) (given : List Job) → Leads spoken (driven old board given handed) (driven new board given more)

-- by acts that move the kernel and the board
abbrev pub MovesBoard : {S T : Type 0} → Spoken S T → KernelState T → List Entry → KernelState T → List Entry → Type 0
MovesBoard {T = T} spoken old board new more =
    (given : List Job) (handed : List (Reading T)) → Leads spoken (driven old board given handed) (driven new more given handed)
