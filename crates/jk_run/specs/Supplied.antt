-- To be believed.
-- What a list of acts takes from outside the driver: arrivals that were sent, and results of jobs that were given.
use Rattle.std.specs.Prelude.{◌≡◌, ℕ, List, [], ◌∷◌, ◌++◌, Some, slice_get, remove}
use Rattle.jk_log.specs.declared.arrival.Arrival.{Arrival}
use Rattle.jk_log.specs.declared.job.Job.{Job}
use Rattle.jk_run.specs.Acts.{Act, Take, GiveJob, Hand, Work, Publish}

-- the arrivals that these acts take, in order
abbrev pub arrivals_of : {T : Type 0} → List (Act T) → List Arrival
arrivals_of [] = []
arrivals_of (Take a ∷ acts) = a ∷ arrivals_of acts
arrivals_of (GiveJob job ∷ acts) = arrivals_of acts
arrivals_of (Hand p used ∷ acts) = arrivals_of acts
arrivals_of (Work turns answer ∷ acts) = arrivals_of acts
arrivals_of (Publish marks ∷ acts) = arrivals_of acts

-- Each result that is handed in is of a job that was given before, and of each job one result at most is handed in. `jobs` are
-- those that were given and of which none was handed in yet.
abbrev pub AreSupplied : {T : Type 0} → List Job → List (Act T) → Type 0
AreSupplied jobs [] = Unit {0}
AreSupplied jobs (Take a ∷ acts) = AreSupplied jobs acts
AreSupplied jobs (GiveJob job ∷ acts) = AreSupplied (jobs ++ job ∷ []) acts
AreSupplied jobs (Hand p used ∷ acts) =
    (which : ℕ) × (job : Job) × (slice_get jobs which ≡ Some job) × (job.number ≡ p.job) × (job.text ≡ p.text)
    × AreSupplied (remove jobs which) acts
AreSupplied jobs (Work turns answer ∷ acts) = AreSupplied jobs acts
AreSupplied jobs (Publish marks ∷ acts) = AreSupplied jobs acts
