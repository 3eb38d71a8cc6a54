-- To be believed.
-- What a worker has done.
use Rattle.std.specs.Prelude.{◌≡◌, ℕ, ◌≤◌, true, List, [], ◌∷◌, ◌++◌, map, length}
use Rattle.jk_log.specs.declared.job.Job.{Job}
use Rattle.jk_log.specs.Results.{Reading}
use Rattle.jk_queues.specs.Pool.{taken_by, made_by, found_stopped, IsSameEnd}
use Rattle.jk_queues.specs.declared.pool.WorkerEnd.{WorkerEnd}
use Rattle.jk_queues.specs.declared.pool.work.Round.{Round}
use Rattle.jk_queues.specs.declared.pool.work.Round.TheVariants.{Worked, Idle, Stopped}

-- the number and the text of a job
abbrev pub asked : Job → ℕ × List ℕ
asked job = (job.number, job.text)

module _ {T : Type 0} where
  -- those of the job that a result is of
  abbrev pub answered : Reading T → ℕ × List ℕ
  answered result = (result.job, result.text)

  -- since it was `old`, the worker took these jobs: it handed in the results of the first, in order, and none of the rest
  pub record HasDone (first rest : List Job) (old new : WorkerEnd (Reading T)) : Type 0 where
    pub results : List (Reading T)
    pub each : map answered results ≡ map asked first
    pub took : taken_by new ≡ taken_by old ++ (first ++ rest)
    pub handed : made_by new ≡ made_by old ++ results
    pub same : IsSameEnd old new

  abbrev pub IsRound : Round → WorkerEnd (Reading T) → WorkerEnd (Reading T) → Type 0
  IsRound Worked old new = (job : Job) × HasDone (job ∷ []) [] old new
  IsRound Idle old new = HasDone [] [] old new
  IsRound Stopped old new = (found_stopped new ≡ true) × ((rest : List Job) × (length rest ≤ 1) × HasDone [] rest old new)

  -- it found the pool stopped; each job that it took has its result handed in, but for one that may have been in hand then
  abbrev pub HasWorked : WorkerEnd (Reading T) → WorkerEnd (Reading T) → Type 0
  HasWorked old new = (found_stopped new ≡ true) × ((first : List Job) × (rest : List Job) × (length rest ≤ 1) × HasDone first rest old new)
