-- To be believed.
-- What a clause sees of the ends of a pool.
use Rattle.std.specs.Prelude.{◌≡◌, Bool, List, []}
use Rattle.atomic_table.specs.Seated.{TableId}
use Rattle.crossbeam_queue.specs.Passes.{view}
use Rattle.crossbeam_utils.specs.Seq.{cell_view}
use Rattle.jk_log.specs.declared.job.Job.{Job}
use Rattle.jk_queues.specs.declared.line.Hand.{Hand}
use Rattle.jk_queues.specs.declared.pool.Pool.{Pool}
use Rattle.jk_queues.specs.declared.pool.WorkerEnd.{WorkerEnd}

module _ {T : Type 0} where
  abbrev pub jobs_view : Pool T → Hand Job
  jobs_view p = view p.offered

  abbrev pub results_view : Pool T → Hand T
  results_view p = view p.collected

  -- the jobs offered, in order
  abbrev pub offered_by : Pool T → List Job
  offered_by p = (view p.offered).put

  -- the results collected, in order
  abbrev pub collected_by : Pool T → List T
  collected_by p = (view p.collected).got

  -- whether the driver has stopped the pool
  abbrev pub has_stopped : Pool T → Bool
  has_stopped p = (cell_view p.stopping).stopped

  -- which queue of jobs, which of results and which word to stop by the driver's end is of
  abbrev pub jobs_pool : Pool T → TableId
  jobs_pool p = p.offered.table_id

  abbrev pub results_pool : Pool T → TableId
  results_pool p = p.collected.table_id

  abbrev pub stop_pool : Pool T → TableId
  stop_pool p = p.stopping.table_id

  -- the jobs that this worker took, in order
  abbrev pub taken_by : WorkerEnd T → List Job
  taken_by w = (view w.taken).got

  -- the results that it handed in, in order
  abbrev pub made_by : WorkerEnd T → List T
  made_by w = (view w.made).put

  -- whether this worker found, when it looked last, that the driver had stopped the pool
  abbrev pub found_stopped : WorkerEnd T → Bool
  found_stopped w = (cell_view w.stopping).stopped

  -- the worker takes jobs from the queue that the driver offers them to, hands in to the queue that it collects from,
  -- looks at the word that it stops by, and has taken and handed in nothing yet
  pub record IsNewEnd (p : Pool T) (w : WorkerEnd T) : Type 0 where
    pub jobs : w.taken.table_id ≡ jobs_pool p
    pub results : w.made.table_id ≡ results_pool p
    pub stop : w.stopping.table_id ≡ stop_pool p
    pub took : taken_by w ≡ []
    pub handed : made_by w ≡ []

  -- the driver's end is still of the same pool
  abbrev pub IsSamePool : Pool T → Pool T → Type 0
  IsSamePool old new = (jobs_pool new ≡ jobs_pool old) × (results_pool new ≡ results_pool old) × (stop_pool new ≡ stop_pool old)

  -- and the worker's
  abbrev pub IsSameEnd : WorkerEnd T → WorkerEnd T → Type 0
  IsSameEnd old new = (new.taken.table_id ≡ old.taken.table_id) × (new.made.table_id ≡ old.made.table_id) × (new.stopping.table_id ≡ old.stopping.table_id)
