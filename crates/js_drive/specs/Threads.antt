-- To be believed.
-- What the threads of a kernel begin with, and what they bring back: what they were given, moved by their own steps.
use Rattle.std.specs.Prelude.{◌≡◌, Bool, true, false, List, [], All, None}
use Rattle.jk_language.specs.Spoken.{Spoken}
use Rattle.jk_log.specs.Log.{ended as is_ended}
use Rattle.jk_log.specs.Render.{render}
use Rattle.jk_core.specs.State.{fresh}
use Rattle.jk_queues.specs.Ends.{taken_by}
use Rattle.jk_queues.specs.Pool.{offered_by, collected_by, has_stopped, IsNewEnd}
use Rattle.jk_queues.specs.declared.pool.Pool.{Pool}
use Rattle.jk_queues.specs.declared.pool.WorkerEnd.{WorkerEnd}
use Rattle.jk_board.specs.Ends.{published}
use Rattle.jk_run.specs.Acts.{driven, Leads}
use Rattle.jk_run.specs.Driver.{AreSameEnds, state_of}
use Rattle.jk_run.specs.declared.driver.Driver.{Driver}

-- the parsers take from the queue of this pool and hand in to it, and have taken and handed in nothing
abbrev pub AreNewEndsOf : {T : Type 0} → Pool T → List (WorkerEnd T) → Type 0
AreNewEndsOf pool ends = All (IsNewEnd pool) ends

module _ {L S T M : Type 0} where
  -- its kernel has taken nothing; it has taken, published, offered and collected nothing, and nothing is in hand
  abbrev pub IsNewDriver : Driver L S T M → Type 0
  IsNewDriver d =
      (d.kernel ≡ fresh) × (taken_by d.taker ≡ []) × (published d.publisher ≡ []) × (offered_by d.pool ≡ []) × (collected_by d.pool ≡ [])
      × (d.arrival ≡ None) × (d.job ≡ None) × (d.entries ≡ None)

  -- From a kernel that has taken nothing, acts of a driver alone led to where this driver stands. The kernel was shut down, not to
  -- start again; all that its log shows is published; and its parsers were told to stop.
  pub record HasServed (spoken : Spoken S T) (d : Driver L S T M) : Type 0 where
    pub acts : Leads spoken (driven fresh [] [] []) (state_of d.kernel d)
    pub ended : is_ended d.kernel.log ≡ true
    pub shown : published d.publisher ≡ render d.kernel.log
    pub stopped : has_stopped d.pool ≡ true

  -- what the thread of a kernel brings back: its driver, of the same inbox and pool, which has served; where not all parsers had a
  -- thread, as it was made
  abbrev pub IsKernelsEnd : Spoken S T → Bool → Driver L S T M → Driver L S T M → Type 0
  IsKernelsEnd spoken true new last = AreSameEnds new last × HasServed spoken last
  IsKernelsEnd spoken false new last = last ≡ new
