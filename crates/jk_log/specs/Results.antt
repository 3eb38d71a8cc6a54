-- To be believed.
-- What may come of reading a text.
use Rattle.std.specs.Prelude.{ℕ, List}
use Rattle.jk_language.specs.declared.outcome.Refusal.TheVariants.{Compile}
use Rattle.jk_language.specs.Spoken.{Spoken}
use Rattle.jk_log.specs.declared.job.Parsed.{Parsed}
use Rattle.jk_log.specs.declared.job.Parsed.TheVariants.{Tree, Fault, Memory}

-- the tree of this text, or a fault that it has in each session
abbrev pub IsResult : {S T : Type 0} → Spoken S T → List ℕ → Parsed T → Type 0
IsResult spoken text (Tree tree) = spoken.IsTree text tree
IsResult {S = S} spoken text (Fault fault) = (session : S) → spoken.IsRefusedFor session text (Compile fault)
IsResult spoken text Memory = Unit {0}

-- a text that was read for a job, and what came of it
pub record Reading (T : Type 0) : Type 0 where
  pub job : ℕ
  pub text : List ℕ
  pub outcome : Parsed T
