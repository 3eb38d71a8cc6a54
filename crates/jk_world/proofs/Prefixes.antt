-- The beginnings of a legal log.
use Rattle.std.proofs.Common.{List, [], ◌∷◌, ◌++◌}
use Rattle.jk_language.specs.Spoken.{Spoken}
use Rattle.jk_log.specs.Log.{Log}
use Rattle.jk_log.specs.Legal.{EachFollows}

pub each_before : {S T : Type 0} (spoken : Spoken S T) (past more : Log) → EachFollows spoken (more ++ past) → EachFollows spoken past
each_before spoken past [] each = each
each_before spoken past (e ∷ more) each = each_before spoken past more each.0
