use Rattle.std.proofs.Common.{◌≡◌, drop}
use Rattle.ob_mean.specs.RecordTypes.{is_among}
use Rattle.ob_mean.proofs.kind.is_among.Given as goal

-- it is among those that were not looked at yet, if at all
abbrev pub invariant-loop-place : goal.invariant-loop-place
invariant-loop-place l = is_among l.name l.types ≡ is_among l.name (drop l.place l.types)
