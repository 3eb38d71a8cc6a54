use Rattle.std.proofs.Common.{◌≡◌, drop}
use Rattle.std.specs.List.{list_any}
use Rattle.ob_link.proofs.reaching.has_flag.Given as goal

abbrev pub invariant-loop-flag : goal.invariant-loop-flag
invariant-loop-flag l = list_any (λ b. b) l.flags ≡ list_any (λ b. b) (drop l.flag-index l.flags)
