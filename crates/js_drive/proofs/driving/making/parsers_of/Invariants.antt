use Rattle.std.proofs.Common.{◌≡◌, map}
use Rattle.js_drive.proofs.driving.making.parsers_of.Given as goal

-- the parsers so far have the ends so far
abbrev pub invariant-loop-end : goal.invariant-loop-end
invariant-loop-end g l = map (λ p. p.end) l.parsers.items ≡ l.yielded
