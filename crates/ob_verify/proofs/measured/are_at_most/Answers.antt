use Rattle.std.proofs.Common.{arith}
use Rattle.ob_code.proofs.Each.{stands_within}
use Rattle.ob_verify.proofs.Lows.{all_at_most}
use Rattle.ob_verify.proofs.measured.are_at_most.Goals as goal

pub returns : goal.returns
returns c = λ yes. all_at_most c.args.most c.args.types.now (λ k x e. let lt = stands_within c.args.types.now k x e in c.loop-place.invariant k x (omega (arith, lt, c.loop-place-test.false)) e)
