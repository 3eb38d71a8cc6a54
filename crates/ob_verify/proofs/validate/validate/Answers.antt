use Rattle.ob_verify.proofs.validate.validate.Goals as goal

pub returns-then-branch-clause-measured : goal.returns-then-branch-clause-measured
returns-then-branch-clause-measured c = c.in_ok-is_measured.ensures c.if-branch.true
