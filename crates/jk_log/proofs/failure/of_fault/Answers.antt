use Rattle.std.proofs.Common.{refl, append_assoc}
use Rattle.jk_log.specs.Failures.{compile_failure}
use Rattle.jk_log.proofs.failure.of_fault.Goals as goal

pub returns : goal.returns
unfolding compile_failure
returns c = simp (c.from_string.ensures, c.in_ok-from_str.ensures, c.in_ok-evalue.ensures.ok, append_assoc) refl
