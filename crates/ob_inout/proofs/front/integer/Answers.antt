use Rattle.std.proofs.Common.{◌-◌, length, take, drop}
use Rattle.ob_inout.proofs.DigitRuns.{digits_pass}
use Rattle.ob_inout.proofs.front.integer.Goals as goal

pub value_of-requires : goal.value_of-requires
value_of-requires c = digits_pass c.run_length-count.result (take (length c.args.chars.now - c.from-start.result) (drop c.from-start.result c.args.chars.now)) c.run_length-count.ensures.count
