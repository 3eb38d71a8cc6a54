use Rattle.std.proofs.Common.{arith}
use Rattle.json.proofs.Printed.Decimals.{IsNumber-decimal}
use Rattle.nb_text.proofs.values.write_positive.Goals as goal

pub token-requires : goal.token-requires
token-requires g c = rw c.format.ensures.text (IsNumber-decimal c.args.positive (omega arith))
