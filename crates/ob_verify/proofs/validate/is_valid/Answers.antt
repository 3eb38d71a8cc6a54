use Rattle.std.proofs.Common.{rules}
use Rattle.ob_verify.proofs.validate.is_valid.Goals as goal

pub returns-then-exports_fit : goal.returns-then-exports_fit
returns-then-exports_fit c = λ yes. record {
  body = search rules;
  exported = search rules;
  each = c.procedures_fit.ensures yes;
}
