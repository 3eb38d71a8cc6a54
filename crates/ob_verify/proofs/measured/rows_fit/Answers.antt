use Rattle.std.proofs.Common.{rules}
use Rattle.ob_code.specs.Kinds.{listed}
use Rattle.ob_verify.proofs.measured.rows_fit.Goals as goal

pub returns-then-begins : goal.returns-then-begins
returns-then-begins c = λ yes. record {
  counted = search rules;
  rows = listed c.args.rows.now;
  opens = search rules;
  each = c.lines_keep.ensures yes;
}
