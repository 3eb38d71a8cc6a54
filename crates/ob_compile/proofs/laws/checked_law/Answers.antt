use Rattle.ob_compile.proofs.Checked.{each_compilable}
use Rattle.ob_compile.proofs.laws.checked_law.Goals as goal

pub returns : goal.returns
returns c = each_compilable
