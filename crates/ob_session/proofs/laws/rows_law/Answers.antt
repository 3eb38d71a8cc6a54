use Rattle.ob_session.proofs.Rows.{worked_rows}
use Rattle.ob_session.proofs.laws.rows_law.Goals as goal

pub returns : goal.returns
returns c = worked_rows
