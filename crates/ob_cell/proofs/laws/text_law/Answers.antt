use Rattle.ob_cell.proofs.Texts.{each_text}
use Rattle.ob_cell.proofs.laws.text_law.Goals as goal

pub returns : goal.returns
returns c = each_text
