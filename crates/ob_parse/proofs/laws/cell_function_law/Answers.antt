use Rattle.ob_parse.proofs.Texts.{cell_sound, cell_complete}
use Rattle.ob_parse.proofs.laws.cell_function_law.Goals as goal

pub returns : goal.returns
returns c = λ text tree. (cell_sound text tree, cell_complete text tree)
