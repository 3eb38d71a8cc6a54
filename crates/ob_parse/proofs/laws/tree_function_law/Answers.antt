use Rattle.ob_parse.proofs.Texts.{tree_sound, tree_complete}
use Rattle.ob_parse.proofs.laws.tree_function_law.Goals as goal

pub returns : goal.returns
returns c = λ tokens tree. (tree_sound tokens tree, tree_complete tokens tree)
