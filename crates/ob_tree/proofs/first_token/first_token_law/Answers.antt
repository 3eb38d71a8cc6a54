use Rattle.ob_tree.proofs.FirstTokens.{expr_begins}
use Rattle.ob_tree.proofs.first_token.first_token_law.Goals as goal

pub returns : goal.returns
returns c = λ levels e tokens rest h. expr_begins levels e tokens rest h
