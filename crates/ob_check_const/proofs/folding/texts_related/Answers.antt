use Rattle.std.proofs.Common.{◌≡◌, ◌∙◌, sym}
use Rattle.std.proofs.lemmas.Slice.Eq.{bytes_eq-Decides}
use Rattle.ob_check_const.proofs.Same.{same_text}
use Rattle.ob_check_const.proofs.folding.texts_related.Goals as goal

-- a string compared with itself
pub returns-then-eq : goal.returns-then-eq
returns-then-eq c = c.holds.ensures ∙ same_text c.args.relation c.args.left.now c.args.right.now ((bytes_eq-Decides c.args.left.now c.args.right.now).0 (sym c.eq.ensures ∙ c.if-eq.true))
