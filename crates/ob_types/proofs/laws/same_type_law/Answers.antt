use Rattle.std.proofs.Common.{◌≡◌, true, subst}
use Rattle.ob_types.specs.Types.{same}
use Rattle.ob_types.proofs.SameType.{same_true, same_own}
use Rattle.ob_types.proofs.laws.same_type_law.Goals as goal

pub returns : goal.returns
returns c = λ a b. (same_true a b, λ e. subst (λ x. same a x ≡ true) e (same_own a))
