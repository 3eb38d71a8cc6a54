-- To be believed.
-- Why a text has no tree.
use Rattle.std.specs.Prelude.{ℕ, List}
use Rattle.jk_language.specs.declared.outcome.Refused.{Refused}
use Rattle.jk_language.specs.declared.outcome.Refused.TheVariants.{Fault, Memory}
use Rattle.jk_language.specs.Spoken.{Spoken}

-- a text that is refused for a fault has no tree
abbrev pub IsUnread : {S T : Type 0} → Spoken S T → List ℕ → Refused → Type 0
IsUnread {T = T} spoken text (Fault fault) = (tree : T) → spoken.IsTree text tree → ⊥
IsUnread spoken text Memory = Unit {0}
