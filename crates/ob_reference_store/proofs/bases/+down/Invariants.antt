use Rattle.ob_reference_store.proofs.bases.+down.Given as goal

abbrev pub decreases-down : goal.decreases-down
decreases-down l = l.levels
