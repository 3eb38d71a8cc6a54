use Rattle.ob_reference_store.proofs.bases.+up.Given as goal

abbrev pub decreases-up : goal.decreases-up
decreases-up l = l.levels
