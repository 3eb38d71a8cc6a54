use Rattle.ob_reference_store.proofs.zero.+zero.Given as goal

abbrev pub decreases-zero_of : goal.decreases-zero_of
decreases-zero_of l = l.room

abbrev pub decreases-zeros : goal.decreases-zeros
decreases-zeros l = l.room
