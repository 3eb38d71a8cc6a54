use Rattle.ob_reference_store.proofs.zero.+equal_row.Given as goal

abbrev pub decreases-equal_row : goal.decreases-equal_row
decreases-equal_row l = l.length
