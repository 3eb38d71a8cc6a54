use Rattle.ob_reference_store.proofs.zero.+text_row.Given as goal

abbrev pub decreases-text_row : goal.decreases-text_row
decreases-text_row l = l.length
