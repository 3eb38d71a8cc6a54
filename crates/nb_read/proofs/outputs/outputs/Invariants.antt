use Rattle.nb_read.proofs.Lists.{Grows}
use Rattle.nb_doc.specs.TextForms.{IsOutputOf}
use Rattle.nb_read.proofs.outputs.outputs.Given as goal

-- what was made of the items so far, with what those that are left are, is all
abbrev pub invariant-loop-item : goal.invariant-loop-item
invariant-loop-item l = Grows IsOutputOf l.item-items l.item-index l.found.items
