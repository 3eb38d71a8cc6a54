use Rattle.nb_read.proofs.Lists.{Grows}
use Rattle.nb_doc.specs.TextForms.{IsText}
use Rattle.nb_read.proofs.outputs.texts.Given as goal

-- what was made of the items so far, with what those that are left are, is all
abbrev pub invariant-loop-item : goal.invariant-loop-item
invariant-loop-item l = Grows IsText l.item-items l.item-index l.found.items
