use Rattle.std.proofs.Common.{◌≡◌, take}
use Rattle.nb_doc.proofs.copying.outputs_copy.Given as goal

-- the copies are those so far
abbrev pub invariant-loop-output : goal.invariant-loop-output
invariant-loop-output l = l.copies.items ≡ take l.output-index l.outputs
