use Rattle.std.proofs.Common.{◌≡◌, take}
use Rattle.nb_doc.proofs.copying.texts_copy.Given as goal

-- the copies are those so far
abbrev pub invariant-loop-text : goal.invariant-loop-text
invariant-loop-text l = l.copies.items ≡ take l.text-index l.texts
