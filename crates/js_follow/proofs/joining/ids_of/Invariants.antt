use Rattle.std.proofs.Common.{◌≡◌, ◌||◌, ℕ, List, drop}
use Rattle.nb_doc.specs.Documents.{ids}
use Rattle.nb_doc.specs.Ids.{is_among}
use Rattle.js_follow.proofs.joining.ids_of.Given as goal

-- the set has those of the cells so far
abbrev pub invariant-loop-cell : goal.invariant-loop-cell
invariant-loop-cell l = (id : List ℕ) → (is_among l.names id || is_among (ids (drop l.cell-index l.cells)) id) ≡ is_among (ids l.cells) id
