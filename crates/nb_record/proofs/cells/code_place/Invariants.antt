use Rattle.std.proofs.Common.{◌≡◌, drop}
use Rattle.nb_record.specs.Book.{has_code}
use Rattle.nb_record.proofs.cells.code_place.Given as goal

-- whether the code cell is among all is whether it is among those that are left
abbrev pub invariant-loop-place : goal.invariant-loop-place
invariant-loop-place l = has_code (drop l.place l.cells) l.id ≡ has_code l.cells l.id
