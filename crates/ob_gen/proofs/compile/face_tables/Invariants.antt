use Rattle.std.proofs.Common.{◌≡◌, ◌++◌, drop, map}
use Rattle.ob_gen.specs.Known.{face_sizes}
use Rattle.ob_gen.proofs.compile.face_tables.Given as goal

abbrev pub invariant-loop-face : goal.invariant-loop-face
invariant-loop-face l = l.tables.items ++ map face_sizes (drop l.face-index l.faces) ≡ map face_sizes l.faces
