use Rattle.std.proofs.Common.{List, ◌++◌, drop}
use Rattle.ob_code.specs.declared.instr.Entries.{Entries}
use Rattle.ob_gen.specs.Generated.{AreOfFaces}
use Rattle.ob_gen.proofs.compile.all_entries.Given as goal

abbrev pub invariant-loop-face : goal.invariant-loop-face
invariant-loop-face l = (rest : List Entries) → AreOfFaces (drop l.face-index l.faces) rest → AreOfFaces l.faces (l.imports.items ++ rest)
