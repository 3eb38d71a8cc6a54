use Rattle.std.proofs.Common.{◌≡◌, drop}
use Rattle.ob_check_laws.specs.Fitting.{face_named}
use Rattle.ob_compile.proofs.imports.module_named.Given as goal

abbrev pub invariant-loop-module : goal.invariant-loop-module
invariant-loop-module l = face_named l.loaded l.name ≡ face_named (drop l.module-index l.loaded) l.name
