use Rattle.std.proofs.Common.{◌≡◌, ◌++◌, drop}
use Rattle.ob_check_laws.specs.Fitting as spec
use Rattle.ob_compile.proofs.imports.faces_of.Given as goal

abbrev pub invariant-loop-import : goal.invariant-loop-import
invariant-loop-import l = l.faces.items ++ spec.faces_of l.loaded (drop l.import-index l.imported) ≡ spec.faces_of l.loaded l.imported
