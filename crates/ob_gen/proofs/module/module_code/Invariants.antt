use Rattle.std.proofs.Common.{List, ◌++◌, drop}
use Rattle.ob_code.specs.declared.instr.Procedure.{Procedure}
use Rattle.ob_gen.specs.Correct.{AreCompiled}
use Rattle.ob_gen.specs.Generated.{AllHaveRoom}
use Rattle.ob_gen.proofs.module.module_code.Given as goal

abbrev pub invariant-loop-procedure : goal.invariant-loop-procedure
invariant-loop-procedure l = record {
  compiled : (rest : List Procedure) → AreCompiled l.faces l.tree (drop l.procedure-index l.trees) rest → AreCompiled l.faces l.tree l.trees (l.procedures.items ++ rest);
  rooms : AllHaveRoom l.procedures.items;
}
