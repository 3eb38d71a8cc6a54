use Rattle.jk_run.specs.Driver.{AreSameEnds, HasDriven}
use Rattle.jk_run.proofs.running.drive.Given as goal

abbrev pub invariant-loop : goal.invariant-loop
invariant-loop g l = record {
  acts : HasDriven g.L.Language.spoken l.fn.driver l.driver;
  same : AreSameEnds l.fn.driver l.driver;
}
