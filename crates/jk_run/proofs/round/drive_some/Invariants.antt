use Rattle.jk_run.specs.Driver.{HasDriven, AreSameEnds, IsRound, Rounds}
use Rattle.jk_run.proofs.round.drive_some.Given as goal

abbrev pub invariant-loop : goal.invariant-loop
invariant-loop g l = record {
  acts : HasDriven g.L.Language.spoken l.fn.driver l.driver;
  same : AreSameEnds l.fn.driver l.driver;
  rounds : Rounds g.L.Language.spoken l.counter l.fn.driver l.work l.driver;
  done : IsRound g.L.Language.spoken 1000 l.work l.fn.driver l.driver;
}
