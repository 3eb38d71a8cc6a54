use Rattle.std.proofs.Common.{length}
use Rattle.machine_tests.proofs.compiled.build.+have_cells.Given as goal

abbrev pub decreases-have_cells : goal.decreases-have_cells
decreases-have_cells l = length l.modules.now
