use Rattle.std.proofs.Common.{◌≡◌, All, List, sym, subst}
use Rattle.jk_queues.specs.Pool.{IsNewEnd}
use Rattle.jk_queues.specs.declared.pool.Pool.{Pool}
use Rattle.jk_queues.specs.declared.pool.WorkerEnd.{WorkerEnd}
use Rattle.js_drive.proofs.driving.making.make_kernel.Goals as goal

-- the parsers of a pool are those of it wherever it stands
still : {T : Type 0} (old new : Pool T) (ends : List (WorkerEnd T)) → new ≡ old → All (IsNewEnd old) ends → All (IsNewEnd new) ends
still {T = T} old new ends same all = subst (λ (p : Pool T). All (IsNewEnd p) ends) (sym same) all

pub returns : goal.returns
returns g c = still _ _ _ c.new-driver.ensures.ends.1 c.in-Ok-make.ensures.parsers
