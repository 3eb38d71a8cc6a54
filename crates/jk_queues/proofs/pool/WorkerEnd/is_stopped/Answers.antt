use Rattle.std.proofs.Common.{sym, ◌∙◌, lit<}
use Rattle.jk_queues.proofs.Stops.{looks}
use Rattle.jk_queues.proofs.pool.WorkerEnd.is_stopped.Goals as goal

pub load_as-requires : goal.load_as-requires
load_as-requires g c = (lit< tt, (lit< tt, (c.args.self.now.of_stop ∙ (λ i. (sym c.deref.ensures i).table.shared.table_id), looks _ _)))
