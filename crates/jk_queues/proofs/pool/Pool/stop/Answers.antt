use Rattle.std.proofs.Common.{sym, ◌∙◌, lit<}
use Rattle.jk_queues.proofs.Stops.{stops}
use Rattle.jk_queues.proofs.pool.Pool.stop.Goals as goal

pub swap_as-requires : goal.swap_as-requires
swap_as-requires g c = (lit< tt, (lit< tt, (c.args.self.now.of_stop ∙ (λ i. (sym c.deref.ensures i).table.shared.table_id), stops _ _ c.args.self.now.stops)))
