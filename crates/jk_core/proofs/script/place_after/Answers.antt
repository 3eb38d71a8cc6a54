use Rattle.std.proofs.Common.{leb, rules}
use Rattle.std.proofs.lemmas.List.Sorted.{IsPartitionPoint-from_clause, IsPartitionedBy-leb}
use Rattle.jk_core.specs.State.{WaitingOf}
use Rattle.jk_core.proofs.Orders.{point_after, point_before, sorted}
use Rattle.jk_core.proofs.script.place_after.Goals as goal

pub returns-clause-before : goal.returns-clause-before
returns-clause-before g c =
    let parted = IsPartitionedBy-leb (λ (w : WaitingOf _). w.number) c.args.waiting.now.items c.args.number (sorted 0 c.requires.0 c.args.waiting.now.items c.requires.1) in
    let point = IsPartitionPoint-from_clause (λ (w : WaitingOf _). leb w.number c.args.number) _ _ c.partition_point.ensures.partitioned parted (λ a r q k. search rules) in
    λ i w e lt. point_before c.args.number i _ _ w point e lt

pub returns-clause-after : goal.returns-clause-after
returns-clause-after g c =
    let parted = IsPartitionedBy-leb (λ (w : WaitingOf _). w.number) c.args.waiting.now.items c.args.number (sorted 0 c.requires.0 c.args.waiting.now.items c.requires.1) in
    let point = IsPartitionPoint-from_clause (λ (w : WaitingOf _). leb w.number c.args.number) _ _ c.partition_point.ensures.partitioned parted (λ a r q k. search rules) in
    λ i w e le. point_after c.args.number i _ _ w point e le
