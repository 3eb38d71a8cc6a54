use Rattle.std.proofs.Common.{ap, length, arith}
use Rattle.std.specs.Prelude.{vec_capacity}
use Rattle.ob_load.proofs.Loaded.{within_in}
use Rattle.ob_load.proofs.trap.name_in.Goals as goal

pub unreachable-requires : goal.unreachable-requires
unreachable-requires c =
    let within = within_in c.args.modules.now c.args.home (vec_capacity c.args.room) c.requires.long in
    let long = ap length c.name_at.ensures in
    let none = ap length c.requires.empty in
    let full = c.in-Err.ensures.full in
    omega (arith, within, long, none, full, c.args.room.ok.0)
