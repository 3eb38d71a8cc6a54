use Rattle.std.proofs.Common.{rules, w32, SFits}
use Rattle.std.proofs.lemmas.Int.{to_z-of_z}
use Rattle.ob_step.proofs.Rows.{set-parts}
use Rattle.ob_step.proofs.cells.set_cell.Goals as goal

pub returns : goal.returns
returns c =
    let f : SFits w32 c.args.v = search rules in
    simp to_z-of_z (set-parts c.args.cells.now.items c.args.a c.args.v c.requires)
