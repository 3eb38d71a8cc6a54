use Rattle.std.proofs.Common.{rules, ◌≡◌, None}
use Rattle.ob_link.specs.Places.{number_in}
use Rattle.ob_link.proofs.Places.{unplaced}
use Rattle.ob_link.proofs.table.Table.put_again.Goals as goal

pub returns-in_default : goal.returns-in_default
returns-in_default c =
    let unknown : number_in c.args.self.now c.args.before.interface.name ≡ None = search rules in
    absurd (c.requires (unplaced c.args.self.now c.args.before.interface.name unknown).1)
