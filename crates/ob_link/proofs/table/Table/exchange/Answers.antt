use Rattle.std.proofs.Common.{rules, ◌≡◌, None, sym}
use Rattle.ob_link.specs.Places.{number_in}
use Rattle.ob_link.proofs.Places.{unplaced}
use Rattle.ob_link.proofs.table.Table.exchange.Goals as goal

pub returns-in_ok-append-in-None-clause-ok : goal.returns-in_ok-append-in-None-clause-ok
returns-in_ok-append-in-None-clause-ok c =
    let unknown : number_in c.args.self.now c.args.loaded.interface.name ≡ None = search rules in
    sym (unplaced c.args.self.now c.args.loaded.interface.name unknown).1
