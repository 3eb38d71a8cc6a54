use Rattle.std.proofs.Common.{rules, ◌≡◌, length, Some, None, sym, ◌∙◌}
use Rattle.ob_link.specs.Places.{number_in}
use Rattle.ob_link.proofs.Places.{placed, unplaced}
use Rattle.ob_link.proofs.table.Table.place_of.Goals as goal

pub returns-in-Some : goal.returns-in-Some
returns-in-Some c =
    let known : number_in c.args.self.now c.args.name.now ≡ Some c.in-Some.number = search rules in
    sym (placed c.args.self.now c.args.name.now c.in-Some.number known).place

pub returns-in-None : goal.returns-in-None
returns-in-None c =
    let unknown : number_in c.args.self.now c.args.name.now ≡ None = search rules in
    let len : c.len.result ≡ length c.args.self.now = search rules in
    len ∙ sym (unplaced c.args.self.now c.args.name.now unknown).0
