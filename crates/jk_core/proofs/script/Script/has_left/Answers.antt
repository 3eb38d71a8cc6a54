use Rattle.std.proofs.Common.{sym, ◌∙◌, ap, arith}
use Rattle.std.specs.Prelude.{nat_lt}
use Rattle.jk_log.proofs.Logs.{left_last}
use Rattle.jk_core.proofs.Keeps.{some_same}
use Rattle.jk_core.proofs.script.Script.has_left.Goals as goal

pub returns : goal.returns
returns g c =
    let fits = c.ranges.seat in
    let same = some_same _ _ (sym c.last.ensures ∙ c.self.invariant.left c.args.seat (omega (arith, fits.fits))) in
    rw (← c.self.view_is) (ap (nat_lt c.args.at) same ∙ sym (left_last c.args.seat c.args.at c.self.inside.past.items))
