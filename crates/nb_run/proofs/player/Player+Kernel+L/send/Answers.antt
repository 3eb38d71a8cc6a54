use Rattle.std.proofs.Common.{◌≡◌, false, refl}
use Rattle.jk_log.specs.Log.{ended}
use Rattle.nb_run.proofs.Goings.{send_goes}
use Rattle.nb_run.proofs.player.Player+Kernel+L.send.Goals as goal

pub returns : goal.returns
returns g c =
    let on : ended c.args.self.now.kernel.log ≡ false = cc in
    (_, refl, refl, send_goes g.L.Language.spoken _ c.args.self.now c.take.new.kernel _ on c.in_ok-take.ensures)
