use Rattle.std.proofs.Common.{ap, ◌∙◌}
use Rattle.jk_core.specs.Steps.{failing, stops_with}
use Rattle.jk_log.specs.Log.{running}
use Rattle.jk_core.proofs.Desks.{stands_fails}
use Rattle.jk_core.proofs.taking.interrupt.Goals as goal

pub returns-clause-interrupted : goal.returns-clause-interrupted
returns-clause-interrupted g c =
    c.fail.ensures ∙ ap (λ b. failing b c.stop-stops.new.script.state) c.stop-stops.ensures.stops ∙ ap (failing (stops_with (running c.args.script.now.state.log))) c.stop-stops.ensures.stopped

pub returns-clause-stands : goal.returns-clause-stands
returns-clause-stands g c =
    stands_fails g.L.Language.spoken g.met.L.Language.lawful g.L.Language.state c.stop-stops.result c.stop-stops.new.script.state _ c.stop-stops.new.desk c.fail.ensures c.stop-stops.ensures.stands
