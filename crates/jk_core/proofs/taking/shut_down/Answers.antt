use Rattle.jk_core.proofs.Arrivals.{shut_as, shut_stands}
use Rattle.jk_core.proofs.Moves.{there_aborted}
use Rattle.jk_core.proofs.taking.shut_down.Goals as goal

pub returns-clause-shut : goal.returns-clause-shut
returns-clause-shut g c =
    shut_as c.args.script.now.state c.stop.new.script.state c.abort_waiting.new.script.state _ c.args.place c.args.restart c.stop.ensures.stopped c.stop.ensures.waits c.abort_waiting.ensures.state c.note_of.ensures.state

pub returns-clause-stands : goal.returns-clause-stands
returns-clause-stands g c =
    shut_stands g.L.Language.spoken g.met.L.Language.lawful g.L.Language.state c.args.script.now.state c.stop.new.script.state c.abort_waiting.new.script.state _ c.stop.new.desk c.args.place c.args.restart c.opening.result c.stop.ensures.stopped c.abort_waiting.ensures.state c.note_of.ensures.state c.opening.ensures

pub note_of-requires-clause-there : goal.note_of-requires-clause-there
note_of-requires-clause-there g c =
    there_aborted c.args.place c.args.arrival _ _ c.args.script.now.state c.stop.new.script.state c.abort_waiting.new.script.state c.stop.ensures.stopped c.abort_waiting.ensures.state c.requires.there
