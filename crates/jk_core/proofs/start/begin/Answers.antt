use Rattle.std.proofs.Common.{ap, refl, sym}
use Rattle.jk_log.specs.Log.{option_or}
use Rattle.jk_core.proofs.Desks.{begin_runs}
use Rattle.jk_core.proofs.start.begin.Goals as goal

pub go_on-requires-clause-runs : goal.go_on-requires-clause-runs
go_on-requires-clause-runs g c =
    begin_runs g.L.Language.spoken g.met.L.Language.lawful g.L.Language.state c.args.turns c.args.script.now.state _ c.args.at c.next_count-count.result _ c.requires.begins refl (sym (ap (option_or (λ a. a.seat) 0) c.requires.there)) c.stops_at.ensures c.allows_at.ensures refl refl c.note_of.ensures.state
