use Rattle.std.proofs.Common.{sym, subst, ◌∙◌}
use Rattle.jk_log.specs.Log.{running, session}
use Rattle.jk_core.specs.Kept.{HoldsAt, IsLineFor, WantsAt}
use Rattle.jk_core.proofs.Arrivals.{give_stands}
use Rattle.jk_core.proofs.taking.give.Goals as goal

pub returns-in-Running-clause-stands : goal.returns-in-Running-clause-stands
returns-in-Running-clause-stands g c =
    let k = c.args.script.now.state in
    let runs = subst (HoldsAt g.L.Language.spoken g.L.Language.state (session g.L.Language.spoken k.log) (running k.log) k.ran) (sym c.in-Running.ensures.value) c.requires.stands.place in
    let wants = subst (WantsAt g.L.Language.state k.log (running k.log)) (sym c.in-Running.ensures.value) c.requires.stands.wants in
    let line = subst (IsLineFor k.log c.args.arrival) c.in-Some.is c.requires.line in
    give_stands g.L.Language.spoken g.met.L.Language.lawful g.L.Language.state k c.note.new.self.state c.take_place.new.desk c.in-Running.active c.args.arrival c.in-Some.text (c.take_place.ensures.count ∙ c.requires.stands.count) (record { runs = runs; wants = wants }) line c.note.ensures.state

pub note-requires-clause-runs : goal.note-requires-clause-runs
note-requires-clause-runs g c =
    let k = c.args.script.now.state in
    let runs = subst (HoldsAt g.L.Language.spoken g.L.Language.state (session g.L.Language.spoken k.log) (running k.log) k.ran) (sym c.in-Running.ensures.value) c.requires.stands.place in
    (runs.cell, runs.runs, sym runs.of.at)
