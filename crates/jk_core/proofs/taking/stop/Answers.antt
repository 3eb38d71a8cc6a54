use Rattle.std.proofs.Common.{sym, ◌∙◌, subst}
use Rattle.jk_core.specs.Kept.{HoldsAt}
use Rattle.jk_log.specs.Log.{running, session}
use Rattle.jk_core.proofs.Arrivals.{stops_of}
use Rattle.jk_core.proofs.Desks.{stop_moves, stop_stands}
use Rattle.jk_core.specs.State.{KernelState}
use Rattle.jk_core.specs.Needed.{RunsAt}
use Rattle.jk_core.proofs.Needed.{runs_flushed}
use Rattle.jk_core.proofs.taking.stop.Goals as goal

pub returns-in-Running-clause-stops : goal.returns-in-Running-clause-stops
returns-in-Running-clause-stops g c =
    let log = c.args.script.now.state.log in
    let runs = subst (HoldsAt g.L.Language.spoken g.L.Language.state (session g.L.Language.spoken log) (running log) c.args.script.now.state.ran) (sym c.in-Running.ensures.value) c.requires.stands.place in
    stops_of g.L.Language.spoken g.met.L.Language.lawful g.L.Language.state _ _ _ c.in-Running.active runs

pub returns-in-Running-clause-stopped : goal.returns-in-Running-clause-stopped
returns-in-Running-clause-stopped g c =
    let log = c.args.script.now.state.log in
    let runs = subst (HoldsAt g.L.Language.spoken g.L.Language.state (session g.L.Language.spoken log) (running log) c.args.script.now.state.ran) (sym c.in-Running.ensures.value) c.requires.stands.place in
    stop_moves g.L.Language.spoken g.met.L.Language.lawful g.L.Language.state c.args.script.now.state _ _ c.args.desk.now c.in-Running.active c.used-turns.result c.take_place.new.desk.count c.from_string-text.result c.args.cause c.requires.stands.count runs c.used-turns.ensures (c.from_string-text.ensures ∙ c.new.ensures.bytes) c.take_place.ensures.count c.note.ensures.state c.note-in-Running.ensures.state

pub returns-in-Running-clause-stands : goal.returns-in-Running-clause-stands
returns-in-Running-clause-stands g c =
    let log = c.args.script.now.state.log in
    let runs = subst (HoldsAt g.L.Language.spoken g.L.Language.state (session g.L.Language.spoken log) (running log) c.args.script.now.state.ran) (sym c.in-Running.ensures.value) c.requires.stands.place in
    let moved = stop_moves g.L.Language.spoken g.met.L.Language.lawful g.L.Language.state c.args.script.now.state _ _ c.args.desk.now c.in-Running.active c.used-turns.result c.take_place.new.desk.count c.from_string-text.result c.args.cause c.requires.stands.count runs c.used-turns.ensures (c.from_string-text.ensures ∙ c.new.ensures.bytes) c.take_place.ensures.count c.note.ensures.state c.note-in-Running.ensures.state in
    stop_stands g.L.Language.spoken g.met.L.Language.lawful g.L.Language.state c.args.script.now.state _ c.take_place.new.desk c.in-Running.active c.finish.result c.args.cause (c.take_place.ensures.count ∙ c.requires.stands.count) runs c.requires.stands.read moved c.finish.ensures

pub note-requires-clause-runs : goal.note-requires-clause-runs
note-requires-clause-runs g c =
    let log = c.args.script.now.state.log in
    let runs = subst (HoldsAt g.L.Language.spoken g.L.Language.state (session g.L.Language.spoken log) (running log) c.args.script.now.state.ran) (sym c.in-Running.ensures.value) c.requires.stands.place in
    (runs.cell, runs.runs, sym runs.of.at)

pub note-requires-in-Running-clause-runs : goal.note-requires-in-Running-clause-runs
note-requires-in-Running-clause-runs g c =
    let log = c.args.script.now.state.log in
    let runs = subst (HoldsAt g.L.Language.spoken g.L.Language.state (session g.L.Language.spoken log) (running log) c.args.script.now.state.ran) (sym c.in-Running.ensures.value) c.requires.stands.place in
    subst (λ (k : KernelState _). RunsAt c.in-Running.active.at k.log) (sym c.note.ensures.state) (runs_flushed c.in-Running.active.at _ c.from_string-text.result log (runs.cell, runs.runs, sym runs.of.at))
