use Rattle.std.proofs.Common.{◌≡◌, ◌∙◌, List, length, ap, sym, arith, Some}
use Rattle.jk_language.specs.declared.outcome.Turned.TheVariants as turned
use Rattle.jk_core.specs.State.{KernelState}
use Rattle.jk_core.proofs.Turns.{flushed_as}
use Rattle.jk_core.proofs.Desks.{closed_stands, flushed_waits, goes_closed, goes_stuck, stuck_stands}
use Rattle.jk_core.proofs.Needed.{runs_on}
use Rattle.jk_core.proofs.slice.go_on.Goals as goal

pub returns-in_default-clause-goes : goal.returns-in_default-clause-goes
returns-in_default-clause-goes g c =
    let stuck = c.in_default.ensures.stuck in
    let flat = flushed_as g.L.Language.spoken g.met.L.Language.lawful g.L.Language.state c.args.script.now.state c.advance-answer.new.script.state _ _ c.used-turns.result turned.NeedsLine c.advance-answer.new.active c.from_string-text.result stuck.0 c.used-turns.ensures (c.from_string-text.ensures ∙ c.take_output.ensures.output) c.note.ensures.state in
    goes_stuck g.L.Language.spoken g.met.L.Language.lawful g.L.Language.state c.args.turns c.args.script.now.state c.advance-answer.new.script.state _ _ c.used-turns.result c.advance-answer.new.active stuck.0 (let used = c.used-used.ensures in let ran = c.requires.used in omega arith) stuck.1 flat

pub returns-in_default-clause-stands : goal.returns-in_default-clause-stands
returns-in_default-clause-stands g c =
    let stuck = c.in_default.ensures.stuck in
    let flat = flushed_as g.L.Language.spoken g.met.L.Language.lawful g.L.Language.state c.args.script.now.state c.advance-answer.new.script.state _ _ c.used-turns.result turned.NeedsLine c.advance-answer.new.active c.from_string-text.result stuck.0 c.used-turns.ensures (c.from_string-text.ensures ∙ c.take_output.ensures.output) c.note.ensures.state in
    stuck_stands g.L.Language.spoken g.met.L.Language.lawful g.L.Language.state c.args.script.now.state c.advance-answer.new.script.state _ _ c.args.desk.now c.advance-answer.new.active c.take_output.new.machine stuck.0 flat c.take_output.ensures.after c.requires.counted

pub close-requires-clause-room : goal.close-requires-clause-room
close-requires-clause-room g c =
    let waits : length c.flush.new.script.state.waits ≡ length c.advance-answer.new.script.state.waits =
    ap (λ (k : KernelState _). length k.waits) c.flush.ensures.state ∙ ap (λ (ws : List _). length ws) (flushed_waits c.in-Some.answer _ _ _ _ c.advance-answer.new.script.state) in
    omega (arith, waits, c.flush.ensures.room, c.advance-answer.ensures.room)

pub returns-clause-goes : goal.returns-clause-goes
returns-clause-goes g c =
    let came = c.in-Some.ensures.came in
    let flat = flushed_as g.L.Language.spoken g.met.L.Language.lawful g.L.Language.state c.args.script.now.state c.advance-answer.new.script.state _ _ c.used-turns.result c.in-Some.answer c.advance-answer.new.active c.from_string-text.result came c.used-turns.ensures (c.from_string-text.ensures ∙ c.take_output.ensures.output) c.flush.ensures.state in
    goes_closed g.L.Language.spoken g.met.L.Language.lawful g.L.Language.state c.in-Some.answer _ c.args.turns c.args.script.now.state c.advance-answer.new.script.state _ _ _ c.used-turns.result c.args.desk.now.count c.advance-answer.new.active came (let used = c.used-used.ensures in let ran = c.requires.used in omega arith) (λ e. c.in-Some.ensures.asks (ap (λ x. Some x) e)) c.used-turns.ensures c.requires.counted flat c.close.ensures.work c.close.ensures.state

pub returns-clause-stands : goal.returns-clause-stands
returns-clause-stands g c =
    let came = c.in-Some.ensures.came in
    let flat = flushed_as g.L.Language.spoken g.met.L.Language.lawful g.L.Language.state c.args.script.now.state c.advance-answer.new.script.state _ _ c.used-turns.result c.in-Some.answer c.advance-answer.new.active c.from_string-text.result came c.used-turns.ensures (c.from_string-text.ensures ∙ c.take_output.ensures.output) c.flush.ensures.state in
    closed_stands g.L.Language.spoken g.met.L.Language.lawful g.L.Language.state c.in-Some.answer c.args.script.now.state c.advance-answer.new.script.state _ _ _ c.used-turns.result c.args.desk.now.count c.args.desk.now _ c.advance-answer.new.active c.take_output.new.machine came c.used-turns.ensures c.requires.counted flat c.close.ensures.state c.take_output.ensures.after c.requires.counted c.close.ensures.count c.close.ensures.place

pub note-requires-clause-runs : goal.note-requires-clause-runs
note-requires-clause-runs g c =
    let stands = c.in_default.ensures.stuck.0.stands in
    (stands.cell, stands.runs, sym stands.of.at)

pub flush-requires-clause-runs : goal.flush-requires-clause-runs
flush-requires-clause-runs g c =
    let stands = c.in-Some.ensures.came.stands in
    (stands.cell, stands.runs, sym stands.of.at)

pub close-requires-clause-runs : goal.close-requires-clause-runs
close-requires-clause-runs g c =
    let stands = c.in-Some.ensures.came.stands in
    runs_on c.in-Some.answer _ _ _ _ c.advance-answer.new.script.state _ c.flush.ensures.state (stands.cell, stands.runs, sym stands.of.at)
