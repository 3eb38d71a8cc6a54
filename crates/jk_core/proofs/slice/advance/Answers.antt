use Rattle.std.proofs.Common.{◌≡◌, ◌∙◌, length, ap, sym, subst, refl, arith}
use Rattle.jk_core.specs.Needed.{RunsAt}
use Rattle.jk_language.specs.Runs.{tells_line}
use Rattle.jk_core.specs.State.{KernelState}
use Rattle.jk_core.proofs.Turns.{come, is_stuck, next_falls, next_work, not_err}
use Rattle.jk_core.proofs.slice.advance.Goals as goal

pub loop-answer-init : goal.loop-answer-init
loop-answer-init g c = record {
  came = come g.L.Language.spoken g.met.L.Language.lawful g.L.Language.state c.args.script.now.state c.args.script.now.state c.args.limit c.args.active.now c.turn_to-answer.new.machine c.turn_to-answer.result c.requires.runs c.turn_to-answer.ensures;
  room = c.requires.room;
}

pub returns-then-is_err-clause-stuck : goal.returns-then-is_err-clause-stuck
returns-then-is_err-clause-stuck g c =
    is_stuck g.L.Language.spoken g.met.L.Language.lawful g.L.Language.state c.args.script.now.state c.loop-answer.script.state c.reserve.new.self.state c.args.limit c.loop-answer.active c.loop-answer.answer c.in-NeedsLine.is c.loop-answer.invariant.came (sym c.may_ask.ensures ∙ c.if-may_ask.false) c.reserve.ensures.state

pub returns-then-is_err-clause-room : goal.returns-then-is_err-clause-room
returns-then-is_err-clause-room g c =
    let waits : length c.reserve.new.self.state.waits ≡ length c.loop-answer.script.state.waits = ap (λ (k : KernelState _). length k.waits) c.reserve.ensures.state in
    omega (arith, waits, c.loop-answer.invariant.room, c.reserve.ensures.kept)

pub give_line-requires : goal.give_line-requires
give_line-requires g c = record { asked = c.loop-answer.invariant.came.asks ∙ ap tells_line c.in-NeedsLine.is }

pub turn_to-answer-requires-in-NeedsLine-clause-on : goal.turn_to-answer-requires-in-NeedsLine-clause-on
turn_to-answer-requires-in-NeedsLine-clause-on g c =
    let w = next_work g.L.Language.spoken g.met.L.Language.lawful g.L.Language.state c.args.script.now.state c.loop-answer.script.state c.reserve.new.self.state c.note.new.self.state c.args.limit c.loop-answer.active c.give_line.new.machine c.loop-answer.answer c.give_line.result c.in-NeedsLine.is c.loop-answer.invariant.came (sym c.may_ask.ensures ∙ c.if-may_ask.false) c.reserve.ensures.state c.note.ensures.state (c.give_line.ensures.none refl) c.give_line.ensures.ok in
    w.on

pub turn_to-answer-requires-in-NeedsLine-clause-within : goal.turn_to-answer-requires-in-NeedsLine-clause-within
turn_to-answer-requires-in-NeedsLine-clause-within g c =
    let w = next_work g.L.Language.spoken g.met.L.Language.lawful g.L.Language.state c.args.script.now.state c.loop-answer.script.state c.reserve.new.self.state c.note.new.self.state c.args.limit c.loop-answer.active c.give_line.new.machine c.loop-answer.answer c.give_line.result c.in-NeedsLine.is c.loop-answer.invariant.came (sym c.may_ask.ensures ∙ c.if-may_ask.false) c.reserve.ensures.state c.note.ensures.state (c.give_line.ensures.none refl) c.give_line.ensures.ok in
    w.stands.within

pub loop-answer-smaller : goal.loop-answer-smaller
loop-answer-smaller g c =
    next_falls g.L.Language.spoken g.met.L.Language.lawful g.L.Language.state c.args.script.now.state c.loop-answer.script.state c.args.limit c.loop-answer.active c.give_line.new.machine c.turn_to-answer-in-NeedsLine.new.machine c.loop-answer.answer c.turn_to-answer-in-NeedsLine.result c.give_line.result c.in-NeedsLine.is c.loop-answer.invariant.came (c.give_line.ensures.none refl) c.give_line.ensures.ok c.turn_to-answer-in-NeedsLine.ensures

pub loop-answer-preserved : goal.loop-answer-preserved
loop-answer-preserved g c =
    let w = next_work g.L.Language.spoken g.met.L.Language.lawful g.L.Language.state c.args.script.now.state c.loop-answer.script.state c.reserve.new.self.state c.note.new.self.state c.args.limit c.loop-answer.active c.give_line.new.machine c.loop-answer.answer c.give_line.result c.in-NeedsLine.is c.loop-answer.invariant.came (sym c.may_ask.ensures ∙ c.if-may_ask.false) c.reserve.ensures.state c.note.ensures.state (c.give_line.ensures.none refl) c.give_line.ensures.ok in
    let waits : length c.note.new.self.state.waits ≡ length c.loop-answer.script.state.waits =
    ap (λ (k : KernelState _). length k.waits) c.note.ensures.state ∙ ap (λ (k : KernelState _). length k.waits) c.reserve.ensures.state in
    let room = not_err _ c.reserve.result (sym c.is_err.ensures.value ∙ c.if-is_err.false) c.reserve.ensures.room in
    record {
      came = come g.L.Language.spoken g.met.L.Language.lawful g.L.Language.state c.args.script.now.state c.note.new.self.state c.args.limit _ c.turn_to-answer-in-NeedsLine.new.machine c.turn_to-answer-in-NeedsLine.result w c.turn_to-answer-in-NeedsLine.ensures;
      room = omega (arith, waits, room, c.waiting_len-more.ensures.count, c.note.ensures.room);
    }

pub note-requires-clause-runs : goal.note-requires-clause-runs
note-requires-clause-runs g c =
    let stands = c.loop-answer.invariant.came.stands in
    subst (λ (k : KernelState _). RunsAt c.loop-answer.active.at k.log) (sym c.reserve.ensures.state) (stands.cell, stands.runs, sym stands.of.at)
