use Rattle.std.proofs.Common.{arith}
use Rattle.jk_replay.specs.declared.input.Line.TheVariants as taken
use Rattle.jk_replay.proofs.InputLemmas.{less_left}
use Rattle.jk_replay.proofs.Final.{first_as, known, number_fits, between_line, reading_fails, line_fails, fails_long, finishes_line}
use Rattle.jk_replay.proofs.replay.replay_lines.Goals as goal

pub lines-init : goal.lines-init
lines-init g c = first_as g.L.Language.spoken g.met.L.Language.lawful _ _ _ _ c.new-input.ensures c.in_ok-replay.ensures

pub returns-in_err-taken : goal.returns-in_err-taken
returns-in_err-taken g c =
    let r = c.in_err-taken.ensures in
    reading_fails g.L.Language.spoken g.met.L.Language.lawful _ _ _ _ _ c.lines.input c.next_line.new.self r.0 c.lines.number c.lines.replay
    c.in_err-taken.field-0.0 c.from_residual-in_err-taken.result c.lines.invariant r.1 r.2 c.from_residual-in_err-taken.ensures.1

pub overflow_add-number : goal.overflow_add-number
overflow_add-number g c =
    let r = c.next_line.ensures in
    let fits = number_fits g.L.Language.spoken g.met.L.Language.lawful _ _ _ _ _ c.lines.number c.lines.replay
    (known g.L.Language.spoken g.met.L.Language.lawful _ _ _ _ _ c.lines.input c.next_line.new.self r.0 c.lines.number c.lines.replay c.lines.invariant r.1) in
    omega (arith, fits)

pub returns-in_err-play_line-in-Ended : goal.returns-in_err-play_line-in-Ended
returns-in_err-play_line-in-Ended g c =
    let r = c.in_ok-taken.ensures in
    let played = c.in_err-play_line-in-Ended.ensures in
    let takes = rw c.in-Ended.is at r.2 in
    line_fails g.L.Language.spoken g.met.L.Language.lawful _ _ _ _ _ _ c.lines.number c.lines.replay c.play_line.new.replay (taken.Ended c.in-Ended.line) c.as_slice.result.now
    c.next_line.new.self.held played.0 c.in_err-play_line-in-Ended.field-0.0 c.from_residual-in_err-play_line-in-Ended.result
    (known g.L.Language.spoken g.met.L.Language.lawful _ _ _ _ _ c.lines.input c.next_line.new.self r.0 c.lines.number c.lines.replay c.lines.invariant r.1)
    takes c.as_slice.ensures.value played.1 played.2 c.from_residual-in_err-play_line-in-Ended.ensures.1

pub lines-smaller : goal.lines-smaller
lines-smaller g c =
    let r = c.in_ok-taken.ensures in
    less_left _ _ _ _ _ _ _ _ c.lines.invariant.comes r.1 (rw c.in-Ended.is at r.2).0

pub lines-preserved : goal.lines-preserved
lines-preserved g c =
    let r = c.in_ok-taken.ensures in
    let played = c.in_ok-play_line-in-Ended.ensures in
    let takes = rw c.in-Ended.is at r.2 in
    between_line g.L.Language.spoken g.met.L.Language.lawful _ _ _ _ _ _ c.lines.input c.next_line.new.self r.0 c.in-Ended.line.items c.as_slice.result.now played.0 c.lines.number
    c.lines.replay c.play_line.new.replay c.lines.invariant r.1 takes c.as_slice.ensures.value played.2 played.1

pub returns-in_err-play_line-in-Last : goal.returns-in_err-play_line-in-Last
returns-in_err-play_line-in-Last g c =
    let r = c.in_ok-taken.ensures in
    let played = c.in_err-play_line-in-Last.ensures in
    let takes = rw c.in-Last.is at r.2 in
    line_fails g.L.Language.spoken g.met.L.Language.lawful _ _ _ _ _ _ c.lines.number c.lines.replay c.play_line-in-Last.new.replay (taken.Last c.in-Last.line) c.as_slice-in-Last.result.now
    c.next_line.new.self.held played.0 c.in_err-play_line-in-Last.field-0.0 c.from_residual-in_err-play_line-in-Last.result
    (known g.L.Language.spoken g.met.L.Language.lawful _ _ _ _ _ c.lines.input c.next_line.new.self r.0 c.lines.number c.lines.replay c.lines.invariant r.1)
    takes c.as_slice-in-Last.ensures.value played.1 played.2 c.from_residual-in_err-play_line-in-Last.ensures.1

pub returns-in-Last : goal.returns-in-Last
returns-in-Last g c =
    let r = c.in_ok-taken.ensures in
    let played = c.in_ok-play_line-in-Last.ensures in
    let last = c.finish.ensures in
    let takes = rw c.in-Last.is at r.2 in
    finishes_line g.L.Language.spoken g.met.L.Language.lawful _ _ _ _ _ _ _ c.lines.number c.lines.replay c.play_line-in-Last.new.replay c.in-Last.line.items c.as_slice-in-Last.result.now
    played.0 last.0 c.finish.result
    (known g.L.Language.spoken g.met.L.Language.lawful _ _ _ _ _ c.lines.input c.next_line.new.self r.0 c.lines.number c.lines.replay c.lines.invariant r.1)
    takes c.as_slice-in-Last.ensures.value played.1 played.2 last.1 last.2

pub returns-in-Long : goal.returns-in-Long
returns-in-Long g c =
    let r = c.in_ok-taken.ensures in
    let takes = rw c.in-Long.is at r.2 in
    fails_long g.L.Language.spoken g.met.L.Language.lawful _ _ _ _ _ c.lines.number c.lines.replay c.next_line.new.self.held
    (known g.L.Language.spoken g.met.L.Language.lawful _ _ _ _ _ c.lines.input c.next_line.new.self r.0 c.lines.number c.lines.replay c.lines.invariant r.1) takes
