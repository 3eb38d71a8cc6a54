use Rattle.std.proofs.Common.{rules, ◌≢◌, [], sym, ◌∙◌}
use Rattle.std.proofs.KnownBytes.{Appends-nil}
use Rattle.jk_replay.proofs.Done.{some_done, whole_written, line_cut, line_refused, not_failed}
use Rattle.jk_replay.proofs.replay.play_line.Goals as goal

pub returns-in_err-lines : goal.returns-in_err-lines
returns-in_err-lines g c = ([], Appends-nil _, line_refused g.L.Language.spoken _ _ _ c.step.new.self _ c.from_residual.ensures.1)

pub returns-then-is_err : goal.returns-then-is_err
returns-then-is_err g c =
    let some : c.args.line.now ≢ [] = search rules in
    let read = c.in-Ok.ensures in
    let wrote = c.write_bytes.ensures in (
      wrote.0,
      wrote.2,
      line_cut g.L.Language.spoken _ c.args.number _ c.step.new.self c.step.new.self _ _ wrote.0 wrote.1
          (some_done g.L.Language.spoken c.args.line.now c.in-Ok.step c.in-Ok-admitted.step _ _ _ some read.long read.text read.other
          c.in-Ok-admitted.ensures c.in_ok-lines.ensures)
          c.as_bytes.ensures.value wrote.3,
    )

pub returns : goal.returns
returns g c =
    let some : c.args.line.now ≢ [] = search rules in
    let read = c.in-Ok.ensures in
    let wrote = c.write_bytes.ensures in (
      wrote.0,
      wrote.2,
      whole_written g.L.Language.spoken _ _ _ _ _ wrote.0 wrote.1
          (some_done g.L.Language.spoken c.args.line.now c.in-Ok.step c.in-Ok-admitted.step _ _ _ some read.long read.text read.other
          c.in-Ok-admitted.ensures c.in_ok-lines.ensures)
          c.as_bytes.ensures.value wrote.3 (not_failed _ wrote.4 (sym c.is_err.ensures.value ∙ c.if-is_err.false)),
    )
