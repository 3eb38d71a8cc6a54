use Rattle.jk_replay.proofs.Done.{slice_cut}
use Rattle.jk_replay.proofs.replay.play_slice.Goals as goal

pub returns-then-is_err : goal.returns-then-is_err
returns-then-is_err g c =
    let wrote = c.write_bytes.ensures in (
      wrote.0,
      wrote.2,
      slice_cut g.L.Language.spoken c.in_ok-answer.answer _ c.slice.new.self c.slice.new.self _ _ wrote.0 wrote.1
          c.in_ok-answer.ensures c.as_bytes.ensures.value wrote.3,
    )
