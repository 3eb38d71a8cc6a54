use Rattle.std.proofs.Common.{false, refl}
use Rattle.jk_replay.specs.Replaying.{with_seat}
use Rattle.jk_replay.proofs.Replayed.{leave_done}
use Rattle.jk_replay.proofs.replaying.Replay+Kernel+L.leave.Goals as goal

pub returns : goal.returns
returns g c =
    leave_done g.L.Language.spoken c.args.seat c.args.self.now c.send.new.self (with_seat c.args.seat false c.send.new.self) _ c.pending_lines.result
    c.in_ok-send.ensures refl c.pending_lines.ensures.state c.pending_lines.ensures.lines
