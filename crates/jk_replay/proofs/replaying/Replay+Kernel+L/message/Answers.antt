use Rattle.std.proofs.Common.{◌∙◌, ap}
use Rattle.jp_msg.specs.declared.message.Message.{Message}
use Rattle.jk_replay.specs.Replaying.{sent_on}
use Rattle.jk_replay.proofs.Replayed.{message_done}
use Rattle.jk_replay.proofs.replaying.Replay+Kernel+L.message.Goals as goal

pub returns : goal.returns
returns g c =
    message_done g.L.Language.spoken c.args.seat c.args.message c.sent_on.result c.args.self.now c.join.new.self c.send.new.self c.parse_one.new.self _ c.pending_lines.result
    c.in_ok-join.ensures c.in_ok-send.ensures (c.sent_on.ensures ∙ ap (λ (m : Message). sent_on m.channel m) c.in-Ok.ensures.shared)
    c.in_ok-parse_one.ensures c.pending_lines.ensures.state c.pending_lines.ensures.lines
