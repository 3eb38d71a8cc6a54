use Rattle.std.proofs.Common.{◌-◌, ◌+◌, length}
use Rattle.jk_replay.proofs.Final.{Between}
use Rattle.jk_replay.proofs.replay.replay_lines.Given as goal

abbrev pub invariant-lines : goal.invariant-lines
invariant-lines g l =
    Between g.L.Language.spoken g.met.L.Language.lawful (g.R.Read.remaining l.fn.reader) (g.R.Read.remaining l.reader) (g.W.Write.contents l.fn.writer) (g.W.Write.contents l.writer) l.input l.number l.replay

abbrev pub decreases-lines : goal.decreases-lines
decreases-lines g l = (67108866 - l.input.taken) + length l.input.held
