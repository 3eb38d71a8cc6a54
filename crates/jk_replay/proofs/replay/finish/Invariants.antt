use Rattle.std.proofs.Common.{◌-◌, ◌≤◌, List, ℕ}
use Rattle.std.specs.Io.KnownBytes.{Appends}
use Rattle.jk_replay.specs.Replays.{SlicesDone}
use Rattle.jk_replay.proofs.replay.finish.Given as goal

abbrev pub invariant-slices : goal.invariant-slices
invariant-slices g l =
    (front : List ℕ)
    × Appends (g.W.Write.contents l.fn.writer) (g.W.Write.contents l.writer) front
    × (l.slices ≤ 1000) × SlicesDone g.L.Language.spoken l.slices l.fn.replay l.replay front

abbrev pub decreases-slices : goal.decreases-slices
decreases-slices g l = 1000 - l.slices
