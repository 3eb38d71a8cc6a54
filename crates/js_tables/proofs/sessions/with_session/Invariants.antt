use Rattle.std.proofs.Common.{◌≡◌, map, take}
use Rattle.js_tables.specs.Sessions.{changed}
use Rattle.js_tables.proofs.sessions.with_session.Given as goal

abbrev pub invariant-loop-kernel : goal.invariant-loop-kernel
invariant-loop-kernel l = l.copies ≡ map (changed l.id l.session) (take l.kernel-index l.kernels)
