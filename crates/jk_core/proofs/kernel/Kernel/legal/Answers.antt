use Rattle.jk_core.proofs.Keeps.{kept_legal}
use Rattle.jk_core.proofs.kernel.Kernel.legal.Goals as goal

pub returns : goal.returns
returns g c = rw (← c.self.view_is) (kept_legal g.L.Language.spoken g.met.L.Language.lawful _ c.self.invariant.kept)
