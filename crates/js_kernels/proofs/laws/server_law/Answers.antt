use Rattle.js_kernels.proofs.Lives.{server}
use Rattle.js_kernels.proofs.laws.server_law.Goals as goal

pub returns : goal.returns
returns g c = server g.row.L.Denot g.row.L-Session.Denot g.row.L-Tree.Denot g.row.L-Machine.Denot
