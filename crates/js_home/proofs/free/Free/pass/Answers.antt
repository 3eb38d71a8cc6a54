use Rattle.std.proofs.Common.{refl}
use Rattle.js_home.proofs.Serving.{passed}
use Rattle.js_home.proofs.free.Free.pass.Goals as goal

pub returns-clause-passed : goal.returns-clause-passed
returns-clause-passed g c = passed c.args.self _ refl c.pass-follower.ensures.more
