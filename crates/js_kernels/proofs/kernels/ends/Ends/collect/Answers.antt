use Rattle.std.proofs.Common.{Some, refl, sym}
use Rattle.js_kernels.proofs.Hosting.{kept_home}
use Rattle.js_kernels.proofs.kernels.ends.Ends.collect.Goals as goal

pub returns-clause-home : goal.returns-clause-home
returns-clause-home g c =
    let home = c.take_all_back.result in
    kept_home c.args.self.now.home (Some home) c.in-Some.home home c.take_all_back.ensures (sym c.in-Some.ensures.value) refl
