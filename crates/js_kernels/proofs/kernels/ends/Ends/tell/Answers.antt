use Rattle.std.proofs.Common.{Some, refl, sym}
use Rattle.js_kernels.proofs.Hosting.{told_home}
use Rattle.js_kernels.proofs.kernels.ends.Ends.tell.Goals as goal

pub returns-clause-told : goal.returns-clause-told
returns-clause-told g c =
    let sent = c.tell-home.result.1 in
    let home = c.tell-home.result.0 in
    told_home c.args.self.now.home (Some home) c.in-Some.home home c.args.what sent c.is_ok.result c.outcome.result c.is_ok.ensures.value c.outcome.ensures c.tell-home.ensures
    (sym c.in-Some.ensures.value) refl
