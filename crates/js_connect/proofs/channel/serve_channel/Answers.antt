use Rattle.js_home.proofs.Serving.{served_on}
use Rattle.js_connect.proofs.channel.serve_channel.Goals as goal

pub give-requires : goal.give-requires
give-requires g c =
    let lease = c.into_lease-lease in
    served_on _ lease.result.value c.serve_at-served.result lease.ensures.lent c.serve_at-served.ensures.served
