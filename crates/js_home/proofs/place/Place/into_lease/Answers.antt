use Rattle.js_home.proofs.Serving.{unserved}
use Rattle.js_home.proofs.place.Place.into_lease.Goals as goal

pub returns-clause-lent : goal.returns-clause-lent
returns-clause-lent g c = let p = c.args.self in unserved _ p.lease.value p.inbox p.place p.sent p.read
