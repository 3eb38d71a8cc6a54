use Rattle.js_contents.proofs.PutSteps.{ready_found}
use Rattle.js_contents.proofs.put.read_put.Goals as goal

pub returns : goal.returns
returns c =
    ready_found c.args.content.now c.args.segments.now c.in_ok-body.body c.in_ok-fit.fit c.in_ok-putting.putting c.in_ok-place.place c.as_str.result.now
    c.in_ok-body.ensures c.in_ok-place.ensures c.as_str.ensures c.in_ok-fit.ensures c.in_ok-putting.ensures
