use Rattle.js_contents.proofs.store.put_plan.Goals as goal

pub returns : goal.returns
returns g c = c.put_at.ensures
