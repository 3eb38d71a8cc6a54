use Rattle.js_desk.proofs.Waiting.{once}
use Rattle.js_desk.proofs.laws.once_law.Goals as goal

pub returns : goal.returns
returns g c = once
