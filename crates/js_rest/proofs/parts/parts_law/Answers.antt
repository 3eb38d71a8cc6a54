use Rattle.js_rest.proofs.Composing.{composed, composed_alone}
use Rattle.js_rest.proofs.parts.parts_law.Goals as goal

pub returns-clause-shelf : goal.returns-clause-shelf
returns-clause-shelf g c = composed g.L.Running.begins g.L.Running.tells

pub returns-clause-alone : goal.returns-clause-alone
returns-clause-alone g c = composed_alone g.L.Running.begins g.L.Running.tells
