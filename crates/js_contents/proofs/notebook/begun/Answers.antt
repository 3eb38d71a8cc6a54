use Rattle.std.proofs.Common.{◌≤◌, sym, subst}
use Rattle.serde_json.specs.Data.{depth}
use Rattle.serde_json.specs.Read.{max_depth}
use Rattle.nb_doc.specs.Writing.{notebook_form}
use Rattle.js_contents.proofs.Empty.{empty_shallow}
use Rattle.js_contents.proofs.notebook.begun.Goals as goal

pub returns-in-None-clause-shallow : goal.returns-in-None-clause-shallow
returns-in-None-clause-shallow c = subst (λ n. depth (notebook_form n) ≤ max_depth) (sym c.empty.ensures) empty_shallow
