use Rattle.std.proofs.Common.{◌≤◌, sym, subst}
use Rattle.serde_json.specs.Data.{depth}
use Rattle.serde_json.specs.Read.{max_depth}
use Rattle.nb_doc.specs.Writing.{notebook_form}
use Rattle.nb_record.proofs.Shallow.{empty_shallow}
use Rattle.nb_record.proofs.recorder.Recorder.empty.Goals as goal

pub new-requires-clause-shallow : goal.new-requires-clause-shallow
new-requires-clause-shallow c = subst (λ n. depth (notebook_form n) ≤ max_depth) (sym c.empty.ensures) empty_shallow
