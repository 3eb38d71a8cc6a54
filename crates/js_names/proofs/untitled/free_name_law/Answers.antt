use Rattle.js_names.proofs.Free.{first_is_free}
use Rattle.js_names.proofs.untitled.free_name_law.Goals as goal

pub returns : goal.returns
returns c = first_is_free
