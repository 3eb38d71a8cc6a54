use Rattle.std.proofs.Common.{ap, sym, ◌∙◌}
use Rattle.jk_log.specs.Asked.{execute_in}
use Rattle.jk_log.specs.Log.{option_at}
use Rattle.jk_core.proofs.start.execute_of.Goals as goal

pub returns : goal.returns
returns g c = c.execute_sent.ensures ∙ sym (ap (option_at (λ a. execute_in a.what)) c.requires)
