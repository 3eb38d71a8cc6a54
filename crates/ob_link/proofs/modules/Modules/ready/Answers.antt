use Rattle.std.proofs.Common.{◌≡◌, sym, ◌∙◌}
use Rattle.std.proofs.lemmas.Result.{IfOk-weaker}
use Rattle.ob_mean.specs.Values.{Value}
use Rattle.ob_session.specs.Cells as cells
use Rattle.ob_link.specs.Looking.{ready_seen, in_store, storeless}
use Rattle.ob_link.proofs.LookedUp.{all_stored}
use Rattle.ob_link.proofs.modules.Modules.ready.Goals as goal

pub returns : goal.returns
returns c =
    IfOk-weaker c.all_ready.result
    (λ r. ready_seen r ≡ cells.all_ready (storeless c.args.self.now) c.args.commands.now)
    (λ r. (store : Value) → ready_seen r ≡ cells.all_ready (in_store c.args.self.now store) c.args.commands.now)
    (λ r e store. e ∙ sym (all_stored c.args.self.now store c.args.commands.now))
    c.all_ready.ensures
