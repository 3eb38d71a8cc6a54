use Rattle.std.proofs.Common.{◌≡◌, sym, ◌∙◌}
use Rattle.std.proofs.lemmas.Result.{IfOk-weaker}
use Rattle.ob_mean.specs.Values.{Value}
use Rattle.ob_session.specs.Cells as cells
use Rattle.ob_link.specs.Looking.{looked_seen, in_store, storeless}
use Rattle.ob_link.proofs.LookedUp.{stored}
use Rattle.ob_link.proofs.modules.Modules.command.Goals as goal

pub returns : goal.returns
returns c =
    IfOk-weaker c.looked_up.result
    (λ l. looked_seen l ≡ cells.looked_up (storeless c.args.self.now) (record { home = c.args.home.now; name = c.args.name.now }))
    (λ l. (store : Value) → looked_seen l ≡ cells.looked_up (in_store c.args.self.now store) (record { home = c.args.home.now; name = c.args.name.now }))
    (λ l e store. e ∙ sym (stored c.args.self.now store (record { home = c.args.home.now; name = c.args.name.now })))
    c.looked_up.ensures
