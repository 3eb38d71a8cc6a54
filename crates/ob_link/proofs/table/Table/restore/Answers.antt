use Rattle.std.proofs.Common.{subst}
use Rattle.ob_link.specs.Exchange.{IsExchanged}
use Rattle.ob_link.proofs.Exchanged.{has_name, ends_new}
use Rattle.ob_link.proofs.table.Table.restore.Goals as goal

pub put_again-requires : goal.put_again-requires
put_again-requires c = has_name c.args.self.now c.in-Some.before (subst (IsExchanged c.args.self.now) c.in-Some.is c.requires)

pub drop_last-requires : goal.drop_last-requires
drop_last-requires c = ends_new c.args.self.now (subst (IsExchanged c.args.self.now) c.in-None.is c.requires)
