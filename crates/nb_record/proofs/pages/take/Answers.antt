use Rattle.std.proofs.Common.{sym, subst}
use Rattle.std.specs.Prelude.{OnOk}
use Rattle.nb_record.specs.State.{Follows}
use Rattle.nb_record.proofs.pages.take.Goals as goal

pub returns-in-Begins-clause-ok : goal.returns-in-Begins-clause-ok
returns-in-Begins-clause-ok c = subst (λ v. OnOk c.begin.result (Follows v c.args.pages.now c.begin.new.pages)) (sym c.in-Begins.is) c.begin.ensures.ok

pub returns-in-Writes-clause-ok : goal.returns-in-Writes-clause-ok
returns-in-Writes-clause-ok c = subst (λ v. OnOk c.write.result (Follows v c.args.pages.now c.write.new.pages)) (sym c.in-Writes.is) c.write.ensures.ok

pub returns-in-Puts-clause-ok : goal.returns-in-Puts-clause-ok
returns-in-Puts-clause-ok c = subst (λ v. OnOk c.put.result (Follows v c.args.pages.now c.put.new.pages)) (sym c.in-Puts.is) c.put.ensures.ok
