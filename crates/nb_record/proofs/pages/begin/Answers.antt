use Rattle.std.proofs.Common.{sym, subst}
use Rattle.std.specs.Prelude.{OnOk}
use Rattle.nb_record.specs.declared.event.Event.TheVariants.{Begins}
use Rattle.nb_record.specs.State.{Follows}
use Rattle.nb_record.proofs.pages.begin.Goals as goal

pub returns-in-None-clause-ok : goal.returns-in-None-clause-ok
returns-in-None-clause-ok c = subst (λ w. OnOk c.append.result (Follows (Begins w c.args.source c.args.count) c.args.pages.now c.append.new.pages)) (sym c.in-None.is) c.append.ensures.ok

pub returns-in-None-code_place-clause-ok : goal.returns-in-None-code_place-clause-ok
returns-in-None-code_place-clause-ok c =
    subst (λ w. OnOk c.append-in-None-code_place.result (Follows (Begins w c.args.source c.args.count) c.args.pages.now c.append-in-None-code_place.new.pages)) (sym c.in-Some.is) c.append-in-None-code_place.ensures.ok

pub returns-in-Some-code_place-clause-ok : goal.returns-in-Some-code_place-clause-ok
returns-in-Some-code_place-clause-ok c = subst (λ w. OnOk c.restart.result (Follows (Begins w c.args.source c.args.count) c.args.pages.now c.restart.new.pages)) (sym c.in-Some.is) c.restart.ensures.ok
