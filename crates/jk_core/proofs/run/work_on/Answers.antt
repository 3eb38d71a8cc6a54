use Rattle.std.proofs.Common.{◌∙◌, sym, subst}
use Rattle.jk_log.specs.Log.{running, session}
use Rattle.jk_core.specs.Kept.{HoldsAt}
use Rattle.jk_core.proofs.Works.{started}
use Rattle.jk_core.proofs.Desks.{stands_answered}
use Rattle.jk_core.proofs.run.work_on.Goals as goal

pub returns-then-first_is_read-clause-works : goal.returns-then-first_is_read-clause-works
returns-then-first_is_read-clause-works g c =
    let log = c.args.script.now.state.log in
    let rests = subst (HoldsAt g.L.Language.spoken g.L.Language.state (session g.L.Language.spoken log) (running log) c.args.script.now.state.ran) (sym c.in-Resting.ensures.value) c.requires.stands.place in
    started g.L.Language.spoken c.args.turns c.args.script.now.state c.start.result c.start.new.script.state rests.0 c.start.ensures.starts

pub returns-else-first_is_read-clause-stands : goal.returns-else-first_is_read-clause-stands
returns-else-first_is_read-clause-stands g c =
    let k = c.args.script.now.state in
    let rests = subst (HoldsAt g.L.Language.spoken g.L.Language.state (session g.L.Language.spoken k.log) (running k.log) k.ran) (sym c.in-Resting.ensures.value) c.requires.stands.place in
    stands_answered g.L.Language.spoken g.met.L.Language.lawful g.L.Language.state k c.answer.new.script.state _ c.answer.ensures.quiet (record { count = c.take_place.ensures.count ∙ c.requires.stands.count; place = rests; wants = tt })
