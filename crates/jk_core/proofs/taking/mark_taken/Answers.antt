use Rattle.std.proofs.Common.{subst}
use Rattle.jk_log.specs.declared.arrival.Sort.{Sort}
use Rattle.jk_core.specs.Kept.{StandsFor}
use Rattle.jk_core.proofs.Arrivals.{info_stands, joined_stands, left_stands}
use Rattle.jk_core.proofs.taking.mark_taken.Goals as goal

pub returns-in-Join-clause-stands : goal.returns-in-Join-clause-stands
returns-in-Join-clause-stands g c =
    joined_stands g.L.Language.spoken g.met.L.Language.lawful g.L.Language.state c.args.place c.args.script.now.state _ c.args.desk.now c.note_of.ensures.state
    (subst (λ (s : Sort). StandsFor g.L.Language.spoken g.L.Language.state s c.args.script.now.state c.args.desk.now) c.in-Join.is c.requires.stands)

pub returns-in-Leave-clause-stands : goal.returns-in-Leave-clause-stands
returns-in-Leave-clause-stands g c =
    left_stands g.L.Language.spoken g.met.L.Language.lawful g.L.Language.state c.args.place c.args.script.now.state _ c.args.desk.now c.note_of-in-Leave.ensures.state
    (subst (λ (s : Sort). StandsFor g.L.Language.spoken g.L.Language.state s c.args.script.now.state c.args.desk.now) c.in-Leave.is c.requires.stands)

pub returns-in-KernelInfo-clause-stands : goal.returns-in-KernelInfo-clause-stands
returns-in-KernelInfo-clause-stands g c =
    info_stands g.L.Language.spoken g.met.L.Language.lawful g.L.Language.state c.args.place c.args.script.now.state _ c.args.desk.now c.note_of-in-KernelInfo.ensures.state
    (subst (λ (s : Sort). StandsFor g.L.Language.spoken g.L.Language.state s c.args.script.now.state c.args.desk.now) c.in-KernelInfo.is c.requires.stands)
