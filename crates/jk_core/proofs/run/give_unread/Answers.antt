use Rattle.std.proofs.Common.{Some, ◌∙◌, ap}
use Rattle.jk_core.proofs.Works.{at_work_given, ready_work}
use Rattle.jk_core.proofs.run.give_unread.Goals as goal

pub returns-in-Nothing : goal.returns-in-Nothing
returns-in-Nothing g c = record {
  ok = λ n le. ready_work g.L.Language.spoken g.met.L.Language.lawful g.L.Language.state c.args.script.now.state n c.args.active.now c.in-Nothing.is c.requires.runs c.requires.waits le;
  used = c.requires.runs.runs.turns;
  err = tt;
}

pub returns-in_ok-give_line-in-Given-clause-ok : goal.returns-in_ok-give_line-in-Given-clause-ok
returns-in_ok-give_line-in-Given-clause-ok g c = λ n le.
    at_work_given g.L.Language.spoken g.met.L.Language.lawful g.L.Language.state c.args.script.now.state n c.in-Given.arrival c.args.active.now c.give_line.new.machine c.as_str.result.now c.in-Given.is c.requires.runs (ap (λ x. Some x) c.as_str.ensures ∙ c.in-Some.ensures) c.in_ok-give_line-in-Given.ensures.ok le
