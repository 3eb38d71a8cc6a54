use Rattle.std.proofs.Common.{◌∙◌, ap}
use Rattle.jk_core.specs.State.{KernelState}
use Rattle.jk_core.specs.Steps.{answering}
use Rattle.jk_core.proofs.Works.{answered_only, asks_first}
use Rattle.jk_core.proofs.run.answer.Goals as goal

pub returns-clause-works : goal.returns-clause-works
returns-clause-works g c =
    answered_only g.L.Language.spoken c.args.turns c.args.script.now.state c.answer_queries.new.script.state c.requires.idle
    (asks_first g.L.Language.spoken c.args.script.now.state.waits c.in-Some.first.now c.in_default-task.field-0 c.in-Some.ensures c.in_default-task.is) c.requires.unread
    (c.answer_queries.ensures.state ∙ ap (λ (k : KernelState _). answering k.waits k) c.reserve.ensures.state)
